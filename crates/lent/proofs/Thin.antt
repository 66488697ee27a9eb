-- What the walks of the thin calls share: the MIR that such a call is, walked once for whatever the covered call answers and says.
-- Assumes nothing.
use mathlib.Core.Path.{◌≡◌, refl}
use Prim.Native.Nat.{ℕ, ◌+◌}
use mathlib.Core.Bool.{Bool, true, false, ◌&&◌}
use mathlib.Core.List.{List, [], ◌∷◌}
use lib.Dec.{T as Holds}
use lib.ListN.{length}
use seplogic.Ra.Ura.{Ura}
use mir.Syntax.{Sym, Callee, Ty, Fn, Body, Local, Opd, named, erased, imm, w8, ty_int, ty_ref, ty_struct, tcons, tnil, field, place, copy, local, value_local, seq, assign, call, return, rv_opd, aggregate}
use mir.Val.{Val, WT, has_ty, vstruct, vcons, vnil}
use base.Logic.{SProp, ent, sep}
use base.Fraction.{full_share}
use base.Fml.{fat}
use prog.Wp.{Calls, Loops, WpFn}
use types.Logic.{Logic}
use types.Kit.{Item, ‵, raw, mean, ◌⊛◌, given, ⋆, some, later, ◌$◌, ◌∵◌, !, qed, by, move, use1, split, learn, pick, await, rewrite}
use types.Part.{whole, sub, look_in, agg}
use types.Run.{look, init, forget, stop, fld, from, load, of_opd, and_then, no_more, assigns, land, returns, enter, alloc1, alloc0, params1, pass1, pass0, free1, free0}
use sound.WpLaws.{FmC}
use denote.Ref.{Bor}
use denote.Slice.{slice_ty, slice_val}
use denote.Triple.Call.{calls_from}
use Rattle.input.proofs.TCompactInputProtocol.TheLaws as R'
use Rattle.lent.proofs.LentReader.TheLaws as T'

-- a value of a MIR type
abbrev pub Typed : Ty → Val → Type 0
Typed τ v = Holds (has_ty τ v) × WT v

abbrev pub two : Val → Val → Val
two a b = vstruct (vcons a (vcons b vnil))

-- a struct of two fields is typed where both are
both : (p q : Bool) → Holds p → Holds q → Holds (p && (q && true))
both true true s t = tt
both true false s t = absurd t
both false q s t = absurd s

pub typed_two : (σ σ' : Ty) (ν : Sym) (a b : Val) → Typed σ a → Typed σ' b → Typed (ty_struct ν (tcons σ (tcons σ' tnil))) (two a b)
typed_two σ σ' ν a b s t = (both (has_ty σ a) (has_ty σ' b) s.0 t.0, (s.1, (t.1, tt)))

abbrev bytes_ty : Ty
bytes_ty = slice_ty (ty_ref erased imm (ty_int w8))

-- the struct ν of an answer of the type τ and a state; and the struct ν of the same answer and a reader
abbrev pub read_ty : Ty → Sym → Ty
read_ty τ ν = ty_struct ν (tcons τ (tcons R'.mir tnil))

abbrev pub handed_ty : Ty → Sym → Ty
handed_ty τ ν = ty_struct ν (tcons τ (tcons (T'.mir (named 0)) tnil))

-- A thin call: f is the covered call, whose answer is a struct ν of something of the type τ and the next state; what is handed back is a struct ν' of the same
-- something and the reader. `thin` has no parameter but the reader; `thin_with` has one more, of the type σ, which is passed on.
module _ (τ : Ty) (ν ν' : Sym) (f : Callee) where
  -- the locals behind the parameters
  abbrev inner : List Local
  inner =
      local (read_ty τ ν) value_local ∷ local R'.mir value_local ∷ local R'.mir value_local ∷ local bytes_ty value_local ∷ local τ value_local
      ∷ local bytes_ty value_local ∷ local (T'.mir erased) value_local ∷ []

  -- the body: n is the number of the first of them, and `more` is what is passed on
  abbrev body : ℕ → List Opd → Body
  body n more =
      seq (assign (place (2 + n) []) (rv_opd (copy (place 1 (field 0 ∷ [])))))
      (seq (assign (place (3 + n) []) (rv_opd (copy (place 1 (field 1 ∷ [])))))
      (seq (call f (copy (place (2 + n) []) ∷ copy (place (3 + n) []) ∷ more) (place n []))
      (seq (assign (place (1 + n) []) (rv_opd (copy (place n (field 1 ∷ [])))))
      (seq (assign (place (4 + n) []) (rv_opd (copy (place n (field 0 ∷ [])))))
      (seq (assign (place (5 + n) []) (rv_opd (copy (place 1 (field 1 ∷ [])))))
      (seq (assign (place (6 + n) []) (aggregate (copy (place (1 + n) []) ∷ copy (place (5 + n) []) ∷ [])))
      (seq (assign (place 0 []) (aggregate (copy (place (4 + n) []) ∷ copy (place (6 + n) []) ∷ [])))
      return)))))))

  abbrev pub thin : Fn
  thin =
      record {
        lifetimes = 1;
        outlives = [];
        ty_params = [];
        givens = 0;
        params = 1;
        locals = local (handed_ty τ ν') value_local ∷ local (T'.mir (named 0)) value_local ∷ inner;
        body = body 2 [];
      }

  abbrev pub thin_with : Ty → Fn
  thin_with σ =
      record {
        lifetimes = 1;
        outlives = [];
        ty_params = [];
        givens = 0;
        params = 2;
        locals = local (handed_ty τ ν') value_local ∷ local (T'.mir (named 0)) value_local ∷ local σ value_local ∷ inner;
        body = body 3 (copy (place 2 []) ∷ []);
      }

  module _ {M : Type 1} {𝓤 : Ura M} (𝓛 : Logic 𝓤) (C : Calls 𝓤 𝓛.H) (Λ : Loops 𝓤 𝓛.H) (fm : FmC 𝓤 𝓛.H 𝓛.laws C) (s : Val) (x : Bor (List ℕ)) (more : List Val) where
    abbrev b : Val
    b = slice_val x.ref_ptr (length x.now)

    -- what is known of the covered call, from what the thin one has at entry to what it owes at exit: `Pre` is what the covered call asks, `Own` what is kept
    -- beside it, `Tok` what comes back with the answer r, and `Known r u` what is known of r and of its machine value u
    module _ (Read : Type 0) (answer state : Read → Val) (Known : Read → Val → Type 0) (Entry Pre : SProp 𝓤) (Own Tok : Item 𝓤) (Q Post : Val → SProp 𝓤) where
      pub record Covered : Type 1 where
        pub apart : ent 𝓤 Entry (sep 𝓤 Pre (mean 𝓛 Own))
        pub met : ent 𝓤 Pre (C f (s ∷ b ∷ more) Q)
        pub gives : (u : Val) → ent 𝓤 (Q u) (mean 𝓛 (later (some (λ (r : Read). given (Known r u) Tok))))
        pub tells : (r : Read) (u : Val) → Known r u → u ≡ two (answer r) (state r)
        pub typed : (r : Read) (u : Val) → Known r u → Typed (read_ty τ ν) u
        pub typed_answer : (r : Read) (u : Val) → Known r u → Typed τ (answer r)
        pub typed_state : (r : Read) (u : Val) → Known r u → Typed R'.mir (state r)
        pub exits : (r : Read) (u : Val) → Known r u → ent 𝓤 (⋆ 𝓛 (Tok ∷ Own ∷ [])) (Post (two (answer r) (two (state r) b)))

      -- what is handed back, and the reader in it, are typed
      module _ (c : Covered) (wt : Typed (T'.mir (named 0)) (two s b)) (r : Read) (u : Val) (k : Known r u) where
        typed_reader : Typed (T'.mir (named 0)) (two (state r) b)
        typed_reader = typed_two R'.mir bytes_ty [] (state r) b (c.typed_state r u k) (tt, wt.1.1.0)

        typed_handed : Typed (handed_ty τ ν') (two (answer r) (two (state r) b))
        typed_handed = typed_two τ (T'.mir (named 0)) ν' (answer r) (two (state r) b) (c.typed_answer r u k) typed_reader

  module _ {M : Type 1} {𝓤 : Ura M} (𝓛 : Logic 𝓤) (C : Calls 𝓤 𝓛.H) (Λ : Loops 𝓤 𝓛.H) (fm : FmC 𝓤 𝓛.H 𝓛.laws C) (s : Val) (x : Bor (List ℕ)) where
    open 𝓛 use {H}

    module _ (Read : Type 0) (answer state : Read → Val) (Known : Read → Val → Type 0) (Entry Pre : SProp 𝓤) (Own Tok : Item 𝓤) (Q Post : Val → SProp 𝓤) where
      abbrev v : Val
      v = slice_val x.ref_ptr (length x.now)

      -- Positions: a local's number counts from the front and its place in the context from the back, so all but _0 and _1 stand at one place in both walks.
      -- What differs is the places' numbers in the code, on which each step computes: so there are two walks and not one over n.
      pub walk : Covered 𝓛 C Λ fm s x [] Read answer state Known Entry Pre Own Tok Q Post → Typed (T'.mir (named 0)) (two s v) → Typed R'.mir s → ent 𝓤 Entry (WpFn 𝓤 H C Λ thin (two s v ∷ []) Post)
      walk c wt ws =
          qed 𝓛 (raw Entry ∷ []) ∵ enter ! C Λ thin (two s v ∷ []) Post $
          alloc1 ! (λ l₀. alloc1 ! (λ l₁. alloc1 ! (λ l₂. alloc1 ! (λ l₃. alloc1 ! (λ l₄. alloc1 ! (λ l₅. alloc1 ! (λ l₆. alloc1 ! (λ l₇. alloc1 ! (λ l₈. alloc0 ! $ params1 ! $ pass1 ! (init ! 14 refl wt) $ pass0 ! $
          assigns ! (of_opd ! (load ! (from ! (fld ! refl (stop !))) (look_in ! 14 (sub ! 0 refl (whole !))))) (from ! (stop !)) (init ! 8 refl ws) $
          assigns ! (of_opd ! (load ! (from ! (fld ! refl (stop !))) (look_in ! 14 (sub ! 1 refl (whole !))))) (from ! (stop !)) (init ! 6 refl (tt, wt.1.1.0)) $
          move ! (18 ∷ []) $ use1 𝓛 (raw Pre ⊛ Own) c.apart $ split ! $
          calls_from ! fm (raw Pre) (s ∷ v ∷ []) Q c.met (and_then ! (load ! (from ! (stop !)) (look ! 10 refl)) (and_then ! (load ! (from ! (stop !)) (look ! 8 refl)) (no_more !))) (λ u.
          use1 𝓛 (later (some (λ (r : Read). given (Known r u) Tok))) (c.gives u) $ await ! tt $ pick ! (λ r. learn ! (λ k.
          -- [the tokens; what the struct owns; the locals from _8 down to _0, each with its end; of _2 there is only room]
          land ! (from ! (stop !)) (init ! 14 refl (c.typed r u k)) $ rewrite ! 14 (λ (w : Val). ‵ (fat full_share (read_ty τ ν) l₂ 0 w)) (c.tells r u k) refl $
          assigns ! (of_opd ! (load ! (from ! (fld ! refl (stop !))) (look_in ! 14 (sub ! 1 refl (whole !))))) (from ! (stop !)) (init ! 12 refl (c.typed_state r u k)) $
          assigns ! (of_opd ! (load ! (from ! (fld ! refl (stop !))) (look_in ! 14 (sub ! 0 refl (whole !))))) (from ! (stop !)) (init ! 6 refl (c.typed_answer r u k)) $
          assigns ! (of_opd ! (load ! (from ! (fld ! refl (stop !))) (look_in ! 16 (sub ! 1 refl (whole !))))) (from ! (stop !)) (init ! 4 refl (tt, wt.1.1.0)) $
          assigns ! (agg ! (and_then ! (load ! (from ! (stop !)) (look ! 12 refl)) (and_then ! (load ! (from ! (stop !)) (look ! 4 refl)) (no_more !)))) (from ! (stop !))
          (init ! 2 refl (typed_reader 𝓛 C Λ fm s x [] Read answer state Known Entry Pre Own Tok Q Post c wt r u k)) $
          assigns ! (agg ! (and_then ! (load ! (from ! (stop !)) (look ! 6 refl)) (and_then ! (load ! (from ! (stop !)) (look ! 2 refl)) (no_more !)))) (from ! (stop !))
          (init ! 18 refl (typed_handed 𝓛 C Λ fm s x [] Read answer state Known Entry Pre Own Tok Q Post c wt r u k)) $
          returns ! (look ! 18 refl) $ forget ! 2 refl $ forget ! 4 refl $ forget ! 6 refl $ forget ! 8 refl $ forget ! 10 refl $ forget ! 12 refl $ forget ! 14 refl $ forget ! 16 refl $ forget ! 18 refl $
          move ! (18 ∷ 19 ∷ []) $ free1 ! $ move ! (16 ∷ 17 ∷ []) $ free1 ! $ move ! (14 ∷ 15 ∷ []) $ free1 ! $ move ! (12 ∷ 13 ∷ []) $ free1 ! $ move ! (10 ∷ 11 ∷ []) $ free1 ! $
          move ! (8 ∷ 9 ∷ []) $ free1 ! $ move ! (6 ∷ 7 ∷ []) $ free1 ! $ move ! (4 ∷ 5 ∷ []) $ free1 ! $ move ! (2 ∷ 3 ∷ []) $ free1 ! $ free0 ! $ by ! (c.exits r u k)))))))))))))

      pub walk_with : (σ : Ty) (e : Val) → Covered 𝓛 C Λ fm s x (e ∷ []) Read answer state Known Entry Pre Own Tok Q Post → Typed (T'.mir (named 0)) (two s v) → Typed R'.mir s → Typed σ e → ent 𝓤 Entry (WpFn 𝓤 H C Λ (thin_with σ) (two s v ∷ e ∷ []) Post)
      walk_with σ e c wt ws we =
          qed 𝓛 (raw Entry ∷ []) ∵ enter ! C Λ (thin_with σ) (two s v ∷ e ∷ []) Post $
          alloc1 ! (λ l₀. alloc1 ! (λ l₁. alloc1 ! (λ l₂. alloc1 ! (λ l₃. alloc1 ! (λ l₄. alloc1 ! (λ l₅. alloc1 ! (λ l₆. alloc1 ! (λ l₇. alloc1 ! (λ l₈. alloc1 ! (λ l₉. alloc0 ! $ params1 ! $ pass1 ! (init ! 16 refl wt) $ pass1 ! (init ! 14 refl we) $ pass0 ! $
          assigns ! (of_opd ! (load ! (from ! (fld ! refl (stop !))) (look_in ! 16 (sub ! 0 refl (whole !))))) (from ! (stop !)) (init ! 8 refl ws) $
          assigns ! (of_opd ! (load ! (from ! (fld ! refl (stop !))) (look_in ! 16 (sub ! 1 refl (whole !))))) (from ! (stop !)) (init ! 6 refl (tt, wt.1.1.0)) $
          move ! (20 ∷ []) $ use1 𝓛 (raw Pre ⊛ Own) c.apart $ split ! $
          calls_from ! fm (raw Pre) (s ∷ v ∷ e ∷ []) Q c.met (and_then ! (load ! (from ! (stop !)) (look ! 10 refl)) (and_then ! (load ! (from ! (stop !)) (look ! 8 refl)) (and_then ! (load ! (from ! (stop !)) (look ! 16 refl)) (no_more !)))) (λ u.
          use1 𝓛 (later (some (λ (r : Read). given (Known r u) Tok))) (c.gives u) $ await ! tt $ pick ! (λ r. learn ! (λ k.
          -- [the tokens; what the struct owns; the locals from _9 down to _0, each with its end; of _3 there is only room]
          land ! (from ! (stop !)) (init ! 14 refl (c.typed r u k)) $ rewrite ! 14 (λ (w : Val). ‵ (fat full_share (read_ty τ ν) l₃ 0 w)) (c.tells r u k) refl $
          assigns ! (of_opd ! (load ! (from ! (fld ! refl (stop !))) (look_in ! 14 (sub ! 1 refl (whole !))))) (from ! (stop !)) (init ! 12 refl (c.typed_state r u k)) $
          assigns ! (of_opd ! (load ! (from ! (fld ! refl (stop !))) (look_in ! 14 (sub ! 0 refl (whole !))))) (from ! (stop !)) (init ! 6 refl (c.typed_answer r u k)) $
          assigns ! (of_opd ! (load ! (from ! (fld ! refl (stop !))) (look_in ! 18 (sub ! 1 refl (whole !))))) (from ! (stop !)) (init ! 4 refl (tt, wt.1.1.0)) $
          assigns ! (agg ! (and_then ! (load ! (from ! (stop !)) (look ! 12 refl)) (and_then ! (load ! (from ! (stop !)) (look ! 4 refl)) (no_more !)))) (from ! (stop !))
          (init ! 2 refl (typed_reader 𝓛 C Λ fm s x (e ∷ []) Read answer state Known Entry Pre Own Tok Q Post c wt r u k)) $
          assigns ! (agg ! (and_then ! (load ! (from ! (stop !)) (look ! 6 refl)) (and_then ! (load ! (from ! (stop !)) (look ! 2 refl)) (no_more !)))) (from ! (stop !))
          (init ! 20 refl (typed_handed 𝓛 C Λ fm s x (e ∷ []) Read answer state Known Entry Pre Own Tok Q Post c wt r u k)) $
          returns ! (look ! 20 refl) $ forget ! 2 refl $ forget ! 4 refl $ forget ! 6 refl $ forget ! 8 refl $ forget ! 10 refl $ forget ! 12 refl $ forget ! 14 refl $ forget ! 16 refl $ forget ! 18 refl $ forget ! 20 refl $
          move ! (20 ∷ 21 ∷ []) $ free1 ! $ move ! (18 ∷ 19 ∷ []) $ free1 ! $ move ! (16 ∷ 17 ∷ []) $ free1 ! $ move ! (14 ∷ 15 ∷ []) $ free1 ! $ move ! (12 ∷ 13 ∷ []) $ free1 ! $
          move ! (10 ∷ 11 ∷ []) $ free1 ! $ move ! (8 ∷ 9 ∷ []) $ free1 ! $ move ! (6 ∷ 7 ∷ []) $ free1 ! $ move ! (4 ∷ 5 ∷ []) $ free1 ! $ move ! (2 ∷ 3 ∷ []) $ free1 ! $ free0 ! $ by ! (c.exits r u k))))))))))))))
