-- How a function that holds a reader calls a thin call: the slice is lent for as long as it holds it, and a reader over it is owned for each call anew, since a
-- state owns only facts. So what a function keeps between calls is the token and the slice. Assumes nothing.
use Prim.Native.Nat.{ℕ}
use mathlib.Core.Path.{◌≡◌, sym, ap, subst, ◌∙◌}
use mathlib.Core.List.{List, [], ◌∷◌}
use lib.ListN.{length}
use seplogic.Ra.Ura.{Ura}
use mir.Syntax.{Callee, Body, Place, Opd as Operand, named, erased, w8, ty_struct, tcons, tnil, seq, call}
use mir.Val.{Val}
use base.Logic.{SProp, ent, emp, ex_e, snd∗, id⊢}
use base.Fml.{Lft, Share, Fml, ftrue}
use prog.Wp.{Calls, Loops, Env}
use types.Logic.{Logic, sem}
use types.Kit.{Item, Post, Seq, runs, lands, ‵, raw, mean, ◌⊛◌, given, ⋆, some, later, ◌$◌, ◌∵◌, !, qed, move, use0, use1, use2, split, join, pick, learn, await, fjoin, frame, done}
use types.Run.{Opds}
use sound.WpLaws.{FmC}
use denote.Builtin.{u8}
use denote.Plain.{uint_row_laws}
use denote.Enum.Declared as En
use denote.Enum.Enum.{Enum}
use denote.Laws.{Is}
use denote.Ref.{NamedLft, Bor}
use denote.Signature.{named_lft}
use denote.Slice.{slice_val, ShrSlice, shr_slice_copy}
use denote.Steps.{only, owned, nothing}
use denote.Struct.Declared.{row}
use denote.Struct.Laws as LL
use denote.Struct.Rest.{own_shut}
use contract.Monad.{fact}
use denote.Triple.Call.{calls_from}
use denote.Triple.Clauses.{ensured, lasts}
use denote.Triple.Statement.{Triple}
use Rattle.lent.proofs.Meets.{lent_ended, lent_clauses, Lent}
use Rattle.input.specs.State.{State}
use Rattle.input.specs.contracts.TCompactInputProtocol as R
use Rattle.input.proofs.TCompactInputProtocol.TheLaws as R'
use Rattle.lent.specs.Lent.{lent}
use Rattle.lent.specs.declared.LentReader.{LentReader}
use Rattle.lent.proofs.LentReader.TheLaws as T'
use Rattle.lent.proofs.Thin.{Typed, two}
use Rattle.lent.proofs.Kept.{B, D, L, Tok, Whole, Known, comes, state_val, reader_val}
use Rattle.lent.proofs.Answers.{Answering, τ, answer_val, G, G_laws}

module _ {M : Type 1} {𝓤 : Ura M} (𝓛 : Logic 𝓤) (κ : Lft) (q : Share) (s : Bor (List ℕ)) where
  open 𝓛 use {H}

  abbrev pub Sl : Item 𝓤
  Sl = ‵ ((ShrSlice (named 0) κ u8).own_val s (slice_val s.ref_ptr (length s.now) ∷ []))

  pub readied : (st : State) (tail : Fml) → Is R.the_row st (state_val st ∷ []) → ent 𝓤 (emp 𝓤) (sem 𝓛 tail)
      → ent 𝓤 (⋆ 𝓛 (Tok 𝓛 κ q (lent st s) ∷ Sl ∷ [])) (⋆ 𝓛 ((Tok 𝓛 κ q (lent st s) ⊛ ‵ (Whole 𝓛 κ q (lent st s) tail)) ∷ Sl ∷ []))
  readied st tail is had =
      qed 𝓛 (Tok 𝓛 κ q (lent st s) ∷ Sl ∷ []) ∵
      move ! (1 ∷ []) $ use1 𝓛 (Sl ⊛ Sl) ((shr_slice_copy 𝓛 (named 0) κ u8 (uint_row_laws w8)).twice s _) $ split ! $
      nothing ! $ move ! (1 ∷ 0 ∷ []) $ fjoin ! $ owned ! R.the_row (Is R.the_row) (LL.makes R.the_type R'.the_plain 𝓛) st _ is $ fjoin ! $
      use1 𝓛 (‵ ((B (κ, tt)).own_val (lent st s) (reader_val (lent st s) ∷ []))) (own_shut 𝓛 (D (κ, tt)) (L (κ, tt)) (st, (s, tt))) $
      use0 𝓛 (‵ tail) had $ move ! (1 ∷ 0 ∷ []) $ fjoin ! $ move ! (2 ∷ 0 ∷ []) $ join ! $ done !

  module _ (Z : Answering) (st : State) (found : Z.Read) where
    -- the lifetime as the signature and as a local's type have it
    abbrev α : NamedLft
    α = named_lft 1 0 tt (κ, tt)

    abbrev αᵉ : NamedLft
    αᵉ = record { mir = erased; lft = κ }

    abbrev pub handed_val : Val
    handed_val = two (answer_val Z (Z.answer found)) (reader_val (lent (Z.state found) s))

    -- what is known of what is handed back
    pub record Told : Type 0 where
      pub typed : Typed (ty_struct Z.handed_name (tcons (τ Z) (tcons (T'.mir erased) tnil))) handed_val
      pub is_answer : Is (Enum (En.shape Z.E)) (Z.E.to (Z.answer found)) (answer_val Z (Z.answer found) ∷ [])
      pub is_state : Is R.the_row (Z.state found) (state_val (Z.state found) ∷ [])

    module _ (h : Z.Handed) (u : Val) (k : Known 𝓛 κ q (lent st s) (row (G Z α)) (Z.hand (lent st s) found) h u) where
      answers : Z.answered h ≡ Z.answer found
      answers = ap Z.answered k.1 ∙ Z.hands (lent st s) found

      reads : Z.reader h ≡ lent (Z.state found) s
      reads = ap Z.reader k.1 ∙ Z.hands_reader (lent st s) found

      is_val : u ≡ handed_val
      is_val = ap only (LL.tells (G Z α) (G_laws Z α) h _ k.0) ∙ (λ i. two (answer_val Z (answers i)) (reader_val (reads i)))

      told : Told
      told =
          record {
            typed = subst (Typed (ty_struct Z.handed_name (tcons (τ Z) (tcons (T'.mir erased) tnil)))) is_val ((LL.lawful (G Z αᵉ) (G_laws Z αᵉ) 𝓛).typed h (u ∷ []) k.0).0;
            is_answer = subst (λ (a : Z.E.D). Is (Enum (En.shape Z.E)) (Z.E.to a) (answer_val Z a ∷ [])) answers (LL.owed (G Z α) (G_laws Z α) h _ k.0).0;
            is_state = subst (λ (d : LentReader). Is R.the_row d.state (state_val d.state ∷ [])) reads (LL.owed (D (κ, tt)) (L (κ, tt)) (Z.reader h) _ (LL.owed (G Z α) (G_laws Z α) h _ k.0).1.0).0;
          }

    -- the call: `more` are the values passed behind the reader and `tail` is what they own, which is had for nothing
    pub calling : {K : Type 0} → K → {C : Calls 𝓤 H} {Λ : Loops 𝓤 H} {E : Env 𝓤 H} {p : Post 𝓤 H} {f : Callee} {xs : List Operand} {to : Place} {rest : Body} {Γ : List (Item 𝓤)}
        → FmC 𝓤 H 𝓛.laws C → (more : List Val) (tail : Fml) → ent 𝓤 (emp 𝓤) (sem 𝓛 tail) → (Pre : SProp 𝓤) (Q : Val → SProp 𝓤)
        → ent 𝓤 (mean 𝓛 (Tok 𝓛 κ q (lent st s) ⊛ ‵ (Whole 𝓛 κ q (lent st s) tail))) Pre → ent 𝓤 Pre (C f (reader_val (lent st s) ∷ more) Q)
        → ((u : Val) → ent 𝓤 (Q u) (mean 𝓛 (later (some (λ (h : Z.Handed). given (Known 𝓛 κ q (lent st s) (row (G Z α)) (Z.hand (lent st s) found) h u) (Tok 𝓛 κ q (lent st s)))))))
        → Is R.the_row st (state_val st ∷ []) → Opds K 𝓛 (raw Pre ∷ Sl ∷ Γ) E xs (reader_val (lent st s) ∷ more)
        → (Told → Seq K 𝓛 (Tok 𝓛 κ q (lent st s) ∷ Sl ∷ Γ) (lands C Λ E to handed_val rest p))
        → Seq K 𝓛 (Tok 𝓛 κ q (lent st s) ∷ Sl ∷ Γ) (runs C Λ E (seq (call f xs to) rest) p)
    calling {K} t {C} {Λ} {E} {p} {f} {xs} {to} {rest} {Γ} fm more tail had Pre Q asks met gives is os next =
        use2 𝓛 ((Tok 𝓛 κ q (lent st s) ⊛ ‵ (Whole 𝓛 κ q (lent st s) tail)) ⊛ Sl) (readied st tail is had) $ split t $ use1 𝓛 (raw Pre) asks $
        calls_from t fm (raw Pre) (reader_val (lent st s) ∷ more) Q met os (λ u.
        use1 𝓛 (later (some (λ (h : Z.Handed). given (Known 𝓛 κ q (lent st s) (row (G Z α)) (Z.hand (lent st s) found) h u) (Tok 𝓛 κ q (lent st s))))) (gives u) $ await t tt $ pick t (λ h. learn t (λ k.
        subst (λ (w : Val). Seq K 𝓛 (Tok 𝓛 κ q (lent st s) ∷ Sl ∷ Γ) (lands C Λ E to w rest p)) (sym (is_val h u k)) (next (told h u k)))))

  -- a thin call with no parameter but the reader
  module _ (Z : Answering) (f : Callee) (found : List ℕ → State → Z.Read) (st : State) where
    abbrev here : LentReader
    here = lent st s

    abbrev was : Z.Read
    was = found s.now st

    abbrev passed : (Lent Z f found 𝓛).Ghost
    passed = (((κ, tt), (q, tt), tt, (here, tt), (reader_val here ∷ [], tt)), tt)

    asks_thin : ent 𝓤 (mean 𝓛 (Tok 𝓛 κ q here ⊛ ‵ (Whole 𝓛 κ q here ftrue))) ((Lent Z f found 𝓛).pre passed)
    asks_thin = qed 𝓛 ((Tok 𝓛 κ q here ⊛ ‵ (Whole 𝓛 κ q here ftrue)) ∷ []) ∵ frame ! $ done !

    said_thin : (h : Z.Handed) → ent 𝓤 (ensured 𝓛 (lent_ended Z f found) (lent_clauses Z f found 𝓤) (κ, tt) (here, tt) tt h) (fact 𝓤 (h ≡ Z.hand here was))
    said_thin h = ex_e 𝓤 _ (λ ws. snd∗ 𝓤 (sem 𝓛 (lasts (lent_ended Z f found) (κ, tt) (here, tt) ws)) (fact 𝓤 (h ≡ Z.hand here was)))

    pub calling_thin : {K : Type 0} → K → {C : Calls 𝓤 H} {Λ : Loops 𝓤 H} {E : Env 𝓤 H} {p : Post 𝓤 H} {xs : List Operand} {to : Place} {rest : Body} {Γ : List (Item 𝓤)}
        → FmC 𝓤 H 𝓛.laws C → Triple 𝓤 (C f) (Lent Z f found 𝓛) → Is R.the_row st (state_val st ∷ []) → Opds K 𝓛 (raw ((Lent Z f found 𝓛).pre passed) ∷ Sl ∷ Γ) E xs (reader_val here ∷ [])
        → (Told Z st was → Seq K 𝓛 (Tok 𝓛 κ q here ∷ Sl ∷ Γ) (lands C Λ E to (handed_val Z st was) rest p)) → Seq K 𝓛 (Tok 𝓛 κ q here ∷ Sl ∷ Γ) (runs C Λ E (seq (call f xs to) rest) p)
    calling_thin t fm known is os next =
        calling Z st was t fm [] ftrue (id⊢ 𝓤 (emp 𝓤)) ((Lent Z f found 𝓛).pre passed) ((Lent Z f found 𝓛).post passed) asks_thin (known passed)
        (comes 𝓛 κ q here (row (G Z (named_lft 1 0 tt (κ, tt)))) (Z.hand here was) (ensured 𝓛 (lent_ended Z f found) (lent_clauses Z f found 𝓤) (κ, tt) (here, tt) tt) said_thin) is os next
