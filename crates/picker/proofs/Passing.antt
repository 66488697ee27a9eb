-- Short fields that are passed over on the way to the next wanted id: none of them is in a row. Assumes nothing.
use mathlib.Core.Path.{◌≡◌, refl, sym, ap, ap₂, ◌∙◌}
use mathlib.Core.Bool.{Bool, true, false, cond}
use mathlib.Core.Logic.{◌⊎◌, inl, inr}
use mathlib.Core.List.{List, [], ◌∷◌}
use Prim.Native.Nat.{ℕ, zero, suc, ◌+◌, ◌^◌, ◌≤◌, ◌<◌}
use native.Mathlib.Omega.{arith}
use borrow.Author.Rules.{sfits_of}
use borrow.Author.Tests.{ltb-true, ltb-false, leb-true, le-ltb, le-leb}
use lib.IntN.{ℤ, pos, negsuc}
use lib.Signed.{lt_z, le_z, mag}
use lib.ListN.{length, get_or, drop, drop_of_length-le}
use mir.Syntax.{w16}
use mir.Val.{SFits, to_z, of_z}
use mir.Facts.{to_z-of_z}
use Rattle.types.specs.Codes.{type_code}
use Rattle.types.specs.declared.Place.{Place}
use Rattle.types.specs.declared.FieldId.{FieldId}
use Rattle.types.specs.declared.TType.{TType}
use Rattle.types.specs.declared.TConfiguration.{TConfiguration}
use Rattle.types.specs.Value as val
use Rattle.types.specs.Value.{Tree, type_of}
use Rattle.numbers.specs.Varint.{got}
use Rattle.heads.specs.Reader.{read_at}
use Rattle.heads.specs.Heads.{bool, value, field}
use Rattle.heads.specs.Answers.{field_at}
use Rattle.heads.specs.declared.FieldHead.{FieldHead}
use Rattle.heads.specs.declared.FieldHead.TheVariants as F
use Rattle.skip.specs.Walk.{Entry, fields}
use Rattle.skip.specs.Value.{value_of}
use Rattle.skip.specs.Skip.{skip_of}
use Rattle.skip.specs.Leaves.{Hop, Hops, Onward}
use Rattle.skip.specs.declared.Skipped.{Skipped}
use Rattle.skip.specs.declared.Skipped.TheVariants.{Done, Refused}
use Rattle.skip.proofs.Struct.{run_less}
use Rattle.wanted.specs.Wanted.{same_id}
use Rattle.wanted.proofs.Cases.{next, held, is_same}
use Rattle.picker.specs.Pick.{Row}
use Rattle.picker.specs.Notes.{note_row, note, note_all, nearer_of, least_past}
use Rattle.picker.proofs.Walk.{entry, sized_at_lem, Behind, bool_next, value_next}
use Rattle.picker.proofs.Cases.{row}
use Rattle.picker.proofs.Noted.{Rest, Left, left_all, at_stop, at_refusal, on_bool, at_cut, on_value, same_noted}

not_true : {X : Type 0} → true ≡ false → X
not_true e = let z : ◌≡◌ {A = ℕ} 0 1 = cc in absurd (omega arith)

-- the order of ids, as its tests
le_le : (a b c : ℤ) → le_z a b ≡ true → le_z b c ≡ true → le_z a c ≡ true
le_le (pos a) (pos b) (pos c) f g = le-leb a c (omega (arith, leb-true a b f, leb-true b c g))
le_le (pos a) (pos b) (negsuc c) f g = g
le_le (pos a) (negsuc b) c f g = not_true (sym f)
le_le (negsuc a) (pos b) (pos c) f g = refl
le_le (negsuc a) (pos b) (negsuc c) f g = not_true (sym g)
le_le (negsuc a) (negsuc b) (pos c) f g = refl
le_le (negsuc a) (negsuc b) (negsuc c) f g = le-leb c a (omega (arith, leb-true b a f, leb-true c b g))

lt_le : (a b : ℤ) → lt_z a b ≡ true → le_z a b ≡ true
lt_le (pos a) (pos b) f = le-leb a b (omega (arith, ltb-true a b f))
lt_le (pos a) (negsuc b) f = f
lt_le (negsuc a) (pos b) f = refl
lt_le (negsuc a) (negsuc b) f = le-leb b a (omega (arith, ltb-true b a f))

not_lt : (a b : ℤ) → lt_z a b ≡ false → le_z b a ≡ true
not_lt (pos a) (pos b) f = le-leb b a (ltb-false a b f)
not_lt (pos a) (negsuc b) f = refl
not_lt (negsuc a) (pos b) f = not_true f
not_lt (negsuc a) (negsuc b) f = le-leb a b (ltb-false b a f)

le_not : (a b : ℤ) → le_z b a ≡ true → lt_z a b ≡ false
le_not (pos a) (pos b) f = le-ltb a b (leb-true b a f)
le_not (pos a) (negsuc b) f = refl
le_not (negsuc a) (pos b) f = not_true (sym f)
le_not (negsuc a) (negsuc b) f = le-ltb b a (leb-true a b f)

le_self : (a : ℤ) → le_z a a ≡ true
le_self (pos a) = le-leb a a (omega arith)
le_self (negsuc a) = le-leb a a (omega arith)

-- no id of the list lies past `last` and before `below`
abbrev Outside : ℤ → ℤ → ℤ → Type 0
Outside last below i = (lt_z last i ≡ false) ⊎ (le_z below i ≡ true)

unfoldable Clear : ℤ → ℤ → List ℤ → Type 0
Clear last below [] = Unit {0}
Clear last below (i ∷ ids) = Outside last below i × Clear last below ids

least_le : (last : ℤ) (ids : List ℤ) (n : ℤ) → le_z (least_past last ids n) n ≡ true
unfolding least_past
least_le last [] n = le_self n
least_le last (i ∷ ids) n = go (λ m. least_le last ids m) (lt_z last i) (lt_z i n) refl
  where
    go : ((m : ℤ) → le_z (least_past last ids m) m ≡ true) → (a b : Bool) → lt_z i n ≡ b → le_z (least_past last ids (cond a (cond b i n) n)) n ≡ true
    go rest true true f = le_le (least_past last ids i) i n (rest i) (lt_le i n f)
    go rest true false f = rest n
    go rest false b f = rest n

least_clear : (last : ℤ) (ids : List ℤ) (n : ℤ) → Clear last (least_past last ids n) ids
unfolding least_past Clear
least_clear last [] n = tt
least_clear last (i ∷ ids) n = (go (lt_z last i) refl (lt_z i n) refl, least_clear last ids _)
  where
    go : (a : Bool) → lt_z last i ≡ a → (b : Bool) → lt_z i n ≡ b → Outside last (least_past last ids (cond (lt_z last i) (cond (lt_z i n) i n) n)) i
    go false e b f = inl e
    go true e true f = inr (rw (e, f) (least_le last ids i))
    go true e false f = inr (rw (e, f) (le_le (least_past last ids n) n i (least_le last ids n) (not_lt i n f)))

-- an id between the two is none of the list's, and what lies outside of the two lies outside of what is left
module _ (last below z : ℤ) (a : lt_z last z ≡ true) (b : le_z below z ≡ false) where
  other : (i : ℤ) → Outside last below i → same_id z i ≡ false
  other i o = go (same_id z i) refl o
    where
      go : (x : Bool) → same_id z i ≡ x → Outside last below i → same_id z i ≡ false
      go false e q = e
      go true e (inl f) = let k : z ≡ i = is_same z i e in not_true (sym a ∙ ap (lt_z last) k ∙ f)
      go true e (inr f) = let k : z ≡ i = is_same z i e in not_true (sym f ∙ ap (le_z below) (sym k) ∙ b)

  narrower : (i : ℤ) → Outside last below i → Outside z below i
  narrower i (inl f) = inl (le_not z i (le_le i last z (not_lt last i f) (lt_le last z a)))
  narrower i (inr f) = inr f

  still_clear : (ids : List ℤ) → Clear last below ids → Clear z below ids
  unfolding Clear
  still_clear [] c = tt
  still_clear (i ∷ ids) c = (narrower i c.0, still_clear ids c.1)

  unnoted : (code : ℕ) (r : Row) (ids : List ℤ) (kinds : List ℕ) (j : ℕ) (rows : List ℕ) → Clear last below ids → note z code r ids kinds j rows ≡ rows
  unfolding Clear note note_row
  unnoted code r [] kinds j rows c = refl
  unnoted code r (i ∷ ids) [] j rows c = refl
  unnoted code r (i ∷ ids) (k ∷ kinds) j rows c = rw (other i c.0) (unnoted code r ids kinds (suc j) rows c.1)

-- nearer: ids are compared by their bits
module _ (last i n : ℤ) (hl : SFits w16 last) (hi : SFits w16 i) where
  pub nearer_not : lt_z (to_z w16 (of_z w16 last)) (to_z w16 (of_z w16 i)) ≡ false → n ≡ nearer_of last i n
  nearer_not a = rw (rw (to_z-of_z hl, to_z-of_z hi) at a)

  module _ (hn : SFits w16 n) (a : lt_z (to_z w16 (of_z w16 last)) (to_z w16 (of_z w16 i)) ≡ true) where
    pub nearer_one : lt_z (to_z w16 (of_z w16 i)) (to_z w16 (of_z w16 n)) ≡ true → i ≡ nearer_of last i n
    nearer_one b = rw (rw (to_z-of_z hl, to_z-of_z hi) at a, rw (to_z-of_z hi, to_z-of_z hn) at b)

    pub nearer_other : lt_z (to_z w16 (of_z w16 i)) (to_z w16 (of_z w16 n)) ≡ false → n ≡ nearer_of last i n
    nearer_other b = rw (rw (to_z-of_z hl, to_z-of_z hi) at a, rw (to_z-of_z hi, to_z-of_z hn) at b)

pub ruleset nearer_cases = (nearer_one, nearer_other, nearer_not, sfits_of)

-- next_wanted
pub past_on : (last : ℤ) (ids : List ℤ) (n : ℤ) (j : ℕ) (m : ℤ) → least_past last (drop j ids) n ≡ least_past last ids (pos 32767) → j < length ids → mag (get_or ids j (pos 0)) < 2 ^ 15 → m ≡ nearer_of last (to_z w16 (of_z w16 (get_or ids j (pos 0)))) n → least_past last (drop (j + 1) ids) m ≡ least_past last ids (pos 32767)
unfolding least_past
past_on last ids n j m inv h k e = rw (e, held (get_or ids j (pos 0)) k) (sym (ap (λ (is : List ℤ). least_past last is n) (next ids j (pos 0) h)) ∙ inv)

pub past_end : (last : ℤ) (ids : List ℤ) (n : ℤ) (j : ℕ) → least_past last (drop j ids) n ≡ least_past last ids (pos 32767) → length ids ≤ j → n ≡ least_past last ids (pos 32767)
unfolding least_past
past_end last ids n j inv h = sym (ap (λ (is : List ℤ). least_past last is n) (drop_of_length-le ids h)) ∙ inv

pub ruleset past_cases = (past_on, past_end)

-- pass_unwanted
pub to_wanted : (s : List ℕ) (at : ℕ) (last : ℤ) (ids : List ℤ) (below : ℤ) (p : ℕ) (id : ℤ) → below ≡ least_past last ids (pos 32767) → Onward s at last below p id → Onward s at last (least_past last ids (pos 32767)) p id
to_wanted s at last ids below p id e o = rw (← e) o

pub ruleset pass_cases = (to_wanted)

-- a run of fields none of which is wanted leaves as much to note as there was
module _ (s : List ℕ) (lim : TConfiguration) (room : ℕ) (ids : List ℤ) (kinds : List ℕ) (rows₀ : List ℕ) (last₀ : ℤ) (p₀ : ℕ) (rows : List ℕ) where
  step_on : (last below : ℤ) (p : ℕ) (x : Entry Tree) (id : ℤ) (q : ℕ) → Left s lim room ids kinds rows₀ last₀ p₀ rows last p → Clear last below ids → lt_z last x.id ≡ true → le_z below x.id ≡ false → p + x.head + x.size ≡ q → ((fs : List (Entry Tree)) (n : ℕ) → read_at (fields val.truth (value_of lim room) last) s p ≡ got fs n → Behind lim room s last p x id q fs n) → Left s lim room ids kinds rows₀ last₀ p₀ rows id q
  unfolding note_all
  step_on last below p x id q left c a b pl after =
      record {
        of =
            λ fs n f.
            let r = left.of fs n f in
            let g = after r.rest n r.reads in
            record {
              rest = g.rest;
              reads = g.reads;
              same =
                  ap₂ (λ (m : ℕ) (l : List ℕ). note_all ids kinds g.rest m l) (sym pl) (sym (unnoted last below x.id a b _ _ ids kinds 0 rows c))
                  ∙ sym (ap (λ (l : List (Entry Tree)). note_all ids kinds l p rows) g.whole)
                  ∙ r.same;
            };
      }

  hop_on : (last below : ℤ) (p q : ℕ) (z : ℤ) → Left s lim room ids kinds rows₀ last₀ p₀ rows last p → Clear last below ids → Hop s p last below q z → Left s lim room ids kinds rows₀ last₀ p₀ rows z q
  hop_on last below p q z left c h = go h.found
    where
      go : ((b : Bool) × (read_at (field last) s p ≡ got (bool b z) q)) ⊎ ((t : TType) × (m : ℕ) × (read_at (field last) s p ≡ got (value t z) m) × ((l : TConfiguration) (r : ℕ) → (v : Tree) × (read_at (value_of l r t) s m ≡ got v q))) → Left s lim room ids kinds rows₀ last₀ p₀ rows z q
      go (inl x) =
          step_on last below p _ z q left c h.after h.before (omega (arith, h.later)) (λ fs n f. bool_next lim room s last p x.0 z q fs n x.1 f)
      go (inr x) =
          let v = x.3 lim room in
          let lo = (sized_at_lem (field last) s p _ x.1 x.2).1 in
          let hi = (sized_at_lem (value_of lim room x.0) s x.1 v.0 q v.1).1 in
          step_on last below p (entry z v.0 p x.1 q) z q left c h.after h.before (omega (arith, lo, hi)) (λ fs n f. value_next lim room s last p x.0 z x.1 x.2 fs n f v.0 q v.1)

  hops_on : (n : ℕ) (last below : ℤ) (p q : ℕ) (z : ℤ) → Left s lim room ids kinds rows₀ last₀ p₀ rows last p → Clear last below ids → Hops n s p last below q z → Left s lim room ids kinds rows₀ last₀ p₀ rows z q
  unfolding Hops
  hops_on zero last below p q z left c h = rw (h.0, h.1) left
  hops_on (suc n) last below p q z left c h =
      hops_on n h.1 below h.0 q z (hop_on last below p h.0 h.1 left c h.2) (still_clear last below h.1 h.2.after h.2.before ids c) h.3

  -- and then a field that is looked at more closely
  module _ (last : FieldId) (p : Place) (lastₙ : FieldId) (pₙ : Place) (before : Left s lim room ids kinds rows₀ last₀ p₀ rows last.0 p.0) (o : Onward s p.0 last.0 (least_past last.0 ids (pos 32767)) pₙ.0 lastₙ.0) where
    ran : Left s lim room ids kinds rows₀ last₀ p₀ rows lastₙ.0 pₙ.0
    ran = hops_on o.many last.0 (least_past last.0 ids (pos 32767)) p.0 pₙ.0 lastₙ.0 before (least_clear last.0 ids (pos 32767)) o.hops

    module _ (h : FieldHead) (f : h ≡ field_at s lastₙ.0 pₙ.0) where
      pub ran_stop : (q : Place) → h ≡ F.Stop q → (fs : List (Entry Tree)) (n : ℕ) → read_at (fields val.truth (value_of lim room) last₀) s p₀ ≡ got fs n → rows ≡ note_all ids kinds fs p₀ rows₀
      ran_stop q g fs n x = at_stop s lim room ids kinds rows₀ last₀ p₀ rows lastₙ pₙ ran h f q g fs n x

      pub ran_refusal : (why : ℕ) → h ≡ F.Refused why → (fs : List (Entry Tree)) (n : ℕ) → read_at (fields val.truth (value_of lim room) last₀) s p₀ ≡ got fs n → rows ≡ note_all ids kinds fs p₀ rows₀
      ran_refusal why g fs n x = at_refusal s lim room ids kinds rows₀ last₀ p₀ rows lastₙ pₙ ran h f why g fs n x

      pub ran_bool : (b : Bool) (id : FieldId) (q : Place) (k : ℕ) (rows' : List ℕ) → h ≡ F.Bool b id q → k ≡ cond b 4 3 → rows' ≡ note id.0 1 (row k 0 0) ids kinds 0 rows → Left s lim room ids kinds rows₀ last₀ p₀ rows' id.0 q.0
      ran_bool b id q k rows' g kk ro = on_bool s lim room ids kinds rows₀ last₀ p₀ rows lastₙ pₙ ran h f b id q k rows' g kk ro

      module _ (t : TType) (id : FieldId) (m : Place) (g : h ≡ F.Value t id m) (r : Skipped) (y : r ≡ skip_of s lim room t m.0) where
        pub ran_cut : (why : ℕ) → r ≡ Refused why → (fs : List (Entry Tree)) (n : ℕ) → read_at (fields val.truth (value_of lim room) last₀) s p₀ ≡ got fs n → rows ≡ note_all ids kinds fs p₀ rows₀
        ran_cut why z fs n x = at_cut s lim room ids kinds rows₀ last₀ p₀ rows lastₙ pₙ ran h f t id m g r y why z fs n x

        pub ran_value : (q : Place) (code : ℕ) (rows' : List ℕ) → r ≡ Done q → code ≡ type_code t → rows' ≡ note id.0 code (row 2 m.0 q.0) ids kinds 0 rows → Left s lim room ids kinds rows₀ last₀ p₀ rows' id.0 q.0
        ran_value q code rows' z c ro = on_value s lim room ids kinds rows₀ last₀ p₀ rows lastₙ pₙ ran h f t id m g r y q code rows' z c ro

pub ruleset struct_cases = (left_all, ran_stop, ran_refusal, ran_bool, ran_cut, ran_value, same_noted, run_less)
