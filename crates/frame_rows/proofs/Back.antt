-- A state that is put into a row is read back from it. Assumes nothing.
use mathlib.Core.Path.{◌≡◌, refl, sym, ap, ap₂, subst, ◌∙◌}
use mathlib.Core.Bool.{Bool, true, cond}
use mathlib.Core.List.{List, ◌∷◌}
use Prim.Native.Nat.{ℕ, zero, suc, ◌+◌, ◌*◌, ◌%◌, ◌≤◌, ◌<◌}
use native.Mathlib.Omega.{arith}
use native.Mathlib.Decide.{dec_lt}
use borrow.Author.Tests.{lt-ltb, le-ltb, le-leb, eq-eqb}
use lib.Dec.{ltb}
use lib.ListN.{length, get_or, set, length-set, length-replicate}
use lib.Seq.{get_or-set_same, get_or-set_other}
use lib.IntN.{ℤ, pos}
use mir.Syntax.{w16}
use mir.Val.{SFits, to_z, of_z}
use mir.Facts.{to_z-of_z, Fits-of_z}
use Rattle.types.specs.Codes.{type_by_number, type_code}
use Rattle.types.specs.declared.TType.{TType}
use Rattle.types.specs.declared.TType.TheVariants as T
use Rattle.types.specs.declared.TypeRead.TheVariants as R
use Rattle.heads.specs.Answers.{id_of}
use Rattle.rows.specs.Row.{limits_of}
use Rattle.frame.specs.declared.Nest.{Nest}
use Rattle.frame.specs.declared.Nest.TheVariants.{Fields, Items, Keys, Values}
use Rattle.frame.specs.declared.Level.{Level}
use Rattle.frame.specs.declared.Part.{Part}
use Rattle.frame.specs.declared.Goal.{Goal}
use Rattle.frame.specs.declared.Goal.TheVariants as O
use Rattle.frame.specs.declared.Wait.{Wait}
use Rattle.frame.specs.declared.Wait.TheVariants as W
use Rattle.frame.specs.declared.Now.{Now}
use Rattle.frame.specs.declared.Now.TheVariants as N
use Rattle.frame.specs.declared.FrameSkip.{FrameSkip}
use Rattle.frame.specs.Machine.{running}
use Rattle.frame.specs.State.{level_of, nest_at, held, rest_now, rest_of, run_of}
use Rattle.frame.proofs.Held.{held_above}
use Rattle.frame_rows.specs.declared.NestRead.TheVariants as L
use Rattle.frame_rows.specs.declared.GoalRead.TheVariants as G
use Rattle.frame_rows.specs.declared.NowRead.{NowRead}
use Rattle.frame_rows.specs.declared.NowRead.TheVariants as X
use Rattle.frame_rows.specs.Row.{type_of, nest_of, nest_in, put_typed, put_nest, goal_of, part_of, now_of, now_in, put_goal, put_form, put_wait, put_now, nest_or, now_or, all_nests, holds, levels_of, rest_in, frame_in, no_frame, frame_of, put_nests, most_open, put_counts, put_places, framed}
use Rattle.frame_rows.proofs.Cases.{pair_keys, pair_values, item_items, item_pairs, nest_fields, nest_typed, goal_flag, goal_id, goal_count, goal_pairs, goal_length, goal_short, varint_got, now_head, now_truth, now_list, now_types, now_varint, now_number, now_done, now_refused}

-- a number that is put, and one that is left
here : (row : List ℕ) (i v : ℕ) → i < length row → get_or (set row i v) i 0 ≡ v
here row i v h = get_or-set_same row i v 0 h

far : (row : List ℕ) (i j v : ℕ) → (i ≡ j → ⊥) → get_or (set row i v) j 0 ≡ get_or row j 0
far row i j v h = get_or-set_other row i j v 0 (λ e. h (omega arith))

-- numbers within their types
abbrev pub FitNest : Nest → Type 0
FitNest (Fields id) = SFits w16 id.0
FitNest (Items t n) = n < 4294967296
FitNest (Keys k v n) = n < 4294967296
FitNest (Values k v n) = n < 4294967296

abbrev pub FitWait : Wait → Type 0
FitWait W.Head = Unit {0}
FitWait W.Truth = Unit {0}
FitWait W.List = Unit {0}
FitWait (W.Types n) = n < 4294967296
FitWait (W.Varint g p) = (p.low < 4294967296) × (p.groups < 256)
FitWait (W.Number k) = k < 256

abbrev pub FitNow : Now → Type 0
FitNow (N.Asks w) = FitWait w
FitNow (N.Done n) = Unit {0}
FitNow (N.Refused why) = why < 256

-- A CONTAINER

type_back : (t : TType) → R.Got t ≡ type_of (type_code t)
unfolding type_of type_by_number type_code
type_back T.Stop = refl
type_back T.Bool = refl
type_back T.I08 = refl
type_back T.I16 = refl
type_back T.I32 = refl
type_back T.I64 = refl
type_back T.Double = refl
type_back T.String = refl
type_back T.List = refl
type_back T.Set = refl
type_back T.Map = refl
type_back T.Struct = refl
type_back T.Uuid = refl

-- by its four numbers
module _ (a b c d : ℕ) where
  fields_back : (z : ℤ) → SFits w16 z → a ≡ 0 → d ≡ of_z w16 z → nest_of a b c d ≡ L.Got (Fields (id_of z))
  fields_back z f e g =
      let s : of_z w16 z < 65536 = (Fits-of_z f).fits in
      let m : d % 65536 ≡ of_z w16 z = omega arith in
      sym (nest_fields a b c d e z z (omega arith) (sym (ap (to_z w16) m ∙ to_z-of_z f)) refl)

  module _ (k : TType) (n : ℕ) (h : n < 4294967296) (f : b ≡ type_code k) (g : d ≡ n) where
    t_is : R.Got k ≡ type_of b
    t_is = type_back k ∙ ap type_of (sym f)

    items_back : a ≡ 1 → nest_of a b c d ≡ L.Got (Items k n)
    items_back e = sym (nest_typed a b c d (λ z. omega arith) (L.Got (Items k n)) (omega arith) (ap (λ (m : ℕ). L.Got (Items k m)) (sym g) ∙ item_items a b c d (R.Got k) t_is k refl e))

    module _ (v : TType) (i : c ≡ type_code v) where
      v_is : R.Got v ≡ type_of c
      v_is = type_back v ∙ ap type_of (sym i)

      keys_back : a ≡ 2 → nest_of a b c d ≡ L.Got (Keys k v n)
      keys_back e =
          sym (nest_typed a b c d (λ z. omega arith) (L.Got (Keys k v n)) (omega arith)
          (ap (λ (m : ℕ). L.Got (Keys k v m)) (sym g) ∙ item_pairs a b c d (R.Got k) t_is k refl (L.Got (Keys k v d)) (λ z. omega arith) (pair_keys a k c d (R.Got v) v_is v refl e)))

      values_back : a ≡ 3 → nest_of a b c d ≡ L.Got (Values k v n)
      values_back e =
          sym (nest_typed a b c d (λ z. omega arith) (L.Got (Values k v n)) (omega arith)
          (ap (λ (m : ℕ). L.Got (Values k v m)) (sym g) ∙ item_pairs a b c d (R.Got k) t_is k refl (L.Got (Values k v d)) (λ z. omega arith) (pair_values a k c d (R.Got v) v_is v refl (λ z. omega arith) e)))

-- in its place of the row
module _ (row : List ℕ) (i : ℕ) where
  length_nest : (l : Nest) → length (put_nest row i l) ≡ length row
  unfolding put_nest put_typed
  length_nest (Fields id) = simp length-set
  length_nest (Items k n) = simp length-set
  length_nest (Keys k v n) = simp length-set
  length_nest (Values k v n) = simp length-set

  -- what stands before it is left
  typed_below : (r : List ℕ) (form n : ℕ) (k : TType) (j : ℕ) → j < 12 + 4 * i → get_or (put_typed r i form k n) j 0 ≡ get_or r j 0
  unfolding put_typed
  typed_below r form n k j h =
      far (set (set r (12 + 4 * i) form) (13 + 4 * i) (type_code k)) (15 + 4 * i) j n (λ e. omega arith)
      ∙ far (set r (12 + 4 * i) form) (13 + 4 * i) j (type_code k) (λ e. omega arith)
      ∙ far r (12 + 4 * i) j form (λ e. omega arith)

  nest_below : (l : Nest) (j : ℕ) → j < 12 + 4 * i → get_or (put_nest row i l) j 0 ≡ get_or row j 0
  unfolding put_nest
  nest_below (Fields id) j h = far (set row (12 + 4 * i) 0) (15 + 4 * i) j (of_z w16 id.0) (λ e. omega arith) ∙ far row (12 + 4 * i) j 0 (λ e. omega arith)
  nest_below (Items k n) j h = typed_below row 1 n k j h
  nest_below (Keys k v n) j h = typed_below (set row (14 + 4 * i) (type_code v)) 2 n k j h ∙ far row (14 + 4 * i) j (type_code v) (λ e. omega arith)
  nest_below (Values k v n) j h = typed_below (set row (14 + 4 * i) (type_code v)) 3 n k j h ∙ far row (14 + 4 * i) j (type_code v) (λ e. omega arith)

module _ (r : List ℕ) (i form n : ℕ) (k : TType) (h : 15 + 4 * i < length r) where
  abbrev r₁ : List ℕ
  r₁ = set r (12 + 4 * i) form

  abbrev r₂ : List ℕ
  r₂ = set r₁ (13 + 4 * i) (type_code k)

  l₁ : length r₁ ≡ length r
  l₁ = length-set r (12 + 4 * i) form

  l₂ : length r₂ ≡ length r
  l₂ = length-set r₁ (13 + 4 * i) (type_code k) ∙ l₁

  typed_form : get_or (put_typed r i form k n) (12 + 4 * i) 0 ≡ form
  unfolding put_typed
  typed_form = far r₂ (15 + 4 * i) (12 + 4 * i) n (λ e. omega arith) ∙ far r₁ (13 + 4 * i) (12 + 4 * i) (type_code k) (λ e. omega arith) ∙ here r (12 + 4 * i) form (omega arith)

  typed_first : get_or (put_typed r i form k n) (13 + 4 * i) 0 ≡ type_code k
  unfolding put_typed
  typed_first = far r₂ (15 + 4 * i) (13 + 4 * i) n (λ e. omega arith) ∙ here r₁ (13 + 4 * i) (type_code k) (omega (arith, l₁))

  typed_second : get_or (put_typed r i form k n) (14 + 4 * i) 0 ≡ get_or r (14 + 4 * i) 0
  unfolding put_typed
  typed_second = far r₂ (15 + 4 * i) (14 + 4 * i) n (λ e. omega arith) ∙ far r₁ (13 + 4 * i) (14 + 4 * i) (type_code k) (λ e. omega arith) ∙ far r (12 + 4 * i) (14 + 4 * i) form (λ e. omega arith)

  typed_count : get_or (put_typed r i form k n) (15 + 4 * i) 0 ≡ n
  unfolding put_typed
  typed_count = here r₂ (15 + 4 * i) n (omega (arith, l₂))

module _ (row : List ℕ) (i : ℕ) (h : 15 + 4 * i < length row) where
  paired : (k v : TType) (n form : ℕ) → get_or (put_typed (set row (14 + 4 * i) (type_code v)) i form k n) (14 + 4 * i) 0 ≡ type_code v
  paired k v n form = typed_second (set row (14 + 4 * i) (type_code v)) i form n k (omega (arith, length-set row (14 + 4 * i) (type_code v))) ∙ here row (14 + 4 * i) (type_code v) (omega arith)

  pub nest_back : (l : Nest) → FitNest l → nest_in (put_nest row i l) i ≡ L.Got l
  unfolding nest_in put_nest
  nest_back (Fields id) f =
      fields_back _ _ _ _ id.0 f
      (far (set row (12 + 4 * i) 0) (15 + 4 * i) (12 + 4 * i) (of_z w16 id.0) (λ e. omega arith) ∙ here row (12 + 4 * i) 0 (omega arith))
      (here (set row (12 + 4 * i) 0) (15 + 4 * i) (of_z w16 id.0) (omega (arith, length-set row (12 + 4 * i) 0)))
  nest_back (Items k n) f = items_back _ _ _ _ k n f (typed_first row i 1 n k h) (typed_count row i 1 n k h) (typed_form row i 1 n k h)
  nest_back (Keys k v n) f =
      let q : 15 + 4 * i < length (set row (14 + 4 * i) (type_code v)) = omega (arith, length-set row (14 + 4 * i) (type_code v)) in
      keys_back _ _ _ _ k n f (typed_first _ i 2 n k q) (typed_count _ i 2 n k q) v (paired k v n 2) (typed_form _ i 2 n k q)
  nest_back (Values k v n) f =
      let q : 15 + 4 * i < length (set row (14 + 4 * i) (type_code v)) = omega (arith, length-set row (14 + 4 * i) (type_code v)) in
      values_back _ _ _ _ k n f (typed_first _ i 3 n k q) (typed_count _ i 3 n k q) v (paired k v n 3) (typed_form _ i 3 n k q)

-- all that are open
module _ (levels : List Level) where
  length_nests : (row : List ℕ) (d : ℕ) → length (put_nests row levels d) ≡ length row
  unfolding put_nests
  length_nests row zero = refl
  length_nests row (suc d) = length_nest (put_nests row levels d) d (nest_at levels d) ∙ length_nests row d

  nests_below : (row : List ℕ) (d j : ℕ) → j < 12 → get_or (put_nests row levels d) j 0 ≡ get_or row j 0
  unfolding put_nests
  nests_below row zero j h = refl
  nests_below row (suc d) j h = nest_below (put_nests row levels d) d (nest_at levels d) j (omega arith) ∙ nests_below row d j h

  -- a later one leaves an earlier one
  nest_left : (row : List ℕ) (i d : ℕ) (l : Nest) → i < d → nest_in (put_nest row d l) i ≡ nest_in row i
  unfolding nest_in
  nest_left row i d l h =
      ap₂ (λ (a b : ℕ). nest_of a b (get_or (put_nest row d l) (14 + 4 * i) 0) (get_or (put_nest row d l) (15 + 4 * i) 0)) (nest_below row d l (12 + 4 * i) (omega arith)) (nest_below row d l (13 + 4 * i) (omega arith))
      ∙ ap₂ (λ (c e : ℕ). nest_of (get_or row (12 + 4 * i) 0) (get_or row (13 + 4 * i) 0) c e) (nest_below row d l (14 + 4 * i) (omega arith)) (nest_below row d l (15 + 4 * i) (omega arith))

  module _ (row : List ℕ) (n : length row ≡ 268) (all : ℕ) (m : all ≤ 64) (f : (i : ℕ) → i < all → FitNest (nest_at levels i)) where
    nests_back : (d i : ℕ) → d ≤ all → i < d → nest_in (put_nests row levels d) i ≡ L.Got (nest_at levels i)
    unfolding put_nests
    nests_back zero i h g = absurd (omega arith)
    nests_back (suc d) i h g = go (dec_lt i d) (λ k. nests_back d i (omega arith) k)
      where
        go : Dec (i < d) → (i < d → nest_in (put_nests row levels d) i ≡ L.Got (nest_at levels i)) → nest_in (put_nest (put_nests row levels d) d (nest_at levels d)) i ≡ L.Got (nest_at levels i)
        go (yes k) on = nest_left (put_nests row levels d) i d (nest_at levels d) k ∙ on k
        go (no k) on =
            let e : d ≡ i = omega arith in
            subst (λ (j : ℕ). nest_in (put_nest (put_nests row levels d) d (nest_at levels d)) j ≡ L.Got (nest_at levels j)) e
            (nest_back (put_nests row levels d) d (omega (arith, length_nests row d)) (nest_at levels d) (f d (omega arith)))

    -- all are such, and they are read as they were
    all_back : (row' : List ℕ) → ((i : ℕ) → i < all → nest_in row' i ≡ L.Got (nest_at levels i)) → (d : ℕ) → d ≤ all → all_nests row' d ≡ true
    unfolding all_nests
    all_back row' g zero h = refl
    all_back row' g (suc d) h = rw (g d (omega arith)) (all_back row' g d (omega arith))

-- WHAT THEN

module _ (row : List ℕ) (form n : ℕ) (h : 12 ≤ length row) where
  form_at : get_or (put_form row form n) 7 0 ≡ form
  unfolding put_form
  form_at = far (set row 7 form) 8 7 n (λ e. omega arith) ∙ here row 7 form (omega arith)

  number_at : get_or (put_form row form n) 8 0 ≡ n
  unfolding put_form
  number_at = here (set row 7 form) 8 n (omega (arith, length-set row 7 form))

length_form : (row : List ℕ) (form n : ℕ) → length (put_form row form n) ≡ length row
unfolding put_form
length_form row form n = simp length-set

form_left : (row : List ℕ) (form n j : ℕ) → (j ≡ 7 → ⊥) → (j ≡ 8 → ⊥) → get_or (put_form row form n) j 0 ≡ get_or row j 0
unfolding put_form
form_left row form n j a b = far (set row 7 form) 8 j n (λ e. b (sym e)) ∙ far row 7 j form (λ e. a (sym e))

module _ (row : List ℕ) where
  goal_left : (g : Goal) (j : ℕ) → (j ≡ 9 → ⊥) → (j ≡ 10 → ⊥) → get_or (put_goal row g) j 0 ≡ get_or row j 0
  unfolding put_goal
  goal_left O.Flag j a b = far row 9 j 0 (λ e. a (sym e))
  goal_left (O.Id t) j a b = far (set row 9 1) 10 j (type_code t) (λ e. b (sym e)) ∙ far row 9 j 1 (λ e. a (sym e))
  goal_left (O.Count t) j a b = far (set row 9 2) 10 j (type_code t) (λ e. b (sym e)) ∙ far row 9 j 2 (λ e. a (sym e))
  goal_left O.Pairs j a b = far row 9 j 3 (λ e. a (sym e))
  goal_left O.Length j a b = far row 9 j 4 (λ e. a (sym e))
  goal_left O.Short j a b = far row 9 j 5 (λ e. a (sym e))

  length_goal : (g : Goal) → length (put_goal row g) ≡ length row
  unfolding put_goal
  length_goal O.Flag = simp length-set
  length_goal (O.Id t) = simp length-set
  length_goal (O.Count t) = simp length-set
  length_goal O.Pairs = simp length-set
  length_goal O.Length = simp length-set
  length_goal O.Short = simp length-set

  typed : (x n : ℕ) (t : TType) → n ≡ type_code t → R.Got t ≡ type_of n
  typed x n t e = type_back t ∙ ap type_of (sym e)

  goal_back : (g : Goal) → 12 ≤ length row → G.Got g ≡ goal_of (get_or (put_goal row g) 9 0) (get_or (put_goal row g) 10 0)
  unfolding put_goal
  goal_back O.Flag h = goal_flag _ _ (here row 9 0 (omega arith))
  goal_back (O.Id t) h =
      let a : get_or (set (set row 9 1) 10 (type_code t)) 9 0 ≡ 1 = far (set row 9 1) 10 9 (type_code t) (λ e. omega arith) ∙ here row 9 1 (omega arith) in
      let b : get_or (set (set row 9 1) 10 (type_code t)) 10 0 ≡ type_code t = here (set row 9 1) 10 (type_code t) (omega (arith, length-set row 9 1)) in
      goal_id _ _ (λ z. omega arith) a (R.Got t) (typed 0 _ t b) t refl
  goal_back (O.Count t) h =
      let a : get_or (set (set row 9 2) 10 (type_code t)) 9 0 ≡ 2 = far (set row 9 2) 10 9 (type_code t) (λ e. omega arith) ∙ here row 9 2 (omega arith) in
      let b : get_or (set (set row 9 2) 10 (type_code t)) 10 0 ≡ type_code t = here (set row 9 2) 10 (type_code t) (omega (arith, length-set row 9 2)) in
      goal_count _ _ (λ z. omega arith) (λ z. omega arith) a (R.Got t) (typed 0 _ t b) t refl
  goal_back O.Pairs h = let a : get_or (set row 9 3) 9 0 ≡ 3 = here row 9 3 (omega arith) in goal_pairs _ _ (λ z. omega arith) (λ z. omega arith) (λ z. omega arith) a
  goal_back O.Length h = let a : get_or (set row 9 4) 9 0 ≡ 4 = here row 9 4 (omega arith) in goal_length _ _ (λ z. omega arith) (λ z. omega arith) (λ z. omega arith) (λ z. omega arith) a
  goal_back O.Short h =
      let a : get_or (set row 9 5) 9 0 ≡ 5 = here row 9 5 (omega arith) in
      goal_short _ _ (λ z. omega arith) (λ z. omega arith) (λ z. omega arith) (λ z. omega arith) (λ z. omega arith) a

-- by its five numbers
module _ (form m g t k : ℕ) where
  types_back : (n : ℕ) → n < 4294967296 → form ≡ 3 → m ≡ n → now_of form m g t k ≡ X.Got (N.Asks (W.Types n))
  types_back n f e i = sym (now_types form m g t k (λ z. omega arith) (λ z. omega arith) (λ z. omega arith) e (omega arith)) ∙ ap (λ (x : ℕ). X.Got (N.Asks (W.Types x))) i

  number_back : (n : ℕ) → n < 256 → form ≡ 5 → m ≡ n → now_of form m g t k ≡ X.Got (N.Asks (W.Number n))
  number_back n f e i = sym (now_number form m g t k (λ z. omega arith) (λ z. omega arith) (λ z. omega arith) (λ z. omega arith) (λ z. omega arith) (λ z. omega arith) (omega arith) e) ∙ ap (λ (x : ℕ). X.Got (N.Asks (W.Number x))) i

  done_back : (n : ℕ) → form ≡ 6 → m ≡ n → now_of form m g t k ≡ X.Got (N.Done n)
  done_back n e i = sym (now_done form m g t k (λ z. omega arith) (λ z. omega arith) (λ z. omega arith) (λ z. omega arith) (λ z. omega arith) e) ∙ ap (λ (x : ℕ). X.Got (N.Done x)) i

  refused_back : (n : ℕ) → n < 256 → form ≡ 7 → m ≡ n → now_of form m g t k ≡ X.Got (N.Refused n)
  refused_back n f e i =
      sym (now_refused form m g t k (λ z. omega arith) (λ z. omega arith) (λ z. omega arith) (λ z. omega arith) (λ z. omega arith) (λ z. omega arith) (omega arith) (λ z. omega arith) e)
      ∙ ap (λ (x : ℕ). X.Got (N.Refused x)) i

  varint_back : (o : Goal) (p : Part) → p.low < 4294967296 → p.groups < 256 → form ≡ 4 → m ≡ p.low → k ≡ p.groups → G.Got o ≡ goal_of g t → now_of form m g t k ≡ X.Got (N.Asks (W.Varint o p))
  varint_back o p f h e i j q =
      sym (now_varint form m g t k (λ z. omega arith) (λ z. omega arith) (λ z. omega arith) (λ z. omega arith) (X.Got (N.Asks (W.Varint o (part_of k m)))) e (varint_got m g t k (omega arith) (omega arith) (G.Got o) q o refl))
      ∙ ap₂ (λ (x y : ℕ). X.Got (N.Asks (W.Varint o (part_of x y)))) j i

module _ (row : List ℕ) (h : 12 ≤ length row) where
  wait_back : (w : Wait) → FitWait w → now_in (put_wait row w) ≡ X.Got (N.Asks w)
  unfolding now_in put_wait
  wait_back W.Head f = sym (now_head _ _ _ _ _ (here row 7 0 (omega arith)))
  wait_back W.Truth f = let a : get_or (set row 7 1) 7 0 ≡ 1 = here row 7 1 (omega arith) in sym (now_truth _ _ _ _ _ (λ z. omega arith) a)
  wait_back W.List f = let a : get_or (set row 7 2) 7 0 ≡ 2 = here row 7 2 (omega arith) in sym (now_list _ _ _ _ _ (λ z. omega arith) (λ z. omega arith) a)
  wait_back (W.Types n) f = types_back _ _ _ _ _ n f (form_at row 3 n h) (number_at row 3 n h)
  wait_back (W.Varint g p) f =
      let r : List ℕ = set (put_form row 4 p.low) 11 p.groups in
      let l : length r ≡ length row = length-set (put_form row 4 p.low) 11 p.groups ∙ length_form row 4 p.low in
      varint_back _ _ _ _ _ g p f.0 f.1
      (goal_left r g 7 (λ e. omega arith) (λ e. omega arith) ∙ far (put_form row 4 p.low) 11 7 p.groups (λ e. omega arith) ∙ form_at row 4 p.low h)
      (goal_left r g 8 (λ e. omega arith) (λ e. omega arith) ∙ far (put_form row 4 p.low) 11 8 p.groups (λ e. omega arith) ∙ number_at row 4 p.low h)
      (goal_left r g 11 (λ e. omega arith) (λ e. omega arith) ∙ here (put_form row 4 p.low) 11 p.groups (omega (arith, length_form row 4 p.low)))
      (goal_back r g (omega arith))
  wait_back (W.Number k) f = number_back _ _ _ _ _ k f (form_at row 5 k h) (number_at row 5 k h)

  now_back : (n : Now) → FitNow n → now_in (put_now row n) ≡ X.Got n
  unfolding put_now now_in
  now_back (N.Asks w) f = wait_back w f
  now_back (N.Done n) f = done_back _ _ _ _ _ n (form_at row 6 n h) (number_at row 6 n h)
  now_back (N.Refused why) f = refused_back _ _ _ _ _ why f (form_at row 7 why h) (number_at row 7 why h)

-- it leaves the numbers before it
module _ (row : List ℕ) where
  wait_left : (w : Wait) (j : ℕ) → j < 7 → get_or (put_wait row w) j 0 ≡ get_or row j 0
  unfolding put_wait
  wait_left W.Head j h = far row 7 j 0 (λ e. omega arith)
  wait_left W.Truth j h = far row 7 j 1 (λ e. omega arith)
  wait_left W.List j h = far row 7 j 2 (λ e. omega arith)
  wait_left (W.Types n) j h = form_left row 3 n j (λ e. omega arith) (λ e. omega arith)
  wait_left (W.Varint g p) j h =
      goal_left (set (put_form row 4 p.low) 11 p.groups) g j (λ e. omega arith) (λ e. omega arith)
      ∙ far (put_form row 4 p.low) 11 j p.groups (λ e. omega arith)
      ∙ form_left row 4 p.low j (λ e. omega arith) (λ e. omega arith)
  wait_left (W.Number k) j h = form_left row 5 k j (λ e. omega arith) (λ e. omega arith)

  now_left : (n : Now) (j : ℕ) → j < 7 → get_or (put_now row n) j 0 ≡ get_or row j 0
  unfolding put_now
  now_left (N.Asks w) j h = wait_left w j h
  now_left (N.Done n) j h = form_left row 6 n j (λ e. omega arith) (λ e. omega arith)
  now_left (N.Refused why) j h = form_left row 7 why j (λ e. omega arith) (λ e. omega arith)

  length_wait : (w : Wait) → length (put_wait row w) ≡ length row
  unfolding put_wait
  length_wait W.Head = simp length-set
  length_wait W.Truth = simp length-set
  length_wait W.List = simp length-set
  length_wait (W.Types n) = length_form row 3 n
  length_wait (W.Varint g p) = length_goal (set (put_form row 4 p.low) 11 p.groups) g ∙ length-set (put_form row 4 p.low) 11 p.groups ∙ length_form row 4 p.low
  length_wait (W.Number k) = length_form row 5 k

  length_now : (n : Now) → length (put_now row n) ≡ length row
  unfolding put_now
  length_now (N.Asks w) = length_wait w
  length_now (N.Done n) = length_form row 6 n
  length_now (N.Refused why) = length_form row 7 why

-- THE WHOLE STATE

length_levels : (row : List ℕ) (d : ℕ) → length (levels_of row d) ≡ 64
unfolding levels_of
length_levels row zero = length-replicate 64 (level_of (Fields (id_of (pos 0))))
length_levels row (suc d) = length-set (levels_of row d) d (level_of (nest_or (nest_in row d))) ∙ length_levels row d

-- its numbers are within their types, as those of every state that the code holds are, and no more is open than there is room for
pub record FitFrame (f : FrameSkip) : Type 0 where
  pub depth : f.stand.depth ≤ 64
  pub now : FitNow f.stand.rest.0
  pub nests : (i : ℕ) → i < f.stand.depth → FitNest (nest_at f.stand.levels i)

-- what a state is to every call: all of it but the rows above its depth
pub record Same (f g : FrameSkip) : Type 0 where
  pub limits : f.limits ≡ g.limits
  pub behind : f.behind ≡ g.behind
  pub run : run_of f ≡ run_of g
  pub now : f.stand.rest.0 ≡ g.stand.rest.0
  pub depth : f.stand.depth ≡ g.stand.depth
  pub body : f.stand.body ≡ g.stand.body

module _ (row : List ℕ) (f : FrameSkip) (n : length row ≡ 268) (fit : FitFrame f) where
  abbrev counted : List ℕ
  counted = put_counts row f.left f.taken f.behind

  abbrev placed : List ℕ
  placed = put_places counted f.stand.depth f.stand.body

  abbrev rested : List ℕ
  rested = put_now placed f.stand.rest.0

  abbrev after : List ℕ
  after = put_nests rested f.stand.levels f.stand.depth

  is_after : framed row f ≡ after
  unfolding framed most_open
  is_after = ap (put_nests rested f.stand.levels) (go (dec_lt f.stand.depth 64))
    where
      go : Dec (f.stand.depth < 64) → cond (ltb f.stand.depth 64) f.stand.depth 64 ≡ f.stand.depth
      go (yes h) = rw (lt-ltb f.stand.depth 64 h)
      go (no h) = let d = fit.depth in let e : f.stand.depth ≡ 64 = omega arith in rw (le-ltb f.stand.depth 64 (omega arith)) (sym e)

  length_counted : length counted ≡ 268
  unfolding put_counts
  length_counted = length-set (set (set row 0 f.left) 1 f.taken) 2 f.behind ∙ length-set (set row 0 f.left) 1 f.taken ∙ length-set row 0 f.left ∙ n

  length_placed : length placed ≡ 268
  unfolding put_places
  length_placed = length-set (set counted 5 f.stand.depth) 6 f.stand.body ∙ length-set counted 5 f.stand.depth ∙ length_counted

  length_rested : length rested ≡ 268
  length_rested = length_now placed f.stand.rest.0 ∙ length_placed

  length_after : length after ≡ 268
  length_after = length_nests f.stand.levels rested f.stand.depth ∙ length_rested

  -- the numbers before the rest
  early : (j : ℕ) → j < 7 → get_or after j 0 ≡ get_or placed j 0
  early j h = nests_below f.stand.levels rested f.stand.depth j (omega arith) ∙ now_left placed f.stand.rest.0 j h

  kept_left : get_or after 0 0 ≡ f.left
  unfolding put_places put_counts
  kept_left =
      early 0 (omega arith)
      ∙ far (set counted 5 f.stand.depth) 6 0 f.stand.body (λ e. omega arith)
      ∙ far counted 5 0 f.stand.depth (λ e. omega arith)
      ∙ far (set (set row 0 f.left) 1 f.taken) 2 0 f.behind (λ e. omega arith)
      ∙ far (set row 0 f.left) 1 0 f.taken (λ e. omega arith)
      ∙ here row 0 f.left (omega arith)

  kept_taken : get_or after 1 0 ≡ f.taken
  unfolding put_places put_counts
  kept_taken =
      early 1 (omega arith)
      ∙ far (set counted 5 f.stand.depth) 6 1 f.stand.body (λ e. omega arith)
      ∙ far counted 5 1 f.stand.depth (λ e. omega arith)
      ∙ far (set (set row 0 f.left) 1 f.taken) 2 1 f.behind (λ e. omega arith)
      ∙ here (set row 0 f.left) 1 f.taken (omega (arith, length-set row 0 f.left))

  kept_behind : get_or after 2 0 ≡ f.behind
  unfolding put_places put_counts
  kept_behind =
      early 2 (omega arith)
      ∙ far (set counted 5 f.stand.depth) 6 2 f.stand.body (λ e. omega arith)
      ∙ far counted 5 2 f.stand.depth (λ e. omega arith)
      ∙ here (set (set row 0 f.left) 1 f.taken) 2 f.behind (omega (arith, length-set (set row 0 f.left) 1 f.taken, length-set row 0 f.left))

  kept_depth : get_or after 5 0 ≡ f.stand.depth
  unfolding put_places
  kept_depth = early 5 (omega arith) ∙ far (set counted 5 f.stand.depth) 6 5 f.stand.body (λ e. omega arith) ∙ here counted 5 f.stand.depth (omega (arith, length_counted))

  kept_body : get_or after 6 0 ≡ f.stand.body
  unfolding put_places
  kept_body = early 6 (omega arith) ∙ here (set counted 5 f.stand.depth) 6 f.stand.body (omega (arith, length-set counted 5 f.stand.depth, length_counted))

  -- the limits stay
  kept_limit : (j : ℕ) → 2 < j → j < 5 → get_or after j 0 ≡ get_or row j 0
  unfolding put_places put_counts
  kept_limit j a b =
      early j (omega arith)
      ∙ far (set counted 5 f.stand.depth) 6 j f.stand.body (λ e. omega arith)
      ∙ far counted 5 j f.stand.depth (λ e. omega arith)
      ∙ far (set (set row 0 f.left) 1 f.taken) 2 j f.behind (λ e. omega arith)
      ∙ far (set row 0 f.left) 1 j f.taken (λ e. omega arith)
      ∙ far row 0 j f.left (λ e. omega arith)

  kept_limits : limits_of after ≡ limits_of row
  kept_limits = rw (kept_limit 3 (omega arith) (omega arith), kept_limit 4 (omega arith) (omega arith))

  -- where it rests, and what is open
  kept_now : now_in after ≡ X.Got f.stand.rest.0
  unfolding now_in
  kept_now = nests_now ∙ now_back placed (omega (arith, length_placed)) f.stand.rest.0 fit.now
    where
      b : (j : ℕ) → j < 12 → get_or after j 0 ≡ get_or rested j 0
      b j h = nests_below f.stand.levels rested f.stand.depth j h

      nests_now : now_of (get_or after 7 0) (get_or after 8 0) (get_or after 9 0) (get_or after 10 0) (get_or after 11 0) ≡ now_of (get_or rested 7 0) (get_or rested 8 0) (get_or rested 9 0) (get_or rested 10 0) (get_or rested 11 0)
      nests_now = rw (b 7 (omega arith), b 8 (omega arith), b 9 (omega arith), b 10 (omega arith), b 11 (omega arith))

  kept_nest : (i : ℕ) → i < f.stand.depth → nest_in after i ≡ L.Got (nest_at f.stand.levels i)
  kept_nest i h = nests_back f.stand.levels rested length_rested f.stand.depth fit.depth fit.nests f.stand.depth i (omega arith) h

  pub kept_holds : holds (framed row f) ≡ true
  unfolding holds
  kept_holds =
      ap holds is_after
      ∙ rw (eq-eqb (length after) 268 length_after, kept_depth, le-leb f.stand.depth 64 fit.depth, kept_now)
      (all_back f.stand.levels rested length_rested f.stand.depth fit.depth fit.nests after kept_nest f.stand.depth (omega arith))

  kept_level : (d : ℕ) → d ≤ f.stand.depth → held (levels_of after d) d ≡ held f.stand.levels d
  unfolding held levels_of
  kept_level zero h = refl
  kept_level (suc d) h =
      ap₂ (λ (l : Nest) (ls : List Nest). l ∷ ls)
      (ap (λ (x : Level). x.0) (get_or-set_same (levels_of after d) d (level_of (nest_or (nest_in after d))) (level_of (Fields (id_of (pos 0)))) (omega (arith, length_levels after d, fit.depth))) ∙ ap nest_or (kept_nest d (omega arith)))
      (held_above (levels_of after d) d d (level_of (nest_or (nest_in after d))) (omega arith) ∙ kept_level d (omega arith))

  -- THE STATE THAT IS PUT INTO A ROW IS THE ONE THAT IS READ FROM IT
  pub read_back : f.limits ≡ limits_of row → Same (frame_of (framed row f)) f
  unfolding frame_of frame_in rest_in run_of rest_of
  read_back l =
      subst (λ (x : FrameSkip). Same x f) (sym (ap (λ (b : Bool). cond b (frame_in (framed row f)) no_frame) kept_holds ∙ ap frame_in is_after))
      (record {
        limits = kept_limits ∙ sym l;
        behind = kept_behind;
        run =
            ap₂ (λ (a b : ℕ). running a b (rest_now (held (levels_of after (get_or after 5 0)) (get_or after 5 0)) (get_or after 6 0) (now_or (now_in after)))) kept_left kept_taken
            ∙ ap₂ (λ (d b : ℕ). running f.left f.taken (rest_now (held (levels_of after d) d) b (now_or (now_in after)))) kept_depth kept_body
            ∙ ap₂ (λ (ls : List Nest) (x : NowRead). running f.left f.taken (rest_now ls f.stand.body (now_or x))) (kept_level f.stand.depth (omega arith)) kept_now;
        now = ap now_or kept_now;
        depth = kept_depth;
        body = kept_body;
      })

  pub read_levels_lem : length (frame_of (framed row f)).stand.levels ≡ 64
  unfolding frame_of frame_in
  read_levels_lem = ap (λ (b : Bool). length (cond b (frame_in (framed row f)) no_frame).stand.levels) kept_holds ∙ length_levels (framed row f) (get_or (framed row f) 5 0)
