-- The rows, and a field noted in them: what the code knows at each return and each turn of its loops. Assumes nothing.
use mathlib.Core.Path.{◌≡◌, refl, sym, ap, ap₂, ◌∙◌}
use mathlib.Core.Bool.{Bool, true, false, cond}
use mathlib.Core.List.{List, [], ◌∷◌}
use Prim.Native.Nat.{ℕ, zero, suc, ◌+◌, ◌-◌, ◌*◌, ◌^◌, ◌≤◌, ◌<◌}
use native.Mathlib.Numerals.{add-one}
use native.Mathlib.Omega.{arith}
use lib.Dec.{eqb}
use lib.IntN.{ℤ, pos}
use lib.Signed.{mag}
use lib.ListN.{length, get_or, drop, set, length-set, drop_of_length-le}
use mir.Syntax.{w16}
use mir.Val.{to_z, of_z}
use Rattle.wanted.specs.Wanted.{same_id}
use Rattle.wanted.proofs.Cases.{next, held}
use Rattle.picker.specs.Pick.{Row, kind_alone}
use Rattle.picker.specs.Notes.{put_row, note_row, note, clear}

abbrev pub row : ℕ → ℕ → ℕ → Row
row k a e = record { kind = k; start = a; end = e }

-- a row is written where there is room, and no number is added
pub put_length : (j : ℕ) (r : Row) (rows : List ℕ) → length (put_row j r rows) ≡ length rows
unfolding put_row
put_length j r rows = rw (length-set, length-set, length-set)

-- put_row
module _ (j k a e : ℕ) (rows : List ℕ) where
  pub put_done : set (set (set rows (3 * j) k) (3 * j + 1) a) (3 * j + 2) e ≡ put_row j (row k a e) rows
  unfolding put_row
  put_done = refl

pub ruleset put_cases = (put_done)

-- clear_rows
pub clear_length : (n j : ℕ) (rows : List ℕ) → length (clear n j rows) ≡ length rows
unfolding clear
clear_length zero j rows = refl
clear_length (suc n) j rows = clear_length n (suc j) _ ∙ put_length j (kind_alone 0) rows

module _ (n j : ℕ) (rows₀ rows : List ℕ) (inv : clear (n - j) j rows ≡ clear n 0 rows₀) where
  pub clear_on : (rows' : List ℕ) → j < n → rows' ≡ put_row j (row 0 0 0) rows → clear (n - (j + 1)) (j + 1) rows' ≡ clear n 0 rows₀
  unfolding clear
  clear_on rows' h e =
      let m : n - j ≡ suc (n - suc j) = omega arith in
      rw (e, add-one) (sym (ap (λ (k : ℕ). clear k j rows) m) ∙ inv)

  pub clear_end : n ≤ j → rows ≡ clear n 0 rows₀
  unfolding clear
  clear_end h = let m : n - j ≡ 0 = omega arith in sym (ap (λ (k : ℕ). clear k j rows) m) ∙ inv

pub same_put : (rows₀ rows rows' : List ℕ) (j : ℕ) (r : Row) → length rows ≡ length rows₀ → rows' ≡ put_row j r rows → length rows' ≡ length rows₀
same_put rows₀ rows rows' j r l e = ap length e ∙ put_length j r rows ∙ l

pub clear_whole : (n : ℕ) (rows : List ℕ) → clear (n - 0) 0 rows ≡ clear n 0 rows
clear_whole n rows = let e : n - 0 ≡ n = omega arith in ap (λ (k : ℕ). clear k 0 rows) e

pub ruleset clear_cases = (clear_on, clear_end, clear_whole, same_put)

-- gives_way
module _ (before : ℕ) (same : Bool) where
  pub way_same : same ≡ true → true ≡ cond same true (eqb before 0)
  way_same e = rw e

  pub way_other : same ≡ false → eqb before 0 ≡ cond same true (eqb before 0)
  way_other e = rw e

pub ruleset way_cases = (way_same, way_other)

-- note_row
module _ (mine same : Bool) (r : Row) (j : ℕ) (rows : List ℕ) where
  pub not_mine : mine ≡ false → rows ≡ note_row mine same r j rows
  unfolding note_row
  not_mine e = rw e

  module _ (b : Bool) (f : b ≡ cond same true (eqb (get_or rows (3 * j) 0) 0)) where
    pub not_first : mine ≡ true → b ≡ false → rows ≡ note_row mine same r j rows
    unfolding note_row
    not_first e n = rw e (go same (sym f ∙ n))
      where
        go : (x : Bool) → cond x true (eqb (get_or rows (3 * j) 0) 0) ≡ false → rows ≡ cond x (put_row j r rows) (cond (eqb (get_or rows (3 * j) 0) 0) (put_row j (kind_alone 1) rows) rows)
        go true q = let z : ◌≡◌ {A = ℕ} 0 1 = cc in absurd (omega arith)
        go false q = rw q

    pub wrong_type : (rows' : List ℕ) → mine ≡ true → b ≡ true → same ≡ false → rows' ≡ put_row j (row 1 0 0) rows → rows' ≡ note_row mine same r j rows
    unfolding note_row
    wrong_type rows' e n s p = let q : eqb (get_or rows (3 * j) 0) 0 ≡ true = rw s at (sym f ∙ n) in rw (e, s, q) p

  pub right_type : (rows' : List ℕ) → mine ≡ true → same ≡ true → rows' ≡ put_row j r rows → rows' ≡ note_row mine same r j rows
  unfolding note_row
  right_type rows' e f p = rw (e, f) p

pub ruleset note_row_cases = (not_mine, not_first, right_type, wrong_type)

note_row_length : (mine same : Bool) (r : Row) (j : ℕ) (rows : List ℕ) → length (note_row mine same r j rows) ≡ length rows
unfolding note_row
note_row_length false same r j rows = refl
note_row_length true true r j rows = put_length j r rows
note_row_length true false r j rows = go (eqb (get_or rows (3 * j) 0) 0)
  where
    go : (b : Bool) → length (cond b (put_row j (kind_alone 1) rows) rows) ≡ length rows
    go true = put_length j (kind_alone 1) rows
    go false = refl

-- note_field
pub note_length : (id : ℤ) (code : ℕ) (r : Row) (ids : List ℤ) (kinds : List ℕ) (j : ℕ) (rows : List ℕ) → length (note id code r ids kinds j rows) ≡ length rows
unfolding note
note_length id code r [] kinds j rows = refl
note_length id code r (i ∷ ids) [] j rows = refl
note_length id code r (i ∷ ids) (k ∷ kinds) j rows = note_length id code r ids kinds (suc j) _ ∙ note_row_length _ _ r j rows

module _ (id : ℤ) (code : ℕ) (r : Row) (ids : List ℤ) (kinds : List ℕ) (rows₀ rows : List ℕ) (j : ℕ) (inv : note id code r (drop j ids) (drop j kinds) j rows ≡ note id code r ids kinds 0 rows₀) where
  pub note_on : (rows' : List ℕ) (mine : Bool) → j < length ids → length kinds ≡ length ids → mag (get_or ids j (pos 0)) < 2 ^ 15 → mine ≡ same_id id (to_z w16 (of_z w16 (get_or ids j (pos 0)))) → rows' ≡ note_row mine (eqb code (get_or kinds j 0)) r j rows → note id code r (drop (j + 1) ids) (drop (j + 1) kinds) (j + 1) rows' ≡ note id code r ids kinds 0 rows₀
  unfolding note
  note_on rows' mine h l m f e =
      let a = next ids j (pos 0) h in
      let b = next kinds j 0 (omega arith) in
      let q = sym (ap₂ (λ (is : List ℤ) (ks : List ℕ). note id code r is ks j rows) a b) ∙ inv in
      rw (e, f, held (get_or ids j (pos 0)) m, add-one) (rw add-one at q)

  pub note_end : length ids ≤ j → rows ≡ note id code r ids kinds 0 rows₀
  unfolding note
  note_end h = sym (ap (λ (is : List ℤ). note id code r is (drop j kinds) j rows) (drop_of_length-le ids h)) ∙ inv

pub same_note : (rows₀ rows rows' : List ℕ) (mine same : Bool) (r : Row) (j : ℕ) → length rows ≡ length rows₀ → rows' ≡ note_row mine same r j rows → length rows' ≡ length rows₀
same_note rows₀ rows rows' mine same r j l e = ap length e ∙ note_row_length mine same r j rows ∙ l

pub ruleset note_cases = (note_on, note_end, same_note)
