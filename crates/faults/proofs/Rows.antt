-- The path as numbers in a row: what the code knows at each return and at each turn of its loop. Assumes nothing.
use mathlib.Core.Path.{◌≡◌, refl, sym, ap, subst, ◌∙◌}
use mathlib.Core.List.{List, [], ◌∷◌, ◌++◌}
use Prim.Native.Nat.{ℕ, zero, suc, ◌+◌, ◌^◌, ◌≤◌, ◌<◌}
use native.Mathlib.Omega.{arith}
use borrow.Author.Rules.{sfits_of}
use borrow.Author.Tests.{le-leb}
use lib.IntN.{ℤ, pos}
use lib.ListN.{length, get_or, set, take, drop}
use mir.Syntax.{w16, w64}
use mir.Val.{to_z, of_z, SFits}
use mir.Facts.{sfits_widen, to_z-of_z}
use Rattle.types.specs.declared.FieldId.{FieldId}
use Rattle.faults.specs.Fault.{kind_of, number_of}
use Rattle.faults.specs.Trace.{step_of}
use Rattle.faults.specs.declared.Step.{Step}
use Rattle.faults.specs.declared.Step.TheVariants as S

-- a number of 32 bits is the same in 64 with a sign
count_kept : (i : ℕ) → i < 2 ^ 32 → to_z w64 i ≡ pos i
count_kept i h = rw (le-leb (suc i) (2 ^ 63) (omega (arith, h)))

-- step_kind
module _ (x : Step) where
  pub kind_field : (id : FieldId) → x ≡ S.Field id → pos 0 ≡ kind_of (step_of x)
  kind_field id e = rw e

  pub kind_element : (i : ℕ) → x ≡ S.Element i → pos 1 ≡ kind_of (step_of x)
  kind_element i e = rw e

  pub kind_key : (i : ℕ) → x ≡ S.Key i → pos 2 ≡ kind_of (step_of x)
  kind_key i e = rw e

  pub kind_value : (i : ℕ) → x ≡ S.Value i → pos 3 ≡ kind_of (step_of x)
  kind_value i e = rw e

  -- step_number
  pub number_field_lem : (id : FieldId) (z : ℤ) → x ≡ S.Field id → z ≡ id.0 → z ≡ number_of (step_of x)
  number_field_lem id z e q = rw e q

  pub number_element : (i : ℕ) → x ≡ S.Element i → i < 2 ^ 32 → to_z w64 i ≡ number_of (step_of x)
  number_element i e h = rw e (count_kept i h)

  pub number_key : (i : ℕ) → x ≡ S.Key i → i < 2 ^ 32 → to_z w64 i ≡ number_of (step_of x)
  number_key i e h = rw e (count_kept i h)

  pub number_value : (i : ℕ) → x ≡ S.Value i → i < 2 ^ 32 → to_z w64 i ≡ number_of (step_of x)
  number_value i e h = rw e (count_kept i h)

-- an id is the same in 64 bits
module _ (z : ℤ) (fits : SFits w16 z) where
  pub id_widens : SFits w64 (to_z w16 (of_z w16 z))
  id_widens = subst (SFits w64) (sym (to_z-of_z fits)) (sfits_widen tt fits)

  pub id_kept : to_z w64 (of_z w64 (to_z w16 (of_z w16 z))) ≡ z
  id_kept = to_z-of_z id_widens ∙ to_z-of_z fits

pub ruleset kind_cases = (kind_field, kind_element, kind_key, kind_value, to_z-of_z, sfits_of)

pub ruleset number_cases = (number_field_lem, number_element, number_key, number_value, id_widens, id_kept, to_z-of_z, sfits_of)

-- put_row: one number more
put_one : (a b : List ℤ) (j : ℕ) → j < length a → j < length b → set (take j a ++ drop j b) j (get_or a j (pos 0)) ≡ take (suc j) a ++ drop (suc j) b
put_one [] b j h k = absurd (omega arith)
put_one (x ∷ a) [] j h k = absurd (omega arith)
put_one (x ∷ a) (y ∷ b) zero h k = refl
put_one (x ∷ a) (y ∷ b) (suc j) h k = ap (λ (l : List ℤ). x ∷ l) (put_one a b j (omega arith) (omega arith))

module _ (rows row₀ row : List ℤ) (n j : ℕ) (inv : row ≡ take j rows ++ drop j row₀) where
  pub row_next : (v : ℤ) → j < n → length rows ≡ 128 → n ≤ 128 → n ≤ length row₀ → v ≡ get_or rows j (pos 0) → set row j v ≡ take (j + 1) rows ++ drop (j + 1) row₀
  row_next v h k m l f =
      let e : suc j ≡ j + 1 = omega arith in
      ap (set row j) f ∙ ap (λ (x : List ℤ). set x j (get_or rows j (pos 0))) inv ∙ put_one rows row₀ j (omega arith) (omega arith) ∙ ap (λ (i : ℕ). take i rows ++ drop i row₀) e

  pub row_end : n ≤ j → j ≤ n → row ≡ take n rows ++ drop n row₀
  row_end h k = let e : j ≡ n = omega arith in inv ∙ ap (λ (i : ℕ). take i rows ++ drop i row₀) e

pub ruleset row_cases = (row_next, row_end, to_z-of_z, sfits_of)
