-- The codes there and back: each type reads back from its code in a container, in a field and by number, and a code that reads as a type is
-- that type's, a bool's second one apart. Assumes nothing.
use mathlib.Core.Path.{◌≡◌, refl, sym, ap, ◌∙◌}
use mathlib.Core.Bool.{Bool, true, false}
use mathlib.Core.List.{List, [], ◌∷◌}
use mathlib.Core.Logic.{◌⊎◌, inl, inr, ⊎_elim}
use Prim.Native.Nat.{ℕ, zero, suc, ◌+◌, ◌<◌, ◌≤◌}
use native.Mathlib.Omega.{arith}
use borrow.Author.Tests.{ne_eqb, eqb-true}
use lib.ListN.{get_or, get_or-eq_default}
use lib.Dec.{eqb}
use Rattle.types.proofs.Tables.{Misses, missed}
use Rattle.types.specs.Refusals.{BAD_TYPE, BAD_MESSAGE_TYPE}
use Rattle.types.specs.Codes.{type_code, numbered, type_by_number, element_type, as_field, field_type, truth_code, message_code, messages, message_by_number}
use Rattle.types.specs.declared.TType.{TType}
use Rattle.types.specs.declared.TType.TheVariants as T
use Rattle.types.specs.declared.TypeRead.{TypeRead}
use Rattle.types.specs.declared.TypeRead.TheVariants as R
use Rattle.types.specs.declared.FieldType.TheVariants as F
use Rattle.types.specs.declared.TMessageType.{TMessageType}
use Rattle.types.specs.declared.TMessageType.TheVariants as M
use Rattle.types.specs.declared.MessageTypeRead.TheVariants as MR

-- a type's own code, by number
pub by_number : (t : TType) → type_by_number (type_code t) ≡ R.Got t
unfolding type_by_number type_code
by_number T.Stop = refl
by_number T.Bool = refl
by_number T.I08 = refl
by_number T.I16 = refl
by_number T.I32 = refl
by_number T.I64 = refl
by_number T.Double = refl
by_number T.String = refl
by_number T.List = refl
by_number T.Set = refl
by_number T.Map = refl
by_number T.Struct = refl
by_number T.Uuid = refl

-- every row of the table holds the type whose code is the row's number
abbrev Rows : ℕ → List TypeRead → Type 0
Rows k [] = Unit {0}
Rows k (R.Got t ∷ l) = (type_code t ≡ k) × Rows (suc k) l
Rows k (R.Refused x ∷ l) = Rows (suc k) l

row : (l : List TypeRead) (k n : ℕ) (t : TType) → Rows k l → get_or l n (R.Refused BAD_TYPE) ≡ R.Got t → type_code t ≡ k + n
row [] k n t h e = let z : ◌≡◌ {A = ℕ} 0 1 = cc in absurd (omega arith)
row (R.Got u ∷ l) k zero t h e = let s : u ≡ t = cc in ap type_code (sym s) ∙ h.0 ∙ omega arith
row (R.Got u ∷ l) k (suc n) t h e = row l (suc k) n t h.1 e ∙ omega arith
row (R.Refused x ∷ l) k zero t h e = let z : ◌≡◌ {A = ℕ} 0 1 = cc in absurd (omega arith)
row (R.Refused x ∷ l) k (suc n) t h e = row l (suc k) n t h e ∙ omega arith

-- one type for a number, and one number for a type
pub number_is : (n : ℕ) (t : TType) → type_by_number n ≡ R.Got t → n ≡ type_code t
unfolding type_by_number type_code
number_is n t e = sym (row numbered 0 n t (refl, (refl, (refl, (refl, (refl, (refl, (refl, (refl, (refl, (refl, (refl, (refl, (refl, tt))))))))))))) e ∙ omega arith)

-- in a container: a type's own code, and which codes read as a type
pub in_container : (t : TType) → element_type (type_code t) ≡ R.Got t
unfolding element_type type_code
in_container T.Stop = by_number T.Stop
in_container T.Bool = by_number T.Bool
in_container T.I08 = by_number T.I08
in_container T.I16 = by_number T.I16
in_container T.I32 = by_number T.I32
in_container T.I64 = by_number T.I64
in_container T.Double = by_number T.Double
in_container T.String = by_number T.String
in_container T.List = by_number T.List
in_container T.Set = by_number T.Set
in_container T.Map = by_number T.Map
in_container T.Struct = by_number T.Struct
in_container T.Uuid = by_number T.Uuid

pub container_is : (n : ℕ) (t : TType) → element_type n ≡ R.Got t → (n ≡ type_code t) ⊎ ((n ≡ 2) × (t ≡ T.Bool))
unfolding element_type
container_is n t e = go (eqb n 2) refl
  where
    go : (b : Bool) → eqb n 2 ≡ b → (n ≡ type_code t) ⊎ ((n ≡ 2) × (t ≡ T.Bool))
    go true f = let g : R.Got T.Bool ≡ R.Got t = rw f at e in inr (eqb-true n 2 f, cc)
    go false f = inl (number_is n t (rw f at e))

-- in a field: a bool's code carries its value; any other type but Stop has its own
pub truth_in_field : (b : Bool) → field_type (truth_code b) ≡ F.Truth b
unfolding field_type truth_code
truth_in_field true = refl
truth_in_field false = refl

pub in_field : (t : TType) → 2 < type_code t → field_type (type_code t) ≡ F.Kind t
unfolding field_type
in_field t h = rw (ne_eqb (type_code t) 0 (λ z. omega arith), ne_eqb (type_code t) 1 (λ z. omega arith), ne_eqb (type_code t) 2 (λ z. omega arith), by_number t)

-- message types
pub message_by_number_lem : (m : TMessageType) → message_by_number (message_code m) ≡ MR.Got m
unfolding message_by_number message_code
message_by_number_lem M.Call = refl
message_by_number_lem M.Reply = refl
message_by_number_lem M.Exception = refl
message_by_number_lem M.OneWay = refl

pub no_message : (n : ℕ) → Misses 1 4 n → MR.Refused BAD_MESSAGE_TYPE ≡ message_by_number n
unfolding message_by_number
no_message n m =
    ⊎_elim
    (λ (h : n < 1). let z : n ≡ 0 = omega arith in rw z)
    (λ (h : 1 + 4 ≤ n). rw (get_or-eq_default messages (MR.Refused BAD_MESSAGE_TYPE) {n = n} h))
    (missed 1 4 n m)

-- What the code asks at its returns, for `search`
module _ (n : ℕ) where
  pub element_two : n ≡ 2 → R.Got T.Bool ≡ element_type n
  unfolding element_type
  element_two h = rw h

  pub field_zero : n ≡ 0 → F.Stop ≡ field_type n
  unfolding field_type
  field_zero h = rw h

  pub field_one : n ≡ 1 → F.Truth true ≡ field_type n
  unfolding field_type
  field_one h = rw h

  pub field_two : n ≡ 2 → F.Truth false ≡ field_type n
  unfolding field_type
  field_two h = rw h

module _ (n : ℕ) (r : TypeRead) where
  pub element_else : (n ≡ 2 → ⊥) → r ≡ type_by_number n → r ≡ element_type n
  unfolding element_type
  element_else h e = rw (ne_eqb n 2 h) e

  field_else : Misses 0 3 n → as_field (type_by_number n) ≡ field_type n
  unfolding field_type
  field_else m = rw (ne_eqb n 0 m.0.0.1, ne_eqb n 1 m.0.1, ne_eqb n 2 m.1)

  pub field_kind_lem : (t : TType) → Misses 0 3 n → r ≡ type_by_number n → r ≡ R.Got t → F.Kind t ≡ field_type n
  field_kind_lem t m e g = ap as_field (sym g ∙ e) ∙ field_else m

  pub field_refused : (x : ℕ) → Misses 0 3 n → r ≡ type_by_number n → r ≡ R.Refused x → F.Refused x ≡ field_type n
  field_refused x m e g = ap as_field (sym g ∙ e) ∙ field_else m

pub ruleset element_cases = (element_two, element_else)

pub ruleset field_cases = (field_zero, field_one, field_two, field_kind_lem, field_refused)
