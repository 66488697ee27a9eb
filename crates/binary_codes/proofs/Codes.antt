-- The codes there and back: each type reads back from its code, and a code that reads as a type is that type's. What the least sizes come to. Assumes nothing.
use mathlib.Core.Path.{◌≡◌, refl, sym, ap, ◌∙◌}
use mathlib.Core.List.{List, [], ◌∷◌}
use Prim.Native.Nat.{ℕ, zero, suc, ◌+◌, ◌*◌, ◌<◌}
use native.Mathlib.Nat.{mul-one}
use native.Mathlib.Omega.{arith}
use lib.ListN.{get_or}
use mir.Syntax.{w32}
use mir.Val.{Fits}
use Rattle.types.specs.Refusals.{BAD_TYPE}
use Rattle.types.specs.declared.TType.{TType}
use Rattle.types.specs.declared.TType.TheVariants as T
use Rattle.types.specs.declared.TypeRead.{TypeRead}
use Rattle.types.specs.declared.TypeRead.TheVariants as R
use Rattle.binary_codes.specs.Codes.{binary_code, coded, by_binary_code, least_size}

pub by_code : (t : TType) → by_binary_code (binary_code t) ≡ R.Got t
unfolding by_binary_code binary_code
by_code T.Stop = refl
by_code T.Bool = refl
by_code T.I08 = refl
by_code T.I16 = refl
by_code T.I32 = refl
by_code T.I64 = refl
by_code T.Double = refl
by_code T.String = refl
by_code T.List = refl
by_code T.Set = refl
by_code T.Map = refl
by_code T.Struct = refl
by_code T.Uuid = refl

-- every row of the table holds the type whose code is the row's number
abbrev Rows : ℕ → List TypeRead → Type 0
Rows k [] = Unit {0}
Rows k (R.Got t ∷ l) = (binary_code t ≡ k) × Rows (suc k) l
Rows k (R.Refused x ∷ l) = Rows (suc k) l

row : (l : List TypeRead) (k n : ℕ) (t : TType) → Rows k l → get_or l n (R.Refused BAD_TYPE) ≡ R.Got t → binary_code t ≡ k + n
row [] k n t h e = let z : ◌≡◌ {A = ℕ} 0 1 = cc in absurd (omega arith)
row (R.Got u ∷ l) k zero t h e = let s : u ≡ t = cc in ap binary_code (sym s) ∙ h.0 ∙ omega arith
row (R.Got u ∷ l) k (suc n) t h e = row l (suc k) n t h.1 e ∙ omega arith
row (R.Refused x ∷ l) k zero t h e = let z : ◌≡◌ {A = ℕ} 0 1 = cc in absurd (omega arith)
row (R.Refused x ∷ l) k (suc n) t h e = row l (suc k) n t h e ∙ omega arith

-- one type for a code, and one code for a type
pub code_is : (n : ℕ) (t : TType) → by_binary_code n ≡ R.Got t → n ≡ binary_code t
unfolding by_binary_code binary_code
code_is n t e = sym (row coded 0 n t (refl, (refl, (refl, (refl, (refl, (refl, (refl, (refl, (refl, (refl, (refl, (refl, (refl, tt))))))))))))) e ∙ omega arith)

-- a code is a byte, and 0 is Stop's alone
pub code_small : (t : TType) → binary_code t < 17
unfolding binary_code
code_small T.Stop = omega arith
code_small T.Bool = omega arith
code_small T.I08 = omega arith
code_small T.I16 = omega arith
code_small T.I32 = omega arith
code_small T.I64 = omega arith
code_small T.Double = omega arith
code_small T.String = omega arith
code_small T.List = omega arith
code_small T.Set = omega arith
code_small T.Map = omega arith
code_small T.Struct = omega arith
code_small T.Uuid = omega arith

stop_code : binary_code T.Stop ≡ 0
unfolding binary_code
stop_code = refl

pub no_code : (t : TType) → binary_code t ≡ 0 → t ≡ T.Stop
no_code t e = let f : R.Got T.Stop ≡ R.Got t = sym (by_code T.Stop) ∙ ap by_binary_code (stop_code ∙ sym e) ∙ by_code t in cc

-- least_bytes
module _ (n : ℕ) (kind : TType) where
  pub least_one : (t : TType) → kind ≡ t → least_size t ≡ 1 → n ≡ n * least_size kind
  least_one t k l = sym (rw (k, l) (mul-one n))

  pub least_more : (t : TType) (m : ℕ) → kind ≡ t → least_size t ≡ m → n * m ≡ n * least_size kind
  least_more t m k l = sym (rw (k, l))

-- and they are far from 64 bits
module _ (n : ℕ) (f : Fits w32 n) where
  pub below_1 : n < 68719476736
  below_1 = omega (arith, f.fits)

  pub below_2 : n * 2 < 68719476736
  below_2 = omega (arith, f.fits)

  pub below_4 : n * 4 < 68719476736
  below_4 = omega (arith, f.fits)

  pub below_5 : n * 5 < 68719476736
  below_5 = omega (arith, f.fits)

  pub below_6 : n * 6 < 68719476736
  below_6 = omega (arith, f.fits)

  pub below_8 : n * 8 < 68719476736
  below_8 = omega (arith, f.fits)

  pub below_16 : n * 16 < 68719476736
  below_16 = omega (arith, f.fits)

pub ruleset least_cases = (least_one, least_more, below_1, below_2, below_4, below_5, below_6, below_8, below_16)
