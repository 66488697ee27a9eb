-- Every 64-bit pattern comes back from its scalar. A NaN's is kept whole; any other is `to_bits` of what `of_bits` reads.
-- Assumes nothing.
use mathlib.Core.Path.{◌≡◌, refl, sym, subst, ◌∙◌}
use mathlib.Core.Bool.{Bool, true, false, not}
use Prim.Native.Nat.{ℕ, ◌<◌, ◌≤◌, ◌%◌, ◌^◌}
use lib.Dec.{T}
use lib.Ieee.{Float, nan, inf, fin, binary64, is_nan, nan_bits, of_bits, to_bits}
use lib.Ieee.Bits.{to_bits-of_bits, nan_bits_is, nan_bits_above}
use borrow.Author.Tests.{lt-ltb, le-ltb}
use Rattle.std.proofs.lemmas.Float.{not_nan_f64_bits}
use Rattle.scalars.specs.declared.Scalar.TheVariants.{Double, NotANumber}
use Rattle.scalars.specs.Scalars.{pick_scalar, scalar_of, bits_of}

-- the test on the bits is IEEE 754's, both ways
module _ (n : ℕ) where
  pub pattern_kept : 0x7ff0_0000_0000_0000 < n % 0x8000_0000_0000_0000 → NotANumber n ≡ scalar_of n
  pattern_kept h = rw (nan_bits_above binary64 n, lt-ltb 0x7ff0_0000_0000_0000 (n % 0x8000_0000_0000_0000) h)

  pub pattern_read : n % 0x8000_0000_0000_0000 ≤ 0x7ff0_0000_0000_0000 → Double (of_bits binary64 n) ≡ scalar_of n
  pattern_read h = rw (nan_bits_above binary64 n, le-ltb 0x7ff0_0000_0000_0000 (n % 0x8000_0000_0000_0000) h)

pub ruleset pattern_cases = (pattern_kept, pattern_read, not_nan_f64_bits)

-- a NaN has the one pattern that the logic gives it
pub nan_double : (x : Float) → is_nan x ≡ true → 0x7ff8_0000_0000_0000 ≡ to_bits binary64 x
unfolding is_nan to_bits
nan_double nan e = refl
nan_double (inf s) e = absurd (subst T (sym e) tt)
nan_double (fin s m n) e = absurd (subst T (sym e) tt)

pub ruleset double_cases = (nan_double)

go : (n : ℕ) → n < 2 ^ 64 → (b : Bool) → nan_bits binary64 n ≡ b → bits_of (pick_scalar b (NotANumber n) (Double (of_bits binary64 n))) ≡ n
go n h true e = refl
go n h false e = to_bits-of_bits binary64 n h (subst (λ (b : Bool). T (not b)) (sym (sym (nan_bits_is binary64 n) ∙ e)) tt)

-- bits to scalar to bits is the identity, on all 2^64
pub comes_back : (n : ℕ) → n < 2 ^ 64 → bits_of (scalar_of n) ≡ n
comes_back n h = go n h (nan_bits binary64 n) refl
