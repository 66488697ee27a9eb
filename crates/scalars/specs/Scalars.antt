-- Which scalar 64 bits are, and which bits a scalar has: "Double: 8 bytes, little-endian, any bits kept"; "a value being a truth, a signed number or a
-- double". Assumes nothing: these are definitions.
use Rattle.std.specs.Prelude.{ℕ, Bool, true, false, cond}
use Rattle.std.specs.Float.{binary64}
use Rattle.std.specs.Float.Ieee.{nan_bits, of_bits, to_bits}
use Rattle.scalars.specs.declared.Scalar.{Scalar}
use Rattle.scalars.specs.declared.Scalar.TheVariants.{Bool as ABool, Int, Double, NotANumber}

abbrev pub pick_scalar : Bool → Scalar → Scalar → Scalar
pick_scalar true a b = a
pick_scalar false a b = b

-- a NaN's pattern is kept as it is; any other is the double that IEEE 754 says
abbrev pub scalar_of : ℕ → Scalar
scalar_of n = pick_scalar (nan_bits binary64 n) (NotANumber n) (Double (of_bits binary64 n))

-- a double's bits; a NaN's as they were kept
abbrev pub bits_of : Scalar → ℕ
bits_of (ABool b) = cond b 1 0
bits_of (Int i) = 0
bits_of (Double x) = to_bits binary64 x
bits_of (NotANumber n) = n
