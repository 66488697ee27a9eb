-- Bits are finite, as a point's are asked to be, exactly where the kit's IEEE 754 reads a finite number in them. Assumes nothing.
use mathlib.Core.Path.{◌≡◌, refl, sym}
use mathlib.Core.Bool.{Bool, true, false, not}
use Prim.Native.Nat.{ℕ, zero, suc, ◌+◌, ◌/◌, ◌%◌}
use lib.Dec.{eqb, leb}
use lib.Ieee.{Float, nan, inf, fin, binary64, odd, of_fields, of_bits, prec, low, hid, top}
use Rattle.points.specs.Points.{finite, NONE}

abbrev pub is_finite : Float → Bool
is_finite nan = false
is_finite (inf s) = false
is_finite (fin s m e) = true

odd_finite : (d : ℕ) (s : Bool) (q k l : ℕ) → is_finite (odd d s q k l) ≡ true
unfolding odd
odd_finite d s zero k l = refl
odd_finite d s (suc q) k l = refl

by_fields : (s : Bool) (x t : ℕ) → is_finite (of_fields binary64 s x t) ≡ not (eqb x 2047)
unfolding of_fields
by_fields s zero t = odd_finite (prec binary64) s t 0 (low binary64)
by_fields s (suc x) t = go (eqb (suc x) 2047) refl (eqb t 0) refl
  where
    go : (b : Bool) → eqb (suc x) 2047 ≡ b → (c : Bool) → eqb t 0 ≡ c → is_finite (of_fields binary64 s (suc x) t) ≡ not (eqb (suc x) 2047)
    go true f true g = rw (f, g)
    go true f false g = rw (f, g)
    go false f c g = rw f (odd_finite (prec binary64) s (hid binary64 + t) x (low binary64))

pub finite_is : (n : ℕ) → finite n ≡ is_finite (of_bits binary64 n)
unfolding finite of_bits
finite_is n = sym (by_fields (leb (top binary64) n) (n % top binary64 / hid binary64) (n % hid binary64))

-- what stands for no double is not finite
pub none_not : finite NONE ≡ false
unfolding finite
none_not = refl
