-- What an i16 is read as, from the answer for the 32-bit number. Assumes nothing.
use Rattle.std.proofs.Common.{◌≡◌, ℕ, Bool, true, false, cond, List, refl}
use Rattle.types.specs.Refusals.{RANGE}
use Rattle.numbers.specs.Varint.{Found, got, refused, varint_at}
use Rattle.zigzag.specs.Zigzag.{unzigzag, in_range16}
use Rattle.numbers.specs.Answers.{as32, as16, signed16, varint32_at, signed16_at}
use Rattle.numbers.specs.declared.Varint32.{Varint32}
use Rattle.numbers.specs.declared.Varint32.TheVariants as V32
use Rattle.numbers.specs.declared.Int16.{Int16}
use Rattle.numbers.specs.declared.Int16.TheVariants as I16

abbrev pub signed16_of : Varint32 → Int16
signed16_of (V32.Got v p) = cond (in_range16 (unzigzag v)) (I16.Got (unzigzag v) p) (I16.Refused RANGE)
signed16_of (V32.Refused why) = I16.Refused why

of_found : (x : Found ℕ) → as16 (signed16 x) ≡ signed16_of (as32 x)
of_found (got v p) = go (in_range16 (unzigzag v))
  where
    go : (b : Bool) → as16 (cond b (got (unzigzag v) p) (refused RANGE)) ≡ cond b (I16.Got (unzigzag v) p) (I16.Refused RANGE)
    go true = refl
    go false = refl
of_found (refused why) = refl

pub signed16_is : (s : List ℕ) (at : ℕ) → signed16_at s at ≡ signed16_of (varint32_at s at)
unfolding signed16_at varint32_at
signed16_is s at = of_found (varint_at 32 5 s at)
