-- What the calls that read answer, as the declared enums. Assumes nothing.
use Rattle.std.specs.Prelude.{ℕ, ◌+◌, List, cond, length, ltb}
use Rattle.std.proofs.Math.Seq.{slice}
use Rattle.types.specs.Refusals.{END}
use Rattle.numbers.specs.Varint.{Found, got, refused}
use Rattle.numbers.specs.Answers.{as_bits32, as_bits}
use Rattle.numbers.specs.declared.Bits32.{Bits32}
use Rattle.numbers.specs.declared.Bits64.{Bits64}
use Rattle.big_endian.specs.Big.{big}
use Rattle.big_endian.specs.declared.Bits16.{Bits16}
use Rattle.big_endian.specs.declared.Bits16.TheVariants as B16

-- what was found, as the enum has it
abbrev pub as_bits16 : Found ℕ → Bits16
as_bits16 (got v p) = B16.Got v p
as_bits16 (refused why) = B16.Refused why

-- the number of k bytes from a place on, highest first; END where "a byte needed lies past the input"
abbrev pub big_at : ℕ → List ℕ → ℕ → Found ℕ
big_at k s at = cond (ltb (length s) (at + k)) (refused END) (got (big (slice at (at + k) s)) (at + k))

-- the 16, 32 and 64 bits at a place of the input
unfoldable pub word16_at : List ℕ → ℕ → Bits16
word16_at s at = as_bits16 (big_at 2 s at)

unfoldable pub word32_at : List ℕ → ℕ → Bits32
word32_at s at = as_bits32 (big_at 4 s at)

unfoldable pub word64_at : List ℕ → ℕ → Bits64
word64_at s at = as_bits (big_at 8 s at)
