-- The scope paper's number of each answer, 0 where nothing is refused; the values are those that the case has. Assumes nothing: these are definitions.
use Rattle.std.specs.Prelude.{ℕ}
use Rattle.big_endian.specs.declared.Bits16.{Bits16}
use Rattle.big_endian.specs.declared.Bits16.TheVariants as B16

abbrev pub number_bits16 : Bits16 → ℕ
number_bits16 (B16.Got v p) = 0
number_bits16 (B16.Refused why) = why
