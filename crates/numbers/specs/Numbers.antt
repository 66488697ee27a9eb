-- The scope paper's number of each answer, 0 where nothing is refused; the values are those that the case has. Assumes nothing: these are definitions.
use Rattle.std.specs.Prelude.{ℕ}
use Rattle.numbers.specs.declared.Varint32.{Varint32}
use Rattle.numbers.specs.declared.Varint32.TheVariants as V32
use Rattle.numbers.specs.declared.Varint64.{Varint64}
use Rattle.numbers.specs.declared.Varint64.TheVariants as V64
use Rattle.numbers.specs.declared.Int16.{Int16}
use Rattle.numbers.specs.declared.Int16.TheVariants as I16
use Rattle.numbers.specs.declared.Bits32.{Bits32}
use Rattle.numbers.specs.declared.Bits32.TheVariants as B32
use Rattle.numbers.specs.declared.Bits64.{Bits64}
use Rattle.numbers.specs.declared.Bits64.TheVariants as B64
use Rattle.numbers.specs.declared.Wrote.{Wrote}
use Rattle.numbers.specs.declared.Wrote.TheVariants as W

abbrev pub number_varint32 : Varint32 → ℕ
number_varint32 (V32.Got v p) = 0
number_varint32 (V32.Refused why) = why

abbrev pub number_varint64 : Varint64 → ℕ
number_varint64 (V64.Got v p) = 0
number_varint64 (V64.Refused why) = why

abbrev pub number_int16 : Int16 → ℕ
number_int16 (I16.Got z p) = 0
number_int16 (I16.Refused why) = why

abbrev pub number_bits32 : Bits32 → ℕ
number_bits32 (B32.Got v p) = 0
number_bits32 (B32.Refused why) = why

abbrev pub number_bits64 : Bits64 → ℕ
number_bits64 (B64.Got v p) = 0
number_bits64 (B64.Refused why) = why

abbrev pub number_wrote : Wrote → ℕ
number_wrote (W.To p) = 0
number_wrote (W.Refused why) = why
