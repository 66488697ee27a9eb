-- What the calls answer, as the declared enums, from what the definitions find. Assumes nothing.
use Rattle.std.specs.Prelude.{ℕ, ◌+◌, cond, List, length, ℤ, nat_lt}
use Rattle.std.proofs.lemmas.List.Edits.{sets}
use Rattle.std.proofs.Math.Seq.{slice}
use Rattle.types.specs.Refusals.{END, NO_ROOM, RANGE}
use Rattle.numbers.specs.Varint.{Found, got, refused, varint_at}
use Rattle.zigzag.specs.Zigzag.{unzigzag, in_range16}
use Rattle.numbers.specs.Fixed.{little}
use Rattle.numbers.specs.declared.Varint32.{Varint32}
use Rattle.numbers.specs.declared.Varint32.TheVariants as V32
use Rattle.numbers.specs.declared.Varint64.{Varint64}
use Rattle.numbers.specs.declared.Varint64.TheVariants as V64
use Rattle.numbers.specs.declared.Int16.{Int16}
use Rattle.numbers.specs.declared.Int16.TheVariants as I16
use Rattle.numbers.specs.declared.Bits32.{Bits32}
use Rattle.numbers.specs.declared.Bits32.TheVariants as B32
use Rattle.numbers.specs.declared.Bits64.{Bits64}
use Rattle.numbers.specs.declared.Bits64.TheVariants as B64
use Rattle.numbers.specs.declared.Wrote.{Wrote}
use Rattle.numbers.specs.declared.Wrote.TheVariants as W

-- what was found, as each enum has it
abbrev pub as32 : Found ℕ → Varint32
as32 (got v p) = V32.Got v p
as32 (refused why) = V32.Refused why

abbrev pub as64 : Found ℕ → Varint64
as64 (got v p) = V64.Got v p
as64 (refused why) = V64.Refused why

abbrev pub as16 : Found ℤ → Int16
as16 (got z p) = I16.Got z p
as16 (refused why) = I16.Refused why

abbrev pub as_bits32 : Found ℕ → Bits32
as_bits32 (got v p) = B32.Got v p
as_bits32 (refused why) = B32.Refused why

abbrev pub as_bits : Found ℕ → Bits64
as_bits (got v p) = B64.Got v p
as_bits (refused why) = B64.Refused why

-- the varint at a place of the input: 32 bits in at most 5 bytes
unfoldable pub varint32_at : List ℕ → ℕ → Varint32
varint32_at s at = as32 (varint_at 32 5 s at)

-- and 64 in at most 10
unfoldable pub varint64_at : List ℕ → ℕ → Varint64
varint64_at s at = as64 (varint_at 64 10 s at)

-- "An i16 is read as a 32-bit zigzag number", and one "outside -32,768 to 32,767" is RANGE
abbrev pub signed16 : Found ℕ → Found ℤ
signed16 (got v n) = cond (in_range16 (unzigzag v)) (got (unzigzag v) n) (refused RANGE)
signed16 (refused why) = refused why

-- the i16 at a place of the input
unfoldable pub signed16_at : List ℕ → ℕ → Int16
signed16_at s at = as16 (signed16 (varint_at 32 5 s at))

-- the number of k bytes from a place on, lowest first; END where "a byte needed lies past the input"
abbrev pub little_at : ℕ → List ℕ → ℕ → Found ℕ
little_at k s at = cond (nat_lt (length s) (at + k)) (refused END) (got (little (slice at (at + k) s)) (at + k))

-- 32 bits, "a little-endian 32-bit number" of a day file's header
unfoldable pub bits32_at : List ℕ → ℕ → Bits32
bits32_at s at = as_bits32 (little_at 4 s at)

-- "Double: 8 bytes, little-endian, any bits kept": the 64 bits at a place of the input
unfoldable pub bits64_at : List ℕ → ℕ → Bits64
bits64_at s at = as_bits (little_at 8 s at)

-- of two, the first where the buffer is "too short for this call's bytes" from the place on
abbrev pub by_room {ℓ} : {X : Type ℓ} → List ℕ → ℕ → List ℕ → X → X → X
by_room buf at bs short room = cond (nat_lt (length buf) (at + length bs)) short room

-- what a writer of these bytes at a place answers: NO ROOM, or the place behind them
unfoldable pub wrote_at : List ℕ → ℕ → List ℕ → Wrote
wrote_at buf at bs = by_room buf at bs (W.Refused NO_ROOM) (W.To (at + length bs))

-- and the buffer that it leaves: on a refusal "lent buffers keep their bytes"
unfoldable pub put_at : List ℕ → ℕ → List ℕ → List ℕ
put_at buf at bs = by_room buf at bs buf (sets buf at bs)
