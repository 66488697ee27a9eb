-- What the number calls leave with their caller: `w'` is behind the call what w was before it. Assumes nothing: these are definitions.
use Rattle.std.specs.Prelude.{ℕ, ◌≡◌, cond, List, leb, ℤ, length}
use Rattle.types.specs.Refusals.{BAD_STATE}
use Rattle.numbers.specs.Answers.{varint32_at, varint64_at, signed16_at, bits64_at, wrote_at, put_at}
use Rattle.numbers.specs.declared.Varint32.{Varint32}
use Rattle.numbers.specs.declared.Varint32.TheVariants as V32
use Rattle.numbers.specs.declared.Varint64.{Varint64}
use Rattle.numbers.specs.declared.Varint64.TheVariants as V64
use Rattle.numbers.specs.declared.Int16.{Int16}
use Rattle.numbers.specs.declared.Int16.TheVariants as I16
use Rattle.numbers.specs.declared.Bits64.{Bits64}
use Rattle.numbers.specs.declared.Bits64.TheVariants as B64
use Rattle.numbers.specs.declared.Wrote.{Wrote}
use Rattle.numbers.specs.declared.Wrote.TheVariants as W

-- "a place past the buffer's end" is BAD STATE, before what the input shows
unfoldable pub placed32 : List ℕ → ℕ → Varint32
placed32 s at = cond (leb at (length s)) (varint32_at s at) (V32.Refused BAD_STATE)

unfoldable pub placed64 : List ℕ → ℕ → Varint64
placed64 s at = cond (leb at (length s)) (varint64_at s at) (V64.Refused BAD_STATE)

unfoldable pub placed16 : List ℕ → ℕ → Int16
placed16 s at = cond (leb at (length s)) (signed16_at s at) (I16.Refused BAD_STATE)

unfoldable pub placed_bits : List ℕ → ℕ → Bits64
placed_bits s at = cond (leb at (length s)) (bits64_at s at) (B64.Refused BAD_STATE)

unfoldable pub placed_put : List ℕ → ℕ → List ℕ → Wrote
placed_put buf at bs = cond (leb at (length buf)) (wrote_at buf at bs) (W.Refused BAD_STATE)

-- the number, 0 for none; what was found, and the place behind it
abbrev pub number32 : Varint32 → ℕ
number32 (V32.Got v p) = 0
number32 (V32.Refused why) = why

abbrev pub value32 : ℕ → Varint32 → ℕ
value32 old (V32.Got v p) = v
value32 old (V32.Refused why) = old

abbrev pub end32 : ℕ → Varint32 → ℕ
end32 old (V32.Got v p) = p
end32 old (V32.Refused why) = old

pub record Found32 (value value' : ℕ) (end end' n : ℕ) (found : Varint32) : Type 0 where
  pub number : n ≡ number32 found
  pub the_value : value' ≡ value32 value found
  pub the_end : end' ≡ end32 end found

-- the number, 0 for none; what was found, and the place behind it
abbrev pub number64 : Varint64 → ℕ
number64 (V64.Got v p) = 0
number64 (V64.Refused why) = why

abbrev pub value64 : ℕ → Varint64 → ℕ
value64 old (V64.Got v p) = v
value64 old (V64.Refused why) = old

abbrev pub end64 : ℕ → Varint64 → ℕ
end64 old (V64.Got v p) = p
end64 old (V64.Refused why) = old

pub record Found64 (value value' : ℕ) (end end' n : ℕ) (found : Varint64) : Type 0 where
  pub number : n ≡ number64 found
  pub the_value : value' ≡ value64 value found
  pub the_end : end' ≡ end64 end found

-- the number, 0 for none; what was found, and the place behind it
abbrev pub number16 : Int16 → ℕ
number16 (I16.Got v p) = 0
number16 (I16.Refused why) = why

abbrev pub value16 : ℤ → Int16 → ℤ
value16 old (I16.Got v p) = v
value16 old (I16.Refused why) = old

abbrev pub end16 : ℕ → Int16 → ℕ
end16 old (I16.Got v p) = p
end16 old (I16.Refused why) = old

pub record Found16 (value value' : ℤ) (end end' n : ℕ) (found : Int16) : Type 0 where
  pub number : n ≡ number16 found
  pub the_value : value' ≡ value16 value found
  pub the_end : end' ≡ end16 end found

-- the number, 0 for none; what was found, and the place behind it
abbrev pub number_bits : Bits64 → ℕ
number_bits (B64.Got v p) = 0
number_bits (B64.Refused why) = why

abbrev pub value_bits : ℕ → Bits64 → ℕ
value_bits old (B64.Got v p) = v
value_bits old (B64.Refused why) = old

abbrev pub end_bits : ℕ → Bits64 → ℕ
end_bits old (B64.Got v p) = p
end_bits old (B64.Refused why) = old

pub record FoundBits (value value' : ℕ) (end end' n : ℕ) (found : Bits64) : Type 0 where
  pub number : n ≡ number_bits found
  pub the_value : value' ≡ value_bits value found
  pub the_end : end' ≡ end_bits end found

abbrev pub number_wrote : Wrote → ℕ
number_wrote (W.To p) = 0
number_wrote (W.Refused why) = why

abbrev pub end_wrote : ℕ → Wrote → ℕ
end_wrote old (W.To p) = p
end_wrote old (W.Refused why) = old

-- and of the bytes written at a place: BAD STATE, NO ROOM, or they stand there
pub record PutNumber (buf buf' : List ℕ) (end end' n at : ℕ) (bs : List ℕ) : Type 0 where
  pub number : n ≡ number_wrote (placed_put buf at bs)
  pub the_end : end' ≡ end_wrote end (placed_put buf at bs)
  pub the_buf : buf' ≡ put_at buf at bs
