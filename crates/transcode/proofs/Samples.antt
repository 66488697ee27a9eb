-- The scope paper's sample message, translated, computed: `82 21 01 01 74 11 15 01 00` to binary, and that back. Assumes nothing.
use mathlib.Core.Path.{◌≡◌, refl}
use mathlib.Core.List.{List, [], ◌∷◌}
use Prim.Native.Nat.{ℕ}
use Rattle.types.specs.Codes.{type_code, truth_code, message_code, type_by_number, element_type, field_type, message_by_number}
use Rattle.types.specs.Limits.{defaults}
use Rattle.types.specs.Value.{type_of}
use Rattle.numbers.specs.Varint.{got, fewest}
use Rattle.utf8.specs.Utf8.{utf8, past, decode}
use Rattle.heads.specs.Reader.{done, refuse, and_then, provided, byte, some}
use Rattle.heads.specs.Heads.{int8, number32, int16, int32, text, binary, field_id, field, named, versioned, message}
use Rattle.puts.specs.Bytes as compact-bytes
use Rattle.skip.specs.Walk.{sizing}
use Rattle.protocols.specs.Words as words
use Rattle.protocols.specs.Value.{value_by, walk_by, fields_by}
use Rattle.big_endian.specs.Big.{big2, big4}
use Rattle.binary_codes.specs.Codes.{binary_code, by_binary_code}
use Rattle.binary_puts.specs.Bytes as binary-bytes
use Rattle.binary_heads.specs.Heads as bin
use Rattle.binary_heads.specs.Words as binary-words
use Rattle.transcode.specs.Pens as pens
use Rattle.transcode.specs.Pens.{bytes_by, bytes_fields_by}
use Rattle.transcode.specs.Letter.{letter_by, bytes_of_letter, translated_by}

abbrev pub in_compact : List ℕ
in_compact = 0x82 ∷ 0x21 ∷ 0x01 ∷ 0x01 ∷ 0x74 ∷ 0x11 ∷ 0x15 ∷ 0x01 ∷ 0x00 ∷ []

abbrev pub in_binary : List ℕ
in_binary =
    0x80 ∷ 0x01 ∷ 0x00 ∷ 0x01 ∷ 0x00 ∷ 0x00 ∷ 0x00 ∷ 0x01 ∷ 0x74 ∷ 0x00 ∷ 0x00 ∷ 0x00 ∷ 0x01 ∷ 0x02 ∷ 0x00 ∷ 0x01 ∷ 0x01 ∷ 0x08 ∷ 0x00 ∷ 0x02 ∷ 0xff ∷ 0xff ∷ 0xff ∷ 0xff ∷ 0x00 ∷ []

pub to_binary : translated_by words.compact pens.binary defaults in_compact ≡ got in_binary 9
unfolding translated_by letter_by bytes_of_letter bytes_by bytes_fields_by value_by walk_by fields_by defaults type_code truth_code message_code type_by_number element_type field_type message_by_number type_of fewest utf8 past decode done refuse and_then provided byte some int8 number32 int16 int32 text binary field_id field named versioned message sizing big2 big4 binary_code binary-bytes.truth_byte binary-bytes.field_bytes binary-bytes.string_bytes binary-bytes.message_bytes
to_binary = refl

pub to_compact : translated_by binary-words.binary pens.compact defaults in_binary ≡ got in_compact 25
unfolding translated_by letter_by bytes_of_letter bytes_by bytes_fields_by value_by walk_by fields_by defaults type_code truth_code message_code message_by_number type_of fewest utf8 past decode done refuse and_then provided byte some sizing by_binary_code bin.number bin.int16 bin.int32 bin.truth bin.sized bin.binary bin.text bin.kind bin.field bin.sequenced bin.named bin.message compact-bytes.short_delta compact-bytes.field_bytes compact-bytes.string_bytes compact-bytes.message_bytes
to_compact = refl
