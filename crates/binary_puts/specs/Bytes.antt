-- The bytes that headers and scalars are written as: the binary protocol document, its strict encoding, as the scope paper reads it. What is wrong with a
-- call's arguments is as for the compact protocol (crate puts, Wrong). Assumes nothing: these are definitions.
use Rattle.std.specs.Prelude.{ℕ, Bool, true, false, cond, List, ◌∷◌, ◌++◌, length, eqb, ℤ}
use Rattle.std.specs.Int.{w16, w32, w64}
use Rattle.std.proofs.Common.{of_z}
use Rattle.types.specs.Codes.{message_code}
use Rattle.types.specs.declared.TType.{TType}
use Rattle.types.specs.declared.TMessageType.{TMessageType}
use Rattle.big_endian.specs.Big.{big2, big4, big8}
use Rattle.binary_codes.specs.Codes.{binary_code}

-- "an `int16` [needs] 2, an `int32` 4 and an `int64` needs 8 bytes", the bits of a signed number
abbrev pub int16_bytes : ℤ → List ℕ
int16_bytes z = big2 (of_z w16 z)

abbrev pub int32_bytes : ℤ → List ℕ
int32_bytes z = big4 (of_z w32 z)

abbrev pub int64_bytes : ℤ → List ℕ
int64_bytes z = big8 (of_z w64 z)

-- "Values of `bool` type are first converted to an int8. True is converted to `1`, false to `0`"
unfoldable pub truth_byte : Bool → ℕ
truth_byte true = 1
truth_byte false = 0

-- "`tttttttt` the field-type; `field id` the field-id, a signed 16 bit integer in big endian order"
unfoldable pub field_bytes : TType → ℤ → List ℕ
field_bytes t id = binary_code t ∷ int16_bytes id

-- "`tttttttt` is the element-type, encoded as an int8; `size` is the size, encoded as an int32"
unfoldable pub items_bytes : TType → ℕ → List ℕ
items_bytes t n = binary_code t ∷ big4 n

-- "`kkkkkkkk` is the key element-type, `vvvvvvvv` is the value element-type, `size` .. an int32"; "An empty map is written Stop Stop 0"
unfoldable pub pairs_bytes : TType → TType → ℕ → List ℕ
pairs_bytes k v n = cond (eqb n 0) (0 ∷ 0 ∷ big4 0) (binary_code k ∷ binary_code v ∷ big4 n)

-- "`byte length` is the length of the byte array, a signed 32 bit integer encoded in network (big endian) order; `bytes` are the bytes"
unfoldable pub string_bytes : List ℕ → List ℕ
string_bytes bs = big4 (length bs) ++ bs

-- "1vvvvvvv vvvvvvvv unused 00000mmm, name length, name, seq id": the version is 1, and the unused byte is written 00
unfoldable pub message_bytes : TMessageType → ℤ → List ℕ → List ℕ
message_bytes m z name = 0x80 ∷ 0x01 ∷ 0x00 ∷ message_code m ∷ (string_bytes name ++ int32_bytes z)
