-- The bytes that headers and scalars are written as: the compact protocol document as the scope paper reads it, under "Numbers" and "Headers".
-- Assumes nothing: these are definitions.
use Rattle.std.specs.Prelude.{ℕ, ◌+◌, ◌*◌, cond, List, [], ◌∷◌, ◌++◌, length, eqb, ltb, ℤ, pos, negsuc, ◌-ℤ◌}
use Rattle.std.specs.Int.{w32}
use Rattle.std.proofs.Common.{of_z}
use Rattle.types.specs.Codes.{type_code, message_code}
use Rattle.types.specs.declared.TType.{TType}
use Rattle.types.specs.declared.TMessageType.{TMessageType}
use Rattle.numbers.specs.Varint.{fewest}
use Rattle.zigzag.specs.Zigzag.{zigzag}

-- how far a signed number is above 0: 0 where it is not
abbrev pub above : ℤ → ℕ
above (pos n) = n
above (negsuc n) = 0

-- "i16, i32 and i64 are first transformed using ZigZag and that result is then varint encoded", in the fewest bytes
abbrev pub int_bytes : ℤ → List ℕ
int_bytes z = fewest (zigzag z)

-- "the writer uses the short form for exact differences 1 to 14": that difference; 0 where it is any other
unfoldable pub short_delta : ℤ → ℤ → ℕ
short_delta last id = cond (ltb (above (id -ℤ last)) 15) (above (id -ℤ last)) 0

-- "Field: high 4 bits the delta, low 4 the type"; "Delta 0: an i16 id follows"
unfoldable pub field_bytes : ℤ → ℤ → ℕ → List ℕ
field_bytes last id code =
    cond (eqb (short_delta last id) 0) (code ∷ int_bytes id) ((short_delta last id * 16 + code) ∷ [])

-- "List, set: count 0 to 14 in the high 4 bits; 15 means a 32-bit varint follows"
unfoldable pub items_bytes : TType → ℕ → List ℕ
items_bytes t n = cond (ltb n 15) ((n * 16 + type_code t) ∷ []) ((0xF0 + type_code t) ∷ fewest n)

-- "Map: count varint; 0 ends it, without types; else one byte, key type high, value type low"
unfoldable pub pairs_bytes : TType → TType → ℕ → List ℕ
pairs_bytes k v n = cond (eqb n 0) (0 ∷ []) (fewest n ++ ((type_code k * 16 + type_code v) ∷ []))

-- "Binary: 32-bit varint length; then the bytes. String: the same"
unfoldable pub string_bytes : List ℕ → List ℕ
string_bytes bs = fewest (length bs) ++ bs

-- "Message: 0x82; type times 32 plus 1; the signed sequence number's 32 bits as an unsigned varint; name"
unfoldable pub message_bytes : TMessageType → ℤ → List ℕ → List ℕ
message_bytes m z name = 0x82 ∷ (message_code m * 32 + 1) ∷ (fewest (of_z w32 z) ++ string_bytes name)
