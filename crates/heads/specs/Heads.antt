-- What the bytes of a scalar and of a header say: the compact protocol document as the scope paper reads it, under "Numbers" and "Headers".
-- Assumes nothing: these are definitions.
use Rattle.std.specs.Prelude.{ℕ, ◌+◌, ◌*◌, ◌/◌, ◌%◌, Bool, cond, List, eqb, leb, ltb, ℤ, pos, ◌+ℤ◌}
use Rattle.std.specs.Int.Signed.{lt_z}
use Rattle.std.specs.Int.{w8, w32}
use Rattle.std.proofs.Common.{to_z}
use Rattle.types.specs.Refusals.{BAD_VERSION, BAD_BOOL, FIELD_ID, SIZE_LIMIT, NEGATIVE_SIZE, BAD_UTF8, RANGE}
use Rattle.types.specs.Codes.{element_type, field_type, message_by_number}
use Rattle.types.specs.declared.TType.{TType}
use Rattle.types.specs.declared.TType.TheVariants as T
use Rattle.types.specs.declared.TypeRead.{TypeRead}
use Rattle.types.specs.declared.TypeRead.TheVariants as R
use Rattle.types.specs.declared.FieldType.{FieldType}
use Rattle.types.specs.declared.FieldType.TheVariants as F
use Rattle.types.specs.declared.TMessageType.{TMessageType}
use Rattle.types.specs.declared.MessageTypeRead.{MessageTypeRead}
use Rattle.types.specs.declared.MessageTypeRead.TheVariants as MR
use Rattle.types.specs.declared.TConfiguration.{TConfiguration}
use Rattle.numbers.specs.Varint.{varint}
use Rattle.zigzag.specs.Zigzag.{unzigzag, in_range16}
use Rattle.numbers.specs.Fixed.{little}
use Rattle.utf8.specs.Utf8.{utf8}
use Rattle.heads.specs.Reader.{Reader, done, refuse, and_then, provided, byte, some, backed}

-- "Values of type i8 are encoded as one byte"
unfoldable pub int8 : Reader ℤ
int8 = and_then byte (λ b. done (to_z w8 b))

-- a varint of 32 bits, and one of 64
unfoldable pub number32 : Reader ℕ
number32 = varint 32 5

unfoldable pub number64 : Reader ℕ
number64 = varint 64 10

-- "i16, i32 and i64 are first transformed using ZigZag and that result is then varint encoded"
unfoldable pub int32 : Reader ℤ
int32 = and_then number32 (λ n. done (unzigzag n))

unfoldable pub int64 : Reader ℤ
int64 = and_then number64 (λ n. done (unzigzag n))

-- "An i16 is read as a 32-bit zigzag number", and one "outside -32,768 to 32,767" is RANGE
unfoldable pub int16 : Reader ℤ
int16 = and_then int32 (λ z. provided (in_range16 z) RANGE (done z))

-- "Double: 8 bytes, little-endian, any bits kept"
unfoldable pub double : Reader ℕ
double = and_then (some 8) (λ bs. done (little bs))

-- "Uuid: 16 bytes"
unfoldable pub uuid : Reader (List ℕ)
uuid = some 16

-- "Element values of type bool are sent as an i8; true as 1 and false as 2"; 0 is read as false
unfoldable pub truth : Reader Bool
truth = and_then byte (λ b. provided (ltb b 3) BAD_BOOL (done (eqb b 1)))

-- "Binary: 32-bit varint length, checked against 8 before any byte is missed; then the bytes"
unfoldable pub binary : TConfiguration → Reader (List ℕ)
binary lim = and_then number32 (λ n. provided (leb n lim.string) SIZE_LIMIT (some n))

-- "String: the same, then UTF-8"
unfoldable pub text : TConfiguration → Reader (List ℕ)
text lim = and_then (binary lim) (λ bs. provided (utf8 bs) BAD_UTF8 (done bs))

-- a type, or the refusal of its code
abbrev pub typed : TypeRead → Reader TType
typed (R.Got t) = done t
typed (R.Refused why) = refuse why

-- "9, then 8": "a count is below 0 as a signed 32-bit number"; "a length or count is over its limit"
unfoldable pub counted : TConfiguration → ℕ → Reader ℕ
counted lim n = provided (leb n 2147483647) NEGATIVE_SIZE (provided (leb n lim.container) SIZE_LIMIT (done n))

-- the elements' type and their number, which passes these checks
unfoldable pub listed : TConfiguration → TType → ℕ → Reader (TType × ℕ)
listed lim t n = and_then (counted lim n) (λ m. done (t, m))

-- "List, set: count 0 to 14 in the high 4 bits; 15 means a 32-bit varint follows. Type is checked first, then the count"
unfoldable pub items : TConfiguration → Reader (TType × ℕ)
items lim =
    and_then byte
    (λ b. and_then (typed (element_type (b % 16)))
    (λ t. and_then (cond (ltb (b / 16) 15) (done (b / 16)) number32) (listed lim t)))

-- "one byte, key type high, value type low, then 9, 8"
unfoldable pub mapped : TConfiguration → ℕ → Reader (TType × TType × ℕ)
mapped lim n =
    and_then byte
    (λ b. and_then (typed (element_type (b / 16)))
    (λ k. and_then (typed (element_type (b % 16)))
    (λ v. and_then (counted lim n) (λ m. done (k, v, m)))))

-- "Map: count varint; 0 ends it, without types" (Stop stands for each that is not there)
unfoldable pub pairs : TConfiguration → Reader (TType × TType × ℕ)
pairs lim = and_then number32 (λ n. cond (eqb n 0) (done (T.Stop, T.Stop, 0)) (mapped lim n))

-- the fewest bytes of a value: "8 for double, 16 for uuid, 1 for every other type"
abbrev pub least_size : TType → ℕ
least_size T.Stop = 1
least_size T.Bool = 1
least_size T.I08 = 1
least_size T.I16 = 1
least_size T.I32 = 1
least_size T.I64 = 1
least_size T.Double = 8
least_size T.String = 1
least_size T.List = 1
least_size T.Set = 1
least_size T.Map = 1
least_size T.Struct = 1
least_size T.Uuid = 16

-- "refused END when the count times the least size exceeds the bytes left after the header", "checked after NEGATIVE SIZE and SIZE LIMIT"
unfoldable pub items_head : TConfiguration → Reader (TType × ℕ)
items_head lim = backed (λ h. h.1 * least_size h.0) (items lim)

-- "key plus value for a map"
unfoldable pub pairs_head : TConfiguration → Reader (TType × TType × ℕ)
pairs_head lim = backed (λ h. h.2 * least_size h.0 + h.2 * least_size h.1) (pairs lim)

-- what a field's header says: the struct ends; a bool field, with its value; a field of another type
pub data Field : Type 0 where
  stop : Field
  bool : Bool → ℤ → Field
  value : TType → ℤ → Field

-- the id: "Delta 0: an i16 id follows. The reader takes deltas 1 to 15"; "last id plus delta is over 32,767" is FIELD ID
unfoldable pub field_id : ℤ → ℕ → Reader ℤ
field_id last delta =
    cond (eqb delta 0) int16 (cond (lt_z (pos 32767) (last +ℤ pos delta)) (refuse FIELD_ID) (done (last +ℤ pos delta)))

-- behind the first byte, by its type
abbrev pub of_type : ℤ → ℕ → FieldType → Reader Field
of_type last delta F.Stop = done stop
of_type last delta (F.Truth b) = and_then (field_id last delta) (λ id. done (bool b id))
of_type last delta (F.Kind t) = and_then (field_id last delta) (λ id. done (value t id))
of_type last delta (F.Refused why) = refuse why

-- "Field: high 4 bits the delta, low 4 the type. Type 0 reads as Stop whatever the delta"
unfoldable pub field : ℤ → Reader Field
field last = and_then byte (λ b. of_type last (b / 16) (field_type (b % 16)))

-- a message's type, sequence number and name
abbrev pub Message : Type 0
Message = TMessageType × ℤ × List ℕ

abbrev pub message_typed : MessageTypeRead → Reader TMessageType
message_typed (MR.Got m) = done m
message_typed (MR.Refused why) = refuse why

-- "the signed sequence number's 32 bits as an unsigned varint; name"
unfoldable pub named : TConfiguration → TMessageType → Reader Message
named lim m = and_then number32 (λ n. and_then (text lim) (λ name. done (m, to_z w32 n, name)))

-- "type times 32 plus 1": "the low 5 bits of the second are not 1" is BAD VERSION
unfoldable pub versioned : TConfiguration → Reader Message
versioned lim =
    and_then byte
    (λ b. provided (eqb (b % 32) 1) BAD_VERSION (and_then (message_typed (message_by_number (b / 32))) (named lim)))

-- "Message: 0x82; .. Checks: first byte, version, type, sequence, name length against 8, bytes, UTF-8"
unfoldable pub message : TConfiguration → Reader Message
message lim = and_then byte (λ b. provided (eqb b 0x82) BAD_VERSION (versioned lim))
