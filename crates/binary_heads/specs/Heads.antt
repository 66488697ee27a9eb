-- What the bytes of a scalar and of a header say in the binary protocol: its document, and the scope paper where it reads it. An i8 and a uuid are read as in the
-- compact protocol. Assumes nothing: these are definitions.
use Rattle.std.specs.Prelude.{ℕ, ◌/◌, ◌%◌, Bool, cond, List, eqb, leb, ltb, ℤ}
use Rattle.std.specs.Int.{w16, w32, w64}
use Rattle.std.proofs.Common.{to_z}
use Rattle.types.specs.Refusals.{BAD_VERSION, BAD_BOOL, SIZE_LIMIT, NEGATIVE_SIZE, BAD_UTF8}
use Rattle.types.specs.Codes.{message_by_number}
use Rattle.types.specs.declared.TType.{TType}
use Rattle.types.specs.declared.TMessageType.{TMessageType}
use Rattle.types.specs.declared.TConfiguration.{TConfiguration}
use Rattle.big_endian.specs.Big.{big}
use Rattle.utf8.specs.Utf8.{utf8}
use Rattle.heads.specs.Reader.{Reader, done, and_then, provided, byte, some}
use Rattle.heads.specs.Heads.{typed, counted, listed, Field, stop, value, Message, message_typed}
use Rattle.binary_codes.specs.Codes.{by_binary_code}

-- "integers are encoded with the most significant byte first": the number of the next k bytes
unfoldable pub number : ℕ → Reader ℕ
number k = and_then (some k) (λ bs. done (big bs))

-- "an int16 2, an int32 4 and an int64 needs 8 bytes"
unfoldable pub int16 : Reader ℤ
int16 = and_then (number 2) (λ n. done (to_z w16 n))

unfoldable pub int32 : Reader ℤ
int32 = and_then (number 4) (λ n. done (to_z w32 n))

unfoldable pub int64 : Reader ℤ
int64 = and_then (number 8) (λ n. done (to_z w64 n))

-- "Values of type double are first converted to an int64 according to the IEEE 754 .. bit layout": any bits kept
unfoldable pub double : Reader ℕ
double = number 8

-- "Values of bool type are first converted to an int8. True is converted to 1, false to 0"; "a bool byte over 1 is" BAD BOOL
unfoldable pub truth : Reader Bool
truth = and_then byte (λ b. provided (ltb b 2) BAD_BOOL (done (eqb b 1)))

-- the bytes of a length: "must be >= 0", which is NEGATIVE SIZE, and within its limit
unfoldable pub sized : TConfiguration → ℕ → Reader (List ℕ)
sized lim n = provided (leb n 2147483647) NEGATIVE_SIZE (provided (leb n lim.string) SIZE_LIMIT (some n))

-- "byte length is the length of the byte array, a signed 32 bit integer"; "bytes are the bytes of the byte array"
unfoldable pub binary : TConfiguration → Reader (List ℕ)
binary lim = and_then (number 4) (sized lim)

-- "Strings are first encoded to UTF-8, and then send as binary"
unfoldable pub text : TConfiguration → Reader (List ℕ)
text lim = and_then (binary lim) (λ bs. provided (utf8 bs) BAD_UTF8 (done bs))

-- a type by its code, which is a byte
unfoldable pub kind : Reader TType
kind = and_then byte (λ b. typed (by_binary_code b))

-- "tttttttt is the element-type, encoded as an int8; size is the size, encoded as an int32, positive values only"
unfoldable pub items : TConfiguration → Reader (TType × ℕ)
items lim = and_then kind (λ t. and_then (number 4) (listed lim t))

-- the count of a map whose types are read
unfoldable pub paired : TConfiguration → TType → TType → Reader (TType × TType × ℕ)
paired lim k v = and_then (number 4) (λ n. and_then (counted lim n) (λ m. done (k, v, m)))

-- "map ::= key-element-type value-element-type size ( key value )*": the types stand there whatever the count
unfoldable pub pairs : TConfiguration → Reader (TType × TType × ℕ)
pairs lim = and_then kind (λ k. and_then kind (λ v. paired lim k v))

-- "tttttttt the field-type; field id the field-id, a signed 16 bit integer in big endian order"; a stop field is the byte 0 alone
unfoldable pub field : Reader Field
field = and_then byte (λ b. cond (eqb b 0) (done stop) (and_then (typed (by_binary_code b)) (λ t. and_then int16 (λ id. done (value t id)))))

-- behind the name: "seq id is the sequence id, a signed 32 bit integer"
unfoldable pub sequenced : TMessageType → List ℕ → Reader Message
sequenced m name = and_then (number 4) (λ n. done (m, to_z w32 n, name))

-- behind the first four bytes: "name is the method name, a UTF-8 encoded string"
unfoldable pub named : TConfiguration → TMessageType → Reader Message
named lim m = and_then (text lim) (sequenced m)

-- "1vvvvvvv vvvvvvvv unused 00000mmm": "the version, an unsigned 15 bit number fixed to 1"; "unused is an ignored byte"; "mmm is the message type .. The 5 leading
-- bits must be 0"
unfoldable pub message : TConfiguration → Reader Message
message lim = and_then (number 4) (λ n. provided (eqb (n / 65536) 0x8001) BAD_VERSION (and_then (message_typed (message_by_number (n % 256))) (named lim)))
