-- The scalars and headers, in the words of tracked reading: crates/heads/specs/Heads.antt, word for word. Assumes nothing: these are definitions.
use Rattle.std.specs.Prelude.{ℕ, zero, suc, ◌+◌, ◌*◌, ◌/◌, ◌%◌, ◌^◌, Bool, cond, List, eqb, leb, ltb, ℤ, pos, ◌+ℤ◌}
use Rattle.std.specs.Int.Signed.{lt_z}
use Rattle.std.specs.Int.{w8, w32}
use Rattle.std.proofs.Common.{to_z}
use Rattle.types.specs.Refusals.{BAD_VERSION, BAD_BOOL, LONG_VARINT, FIELD_ID, SIZE_LIMIT, NEGATIVE_SIZE, BAD_UTF8, RANGE}
use Rattle.types.specs.Codes.{element_type, field_type, message_by_number}
use Rattle.types.specs.declared.TType.{TType}
use Rattle.types.specs.declared.TType.TheVariants as T
use Rattle.types.specs.declared.TypeRead.{TypeRead}
use Rattle.types.specs.declared.TypeRead.TheVariants as R
use Rattle.types.specs.declared.FieldType.{FieldType}
use Rattle.types.specs.declared.FieldType.TheVariants as F
use Rattle.types.specs.declared.TMessageType.{TMessageType}
use Rattle.types.specs.declared.MessageTypeRead.{MessageTypeRead}
use Rattle.types.specs.declared.MessageTypeRead.TheVariants as MR
use Rattle.types.specs.declared.TConfiguration.{TConfiguration}
use Rattle.zigzag.specs.Zigzag.{unzigzag, in_range16}
use Rattle.numbers.specs.Fixed.{little}
use Rattle.utf8.specs.Utf8.{utf8}
use Rattle.heads.specs.Heads.{least_size, Field, stop, bool, value, Message}
use Rattle.faults.specs.Tracked.{Tracked, done, refuse, and_then, provided, byte, some, backed}

-- a varint of at most k bytes
unfoldable pub groups : ℕ → Tracked ℕ
groups zero = refuse LONG_VARINT
groups (suc k) = and_then byte (λ b. cond (ltb b 128) (done b) (and_then (groups k) (λ v. done (b % 128 + 128 * v))))

unfoldable pub varint : ℕ → ℕ → Tracked ℕ
varint w k = and_then (groups k) (λ v. done (v % 2 ^ w))

unfoldable pub number32 : Tracked ℕ
number32 = varint 32 5

unfoldable pub number64 : Tracked ℕ
number64 = varint 64 10

unfoldable pub int8 : Tracked ℤ
int8 = and_then byte (λ b. done (to_z w8 b))

unfoldable pub int32 : Tracked ℤ
int32 = and_then number32 (λ n. done (unzigzag n))

unfoldable pub int64 : Tracked ℤ
int64 = and_then number64 (λ n. done (unzigzag n))

unfoldable pub int16 : Tracked ℤ
int16 = and_then int32 (λ z. provided (in_range16 z) RANGE (done z))

unfoldable pub double : Tracked ℕ
double = and_then (some 8) (λ bs. done (little bs))

unfoldable pub uuid : Tracked (List ℕ)
uuid = some 16

unfoldable pub truth : Tracked Bool
truth = and_then byte (λ b. provided (ltb b 3) BAD_BOOL (done (eqb b 1)))

unfoldable pub binary : TConfiguration → Tracked (List ℕ)
binary lim = and_then number32 (λ n. provided (leb n lim.string) SIZE_LIMIT (some n))

unfoldable pub text : TConfiguration → Tracked (List ℕ)
text lim = and_then (binary lim) (λ bs. provided (utf8 bs) BAD_UTF8 (done bs))

abbrev pub typed : TypeRead → Tracked TType
typed (R.Got t) = done t
typed (R.Refused why) = refuse why

unfoldable pub counted : TConfiguration → ℕ → Tracked ℕ
counted lim n = provided (leb n 2147483647) NEGATIVE_SIZE (provided (leb n lim.container) SIZE_LIMIT (done n))

unfoldable pub listed : TConfiguration → TType → ℕ → Tracked (TType × ℕ)
listed lim t n = and_then (counted lim n) (λ m. done (t, m))

unfoldable pub items : TConfiguration → Tracked (TType × ℕ)
items lim =
    and_then byte
    (λ b. and_then (typed (element_type (b % 16)))
    (λ t. and_then (cond (ltb (b / 16) 15) (done (b / 16)) number32) (listed lim t)))

unfoldable pub mapped : TConfiguration → ℕ → Tracked (TType × TType × ℕ)
mapped lim n =
    and_then byte
    (λ b. and_then (typed (element_type (b / 16)))
    (λ k. and_then (typed (element_type (b % 16)))
    (λ v. and_then (counted lim n) (λ m. done (k, v, m)))))

unfoldable pub pairs : TConfiguration → Tracked (TType × TType × ℕ)
pairs lim = and_then number32 (λ n. cond (eqb n 0) (done (T.Stop, T.Stop, 0)) (mapped lim n))

unfoldable pub items_head : TConfiguration → Tracked (TType × ℕ)
items_head lim = backed (λ h. h.1 * least_size h.0) (items lim)

unfoldable pub pairs_head : TConfiguration → Tracked (TType × TType × ℕ)
pairs_head lim = backed (λ h. h.2 * least_size h.0 + h.2 * least_size h.1) (pairs lim)

unfoldable pub field_id : ℤ → ℕ → Tracked ℤ
field_id last delta =
    cond (eqb delta 0) int16 (cond (lt_z (pos 32767) (last +ℤ pos delta)) (refuse FIELD_ID) (done (last +ℤ pos delta)))

abbrev pub of_type : ℤ → ℕ → FieldType → Tracked Field
of_type last delta F.Stop = done stop
of_type last delta (F.Truth b) = and_then (field_id last delta) (λ id. done (bool b id))
of_type last delta (F.Kind t) = and_then (field_id last delta) (λ id. done (value t id))
of_type last delta (F.Refused why) = refuse why

unfoldable pub field : ℤ → Tracked Field
field last = and_then byte (λ b. of_type last (b / 16) (field_type (b % 16)))

abbrev pub message_typed : MessageTypeRead → Tracked TMessageType
message_typed (MR.Got m) = done m
message_typed (MR.Refused why) = refuse why

unfoldable pub named : TConfiguration → TMessageType → Tracked Message
named lim m = and_then number32 (λ n. and_then (text lim) (λ name. done (m, to_z w32 n, name)))

unfoldable pub versioned : TConfiguration → Tracked Message
versioned lim =
    and_then byte
    (λ b. provided (eqb (b % 32) 1) BAD_VERSION (and_then (message_typed (message_by_number (b / 32))) (named lim)))

unfoldable pub message : TConfiguration → Tracked Message
message lim = and_then byte (λ b. provided (eqb b 0x82) BAD_VERSION (versioned lim))
