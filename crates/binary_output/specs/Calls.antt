-- What each call answers, and what it leaves in the buffer: one definition for all of them, and for each call what can be wrong with it, its bytes
-- and the state behind them. Assumes nothing: these are definitions.
use Rattle.std.specs.Prelude.{ℕ, Bool, cond, List, [], ◌∷◌, length, eqb, leb, ℤ}
use Rattle.std.specs.Int.{w8}
use Rattle.std.proofs.Common.{of_z}
use Rattle.types.specs.Refusals.{DEPTH, OUT_OF_TURN, MESSAGE_SIZE}
use Rattle.types.specs.declared.TType.{TType}
use Rattle.types.specs.declared.TMessageType.{TMessageType}
use Rattle.types.specs.declared.FieldId.{FieldId}
use Rattle.types.specs.declared.SeqNo.{SeqNo}
use Rattle.numbers.specs.Answers.{wrote_at, put_at}
use Rattle.numbers.specs.declared.Wrote.{Wrote}
use Rattle.numbers.specs.declared.Wrote.TheVariants as W
use Rattle.puts.specs.Bytes.{above}
use Rattle.puts.specs.Wrong.{or_else, length_wrong, text_wrong, field_wrong, count_wrong}
use Rattle.output.specs.declared.WriteAnswer.TheVariants as WA
use Rattle.big_endian.specs.Big.{big8}
use Rattle.binary_puts.specs.Bytes.{int16_bytes, int32_bytes, int64_bytes, truth_byte, field_bytes, items_bytes, pairs_bytes, string_bytes, message_bytes}
use Rattle.binary_output.specs.State.{State, unsound, left_of, begun_here, moved_to, entered, ended}
use Rattle.binary_output.specs.declared.BinaryWritten.{BinaryWritten}

-- a call: the refusal that a sound state gives it (0 is none), the bytes it writes, and the state behind them, its place apart
pub data Call : Type 0 where
  call : ℕ → List ℕ → State → Call

-- "A refusal returns its number and the state as given"
abbrev pub refused_by : State → ℕ → BinaryWritten
refused_by st why = record { answer = WA.Refused why; state = st }

abbrev pub written : State → BinaryWritten
written st = record { answer = WA.Written; state = st }

-- refused for want of room, or at the place behind the bytes
unfoldable pub settled : State → State → Wrote → BinaryWritten
settled st next (W.To p) = written (moved_to next p)
settled st next (W.Refused why) = refused_by st why

-- "refuses 19, before NO ROOM, when its call would pass the ceiling": n bytes more than it leaves the message that the state is in
unfoldable pub size_wrong : State → ℕ → ℕ
size_wrong st n = cond (leb n (left_of st)) 0 MESSAGE_SIZE

-- "Order: 15; 12; what the arguments show; 19; 14". The ceiling is counted as the state behind the call has it
unfoldable pub why_not : List ℕ → State → Call → ℕ
why_not buf st (call wrong bs next) = or_else (unsound (length buf) st) (or_else wrong (size_wrong next (length bs)))

unfoldable pub writes : List ℕ → State → Call → BinaryWritten
writes buf st (call wrong bs next) =
    cond (eqb (why_not buf st (call wrong bs next)) 0)
    (settled st next (wrote_at buf st.place.0 bs))
    (refused_by st (why_not buf st (call wrong bs next)))

-- "lent buffers keep their bytes" on a refusal; else the bytes stand at the state's place
unfoldable pub leaves : List ℕ → State → Call → List ℕ
leaves buf st (call wrong bs next) =
    cond (eqb (why_not buf st (call wrong bs next)) 0) (put_at buf st.place.0 bs) buf

-- "a struct is begun .. at the depth limit"
unfoldable pub begin_wrong : State → ℕ
begin_wrong st = cond (leb st.limits.depth st.depth) DEPTH 0

-- "12 is only a struct ended at depth 0"
unfoldable pub end_wrong : State → ℕ
end_wrong st = cond (eqb st.depth 0) OUT_OF_TURN 0

abbrev pub message_call : State → TMessageType → SeqNo → List ℕ → Call
message_call st m z name = call (text_wrong st.limits name) (message_bytes m z.0 name) (begun_here st)

abbrev pub struct_begin_call : State → Call
struct_begin_call st = call (begin_wrong st) [] (entered st)

abbrev pub struct_end_call : State → Call
struct_end_call st = call (end_wrong st) [] (ended st)

abbrev pub field_call : State → TType → FieldId → Call
field_call st t id = call (field_wrong t) (field_bytes t id.0) st

-- the stop field is the byte 0
abbrev pub stop_call : State → Call
stop_call st = call 0 (0 ∷ []) st

-- a bool is a byte, in a field as in a container
abbrev pub bool_call : State → Bool → Call
bool_call st b = call 0 (truth_byte b ∷ []) st

abbrev pub i8_call : State → ℤ → Call
i8_call st z = call 0 (of_z w8 z ∷ []) st

abbrev pub i16_call : State → ℤ → Call
i16_call st z = call 0 (int16_bytes z) st

abbrev pub i32_call : State → ℤ → Call
i32_call st z = call 0 (int32_bytes z) st

abbrev pub i64_call : State → ℤ → Call
i64_call st z = call 0 (int64_bytes z) st

-- "encode the int64 in 8 bytes in big endian order", any bits kept
abbrev pub double_call : State → ℕ → Call
double_call st bits = call 0 (big8 bits) st

-- "16-byte binary in big endian (or "network") order": "no `byte length` prefix is necessary"
abbrev pub uuid_call : State → List ℕ → Call
uuid_call st bs = call 0 bs st

abbrev pub bytes_call : State → List ℕ → Call
bytes_call st bs = call (length_wrong st.limits bs) (string_bytes bs) st

abbrev pub string_call : State → List ℕ → Call
string_call st bs = call (text_wrong st.limits bs) (string_bytes bs) st

abbrev pub items_call : State → TType → ℤ → Call
items_call st t z = call (count_wrong st.limits t t z) (items_bytes t (above z)) st

abbrev pub pairs_call : State → TType → TType → ℤ → Call
pairs_call st k v z = call (count_wrong st.limits k v z) (pairs_bytes k v (above z)) st
