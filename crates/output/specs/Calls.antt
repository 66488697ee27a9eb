-- What each call answers, and what it leaves in the buffer: one definition for all of them, and for each call what can be wrong with it, its bytes
-- and the state behind them. Assumes nothing: these are definitions.
use Rattle.std.specs.Prelude.{ℕ, Bool, cond, List, [], ◌∷◌, length, eqb, leb, ℤ}
use Rattle.std.specs.Int.{w8}
use Rattle.std.proofs.Common.{of_z}
use Rattle.types.specs.Refusals.{DEPTH, OUT_OF_TURN, MESSAGE_SIZE}
use Rattle.types.specs.Codes.{type_code, truth_code}
use Rattle.types.specs.declared.TType.{TType}
use Rattle.types.specs.declared.TMessageType.{TMessageType}
use Rattle.types.specs.declared.FieldId.{FieldId}
use Rattle.types.specs.declared.SeqNo.{SeqNo}
use Rattle.numbers.specs.Fixed.{eight}
use Rattle.numbers.specs.Answers.{wrote_at, put_at}
use Rattle.numbers.specs.declared.Wrote.{Wrote}
use Rattle.numbers.specs.declared.Wrote.TheVariants as W
use Rattle.output.specs.State.{State, unsound, in_turn, left_of, begun_here, moved_to, headed, awaiting, entered, ended}
use Rattle.puts.specs.Bytes.{above, int_bytes, field_bytes, items_bytes, pairs_bytes, string_bytes, message_bytes}
use Rattle.puts.specs.Wrong.{or_else, length_wrong, text_wrong, field_wrong, count_wrong}
use Rattle.output.specs.declared.AwaitedField.{AwaitedField}
use Rattle.output.specs.declared.AwaitedField.TheVariants as A
use Rattle.output.specs.declared.WriteAnswer.TheVariants as WA
use Rattle.output.specs.declared.Written.{Written}

-- a call: the refusal that a sound state gives it (0 is none), the bytes it writes, and the state behind them, its place apart
pub data Call : Type 0 where
  call : ℕ → List ℕ → State → Call

-- "A refusal returns its number and the state as given"
abbrev pub refused_by : State → ℕ → Written
refused_by st why = record { answer = WA.Refused why; state = st }

abbrev pub written : State → Written
written st = record { answer = WA.Written; state = st }

-- refused for want of room, or at the place behind the bytes
unfoldable pub settled : State → State → Wrote → Written
settled st next (W.To p) = written (moved_to next p)
settled st next (W.Refused why) = refused_by st why

-- "refuses 19, before NO ROOM, when its call would pass the ceiling": n bytes more than it leaves the message that the state is in
unfoldable pub size_wrong : State → ℕ → ℕ
size_wrong st n = cond (leb n (left_of st)) 0 MESSAGE_SIZE

-- "Order: 15; 12; what the arguments show; 19; 14". The ceiling is counted as the state behind the call has it
unfoldable pub why_not : List ℕ → State → Call → ℕ
why_not buf st (call wrong bs next) = or_else (unsound (length buf) st) (or_else wrong (size_wrong next (length bs)))

unfoldable pub writes : List ℕ → State → Call → Written
writes buf st (call wrong bs next) =
    cond (eqb (why_not buf st (call wrong bs next)) 0)
    (settled st next (wrote_at buf st.place.0 bs))
    (refused_by st (why_not buf st (call wrong bs next)))

-- "lent buffers keep their bytes" on a refusal; else the bytes stand at the state's place
unfoldable pub leaves : List ℕ → State → Call → List ℕ
leaves buf st (call wrong bs next) =
    cond (eqb (why_not buf st (call wrong bs next)) 0) (put_at buf st.place.0 bs) buf

-- "a struct is begun .. at the depth limit"
unfoldable pub begin_wrong : State → ℕ
begin_wrong st = cond (leb st.limits.depth st.depth) DEPTH 0

-- "a struct is ended at depth 0"
unfoldable pub end_wrong : State → ℕ
end_wrong st = cond (eqb st.depth 0) OUT_OF_TURN 0

-- "writing it doesn't" set the last field id
abbrev pub message_call : State → TMessageType → SeqNo → List ℕ → Call
message_call st m z name = call (in_turn st (text_wrong st.limits name)) (message_bytes m z.0 name) (begun_here st)

abbrev pub struct_begin_call : State → Call
struct_begin_call st = call (in_turn st (begin_wrong st)) [] (entered st)

abbrev pub struct_end_call : State → Call
struct_end_call st = call (in_turn st (end_wrong st)) [] (ended st)

-- a bool field (Bool has the code 1) is only noted; of any other the header is written
unfoldable pub field_call : State → TType → FieldId → Call
field_call st t id =
    call (in_turn st (field_wrong t))
    (cond (eqb (type_code t) 1) [] (field_bytes st.last.0 id.0 (type_code t)))
    (cond (eqb (type_code t) 1) (awaiting st id) (headed st id))

-- the struct's end is the byte 0
abbrev pub stop_call : State → Call
stop_call st = call (in_turn st 0) (0 ∷ []) st

-- the header of the field that is pending, or an element: "true as 1 and false as 2"
abbrev pub truth_call : State → Bool → AwaitedField → Call
truth_call st b A.Nothing = call 0 (truth_code b ∷ []) st
truth_call st b (A.Field id) = call 0 (field_bytes st.last.0 id.0 (truth_code b)) (headed st id)

unfoldable pub bool_call : State → Bool → Call
bool_call st b = truth_call st b st.pending.0

-- "Values of type i8 are encoded as one byte"
abbrev pub i8_call : State → ℤ → Call
i8_call st z = call (in_turn st 0) (of_z w8 z ∷ []) st

abbrev pub int_call : State → ℤ → Call
int_call st z = call (in_turn st 0) (int_bytes z) st

-- "Double: 8 bytes, little-endian"
abbrev pub double_call : State → ℕ → Call
double_call st bits = call (in_turn st 0) (eight bits) st

-- "Uuid: 16 bytes"
abbrev pub uuid_call : State → List ℕ → Call
uuid_call st bs = call (in_turn st 0) bs st

abbrev pub bytes_call : State → List ℕ → Call
bytes_call st bs = call (in_turn st (length_wrong st.limits bs)) (string_bytes bs) st

abbrev pub string_call : State → List ℕ → Call
string_call st bs = call (in_turn st (text_wrong st.limits bs)) (string_bytes bs) st

abbrev pub items_call : State → TType → ℤ → Call
items_call st t z = call (in_turn st (count_wrong st.limits t t z)) (items_bytes t (above z)) st

abbrev pub pairs_call : State → TType → TType → ℤ → Call
pairs_call st k v z = call (in_turn st (count_wrong st.limits k v z)) (pairs_bytes k v (above z)) st
