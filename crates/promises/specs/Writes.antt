-- Every call of the writer by name, with its arguments, and the numbers that it can give. Assumes nothing: these are definitions.
use Rattle.std.specs.Prelude.{ℕ, Bool, true, false, ◌||◌, List, [], ◌∷◌, eqb, ℤ}
use Rattle.types.specs.Refusals.{BAD_TYPE, SIZE_LIMIT, NEGATIVE_SIZE, DEPTH, BAD_UTF8, OUT_OF_TURN, NO_ROOM, BAD_STATE, MESSAGE_SIZE}
use Rattle.types.specs.declared.TType.{TType}
use Rattle.types.specs.declared.TMessageType.{TMessageType}
use Rattle.types.specs.declared.FieldId.{FieldId}
use Rattle.types.specs.declared.SeqNo.{SeqNo}
use Rattle.output.specs.State.{State}
use Rattle.output.specs.Calls.{Call, writes, leaves, message_call, struct_begin_call, struct_end_call, field_call, stop_call, bool_call, i8_call, int_call, double_call, uuid_call, bytes_call, string_call, items_call, pairs_call}
use Rattle.output.specs.declared.AwaitedField.{AwaitedField}
use Rattle.output.specs.declared.AwaitedField.TheVariants as A
use Rattle.rows.specs.Writes.{number_written}

-- `int` is i16, i32 and i64; `items` is list and set
pub data Write : Type 0 where
  message : TMessageType → SeqNo → List ℕ → Write
  begin : Write
  end : Write
  field : TType → FieldId → Write
  stop : Write
  bool : Bool → Write
  i8 : ℤ → Write
  int : ℤ → Write
  double : ℕ → Write
  uuid : List ℕ → Write
  bytes : List ℕ → Write
  string : List ℕ → Write
  items : TType → ℤ → Write
  pairs : TType → TType → ℤ → Write

unfoldable pub call_of : Write → State → Call
call_of (message m z name) st = message_call st m z name
call_of begin st = struct_begin_call st
call_of end st = struct_end_call st
call_of (field t id) st = field_call st t id
call_of stop st = stop_call st
call_of (bool b) st = bool_call st b
call_of (i8 z) st = i8_call st z
call_of (int z) st = int_call st z
call_of (double n) st = double_call st n
call_of (uuid bs) st = uuid_call st bs
call_of (bytes bs) st = bytes_call st bs
call_of (string bs) st = string_call st bs
call_of (items t z) st = items_call st t z
call_of (pairs k v z) st = pairs_call st k v z

-- the paper's number of its answer, 0 where nothing is refused; the state that it hands back; the buffer that it leaves
abbrev pub number : Write → List ℕ → State → ℕ
number c buf st = number_written (writes buf st (call_of c st)).answer

abbrev pub next : Write → List ℕ → State → State
next c buf st = (writes buf st (call_of c st)).state

abbrev pub left : Write → List ℕ → State → List ℕ
left c buf st = leaves buf st (call_of c st)

-- the refusals that it can give
unfoldable pub can_give : Write → List ℕ
can_give (message m z name) = BAD_STATE ∷ OUT_OF_TURN ∷ SIZE_LIMIT ∷ BAD_UTF8 ∷ MESSAGE_SIZE ∷ NO_ROOM ∷ []
can_give begin = BAD_STATE ∷ OUT_OF_TURN ∷ DEPTH ∷ []
can_give end = BAD_STATE ∷ OUT_OF_TURN ∷ []
can_give (field t id) = BAD_STATE ∷ OUT_OF_TURN ∷ BAD_TYPE ∷ MESSAGE_SIZE ∷ NO_ROOM ∷ []
can_give stop = BAD_STATE ∷ OUT_OF_TURN ∷ MESSAGE_SIZE ∷ NO_ROOM ∷ []
can_give (bool b) = BAD_STATE ∷ MESSAGE_SIZE ∷ NO_ROOM ∷ []
can_give (i8 z) = BAD_STATE ∷ OUT_OF_TURN ∷ MESSAGE_SIZE ∷ NO_ROOM ∷ []
can_give (int z) = BAD_STATE ∷ OUT_OF_TURN ∷ MESSAGE_SIZE ∷ NO_ROOM ∷ []
can_give (double n) = BAD_STATE ∷ OUT_OF_TURN ∷ MESSAGE_SIZE ∷ NO_ROOM ∷ []
can_give (uuid bs) = BAD_STATE ∷ OUT_OF_TURN ∷ MESSAGE_SIZE ∷ NO_ROOM ∷ []
can_give (bytes bs) = BAD_STATE ∷ OUT_OF_TURN ∷ SIZE_LIMIT ∷ MESSAGE_SIZE ∷ NO_ROOM ∷ []
can_give (string bs) = BAD_STATE ∷ OUT_OF_TURN ∷ SIZE_LIMIT ∷ BAD_UTF8 ∷ MESSAGE_SIZE ∷ NO_ROOM ∷ []
can_give (items t z) = BAD_STATE ∷ OUT_OF_TURN ∷ BAD_TYPE ∷ NEGATIVE_SIZE ∷ SIZE_LIMIT ∷ MESSAGE_SIZE ∷ NO_ROOM ∷ []
can_give (pairs k v z) = BAD_STATE ∷ OUT_OF_TURN ∷ BAD_TYPE ∷ NEGATIVE_SIZE ∷ SIZE_LIMIT ∷ MESSAGE_SIZE ∷ NO_ROOM ∷ []

abbrev pub one_of : ℕ → List ℕ → Bool
one_of n [] = false
one_of n (m ∷ ms) = eqb n m || one_of n ms

-- "a bool is pending and the call is [not] the bool call ..; or a struct is ended at depth 0"
abbrev pub waits : AwaitedField → Bool
waits A.Nothing = false
waits (A.Field id) = true

unfoldable pub late : Write → State → Bool
late (message m z name) st = waits st.pending.0
late begin st = waits st.pending.0
late end st = waits st.pending.0 || eqb st.depth 0
late (field t id) st = waits st.pending.0
late stop st = waits st.pending.0
late (bool b) st = false
late (i8 z) st = waits st.pending.0
late (int z) st = waits st.pending.0
late (double n) st = waits st.pending.0
late (uuid bs) st = waits st.pending.0
late (bytes bs) st = waits st.pending.0
late (string bs) st = waits st.pending.0
late (items t z) st = waits st.pending.0
late (pairs k v z) st = waits st.pending.0

-- calls one after the other, each from the buffer and the state that the one before left
pub record Kept : Type 0 where
  pub buffer : List ℕ
  pub state : State

unfoldable pub writes_all : List Write → List ℕ → State → Kept
writes_all [] buf st = record { buffer = buf; state = st }
writes_all (c ∷ cs) buf st = writes_all cs (left c buf st) (next c buf st)
