-- The laws, for each call. Assumes nothing.
use mathlib.Core.Path.{◌≡◌, refl}
use mathlib.Core.List.{List}
use mathlib.Core.Bool.{Bool}
use Prim.Native.Nat.{ℕ, ◌≤◌}
use native.Mathlib.Omega.{arith}
use lib.IntN.{ℤ}
use Rattle.types.specs.declared.TType.{TType}
use Rattle.heads.specs.Heads.{int8, int16, int32, int64, double, uuid, binary, text, items_head, pairs_head, Field, stop, bool, value, field, Message, message}
use Rattle.heads.proofs.Ahead.{items_head_fair, pairs_head_fair}
use Rattle.heads.proofs.Readers.{int8_lawful, int16_lawful, int32_lawful, int64_lawful, double_lawful, uuid_lawful, binary_lawful, text_lawful, field_lawful, message_lawful}
use Rattle.input.specs.State.{State, cut_of}
use Rattle.input.specs.Outcome.{Said, says, refuses, calls_to, calls, cut_here, stays, bools, begins, ends, anew, on_field}
use Rattle.input.specs.Answers.{as_bool, as_i8, as_i16, as_i32, as_i64, as_double, as_part, as_list, as_map, as_field, as_message, as_done, to_bool, to_i8, to_i16, to_i32, to_i64, to_double, to_part, to_list, to_map, to_field, to_message, to_done, number_bool, number_i8, number_i16, number_i32, number_i64, number_double, number_part, number_list, number_map, number_field, number_message, number_done}
use Rattle.input.specs.Calls.{read_bool, read_i8, read_i16, read_i32, read_i64, read_double, read_uuid, read_bytes, read_string, read_list, read_set, read_map, read_field, read_message, struct_begin, struct_end}
use Rattle.input.proofs.Refusals.{int8_told, int16_told, int32_told, int64_told, double_told, uuid_told, binary_told, text_told, items_head_told, pairs_head_told, field_told, message_told_lem}
use Rattle.input.proofs.Laws.{CallLaws, any, no_shorter, Way, Keeps, stays_keeps, number_of, laws, reads, heads, busy, never, busy_or_out, bool_ways, begin_ways, end_ways}

-- each answer's number is that of what was said
pub num_bool : (x : Said Bool) → number_bool (to_bool x) ≡ number_of x
num_bool (says a) = refl
num_bool (refuses why) = refl

pub num_i8 : (x : Said ℤ) → number_i8 (to_i8 x) ≡ number_of x
num_i8 (says a) = refl
num_i8 (refuses why) = refl

pub num_i16 : (x : Said ℤ) → number_i16 (to_i16 x) ≡ number_of x
num_i16 (says a) = refl
num_i16 (refuses why) = refl

pub num_i32 : (x : Said ℤ) → number_i32 (to_i32 x) ≡ number_of x
num_i32 (says a) = refl
num_i32 (refuses why) = refl

pub num_i64 : (x : Said ℤ) → number_i64 (to_i64 x) ≡ number_of x
num_i64 (says a) = refl
num_i64 (refuses why) = refl

pub num_double : (x : Said ℕ) → number_double (to_double x) ≡ number_of x
num_double (says a) = refl
num_double (refuses why) = refl

pub num_part : (e : ℕ) (x : Said (List ℕ)) → number_part (to_part e x) ≡ number_of x
num_part e (says a) = refl
num_part e (refuses why) = refl

pub num_list : (x : Said (TType × ℕ)) → number_list (to_list x) ≡ number_of x
num_list (says a) = refl
num_list (refuses why) = refl

pub num_map : (x : Said (TType × TType × ℕ)) → number_map (to_map x) ≡ number_of x
num_map (says a) = refl
num_map (refuses why) = refl

pub num_field : (x : Said Field) → number_field (to_field x) ≡ number_of x
num_field (says stop) = refl
num_field (says (bool b id)) = refl
num_field (says (value t id)) = refl
num_field (refuses why) = refl

pub num_message : (e : ℕ) (x : Said Message) → number_message (to_message e x) ≡ number_of x
num_message e (says a) = refl
num_message e (refuses why) = refl

pub num_done : (x : Said (Unit {0})) → number_done (to_done x) ≡ number_of x
num_done (says a) = refl
num_done (refuses why) = refl

-- the moves of a message's and of a field's header
anew_keeps : Keeps cut_here anew
anew_keeps = record { limits = λ st m. refl; depth = λ st m. refl; begins = λ st m h. omega arith; cuts = λ st m. refl; room = λ st h. omega arith }

field_limits : (st : State) (f : Field) → (on_field st f).limits ≡ st.limits
field_limits st stop = refl
field_limits st (bool b id) = refl
field_limits st (value t id) = refl

field_depth : (st : State) (f : Field) → (on_field st f).depth ≡ st.depth
field_depth st stop = refl
field_depth st (bool b id) = refl
field_depth st (value t id) = refl

field_begins : (st : State) (f : Field) → st.begin.0 ≤ st.place.0 → (on_field st f).begin.0 ≤ st.place.0
field_begins st stop h = h
field_begins st (bool b id) h = h
field_begins st (value t id) h = h

field_cuts : (st : State) (f : Field) → cut_of (on_field st f) ≡ cut_of st
field_cuts st stop = refl
field_cuts st (bool b id) = refl
field_cuts st (value t id) = refl

on_field_keeps : Keeps cut_of on_field
on_field_keeps = record { limits = field_limits; depth = field_depth; begins = field_begins; cuts = field_cuts; room = λ st h. h }

-- which ways each call may go
pub int8_ways : (s : List ℕ) (st : State) → Way any (calls (λ st. int8) stays) busy s st
int8_ways = reads cut_of (λ st. int8) stays stays_keeps (λ st. int8_lawful) (λ st. int8_told)

pub int16_ways : (s : List ℕ) (st : State) → Way any (calls (λ st. int16) stays) busy s st
int16_ways = reads cut_of (λ st. int16) stays stays_keeps (λ st. int16_lawful) (λ st. int16_told)

pub int32_ways : (s : List ℕ) (st : State) → Way any (calls (λ st. int32) stays) busy s st
int32_ways = reads cut_of (λ st. int32) stays stays_keeps (λ st. int32_lawful) (λ st. int32_told)

pub int64_ways : (s : List ℕ) (st : State) → Way any (calls (λ st. int64) stays) busy s st
int64_ways = reads cut_of (λ st. int64) stays stays_keeps (λ st. int64_lawful) (λ st. int64_told)

pub double_ways : (s : List ℕ) (st : State) → Way any (calls (λ st. double) stays) busy s st
double_ways = reads cut_of (λ st. double) stays stays_keeps (λ st. double_lawful) (λ st. double_told)

pub uuid_ways : (s : List ℕ) (st : State) → Way any (calls (λ st. uuid) stays) busy s st
uuid_ways = reads cut_of (λ st. uuid) stays stays_keeps (λ st. uuid_lawful) (λ st. uuid_told)

pub binary_ways : (s : List ℕ) (st : State) → Way any (calls (λ st. binary st.limits) stays) busy s st
binary_ways = reads cut_of (λ st. binary st.limits) stays stays_keeps (λ st. binary_lawful st.limits) (λ st. binary_told st.limits)

pub text_ways : (s : List ℕ) (st : State) → Way any (calls (λ st. text st.limits) stays) busy s st
text_ways = reads cut_of (λ st. text st.limits) stays stays_keeps (λ st. text_lawful st.limits) (λ st. text_told st.limits)

pub items_ways : (s : List ℕ) (st : State) → Way no_shorter (calls (λ st. items_head st.limits) stays) busy s st
items_ways = heads (λ st. items_head st.limits) stays stays_keeps (λ st. items_head_fair st.limits) (λ st. items_head_told st.limits)

pub pairs_ways : (s : List ℕ) (st : State) → Way no_shorter (calls (λ st. pairs_head st.limits) stays) busy s st
pairs_ways = heads (λ st. pairs_head st.limits) stays stays_keeps (λ st. pairs_head_fair st.limits) (λ st. pairs_head_told st.limits)

pub message_ways : (s : List ℕ) (st : State) → Way any (calls_to cut_here (λ st. message st.limits) anew) busy s st
message_ways = reads cut_here (λ st. message st.limits) anew anew_keeps (λ st. message_lawful st.limits) (λ st. message_told_lem st.limits)

pub field_ways : (s : List ℕ) (st : State) → Way any (calls (λ st. field st.last.0) on_field) busy s st
field_ways = reads cut_of (λ st. field st.last.0) on_field on_field_keeps (λ st. field_lawful st.last.0) (λ st. field_told st.last.0)

-- The laws.
pub bool_laws : CallLaws any read_bool (λ r. number_bool r.answer) (λ r. r.state) never
unfolding read_bool
bool_laws = laws any bools never bool_ways as_bool _ _ (λ o. num_bool o.said) (λ o. refl)

pub i8_laws : CallLaws any read_i8 (λ r. number_i8 r.answer) (λ r. r.state) busy
unfolding read_i8
i8_laws = laws any (calls (λ st. int8) stays) busy int8_ways as_i8 _ _ (λ o. num_i8 o.said) (λ o. refl)

pub i16_laws : CallLaws any read_i16 (λ r. number_i16 r.answer) (λ r. r.state) busy
unfolding read_i16
i16_laws = laws any (calls (λ st. int16) stays) busy int16_ways as_i16 _ _ (λ o. num_i16 o.said) (λ o. refl)

pub i32_laws : CallLaws any read_i32 (λ r. number_i32 r.answer) (λ r. r.state) busy
unfolding read_i32
i32_laws = laws any (calls (λ st. int32) stays) busy int32_ways as_i32 _ _ (λ o. num_i32 o.said) (λ o. refl)

pub i64_laws : CallLaws any read_i64 (λ r. number_i64 r.answer) (λ r. r.state) busy
unfolding read_i64
i64_laws = laws any (calls (λ st. int64) stays) busy int64_ways as_i64 _ _ (λ o. num_i64 o.said) (λ o. refl)

pub double_laws : CallLaws any read_double (λ r. number_double r.answer) (λ r. r.state) busy
unfolding read_double
double_laws = laws any (calls (λ st. double) stays) busy double_ways as_double _ _ (λ o. num_double o.said) (λ o. refl)

pub uuid_laws : CallLaws any read_uuid (λ r. number_part r.answer) (λ r. r.state) busy
unfolding read_uuid
uuid_laws = laws any (calls (λ st. uuid) stays) busy uuid_ways as_part _ _ (λ o. num_part o.state.place.0 o.said) (λ o. refl)

pub bytes_laws : CallLaws any read_bytes (λ r. number_part r.answer) (λ r. r.state) busy
unfolding read_bytes
bytes_laws = laws any (calls (λ st. binary st.limits) stays) busy binary_ways as_part _ _ (λ o. num_part o.state.place.0 o.said) (λ o. refl)

pub string_laws : CallLaws any read_string (λ r. number_part r.answer) (λ r. r.state) busy
unfolding read_string
string_laws = laws any (calls (λ st. text st.limits) stays) busy text_ways as_part _ _ (λ o. num_part o.state.place.0 o.said) (λ o. refl)

pub list_laws : CallLaws no_shorter read_list (λ r. number_list r.answer) (λ r. r.state) busy
unfolding read_list
list_laws = laws no_shorter (calls (λ st. items_head st.limits) stays) busy items_ways as_list _ _ (λ o. num_list o.said) (λ o. refl)

pub set_laws : CallLaws no_shorter read_set (λ r. number_list r.answer) (λ r. r.state) busy
unfolding read_set
set_laws = laws no_shorter (calls (λ st. items_head st.limits) stays) busy items_ways as_list _ _ (λ o. num_list o.said) (λ o. refl)

pub map_laws : CallLaws no_shorter read_map (λ r. number_map r.answer) (λ r. r.state) busy
unfolding read_map
map_laws = laws no_shorter (calls (λ st. pairs_head st.limits) stays) busy pairs_ways as_map _ _ (λ o. num_map o.said) (λ o. refl)

pub field_laws : CallLaws any read_field (λ r. number_field r.answer) (λ r. r.state) busy
unfolding read_field
field_laws = laws any (calls (λ st. field st.last.0) on_field) busy field_ways as_field _ _ (λ o. num_field o.said) (λ o. refl)

pub message_laws : CallLaws any read_message (λ r. number_message r.answer) (λ r. r.state) busy
unfolding read_message
message_laws = laws any (calls_to cut_here (λ st. message st.limits) anew) busy message_ways as_message _ _ (λ o. num_message o.state.place.0 o.said) (λ o. refl)

pub begin_laws : CallLaws any struct_begin (λ r. number_done r.answer) (λ r. r.state) busy
unfolding struct_begin
begin_laws = laws any begins busy begin_ways as_done _ _ (λ o. num_done o.said) (λ o. refl)

pub end_laws : CallLaws any struct_end (λ r. number_done r.answer) (λ r. r.state) busy_or_out
unfolding struct_end
end_laws = laws any ends busy_or_out end_ways as_done _ _ (λ o. num_done o.said) (λ o. refl)
