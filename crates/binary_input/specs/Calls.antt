-- What each call answers. Assumes nothing: these are definitions.
use Rattle.std.specs.Prelude.{ℕ, List, pos}
use Rattle.types.specs.declared.TType.{TType}
use Rattle.heads.specs.Answers.{place}
use Rattle.input.specs.Answers.{part_of, name_of}
use Rattle.skip.specs.declared.Skipped.{Skipped}
use Rattle.skip.specs.declared.Skipped.TheVariants.{Done, Refused}
use Rattle.protocols.specs.Words.{items_head, pairs_head}
use Rattle.protocols.specs.Answers.{skip_to_by}
use Rattle.binary_heads.specs.Heads.{text}
use Rattle.binary_heads.specs.Words.{binary}
use Rattle.binary_input.specs.State.{State, cut_of, begun_here, moved_to, room_of}
use Rattle.binary_input.specs.declared.ReadBool.{ReadBool}
use Rattle.binary_input.specs.declared.ReadI8.{ReadI8}
use Rattle.binary_input.specs.declared.ReadI16.{ReadI16}
use Rattle.binary_input.specs.declared.ReadI32.{ReadI32}
use Rattle.binary_input.specs.declared.ReadI64.{ReadI64}
use Rattle.binary_input.specs.declared.ReadDouble.{ReadDouble}
use Rattle.binary_input.specs.declared.ReadPart.{ReadPart}
use Rattle.binary_input.specs.declared.ReadList.{ReadList}
use Rattle.binary_input.specs.declared.ReadMap.{ReadMap}
use Rattle.binary_input.specs.declared.ReadField.{ReadField}
use Rattle.binary_input.specs.declared.ReadMessage.{ReadMessage}
use Rattle.binary_input.specs.declared.ReadDone.{ReadDone}
use Rattle.binary_input.specs.Outcome.{Outcome, answers, declines, guarded, calls_to, calls, cut_here, begins, ends}
use Rattle.binary_input.specs.Answers.{as_bool, as_i8, as_i16, as_i32, as_i64, as_double, as_part, as_list, as_map, as_field, as_message, as_done}

unfoldable pub read_bool : List ℕ → State → ReadBool
read_bool s st = as_bool (calls (λ st. binary.truth) s st)

unfoldable pub read_i8 : List ℕ → State → ReadI8
read_i8 s st = as_i8 (calls (λ st. binary.int8) s st)

unfoldable pub read_i16 : List ℕ → State → ReadI16
read_i16 s st = as_i16 (calls (λ st. binary.int16) s st)

unfoldable pub read_i32 : List ℕ → State → ReadI32
read_i32 s st = as_i32 (calls (λ st. binary.int32) s st)

unfoldable pub read_i64 : List ℕ → State → ReadI64
read_i64 s st = as_i64 (calls (λ st. binary.int64) s st)

unfoldable pub read_double : List ℕ → State → ReadDouble
read_double s st = as_double (calls (λ st. binary.double) s st)

unfoldable pub read_uuid : List ℕ → State → ReadPart
read_uuid s st = as_part (calls (λ st. binary.uuid) s st)

unfoldable pub read_bytes : List ℕ → State → ReadPart
read_bytes s st = as_part (calls (λ st. binary.binary st.limits) s st)

unfoldable pub read_string : List ℕ → State → ReadPart
read_string s st = as_part (calls (λ st. text st.limits) s st)

unfoldable pub read_list : List ℕ → State → ReadList
read_list s st = as_list (calls (λ st. items_head binary st.limits) s st)

-- "List, set": one header
unfoldable pub read_set : List ℕ → State → ReadList
read_set s st = as_list (calls (λ st. items_head binary st.limits) s st)

unfoldable pub read_map : List ℕ → State → ReadMap
read_map s st = as_map (calls (λ st. pairs_head binary st.limits) s st)

-- no id but the field's own has a say
unfoldable pub read_field : List ℕ → State → ReadField
read_field s st = as_field (calls (λ st. binary.field (pos 0)) s st)

-- the message began where it was read
unfoldable pub read_message : List ℕ → State → ReadMessage
read_message s st = as_message (calls_to cut_here (λ st. binary.message st.limits) begun_here s st)

unfoldable pub struct_begin : List ℕ → State → ReadDone
struct_begin s st = as_done (begins s st)

unfoldable pub struct_end : List ℕ → State → ReadDone
struct_end s st = as_done (ends s st)

-- the parts: "a second call, with the same arguments, hands out that part of the lent input, empty on refusal"
unfoldable pub bytes_part : List ℕ → State → List ℕ
bytes_part s st = part_of s (read_bytes s st).answer

unfoldable pub string_part : List ℕ → State → List ℕ
string_part s st = part_of s (read_string s st).answer

unfoldable pub uuid_part : List ℕ → State → List ℕ
uuid_part s st = part_of s (read_uuid s st).answer

unfoldable pub name_part : List ℕ → State → List ℕ
name_part s st = name_of s (read_message s st).answer

-- the state behind what was passed over; a refusal hands it back as given
abbrev pub over : State → Skipped → Outcome (Unit {0})
over st (Done e) = answers tt (moved_to st e)
over st (Refused why) = declines why st

-- skip: "any other skip leaves ids and depth as they were"
unfoldable pub skip_call : List ℕ → State → TType → ReadDone
skip_call s st kind = as_done (guarded s st (over st (skip_to_by binary s (cut_of st) st.limits (room_of st) kind st.place.0)))

-- the call's answer where the value ended at e
abbrev pub skipped_to : State → ℕ → ReadDone
skipped_to st e = as_done (answers tt (moved_to st (place e)))
