-- What each call answers. Assumes nothing: these are definitions.
use Rattle.std.specs.Prelude.{ℕ, List}
use Rattle.heads.specs.Heads.{int8, int16, int32, int64, double, uuid, binary, text, items_head, pairs_head, field, message}
use Rattle.input.specs.State.{State}
use Rattle.input.specs.declared.ReadBool.{ReadBool}
use Rattle.input.specs.declared.ReadI8.{ReadI8}
use Rattle.input.specs.declared.ReadI16.{ReadI16}
use Rattle.input.specs.declared.ReadI32.{ReadI32}
use Rattle.input.specs.declared.ReadI64.{ReadI64}
use Rattle.input.specs.declared.ReadDouble.{ReadDouble}
use Rattle.input.specs.declared.ReadPart.{ReadPart}
use Rattle.input.specs.declared.ReadList.{ReadList}
use Rattle.input.specs.declared.ReadMap.{ReadMap}
use Rattle.input.specs.declared.ReadField.{ReadField}
use Rattle.input.specs.declared.ReadMessage.{ReadMessage}
use Rattle.input.specs.declared.ReadDone.{ReadDone}
use Rattle.input.specs.Outcome.{calls_to, calls, cut_here, stays, element, bools, begins, ends, anew, on_field}
use Rattle.input.specs.Answers.{as_bool, as_i8, as_i16, as_i32, as_i64, as_double, as_part, as_list, as_map, as_field, as_message, as_done, part_of, name_of}

unfoldable pub read_bool : List ℕ → State → ReadBool
read_bool s st = as_bool (bools s st)

unfoldable pub element_bool : List ℕ → State → ReadBool
element_bool s st = as_bool (element s st)

unfoldable pub read_i8 : List ℕ → State → ReadI8
read_i8 s st = as_i8 (calls (λ st. int8) stays s st)

unfoldable pub read_i16 : List ℕ → State → ReadI16
read_i16 s st = as_i16 (calls (λ st. int16) stays s st)

unfoldable pub read_i32 : List ℕ → State → ReadI32
read_i32 s st = as_i32 (calls (λ st. int32) stays s st)

unfoldable pub read_i64 : List ℕ → State → ReadI64
read_i64 s st = as_i64 (calls (λ st. int64) stays s st)

unfoldable pub read_double : List ℕ → State → ReadDouble
read_double s st = as_double (calls (λ st. double) stays s st)

unfoldable pub read_uuid : List ℕ → State → ReadPart
read_uuid s st = as_part (calls (λ st. uuid) stays s st)

unfoldable pub read_bytes : List ℕ → State → ReadPart
read_bytes s st = as_part (calls (λ st. binary st.limits) stays s st)

unfoldable pub read_string : List ℕ → State → ReadPart
read_string s st = as_part (calls (λ st. text st.limits) stays s st)

unfoldable pub read_list : List ℕ → State → ReadList
read_list s st = as_list (calls (λ st. items_head st.limits) stays s st)

-- "List, set": one header
unfoldable pub read_set : List ℕ → State → ReadList
read_set s st = as_list (calls (λ st. items_head st.limits) stays s st)

unfoldable pub read_map : List ℕ → State → ReadMap
read_map s st = as_map (calls (λ st. pairs_head st.limits) stays s st)

unfoldable pub read_field : List ℕ → State → ReadField
read_field s st = as_field (calls (λ st. field st.last.0) on_field s st)

unfoldable pub read_message : List ℕ → State → ReadMessage
read_message s st = as_message (calls_to cut_here (λ st. message st.limits) anew s st)

unfoldable pub struct_begin : List ℕ → State → ReadDone
struct_begin s st = as_done (begins s st)

unfoldable pub struct_end : List ℕ → State → ReadDone
struct_end s st = as_done (ends s st)

unfoldable pub bytes_part : List ℕ → State → List ℕ
bytes_part s st = part_of s (read_bytes s st).answer

unfoldable pub string_part : List ℕ → State → List ℕ
string_part s st = part_of s (read_string s st).answer

unfoldable pub uuid_part : List ℕ → State → List ℕ
uuid_part s st = part_of s (read_uuid s st).answer

unfoldable pub name_part : List ℕ → State → List ℕ
name_part s st = name_of s (read_message s st).answer
