use borrow.Author.Rules.{rules}
use Rattle.picker.proofs.Passing.{struct_cases}
use Rattle.picker.proofs.note_struct.Goals as goal

pub loop-b-init : goal.loop-b-init
loop-b-init c = (search (rules, struct_cases), search (rules, struct_cases))

pub pass_unwanted-run-requires : goal.pass_unwanted-run-requires
pass_unwanted-run-requires c = search (rules, struct_cases)

pub read_field_begin-requires : goal.read_field_begin-requires
read_field_begin-requires c = search (rules, struct_cases)

pub enum_told-1 : goal.enum_told-1
enum_told-1 c = search (rules, struct_cases)

pub shape_of-rows-in-Stop : goal.shape_of-rows-in-Stop
shape_of-rows-in-Stop c = search (rules, struct_cases)

pub returns-in-Stop : goal.returns-in-Stop
returns-in-Stop c = search (rules, struct_cases)

pub enum_told-in-Refused : goal.enum_told-in-Refused
enum_told-in-Refused c = search (rules, struct_cases)

pub shape_of-rows-in-Refused : goal.shape_of-rows-in-Refused
shape_of-rows-in-Refused c = search (rules, struct_cases)

pub returns-in-Refused : goal.returns-in-Refused
returns-in-Refused c = search (rules, struct_cases)

pub enum_known-b : goal.enum_known-b
enum_known-b c = search (rules, struct_cases)

pub truth_kind-requires : goal.truth_kind-requires
truth_kind-requires c = search (rules, struct_cases)

pub note_field-requires : goal.note_field-requires
note_field-requires c = search (rules, struct_cases)

pub loop-b-smaller-in-Bool : goal.loop-b-smaller-in-Bool
loop-b-smaller-in-Bool c = search (rules, struct_cases)

pub loop-b-preserved-in-Bool : goal.loop-b-preserved-in-Bool
loop-b-preserved-in-Bool c = (search (rules, struct_cases), search (rules, struct_cases))

pub enum_known-kind : goal.enum_known-kind
enum_known-kind c = search (rules, struct_cases)

pub skip_value-requires : goal.skip_value-requires
skip_value-requires c = search (rules, struct_cases)

pub enum_told-in-Refused-skip_value : goal.enum_told-in-Refused-skip_value
enum_told-in-Refused-skip_value c = search (rules, struct_cases)

pub shape_of-rows-in-Refused-skip_value : goal.shape_of-rows-in-Refused-skip_value
shape_of-rows-in-Refused-skip_value c = search (rules, struct_cases)

pub returns-in-Refused-skip_value : goal.returns-in-Refused-skip_value
returns-in-Refused-skip_value c = search (rules, struct_cases)

pub enum_known-e : goal.enum_known-e
enum_known-e c = search (rules, struct_cases)

pub type_to_u8-code-requires : goal.type_to_u8-code-requires
type_to_u8-code-requires c = search (rules, struct_cases)

pub note_field-requires-in-Done : goal.note_field-requires-in-Done
note_field-requires-in-Done c = search (rules, struct_cases)

pub loop-b-smaller : goal.loop-b-smaller
loop-b-smaller c = search (rules, struct_cases)

pub loop-b-preserved : goal.loop-b-preserved
loop-b-preserved c = (search (rules, struct_cases), search (rules, struct_cases))
