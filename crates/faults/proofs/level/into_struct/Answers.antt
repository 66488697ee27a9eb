use borrow.Author.Rules.{rules}
use Rattle.faults.proofs.Structs.{fields_cases, going_in, struct_start}
use Rattle.faults.proofs.level.into_struct.Goals as goal

pub loop-why-init : goal.loop-why-init
loop-why-init c = struct_start _ _ _ _ (search rules)

pub returns-in-Stop : goal.returns-in-Stop
returns-in-Stop c = search fields_cases

pub field_reach-requires : goal.field_reach-requires
field_reach-requires c = search (rules, going_in)

pub returns-in-Refused : goal.returns-in-Refused
returns-in-Refused c = search fields_cases

pub loop-why-smaller-in-Bool : goal.loop-why-smaller-in-Bool
loop-why-smaller-in-Bool c = search fields_cases

pub loop-why-preserved-in-Bool : goal.loop-why-preserved-in-Bool
loop-why-preserved-in-Bool c = search fields_cases

pub loop-why-smaller : goal.loop-why-smaller
loop-why-smaller c = search fields_cases

pub loop-why-preserved : goal.loop-why-preserved
loop-why-preserved c = search fields_cases

pub returns-in-Refused-skip_value : goal.returns-in-Refused-skip_value
returns-in-Refused-skip_value c = search fields_cases
