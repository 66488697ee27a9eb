use borrow.Author.Rules.{rules}
use Rattle.fault_lines.proofs.Rows.{struct_cases}
use Rattle.fault_lines.proofs.put_struct.Goals as goal

pub put_below-requires : goal.put_below-requires
put_below-requires c = search (rules, struct_cases)

pub returns-then-more : goal.returns-then-more
returns-then-more c = search struct_cases

pub returns-in-Accepted : goal.returns-in-Accepted
returns-in-Accepted c = search struct_cases

pub returns-else-more : goal.returns-else-more
returns-else-more c = search struct_cases

pub put_steps-b-requires : goal.put_steps-b-requires
put_steps-b-requires c = search (rules, struct_cases)
