use Rattle.printer.proofs.Leaf.{scalar_cases}
use Rattle.printer.proofs.print_i32.Goals as goal

pub returns-in-Got : goal.returns-in-Got
returns-in-Got c = search scalar_cases

pub returns-in-Refused : goal.returns-in-Refused
returns-in-Refused c = search scalar_cases
