use Rattle.printer.proofs.Whole.{whole_cases}
use Rattle.printer.proofs.print_whole.Goals as goal

pub overflow_sub-s : goal.overflow_sub-s
overflow_sub-s c = search whole_cases

pub returns-in-Went : goal.returns-in-Went
returns-in-Went c = search whole_cases

pub returns-in-Stopped : goal.returns-in-Stopped
returns-in-Stopped c = search whole_cases
