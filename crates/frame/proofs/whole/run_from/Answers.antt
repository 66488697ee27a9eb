use Rattle.frame.proofs.OneBurst.{whole_cases}
use Rattle.frame.proofs.whole.run_from.Goals as goal

pub overflow_sub-left : goal.overflow_sub-left
overflow_sub-left c = search whole_cases

pub returns-then-used-gt0 : goal.returns-then-used-gt0
returns-then-used-gt0 c = (search whole_cases, search whole_cases)
