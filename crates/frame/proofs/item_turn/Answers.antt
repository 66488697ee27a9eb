use Rattle.frame.proofs.TurnCases.{item_cases}
use Rattle.frame.proofs.item_turn.Goals as goal

pub returns-then-n-eq0 : goal.returns-then-n-eq0
returns-then-n-eq0 c = search item_cases

pub overflow_mul-n : goal.overflow_mul-n
overflow_mul-n c = search item_cases

pub returns-then-w-gt0 : goal.returns-then-w-gt0
returns-then-w-gt0 c = search item_cases

pub returns : goal.returns
returns c = search item_cases
