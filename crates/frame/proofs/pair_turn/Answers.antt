use Rattle.frame.proofs.TurnCases.{pair_cases}
use Rattle.frame.proofs.pair_turn.Goals as goal

pub returns-then-n-eq0 : goal.returns-then-n-eq0
returns-then-n-eq0 c = search pair_cases

pub overflow_mul-n : goal.overflow_mul-n
overflow_mul-n c = search pair_cases

pub returns-then-v-gt0 : goal.returns-then-v-gt0
returns-then-v-gt0 c = search pair_cases

pub returns-then-k-left : goal.returns-then-k-left
returns-then-k-left c = search pair_cases

pub returns-then-k-gt0 : goal.returns-then-k-gt0
returns-then-k-gt0 c = search pair_cases

pub returns : goal.returns
returns c = search pair_cases
