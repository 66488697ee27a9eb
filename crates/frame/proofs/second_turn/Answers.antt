use Rattle.frame.proofs.TurnCases.{second_cases}
use Rattle.frame.proofs.second_turn.Goals as goal

pub returns-then-v-left : goal.returns-then-v-left
returns-then-v-left c = search second_cases

pub returns-then-v-gt0 : goal.returns-then-v-gt0
returns-then-v-gt0 c = search second_cases

pub returns : goal.returns
returns c = search second_cases
