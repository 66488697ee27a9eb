use Rattle.frame.proofs.TurnCases.{up_cases}
use Rattle.frame.proofs.up_turn.Goals as goal

pub returns-then-n-left : goal.returns-then-n-left
returns-then-n-left c = search up_cases

pub returns : goal.returns
returns c = search up_cases
