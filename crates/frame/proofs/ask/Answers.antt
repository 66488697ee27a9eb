use Rattle.frame.proofs.Held.{ask_cases}
use Rattle.frame.proofs.ask.Goals as goal

pub returns-then-body-left : goal.returns-then-body-left
returns-then-body-left c = search ask_cases

pub returns : goal.returns
returns c = search ask_cases
