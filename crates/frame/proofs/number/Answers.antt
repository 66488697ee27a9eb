use Rattle.frame.proofs.Cases.{number_cases}
use Rattle.frame.proofs.number.Goals as goal

pub returns-then-b-lt128 : goal.returns-then-b-lt128
returns-then-b-lt128 c = search number_cases

pub returns-then-k-gt1 : goal.returns-then-k-gt1
returns-then-k-gt1 c = search number_cases

pub returns : goal.returns
returns c = search number_cases
