use Rattle.frame.proofs.Cases.{long_cases}
use Rattle.frame.proofs.long_id.Goals as goal

pub returns-then-n-lt65536 : goal.returns-then-n-lt65536
returns-then-n-lt65536 c = search long_cases

pub returns : goal.returns
returns c = search long_cases
