use Rattle.frame.proofs.Cases.{length_cases}
use Rattle.frame.proofs.length_of.Goals as goal

pub returns-then-n-limits : goal.returns-then-n-limits
returns-then-n-limits c = search length_cases

pub returns : goal.returns
returns c = search length_cases
