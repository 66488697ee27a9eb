use Rattle.frame.proofs.Cases.{pairs_cases}
use Rattle.frame.proofs.pairs.Goals as goal

pub returns-then-n-eq0 : goal.returns-then-n-eq0
returns-then-n-eq0 c = search pairs_cases

pub returns : goal.returns
returns c = search pairs_cases
