use Rattle.skip.proofs.Runs.{none_cases}
use Rattle.skip.proofs.leaves.skip_none.Goals as goal

pub returns-then-count-eq0 : goal.returns-then-count-eq0
returns-then-count-eq0 c = search none_cases

pub returns : goal.returns
returns c = search none_cases
