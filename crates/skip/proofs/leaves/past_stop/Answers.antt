use Rattle.skip.proofs.Leaf.{stop_cases}
use Rattle.skip.proofs.leaves.past_stop.Goals as goal

pub returns-then-s-p : goal.returns-then-s-p
returns-then-s-p c = search stop_cases

pub returns-then-s-p-eq0 : goal.returns-then-s-p-eq0
returns-then-s-p-eq0 c = search stop_cases

pub returns : goal.returns
returns c = search stop_cases
