use Rattle.skip.proofs.Runs.{one_leaf}
use Rattle.skip.proofs.leaves.skip_leaf.Goals as goal

pub returns : goal.returns
returns c = search one_leaf
