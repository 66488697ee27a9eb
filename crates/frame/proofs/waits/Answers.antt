use Rattle.frame.proofs.Applied.{waits_at_lem}
use Rattle.frame.proofs.waits.Goals as goal

pub returns : goal.returns
returns c = search waits_at_lem
