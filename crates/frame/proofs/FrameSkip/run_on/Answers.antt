use Rattle.frame.proofs.Sounds.{on_cases}
use Rattle.frame.proofs.FrameSkip.run_on.Goals as goal

pub returns : goal.returns
returns c = search on_cases
