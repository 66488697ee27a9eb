use Rattle.frame.proofs.Calls.{shut_is}
use Rattle.frame.proofs.FrameSkip.shut.Goals as goal

pub returns : goal.returns
returns c = search shut_is
