-- `skip` meets its contract: what the call answers, and that it answers so exactly on a well-formed value. Assumes nothing.
use Rattle.binary_input.proofs.Call.{call_exact}
use Rattle.binary_input.proofs.TBinaryInputProtocol.skip.Goals as goal

pub returns : goal.returns
returns c = record { answer = c.skip_call.ensures; exact = call_exact _ _ _ _ c.skip_call.ensures }
