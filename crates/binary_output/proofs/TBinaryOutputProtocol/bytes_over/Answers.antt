use Rattle.binary_output.proofs.Cases.{bytes_over}
use Rattle.binary_output.proofs.TBinaryOutputProtocol.bytes_over.Goals as goal

pub returns : goal.returns
returns c = search bytes_over
