use Rattle.output.proofs.Cases.{bytes_over}
use Rattle.output.proofs.TCompactOutputProtocol.bytes_over.Goals as goal

pub returns : goal.returns
returns c = search bytes_over
