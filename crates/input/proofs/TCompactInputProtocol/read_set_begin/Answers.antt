use Rattle.input.proofs.Cases.{set_is}
use Rattle.input.proofs.TCompactInputProtocol.read_set_begin.Goals as goal

pub returns : goal.returns
returns c = search set_is
