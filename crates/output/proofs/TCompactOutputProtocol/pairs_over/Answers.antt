use Rattle.output.proofs.Cases.{pairs_over_cases}
use Rattle.output.proofs.TCompactOutputProtocol.pairs_over.Goals as goal

pub returns : goal.returns
returns c = search pairs_over_cases
