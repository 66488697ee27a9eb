use Rattle.output.proofs.Cases.{items_over_cases}
use Rattle.output.proofs.TCompactOutputProtocol.items_over.Goals as goal

pub returns : goal.returns
returns c = search items_over_cases
