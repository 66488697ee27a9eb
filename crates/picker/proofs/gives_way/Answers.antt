use Rattle.picker.proofs.Cases.{way_cases}
use Rattle.picker.proofs.gives_way.Goals as goal

pub returns : goal.returns
returns c = search way_cases
