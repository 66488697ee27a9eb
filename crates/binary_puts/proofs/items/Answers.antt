use Rattle.binary_puts.proofs.Pieces.{items_cases}
use Rattle.binary_puts.proofs.items.Goals as goal

pub returns : goal.returns
returns c = search items_cases
