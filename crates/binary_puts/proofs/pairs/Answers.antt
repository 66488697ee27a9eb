use Rattle.binary_puts.proofs.Pieces.{items_cases}
use Rattle.binary_puts.proofs.pairs.Goals as goal

pub returns-then-n-eq0 : goal.returns-then-n-eq0
returns-then-n-eq0 c = search items_cases

pub returns : goal.returns
returns c = search items_cases
