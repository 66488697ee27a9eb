use Rattle.binary_puts.proofs.Pieces.{binary_cases}
use Rattle.binary_puts.proofs.binary.Goals as goal

pub returns-then-lacks_both : goal.returns-then-lacks_both
returns-then-lacks_both c = search binary_cases

pub overflow_add-at : goal.overflow_add-at
overflow_add-at c = search binary_cases

pub returns : goal.returns
returns c = search binary_cases
