use Rattle.binary_puts.proofs.Pieces.{truth_cases}
use Rattle.binary_puts.proofs.bool_to_u8.Goals as goal

pub returns-then-truth : goal.returns-then-truth
returns-then-truth c = search truth_cases

pub returns-else-truth : goal.returns-else-truth
returns-else-truth c = search truth_cases
