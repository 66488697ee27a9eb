use Rattle.types.specs.Codes.{truth_code}
use Rattle.types.proofs.bool_to_u8.Goals as goal

pub returns-then-truth : goal.returns-then-truth
unfolding truth_code
returns-then-truth c = cc

pub returns-else-truth : goal.returns-else-truth
unfolding truth_code
returns-else-truth c = cc
