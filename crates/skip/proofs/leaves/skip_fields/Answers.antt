use Rattle.skip.proofs.Short.{run_cases}
use Rattle.skip.proofs.leaves.skip_fields.Goals as goal

pub loop-p-init : goal.loop-p-init
loop-p-init c = search run_cases

pub returns-then-next-p : goal.returns-then-next-p
returns-then-next-p c = search run_cases

pub loop-p-preserved : goal.loop-p-preserved
loop-p-preserved c = search run_cases

pub returns : goal.returns
returns c = search run_cases
