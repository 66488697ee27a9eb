use mathlib.Core.Path.{refl}
use Rattle.skip.proofs.Runs.{times_cases}
use Rattle.skip.proofs.leaves.skip_bools.Goals as goal

pub loop-left-init : goal.loop-left-init
loop-left-init c = refl

pub returns-in-Refused : goal.returns-in-Refused
returns-in-Refused c = search times_cases

pub loop-left-preserved : goal.loop-left-preserved
loop-left-preserved c = search times_cases

pub returns : goal.returns
returns c = search times_cases
