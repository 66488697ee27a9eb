use Rattle.std.proofs.Common.{rules}
use Rattle.doubles.proofs.Cases.{runs_cases}
use Rattle.doubles.proofs.walk.walk_run.Goals as goal

pub loop-p-init : goal.loop-p-init
loop-p-init c = search (rules, runs_cases)

pub shape_of-row-then-next-p : goal.shape_of-row-then-next-p
shape_of-row-then-next-p c = search (rules, runs_cases)

pub returns-then-next-p : goal.returns-then-next-p
returns-then-next-p c = search (rules, runs_cases)

pub loop-p-preserved : goal.loop-p-preserved
loop-p-preserved c = (search (rules, runs_cases), search (rules, runs_cases))

pub shape_of-row : goal.shape_of-row
shape_of-row c = search (rules, runs_cases)

pub returns : goal.returns
returns c = search (rules, runs_cases)
