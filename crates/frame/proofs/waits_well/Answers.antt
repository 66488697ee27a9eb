use Rattle.frame.proofs.Tests.{well_cases}
use Rattle.frame.proofs.waits_well.Goals as goal

pub returns-then-depth-eq0 : goal.returns-then-depth-eq0
returns-then-depth-eq0 c = search well_cases

pub returns-then-limits-gt64 : goal.returns-then-limits-gt64
returns-then-limits-gt64 c = search well_cases

pub returns-then-limits-depth : goal.returns-then-limits-depth
returns-then-limits-depth c = search well_cases

pub returns-then-limits-depth-2 : goal.returns-then-limits-depth-2
returns-then-limits-depth-2 c = search well_cases

pub returns-then-left-body : goal.returns-then-left-body
returns-then-left-body c = search well_cases

pub returns : goal.returns
returns c = search well_cases
