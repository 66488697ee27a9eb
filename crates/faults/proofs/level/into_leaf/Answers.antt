use Rattle.faults.proofs.Levels.{own_cases}
use Rattle.faults.proofs.level.into_leaf.Goals as goal

pub returns-in-Done : goal.returns-in-Done
returns-in-Done c = search own_cases

pub returns-in-Refused : goal.returns-in-Refused
returns-in-Refused c = search own_cases
