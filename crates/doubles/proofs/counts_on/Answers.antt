use Rattle.doubles.proofs.Call.{on_cases}
use Rattle.doubles.proofs.counts_on.Goals as goal

pub slice_bounds-walk_value-end : goal.slice_bounds-walk_value-end
slice_bounds-walk_value-end c = search on_cases

pub returns-in-Refused : goal.returns-in-Refused
returns-in-Refused c = search on_cases

pub returns-in-Done : goal.returns-in-Done
returns-in-Done c = search on_cases
