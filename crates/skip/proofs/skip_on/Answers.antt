use Rattle.skip.proofs.Call.{on_cases}
use Rattle.skip.proofs.skip_on.Goals as goal

pub slice_bounds-skip_value-end : goal.slice_bounds-skip_value-end
slice_bounds-skip_value-end c = search on_cases

pub returns-in-Refused : goal.returns-in-Refused
returns-in-Refused c = search on_cases

pub returns-in-Done : goal.returns-in-Done
returns-in-Done c = search on_cases
