use Rattle.faults.proofs.Call.{on_cases}
use Rattle.faults.proofs.why_on.Goals as goal

pub slice_bounds-skip_value-end : goal.slice_bounds-skip_value-end
slice_bounds-skip_value-end c = search on_cases

pub slice_bounds-find-end : goal.slice_bounds-find-end
slice_bounds-find-end c = search on_cases

pub find-told-requires : goal.find-told-requires
find-told-requires c = search on_cases

pub overflow_mul-told : goal.overflow_mul-told
overflow_mul-told c = search on_cases

pub returns-then-row-told : goal.returns-then-row-told
returns-then-row-told c = search on_cases

pub put_row-requires : goal.put_row-requires
put_row-requires c = search on_cases

pub last_read-requires : goal.last_read-requires
last_read-requires c = search on_cases

pub returns-in-Done : goal.returns-in-Done
returns-in-Done c = search on_cases

pub returns-else-row-told : goal.returns-else-row-told
returns-else-row-told c = search on_cases
