use Rattle.picker.proofs.Call.{on_cases}
use Rattle.picker.proofs.pick_on.Goals as goal

pub slice_bounds-skip_value-end : goal.slice_bounds-skip_value-end
slice_bounds-skip_value-end c = search on_cases

pub slice_bounds-note_struct-end : goal.slice_bounds-note_struct-end
slice_bounds-note_struct-end c = search on_cases

pub returns-in-Refused : goal.returns-in-Refused
returns-in-Refused c = search on_cases

pub returns-in-Done : goal.returns-in-Done
returns-in-Done c = search on_cases
