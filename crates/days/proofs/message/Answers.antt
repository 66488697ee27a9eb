use Rattle.days.proofs.Cases.{part_cases}
use Rattle.days.proofs.message.Goals as goal

pub slice_bounds-result-count : goal.slice_bounds-result-count
slice_bounds-result-count c = search part_cases

pub slice_bounds-result-start : goal.slice_bounds-result-start
slice_bounds-result-start c = search part_cases

pub slice_bounds-result-end : goal.slice_bounds-result-end
slice_bounds-result-end c = search part_cases

pub returns-in-At : goal.returns-in-At
returns-in-At c = search part_cases

pub returns-in-Refused : goal.returns-in-Refused
returns-in-Refused c = search part_cases
