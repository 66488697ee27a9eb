use Rattle.printer.proofs.Leaf.{uuid_cases}
use Rattle.printer.proofs.print_uuid.Goals as goal

pub slice_bounds-put_part-count : goal.slice_bounds-put_part-count
slice_bounds-put_part-count c = search uuid_cases

pub slice_bounds-put_part-start : goal.slice_bounds-put_part-start
slice_bounds-put_part-start c = search uuid_cases

pub slice_bounds-put_part-end : goal.slice_bounds-put_part-end
slice_bounds-put_part-end c = search uuid_cases

pub returns-in-Got : goal.returns-in-Got
returns-in-Got c = search uuid_cases

pub returns-in-Refused : goal.returns-in-Refused
returns-in-Refused c = search uuid_cases
