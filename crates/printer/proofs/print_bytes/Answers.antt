use Rattle.printer.proofs.Leaf.{bytes_cases}
use Rattle.printer.proofs.print_bytes.Goals as goal

pub slice_bounds-put_part-count : goal.slice_bounds-put_part-count
slice_bounds-put_part-count c = search bytes_cases

pub slice_bounds-put_part-start : goal.slice_bounds-put_part-start
slice_bounds-put_part-start c = search bytes_cases

pub slice_bounds-put_part-end : goal.slice_bounds-put_part-end
slice_bounds-put_part-end c = search bytes_cases

pub returns-in-Got : goal.returns-in-Got
returns-in-Got c = search bytes_cases

pub returns-in-Refused : goal.returns-in-Refused
returns-in-Refused c = search bytes_cases
