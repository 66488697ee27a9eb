use Rattle.input.proofs.Cases.{element_cases}
use Rattle.input.proofs.TCompactInputProtocol.element_bool.Goals as goal

pub slice_bounds-read_bool-end : goal.slice_bounds-read_bool-end
slice_bounds-read_bool-end c = search element_cases

pub returns-in-Refused : goal.returns-in-Refused
returns-in-Refused c = search element_cases

pub returns-in-Got : goal.returns-in-Got
returns-in-Got c = search element_cases
