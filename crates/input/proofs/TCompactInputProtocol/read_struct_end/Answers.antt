use Rattle.input.proofs.Cases.{end_cases}
use Rattle.input.proofs.TCompactInputProtocol.read_struct_end.Goals as goal

pub returns-then-why-ne0 : goal.returns-then-why-ne0
returns-then-why-ne0 c = search end_cases

pub returns-then-depth-eq0 : goal.returns-then-depth-eq0
returns-then-depth-eq0 c = search end_cases

pub offset_bounds-self-outer : goal.offset_bounds-self-outer
offset_bounds-self-outer c = search end_cases

pub bounds-self-outer : goal.bounds-self-outer
bounds-self-outer c = search end_cases

pub returns : goal.returns
returns c = search end_cases
