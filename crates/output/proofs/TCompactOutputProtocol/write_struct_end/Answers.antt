use Rattle.output.proofs.Cases.{end_cases}
use Rattle.output.proofs.TCompactOutputProtocol.write_struct_end.Goals as goal

pub returns-then-why-ne0 : goal.returns-then-why-ne0
returns-then-why-ne0 c = search end_cases

pub overflow_sub-back : goal.overflow_sub-back
overflow_sub-back c = search end_cases

pub offset_bounds-self-back : goal.offset_bounds-self-back
offset_bounds-self-back c = search end_cases

pub bounds-self-back : goal.bounds-self-back
bounds-self-back c = search end_cases

pub returns : goal.returns
returns c = search end_cases
