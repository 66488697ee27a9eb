use Rattle.binary_output.proofs.Cases.{end_cases}
use Rattle.binary_output.proofs.TBinaryOutputProtocol.write_struct_end.Goals as goal

pub returns-then-why-ne0 : goal.returns-then-why-ne0
returns-then-why-ne0 c = search end_cases

pub overflow_sub-next : goal.overflow_sub-next
overflow_sub-next c = search end_cases

pub returns : goal.returns
returns c = search end_cases
