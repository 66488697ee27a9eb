use Rattle.binary_output.proofs.Cases.{begin_cases}
use Rattle.binary_output.proofs.TBinaryOutputProtocol.write_struct_begin.Goals as goal

pub returns-then-why-ne0 : goal.returns-then-why-ne0
returns-then-why-ne0 c = search begin_cases

pub overflow_add-next : goal.overflow_add-next
overflow_add-next c = search begin_cases

pub returns : goal.returns
returns c = search begin_cases
