use Rattle.binary_output.proofs.Cases.{items_cases}
use Rattle.binary_output.proofs.TBinaryOutputProtocol.write_set_begin.Goals as goal

pub returns-then-why-ne0 : goal.returns-then-why-ne0
returns-then-why-ne0 c = search items_cases

pub returns : goal.returns
returns c = search items_cases
