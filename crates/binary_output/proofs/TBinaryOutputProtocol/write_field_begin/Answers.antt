use Rattle.binary_output.proofs.Cases.{field_cases}
use Rattle.binary_output.proofs.TBinaryOutputProtocol.write_field_begin.Goals as goal

pub returns-then-why-ne0 : goal.returns-then-why-ne0
returns-then-why-ne0 c = search field_cases

pub returns : goal.returns
returns c = search field_cases
