use Rattle.output.proofs.Cases.{int_cases}
use Rattle.output.proofs.TCompactOutputProtocol.write_i16.Goals as goal

pub returns-then-why-ne0 : goal.returns-then-why-ne0
returns-then-why-ne0 c = search int_cases

pub returns : goal.returns
returns c = search int_cases
