use Rattle.output.proofs.Cases.{i8_cases}
use Rattle.output.proofs.TCompactOutputProtocol.write_i8.Goals as goal

pub returns-then-why-ne0 : goal.returns-then-why-ne0
returns-then-why-ne0 c = search i8_cases

pub returns : goal.returns
returns c = search i8_cases
