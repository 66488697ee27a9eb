use Rattle.output.proofs.Cases.{plain_cases}
use Rattle.output.proofs.TCompactOutputProtocol.write_double.Goals as goal

pub returns-then-why-ne0 : goal.returns-then-why-ne0
returns-then-why-ne0 c = search plain_cases

pub returns : goal.returns
returns c = search plain_cases
