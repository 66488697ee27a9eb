use Rattle.output.proofs.Cases.{bool_cases}
use Rattle.output.proofs.TCompactOutputProtocol.write_bool.Goals as goal

pub returns-then-why-ne0 : goal.returns-then-why-ne0
returns-then-why-ne0 c = search bool_cases

pub returns-then-why-ne0-2 : goal.returns-then-why-ne0-2
returns-then-why-ne0-2 c = search bool_cases

pub returns-else-why-ne0 : goal.returns-else-why-ne0
returns-else-why-ne0 c = search bool_cases

pub returns-else-why-ne0-2 : goal.returns-else-why-ne0-2
returns-else-why-ne0-2 c = search bool_cases
