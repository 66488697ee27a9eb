use Rattle.output.proofs.Checks.{turn_cases}
use Rattle.output.proofs.TCompactOutputProtocol.refusal.Goals as goal

pub returns-then-why-ne0 : goal.returns-then-why-ne0
returns-then-why-ne0 c = search turn_cases

pub returns-in-Nothing : goal.returns-in-Nothing
returns-in-Nothing c = search turn_cases

pub returns-in-Field : goal.returns-in-Field
returns-in-Field c = search turn_cases
