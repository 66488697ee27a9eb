use Rattle.output.proofs.Cases.{field_cases}
use Rattle.output.proofs.TCompactOutputProtocol.write_field_begin.Goals as goal

pub returns-then-why-ne0 : goal.returns-then-why-ne0
returns-then-why-ne0 c = search field_cases

pub returns-then-code-eq1 : goal.returns-then-code-eq1
returns-then-code-eq1 c = search field_cases

pub returns-then-why-ne0-2 : goal.returns-then-why-ne0-2
returns-then-why-ne0-2 c = search field_cases

pub returns : goal.returns
returns c = search field_cases
