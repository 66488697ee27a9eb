use Rattle.tagrumzil.proofs.Making.{field_cases}
use Rattle.tagrumzil.proofs.writing.tagrumzil_write_field_begin.Goals as goal

pub returns-then-why-ne0 : goal.returns-then-why-ne0
returns-then-why-ne0 c = search field_cases

pub returns-then-kind-eq0 : goal.returns-then-kind-eq0
returns-then-kind-eq0 c = search field_cases

pub overflow_add-turn : goal.overflow_add-turn
overflow_add-turn c = search field_cases

pub returns-then-kind-eq1 : goal.returns-then-kind-eq1
returns-then-kind-eq1 c = search field_cases

pub returns-then-stop-ne0 : goal.returns-then-stop-ne0
returns-then-stop-ne0 c = search field_cases

pub returns-in-Refused : goal.returns-in-Refused
returns-in-Refused c = search field_cases

pub returns-else-stop-ne0 : goal.returns-else-stop-ne0
returns-else-stop-ne0 c = search field_cases
