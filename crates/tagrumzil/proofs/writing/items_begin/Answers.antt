use Rattle.tagrumzil.proofs.Making.{items_cases}
use Rattle.tagrumzil.proofs.writing.items_begin.Goals as goal

pub returns-then-why-ne0 : goal.returns-then-why-ne0
returns-then-why-ne0 c = search items_cases

pub returns-then-stop-ne0 : goal.returns-then-stop-ne0
returns-then-stop-ne0 c = search items_cases

pub returns-in-Refused : goal.returns-in-Refused
returns-in-Refused c = search items_cases

pub returns-else-stop-ne0 : goal.returns-else-stop-ne0
returns-else-stop-ne0 c = search items_cases
