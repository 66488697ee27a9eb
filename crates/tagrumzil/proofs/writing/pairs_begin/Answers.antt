use Rattle.tagrumzil.proofs.Making.{pairs_cases}
use Rattle.tagrumzil.proofs.writing.pairs_begin.Goals as goal

pub returns-then-stop-ne0 : goal.returns-then-stop-ne0
returns-then-stop-ne0 c = search pairs_cases

pub returns-in-Refused : goal.returns-in-Refused
returns-in-Refused c = search pairs_cases

pub returns-else-stop-ne0 : goal.returns-else-stop-ne0
returns-else-stop-ne0 c = search pairs_cases
