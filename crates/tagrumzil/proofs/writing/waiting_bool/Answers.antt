use Rattle.tagrumzil.proofs.Making.{waiting_cases}
use Rattle.tagrumzil.proofs.writing.waiting_bool.Goals as goal

pub returns-then-stop-ne0 : goal.returns-then-stop-ne0
returns-then-stop-ne0 c = search waiting_cases

pub returns : goal.returns
returns c = search waiting_cases
