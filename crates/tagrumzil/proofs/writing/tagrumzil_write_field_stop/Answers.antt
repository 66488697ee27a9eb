use Rattle.tagrumzil.proofs.Making.{plain_cases}
use Rattle.tagrumzil.proofs.writing.tagrumzil_write_field_stop.Goals as goal

pub returns-then-why-ne0 : goal.returns-then-why-ne0
returns-then-why-ne0 c = search plain_cases

pub returns-then-stop-ne0 : goal.returns-then-stop-ne0
returns-then-stop-ne0 c = search plain_cases

pub returns : goal.returns
returns c = search plain_cases
