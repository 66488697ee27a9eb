use Rattle.tagrumzil.proofs.Making.{message_cases}
use Rattle.tagrumzil.proofs.writing.tagrumzil_write_message_begin.Goals as goal

pub returns-then-why-ne0 : goal.returns-then-why-ne0
returns-then-why-ne0 c = search message_cases

pub returns-then-stop-ne0 : goal.returns-then-stop-ne0
returns-then-stop-ne0 c = search message_cases

pub returns-in-Refused : goal.returns-in-Refused
returns-in-Refused c = search message_cases

pub returns-else-stop-ne0 : goal.returns-else-stop-ne0
returns-else-stop-ne0 c = search message_cases
