use Rattle.tagrumzil.proofs.Making.{bytes_cases}
use Rattle.tagrumzil.proofs.writing.tagrumzil_write_bytes.Goals as goal

pub returns-then-why-ne0 : goal.returns-then-why-ne0
returns-then-why-ne0 c = search bytes_cases

pub returns-then-stop-ne0 : goal.returns-then-stop-ne0
returns-then-stop-ne0 c = search bytes_cases

pub returns : goal.returns
returns c = search bytes_cases
