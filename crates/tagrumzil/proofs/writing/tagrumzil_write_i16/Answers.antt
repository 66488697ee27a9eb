use Rattle.tagrumzil.proofs.Making.{int_cases}
use Rattle.tagrumzil.proofs.writing.tagrumzil_write_i16.Goals as goal

pub returns-then-why-ne0 : goal.returns-then-why-ne0
returns-then-why-ne0 c = search int_cases

pub returns-then-stop-ne0 : goal.returns-then-stop-ne0
returns-then-stop-ne0 c = search int_cases

pub returns : goal.returns
returns c = search int_cases
