use Rattle.tagrumzil.proofs.Making.{map_cases}
use Rattle.tagrumzil.proofs.writing.tagrumzil_write_map_begin.Goals as goal

pub returns-then-why-ne0 : goal.returns-then-why-ne0
returns-then-why-ne0 c = search map_cases

pub returns-then-stop-ne0 : goal.returns-then-stop-ne0
returns-then-stop-ne0 c = search map_cases

pub returns-then-count-eq0 : goal.returns-then-count-eq0
returns-then-count-eq0 c = search map_cases

pub returns-in-Refused : goal.returns-in-Refused
returns-in-Refused c = search map_cases

pub returns-in-Got : goal.returns-in-Got
returns-in-Got c = search map_cases
