use Rattle.tagrumzil.proofs.Nesting.{structs_read}
use Rattle.tagrumzil.proofs.nested.tagrumzil_read_struct_end.Goals as goal

pub returns-then-ids-ne-IDS : goal.returns-then-ids-ne-IDS
returns-then-ids-ne-IDS c = search structs_read

pub returns-then-why-ne0 : goal.returns-then-why-ne0
returns-then-why-ne0 c = search structs_read

pub returns-then-depth-eq0 : goal.returns-then-depth-eq0
returns-then-depth-eq0 c = search structs_read

pub returns : goal.returns
returns c = search structs_read
