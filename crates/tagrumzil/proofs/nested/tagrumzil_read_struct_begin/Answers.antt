use Rattle.tagrumzil.proofs.Nesting.{structs_read}
use Rattle.tagrumzil.proofs.nested.tagrumzil_read_struct_begin.Goals as goal

pub returns-then-ids-ne-IDS : goal.returns-then-ids-ne-IDS
returns-then-ids-ne-IDS c = search structs_read

pub returns-then-why-ne0 : goal.returns-then-why-ne0
returns-then-why-ne0 c = search structs_read

pub returns-then-deepest-depth : goal.returns-then-deepest-depth
returns-then-deepest-depth c = search structs_read

pub returns : goal.returns
returns c = search structs_read
