use Rattle.tagrumzil.proofs.Nesting.{structs_ended, structs_left}
use Rattle.tagrumzil.proofs.writing.tagrumzil_write_struct_end.Goals as goal

pub returns-then-ids-ne-IDS : goal.returns-then-ids-ne-IDS
returns-then-ids-ne-IDS c = record { ended_write = search structs_ended; buf_after = search structs_left }

pub returns-then-why-ne0 : goal.returns-then-why-ne0
returns-then-why-ne0 c = record { ended_write = search structs_ended; buf_after = search structs_left }

pub returns-then-depth-eq0 : goal.returns-then-depth-eq0
returns-then-depth-eq0 c = record { ended_write = search structs_ended; buf_after = search structs_left }

pub returns : goal.returns
returns c = record { ended_write = search structs_ended; buf_after = search structs_left }
