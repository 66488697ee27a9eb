use Rattle.tagrumzil.proofs.Nesting.{structs_begun, structs_left}
use Rattle.tagrumzil.proofs.writing.tagrumzil_write_struct_begin.Goals as goal

pub returns-then-ids-ne-IDS : goal.returns-then-ids-ne-IDS
returns-then-ids-ne-IDS c = record { begun_write = search structs_begun; buf_after = search structs_left }

pub returns-then-why-ne0 : goal.returns-then-why-ne0
returns-then-why-ne0 c = record { begun_write = search structs_begun; buf_after = search structs_left }

pub returns-then-deepest-depth : goal.returns-then-deepest-depth
returns-then-deepest-depth c = record { begun_write = search structs_begun; buf_after = search structs_left }

pub returns : goal.returns
returns c = record { begun_write = search structs_begun; buf_after = search structs_left }
