use Rattle.binary_puts.proofs.Pieces.{header_cases}
use Rattle.binary_puts.proofs.field_header.Goals as goal

pub returns-then-lacks_room : goal.returns-then-lacks_room
returns-then-lacks_room c = search header_cases

pub overflow_add-at : goal.overflow_add-at
overflow_add-at c = search header_cases

pub returns : goal.returns
returns c = search header_cases
