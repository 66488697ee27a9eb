use Rattle.puts.proofs.Pieces.{varint_byte_cases}
use Rattle.puts.proofs.varint_byte.Goals as goal

pub overflow_add-head : goal.overflow_add-head
overflow_add-head c = search varint_byte_cases

pub returns-then-lacks_room : goal.returns-then-lacks_room
returns-then-lacks_room c = search varint_byte_cases

pub overflow_add-at : goal.overflow_add-at
overflow_add-at c = search varint_byte_cases

pub returns : goal.returns
returns c = search varint_byte_cases
