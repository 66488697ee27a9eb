use Rattle.puts.proofs.Pieces.{byte_varint_cases}
use Rattle.puts.proofs.byte_varint.Goals as goal

pub overflow_add-total : goal.overflow_add-total
overflow_add-total c = search byte_varint_cases

pub returns-then-lacks_room : goal.returns-then-lacks_room
returns-then-lacks_room c = search byte_varint_cases

pub overflow_add-at : goal.overflow_add-at
overflow_add-at c = search byte_varint_cases

pub returns : goal.returns
returns c = search byte_varint_cases
