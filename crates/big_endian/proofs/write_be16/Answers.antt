use Rattle.big_endian.proofs.Cases.{two_cases}
use Rattle.big_endian.proofs.write_be16.Goals as goal

pub returns-then-lacks_room : goal.returns-then-lacks_room
returns-then-lacks_room c = search two_cases

pub bounds-buf-at : goal.bounds-buf-at
bounds-buf-at c = search two_cases

pub overflow_add-buf : goal.overflow_add-buf
overflow_add-buf c = search two_cases

pub bounds-buf-at-2 : goal.bounds-buf-at-2
bounds-buf-at-2 c = search two_cases

pub overflow_add-result : goal.overflow_add-result
overflow_add-result c = search two_cases

pub returns : goal.returns
returns c = search two_cases
