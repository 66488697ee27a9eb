use Rattle.numbers.proofs.Cases.{byte_cases}
use Rattle.numbers.proofs.write_byte.Goals as goal

pub returns-then-lacks_room : goal.returns-then-lacks_room
returns-then-lacks_room c = search byte_cases

pub bounds-buf-at : goal.bounds-buf-at
bounds-buf-at c = search byte_cases

pub overflow_add-result : goal.overflow_add-result
overflow_add-result c = search byte_cases

pub returns : goal.returns
returns c = search byte_cases
