use Rattle.std.proofs.Common.{rules}
use Rattle.numbers.proofs.Cases.{varint_cases}
use Rattle.numbers.proofs.write_varint64.Goals as goal

pub returns-then-lacks_room : goal.returns-then-lacks_room
returns-then-lacks_room c = search varint_cases

pub loop-rest-init : goal.loop-rest-init
loop-rest-init c = (search rules, search varint_cases)

pub bounds-buf-p : goal.bounds-buf-p
bounds-buf-p c = search varint_cases

pub overflow_add-p : goal.overflow_add-p
overflow_add-p c = search varint_cases

pub loop-rest-preserved : goal.loop-rest-preserved
loop-rest-preserved c = (search rules, search varint_cases)

pub bounds-buf-p-2 : goal.bounds-buf-p-2
bounds-buf-p-2 c = search varint_cases

pub overflow_add-result : goal.overflow_add-result
overflow_add-result c = search varint_cases

pub shape_of-buf : goal.shape_of-buf
shape_of-buf c = search varint_cases

pub returns : goal.returns
returns c = search varint_cases
