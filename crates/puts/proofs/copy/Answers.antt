use Rattle.puts.proofs.Pieces.{copy_cases}
use Rattle.puts.proofs.copy.Goals as goal

pub returns-then-lacks_room : goal.returns-then-lacks_room
returns-then-lacks_room c = search copy_cases

pub loop-i-init : goal.loop-i-init
loop-i-init c = search copy_cases

pub overflow_add-buf : goal.overflow_add-buf
overflow_add-buf c = search copy_cases

pub bounds-buf-at : goal.bounds-buf-at
bounds-buf-at c = search copy_cases

pub loop-i-preserved : goal.loop-i-preserved
loop-i-preserved c = search copy_cases

pub overflow_add-result : goal.overflow_add-result
overflow_add-result c = search copy_cases

pub shape_of-buf : goal.shape_of-buf
shape_of-buf c = search copy_cases

pub returns : goal.returns
returns c = search copy_cases
