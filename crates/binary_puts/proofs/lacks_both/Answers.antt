use Rattle.puts.proofs.Pieces.{both_cases}
use Rattle.binary_puts.proofs.lacks_both.Goals as goal

pub returns-then-lacks_room : goal.returns-then-lacks_room
returns-then-lacks_room c = search both_cases

pub overflow_add-at : goal.overflow_add-at
overflow_add-at c = search both_cases

pub returns : goal.returns
returns c = search both_cases
