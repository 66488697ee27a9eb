use Rattle.numbers.proofs.Cases.{eight_cases}
use Rattle.numbers.proofs.write_le64.Goals as goal

pub returns-then-lacks_room : goal.returns-then-lacks_room
returns-then-lacks_room c = search eight_cases

pub write_four-requires : goal.write_four-requires
write_four-requires c = search eight_cases

pub overflow_add-at : goal.overflow_add-at
overflow_add-at c = search eight_cases

pub write_four-requires-2 : goal.write_four-requires-2
write_four-requires-2 c = search eight_cases

pub overflow_add-result : goal.overflow_add-result
overflow_add-result c = search eight_cases

pub returns : goal.returns
returns c = search eight_cases
