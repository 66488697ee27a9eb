use Rattle.numbers.proofs.Cases.{four_cases}
use Rattle.numbers.proofs.write_le32.Goals as goal

pub returns-then-lacks_room : goal.returns-then-lacks_room
returns-then-lacks_room c = search four_cases

pub write_four-requires : goal.write_four-requires
write_four-requires c = search four_cases

pub overflow_add-result : goal.overflow_add-result
overflow_add-result c = search four_cases

pub returns : goal.returns
returns c = search four_cases
