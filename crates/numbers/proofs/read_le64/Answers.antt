use Rattle.numbers.proofs.Cases.{le_cases}
use Rattle.numbers.proofs.read_le64.Goals as goal

pub returns-then-lacks_room : goal.returns-then-lacks_room
returns-then-lacks_room c = search le_cases

pub read_four-low-requires : goal.read_four-low-requires
read_four-low-requires c = search le_cases

pub overflow_add-at : goal.overflow_add-at
overflow_add-at c = search le_cases

pub read_four-high-requires : goal.read_four-high-requires
read_four-high-requires c = search le_cases

pub overflow_add-result-2 : goal.overflow_add-result-2
overflow_add-result-2 c = search le_cases

pub returns : goal.returns
returns c = search le_cases
