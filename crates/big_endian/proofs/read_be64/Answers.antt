use Rattle.big_endian.proofs.Cases.{long_cases}
use Rattle.big_endian.proofs.read_be64.Goals as goal

pub returns-then-lacks_room : goal.returns-then-lacks_room
returns-then-lacks_room c = search long_cases

pub read_four-high-requires : goal.read_four-high-requires
read_four-high-requires c = search long_cases

pub overflow_add-at : goal.overflow_add-at
overflow_add-at c = search long_cases

pub read_four-low-requires : goal.read_four-low-requires
read_four-low-requires c = search long_cases

pub overflow_add-result-2 : goal.overflow_add-result-2
overflow_add-result-2 c = search long_cases

pub returns : goal.returns
returns c = search long_cases
