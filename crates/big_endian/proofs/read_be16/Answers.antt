use Rattle.big_endian.proofs.Cases.{pair_cases}
use Rattle.big_endian.proofs.read_be16.Goals as goal

pub returns-then-lacks_room : goal.returns-then-lacks_room
returns-then-lacks_room c = search pair_cases

pub bounds-s-at : goal.bounds-s-at
bounds-s-at c = search pair_cases

pub overflow_add-at : goal.overflow_add-at
overflow_add-at c = search pair_cases

pub bounds-s-at-2 : goal.bounds-s-at-2
bounds-s-at-2 c = search pair_cases

pub overflow_add-result : goal.overflow_add-result
overflow_add-result c = search pair_cases

pub overflow_add-result-2 : goal.overflow_add-result-2
overflow_add-result-2 c = search pair_cases

pub returns : goal.returns
returns c = search pair_cases
