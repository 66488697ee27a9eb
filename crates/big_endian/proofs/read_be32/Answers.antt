use Rattle.big_endian.proofs.Cases.{word_cases}
use Rattle.big_endian.proofs.read_be32.Goals as goal

pub returns-then-lacks_room : goal.returns-then-lacks_room
returns-then-lacks_room c = search word_cases

pub read_four-bits-requires : goal.read_four-bits-requires
read_four-bits-requires c = search word_cases

pub overflow_add-result : goal.overflow_add-result
overflow_add-result c = search word_cases

pub returns : goal.returns
returns c = search word_cases
