use Rattle.binary_puts.proofs.Pieces.{word_cases}
use Rattle.binary_puts.proofs.codes_word.Goals as goal

pub returns-then-lacks_room : goal.returns-then-lacks_room
returns-then-lacks_room c = search word_cases

pub overflow_add-at : goal.overflow_add-at
overflow_add-at c = search word_cases

pub returns : goal.returns
returns c = search word_cases
