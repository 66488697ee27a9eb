use Rattle.puts.proofs.Pieces.{items_cases}
use Rattle.puts.proofs.items.Goals as goal

pub overflow_add-n : goal.overflow_add-n
overflow_add-n c = search items_cases

pub returns-then-n-lt15 : goal.returns-then-n-lt15
returns-then-n-lt15 c = search items_cases

pub overflow_add-code : goal.overflow_add-code
overflow_add-code c = search items_cases

pub returns : goal.returns
returns c = search items_cases
