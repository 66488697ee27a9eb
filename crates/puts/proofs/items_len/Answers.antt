use Rattle.puts.proofs.Pieces.{len_cases}
use Rattle.puts.proofs.items_len.Goals as goal

pub returns-then-n-lt15 : goal.returns-then-n-lt15
returns-then-n-lt15 c = search len_cases

pub overflow_add-result : goal.overflow_add-result
overflow_add-result c = search len_cases

pub returns : goal.returns
returns c = search len_cases
