use Rattle.puts.proofs.Pieces.{len_cases}
use Rattle.puts.proofs.pairs_len.Goals as goal

pub returns-then-n-eq0 : goal.returns-then-n-eq0
returns-then-n-eq0 c = search len_cases

pub overflow_add-result : goal.overflow_add-result
overflow_add-result c = search len_cases

pub returns : goal.returns
returns c = search len_cases
