use Rattle.puts.proofs.Pieces.{pairs_cases}
use Rattle.puts.proofs.pairs.Goals as goal

pub returns-then-n-eq0 : goal.returns-then-n-eq0
returns-then-n-eq0 c = search pairs_cases

pub overflow_mul-high : goal.overflow_mul-high
overflow_mul-high c = search pairs_cases

pub overflow_add-high : goal.overflow_add-high
overflow_add-high c = search pairs_cases

pub returns : goal.returns
returns c = search pairs_cases
