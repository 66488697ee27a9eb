use Rattle.puts.proofs.Checks.{size_cases}
use Rattle.puts.proofs.wrong.size_of.Goals as goal

pub overflow_cast-result : goal.overflow_cast-result
overflow_cast-result c = search size_cases

pub returns-then-count-ge0 : goal.returns-then-count-ge0
returns-then-count-ge0 c = search size_cases

pub returns : goal.returns
returns c = search size_cases
