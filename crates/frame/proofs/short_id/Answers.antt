use Rattle.frame.proofs.Cases.{short_cases}
use Rattle.frame.proofs.short_id.Goals as goal

pub overflow_cast-sum : goal.overflow_cast-sum
overflow_cast-sum c = search short_cases

pub overflow_add-sum : goal.overflow_add-sum
overflow_add-sum c = search short_cases

pub returns-then-sum-gt32767 : goal.returns-then-sum-gt32767
returns-then-sum-gt32767 c = search short_cases

pub overflow_cast-result : goal.overflow_cast-result
overflow_cast-result c = search short_cases

pub returns : goal.returns
returns c = search short_cases
