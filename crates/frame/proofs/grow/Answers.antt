use Rattle.frame.proofs.Cases.{grow_cases}
use Rattle.frame.proofs.grow.Goals as goal

pub overflow_mul-sum : goal.overflow_mul-sum
overflow_mul-sum c = search grow_cases

pub overflow_add-sum : goal.overflow_add-sum
overflow_add-sum c = search grow_cases

pub returns-then-b-lt128 : goal.returns-then-b-lt128
returns-then-b-lt128 c = search grow_cases

pub returns-then-part-lt4 : goal.returns-then-part-lt4
returns-then-part-lt4 c = search grow_cases

pub returns : goal.returns
returns c = search grow_cases
