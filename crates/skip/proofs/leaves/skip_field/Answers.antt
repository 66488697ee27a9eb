use Rattle.skip.proofs.Short.{short_cases}
use Rattle.skip.proofs.leaves.skip_field.Goals as goal

pub returns-then-s-p : goal.returns-then-s-p
returns-then-s-p c = search short_cases

pub returns-then-delta-eq0 : goal.returns-then-delta-eq0
returns-then-delta-eq0 c = search short_cases

pub overflow_cast-sum : goal.overflow_cast-sum
overflow_cast-sum c = search short_cases

pub overflow_cast-sum-2 : goal.overflow_cast-sum-2
overflow_cast-sum-2 c = search short_cases

pub overflow_add-sum : goal.overflow_add-sum
overflow_add-sum c = search short_cases

pub overflow_cast-below : goal.overflow_cast-below
overflow_cast-below c = search short_cases

pub returns-then-below-sum : goal.returns-then-below-sum
returns-then-below-sum c = search short_cases

pub overflow_cast-id : goal.overflow_cast-id
overflow_cast-id c = search short_cases

pub returns-in-Truth : goal.returns-in-Truth
returns-in-Truth c = search short_cases

pub returns-in-Done : goal.returns-in-Done
returns-in-Done c = search short_cases

pub returns-in-Refused-skip_scalar : goal.returns-in-Refused-skip_scalar
returns-in-Refused-skip_scalar c = search short_cases

pub returns-in-Stop : goal.returns-in-Stop
returns-in-Stop c = search short_cases

pub returns-in-Refused : goal.returns-in-Refused
returns-in-Refused c = search short_cases
