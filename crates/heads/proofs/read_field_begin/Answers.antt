use Rattle.heads.proofs.Fields.{field_cases}
use Rattle.heads.proofs.read_field_begin.Goals as goal

pub returns-then-s-at : goal.returns-then-s-at
returns-then-s-at c = search field_cases

pub returns-then-kind-eq0 : goal.returns-then-kind-eq0
returns-then-kind-eq0 c = search field_cases

pub returns-then-kind-gt13 : goal.returns-then-kind-gt13
returns-then-kind-gt13 c = search field_cases

pub returns-then-delta-eq0 : goal.returns-then-delta-eq0
returns-then-delta-eq0 c = search field_cases

pub overflow_cast-sum : goal.overflow_cast-sum
overflow_cast-sum c = search field_cases

pub overflow_add-sum : goal.overflow_add-sum
overflow_add-sum c = search field_cases

pub returns-then-sum-gt32767 : goal.returns-then-sum-gt32767
returns-then-sum-gt32767 c = search field_cases

pub overflow_cast-sum-3 : goal.overflow_cast-sum-3
overflow_cast-sum-3 c = search field_cases

pub returns : goal.returns
returns c = search field_cases
