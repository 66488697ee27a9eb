use Rattle.fault_lines.proofs.Rows.{kind_cases}
use Rattle.fault_lines.proofs.put_kind.Goals as goal

pub returns-then-kind-eq0 : goal.returns-then-kind-eq0
returns-then-kind-eq0 c = search kind_cases

pub returns-then-kind-eq1 : goal.returns-then-kind-eq1
returns-then-kind-eq1 c = search kind_cases

pub returns-then-kind-eq2 : goal.returns-then-kind-eq2
returns-then-kind-eq2 c = search kind_cases

pub returns : goal.returns
returns c = search kind_cases
