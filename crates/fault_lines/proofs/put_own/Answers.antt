use Rattle.fault_lines.proofs.Rows.{own_cases}
use Rattle.fault_lines.proofs.put_own.Goals as goal

pub returns-then-bytes-eq0 : goal.returns-then-bytes-eq0
returns-then-bytes-eq0 c = search own_cases

pub returns : goal.returns
returns c = search own_cases
