use Rattle.fault_lines.proofs.Rows.{around_cases}
use Rattle.fault_lines.proofs.put_around.Goals as goal

pub returns-then-s-offset : goal.returns-then-s-offset
returns-then-s-offset c = search around_cases

pub returns : goal.returns
returns c = search around_cases
