use Rattle.fault_lines.proofs.Rows.{head_cases}
use Rattle.fault_lines.proofs.put_head.Goals as goal

pub returns-then-more : goal.returns-then-more
returns-then-more c = search head_cases

pub returns : goal.returns
returns c = search head_cases
