use Rattle.fault_lines.proofs.Rows.{line_cases}
use Rattle.fault_lines.proofs.put_refused.Goals as goal

pub returns : goal.returns
returns c = search line_cases
