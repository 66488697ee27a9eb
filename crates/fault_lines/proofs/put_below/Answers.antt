use Rattle.fault_lines.proofs.Rows.{below_cases}
use Rattle.fault_lines.proofs.put_below.Goals as goal

pub returns : goal.returns
returns c = search below_cases
