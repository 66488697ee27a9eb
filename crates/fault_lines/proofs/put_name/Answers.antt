use Rattle.fault_lines.proofs.Rows.{name_cases}
use Rattle.fault_lines.proofs.put_name.Goals as goal

pub returns : goal.returns
returns c = search name_cases
