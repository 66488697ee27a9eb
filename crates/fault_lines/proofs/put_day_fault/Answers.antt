use Rattle.fault_lines.proofs.Rows.{day_cases}
use Rattle.fault_lines.proofs.put_day_fault.Goals as goal

pub returns-in-At : goal.returns-in-At
returns-in-At c = search day_cases

pub returns-in-Refused : goal.returns-in-Refused
returns-in-Refused c = search day_cases
