use Rattle.day_lines.proofs.Rows.{line_cases}
use Rattle.day_lines.proofs.put_line.Goals as goal

pub returns-in-At : goal.returns-in-At
returns-in-At c = search line_cases

pub returns-in-Refused : goal.returns-in-Refused
returns-in-Refused c = search line_cases
