use Rattle.day_lines.proofs.Rows.{head_cases}
use Rattle.day_lines.proofs.put_head.Goals as goal

pub returns-in-Got : goal.returns-in-Got
returns-in-Got c = search head_cases

pub returns-in-Refused : goal.returns-in-Refused
returns-in-Refused c = search head_cases
