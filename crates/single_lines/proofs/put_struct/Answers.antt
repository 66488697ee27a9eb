use Rattle.single_lines.proofs.Rows.{struct_cases}
use Rattle.single_lines.proofs.put_struct.Goals as goal

pub returns-in-Got : goal.returns-in-Got
returns-in-Got c = search struct_cases

pub returns-in-Refused : goal.returns-in-Refused
returns-in-Refused c = search struct_cases
