use Rattle.day_lines.proofs.Rows.{number_cases}
use Rattle.day_lines.proofs.put_number.Goals as goal

pub returns : goal.returns
returns c = search number_cases
