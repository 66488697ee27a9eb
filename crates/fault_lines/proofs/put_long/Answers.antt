use Rattle.fault_lines.proofs.Rows.{long_cases}
use Rattle.fault_lines.proofs.put_long.Goals as goal

pub returns-then-more : goal.returns-then-more
returns-then-more c = search long_cases

pub returns : goal.returns
returns c = search long_cases
