use Rattle.single_lines.proofs.Rows.{text_cases}
use Rattle.single_lines.proofs.put_singles.Goals as goal

pub returns-then-s-gt-MOST_BYTES : goal.returns-then-s-gt-MOST_BYTES
returns-then-s-gt-MOST_BYTES c = search text_cases

pub returns-in-Got : goal.returns-in-Got
returns-in-Got c = search text_cases

pub returns-in-Refused : goal.returns-in-Refused
returns-in-Refused c = search text_cases
