use Rattle.heads.proofs.Cases.{named_cases}
use Rattle.heads.proofs.named.Goals as goal

pub returns-in-Refused : goal.returns-in-Refused
returns-in-Refused c = search named_cases

pub returns-in-Refused-read_string : goal.returns-in-Refused-read_string
returns-in-Refused-read_string c = search named_cases

pub returns-in-Got-read_string : goal.returns-in-Got-read_string
returns-in-Got-read_string c = search named_cases
