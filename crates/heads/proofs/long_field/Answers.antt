use Rattle.heads.proofs.Fields.{long_cases}
use Rattle.heads.proofs.long_field.Goals as goal

pub returns-in-Got : goal.returns-in-Got
returns-in-Got c = search long_cases

pub returns-in-Refused : goal.returns-in-Refused
returns-in-Refused c = search long_cases
