use Rattle.heads.proofs.Fields.{head_cases}
use Rattle.heads.proofs.headed.Goals as goal

pub returns-then-kind-lt3 : goal.returns-then-kind-lt3
returns-then-kind-lt3 c = search head_cases

pub returns-in-Got : goal.returns-in-Got
returns-in-Got c = search head_cases

pub returns-in-Refused : goal.returns-in-Refused
returns-in-Refused c = search head_cases
