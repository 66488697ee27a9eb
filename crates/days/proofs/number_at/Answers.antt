use Rattle.days.proofs.Cases.{number_cases}
use Rattle.days.proofs.number_at.Goals as goal

pub returns-in-Got : goal.returns-in-Got
returns-in-Got c = search number_cases

pub returns-in-Refused : goal.returns-in-Refused
returns-in-Refused c = search number_cases
