use Rattle.frame.proofs.Cases.{list_cases}
use Rattle.frame.proofs.list.Goals as goal

pub returns-then-high-lt15 : goal.returns-then-high-lt15
returns-then-high-lt15 c = search list_cases

pub returns-in-Refused : goal.returns-in-Refused
returns-in-Refused c = search list_cases

pub returns-else-high-lt15 : goal.returns-else-high-lt15
returns-else-high-lt15 c = search list_cases
