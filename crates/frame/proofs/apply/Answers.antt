use Rattle.frame.proofs.Applied.{apply_cases}
use Rattle.frame.proofs.apply.Goals as goal

pub returns-then-body-left : goal.returns-then-body-left
returns-then-body-left c = search apply_cases

pub bounds-rows-depth : goal.bounds-rows-depth
bounds-rows-depth c = search apply_cases

pub settle-requires-in-Opened : goal.settle-requires-in-Opened
settle-requires-in-Opened c = search apply_cases

pub returns-in-Refused : goal.returns-in-Refused
returns-in-Refused c = search apply_cases

pub returns-in-Waits : goal.returns-in-Waits
returns-in-Waits c = search apply_cases

pub returns-else-body-left : goal.returns-else-body-left
returns-else-body-left c = search apply_cases

pub returns-in-Closed : goal.returns-in-Closed
returns-in-Closed c = search apply_cases

pub returns-in-Opened : goal.returns-in-Opened
returns-in-Opened c = search apply_cases

pub returns-in-Named : goal.returns-in-Named
returns-in-Named c = search apply_cases

pub returns-in-Valued : goal.returns-in-Valued
returns-in-Valued c = search apply_cases
