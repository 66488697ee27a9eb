use Rattle.frame.proofs.Nearby.{value_cases}
use Rattle.frame.proofs.near_value.Goals as goal

pub returns-then-w-left : goal.returns-then-w-left
returns-then-w-left c = search value_cases

pub returns-then-w-gt0 : goal.returns-then-w-gt0
returns-then-w-gt0 c = search value_cases

pub returns-in-Asks : goal.returns-in-Asks
returns-in-Asks c = search value_cases

pub returns-in-Enters : goal.returns-in-Enters
returns-in-Enters c = search value_cases

pub returns-in-Passes : goal.returns-in-Passes
returns-in-Passes c = search value_cases

pub returns-in-Refused : goal.returns-in-Refused
returns-in-Refused c = search value_cases
