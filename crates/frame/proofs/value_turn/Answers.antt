use Rattle.frame.proofs.TurnCases.{value_cases}
use Rattle.frame.proofs.value_turn.Goals as goal

pub returns-in-Asks : goal.returns-in-Asks
returns-in-Asks c = search value_cases

pub returns-in-Enters : goal.returns-in-Enters
returns-in-Enters c = search value_cases

pub returns-in-Passes : goal.returns-in-Passes
returns-in-Passes c = search value_cases

pub returns-in-Refused : goal.returns-in-Refused
returns-in-Refused c = search value_cases
