use Rattle.frame.proofs.Nearby.{near_cases}
use Rattle.frame.proofs.near_move.Goals as goal

pub returns-in-Refused : goal.returns-in-Refused
returns-in-Refused c = search near_cases

pub returns-in-Waits : goal.returns-in-Waits
returns-in-Waits c = search near_cases

pub returns-in-Passed : goal.returns-in-Passed
returns-in-Passed c = search near_cases

pub returns-in-Closed : goal.returns-in-Closed
returns-in-Closed c = search near_cases

pub returns-in-Opened : goal.returns-in-Opened
returns-in-Opened c = search near_cases

pub returns-in-Named : goal.returns-in-Named
returns-in-Named c = search near_cases

pub returns-in-Valued : goal.returns-in-Valued
returns-in-Valued c = search near_cases
