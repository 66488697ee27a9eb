use Rattle.frame.proofs.Cases.{goal_cases}
use Rattle.frame.proofs.reach.Goals as goal

pub returns-in-Got : goal.returns-in-Got
returns-in-Got c = search goal_cases

pub returns-in-Over : goal.returns-in-Over
returns-in-Over c = search goal_cases

pub returns-in-Got-long_id : goal.returns-in-Got-long_id
returns-in-Got-long_id c = search goal_cases

pub returns-in-Over-long_id : goal.returns-in-Over-long_id
returns-in-Over-long_id c = search goal_cases

pub returns-in-Count : goal.returns-in-Count
returns-in-Count c = search goal_cases

pub returns-in-Pairs : goal.returns-in-Pairs
returns-in-Pairs c = search goal_cases

pub returns-in-Length : goal.returns-in-Length
returns-in-Length c = search goal_cases

pub returns-in-Got-long_id-2 : goal.returns-in-Got-long_id-2
returns-in-Got-long_id-2 c = search goal_cases

pub returns-in-Over-long_id-2 : goal.returns-in-Over-long_id-2
returns-in-Over-long_id-2 c = search goal_cases
