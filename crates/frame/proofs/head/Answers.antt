use Rattle.frame.proofs.Cases.{head_cases}
use Rattle.frame.proofs.head.Goals as goal

pub returns-then-delta-eq0 : goal.returns-then-delta-eq0
returns-then-delta-eq0 c = search head_cases

pub returns-then-delta-eq0-2 : goal.returns-then-delta-eq0-2
returns-then-delta-eq0-2 c = search head_cases

pub returns-in-Stop : goal.returns-in-Stop
returns-in-Stop c = search head_cases

pub returns-in-Refused : goal.returns-in-Refused
returns-in-Refused c = search head_cases

pub returns-in-Got : goal.returns-in-Got
returns-in-Got c = search head_cases

pub returns-in-Over : goal.returns-in-Over
returns-in-Over c = search head_cases

pub returns-in-Got-short_id : goal.returns-in-Got-short_id
returns-in-Got-short_id c = search head_cases

pub returns-in-Over-short_id : goal.returns-in-Over-short_id
returns-in-Over-short_id c = search head_cases
