use Rattle.faults.proofs.Reaches.{head_cases}
use Rattle.faults.proofs.reach.field_reach.Goals as goal

pub returns-then-s-p : goal.returns-then-s-p
returns-then-s-p c = search head_cases

pub returns-in-Stop : goal.returns-in-Stop
returns-in-Stop c = search head_cases

pub returns-in-Refused : goal.returns-in-Refused
returns-in-Refused c = search head_cases

pub returns-in-Truth : goal.returns-in-Truth
returns-in-Truth c = search head_cases

pub returns-in-Kind : goal.returns-in-Kind
returns-in-Kind c = search head_cases

pub returns : goal.returns
returns c = search head_cases
