use Rattle.frame.proofs.Cases.{weight_cases}
use Rattle.frame.proofs.weight.Goals as goal

pub returns-then-groups-eq0 : goal.returns-then-groups-eq0
returns-then-groups-eq0 c = search weight_cases

pub returns-then-groups-eq1 : goal.returns-then-groups-eq1
returns-then-groups-eq1 c = search weight_cases

pub returns-then-groups-eq2 : goal.returns-then-groups-eq2
returns-then-groups-eq2 c = search weight_cases

pub returns-then-groups-eq3 : goal.returns-then-groups-eq3
returns-then-groups-eq3 c = search weight_cases

pub returns : goal.returns
returns c = search weight_cases
