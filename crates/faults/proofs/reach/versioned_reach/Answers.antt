use Rattle.faults.proofs.Reaches.{version_cases}
use Rattle.faults.proofs.reach.versioned_reach.Goals as goal

pub returns-then-s-at : goal.returns-then-s-at
returns-then-s-at c = search version_cases

pub returns-then-b-ne1 : goal.returns-then-b-ne1
returns-then-b-ne1 c = search version_cases

pub returns-in-Refused : goal.returns-in-Refused
returns-in-Refused c = search version_cases

pub returns-in-Got : goal.returns-in-Got
returns-in-Got c = search version_cases
