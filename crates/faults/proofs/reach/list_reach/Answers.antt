use Rattle.faults.proofs.Reaches.{reach_list}
use Rattle.faults.proofs.reach.list_reach.Goals as goal

pub returns-then-s-p : goal.returns-then-s-p
returns-then-s-p c = search reach_list

pub returns-then-b-lt15 : goal.returns-then-b-lt15
returns-then-b-lt15 c = search reach_list

pub returns-in-Refused : goal.returns-in-Refused
returns-in-Refused c = search reach_list

pub returns-in-Got : goal.returns-in-Got
returns-in-Got c = search reach_list
