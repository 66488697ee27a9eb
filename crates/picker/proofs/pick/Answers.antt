use Rattle.picker.proofs.Call.{pick_cases}
use Rattle.picker.proofs.pick.Goals as goal

pub returns-then-why-ne0 : goal.returns-then-why-ne0
returns-then-why-ne0 c = search pick_cases

pub pick_on-requires : goal.pick_on-requires
pick_on-requires c = search pick_cases

pub returns-then-ids-rows : goal.returns-then-ids-rows
returns-then-ids-rows c = search pick_cases

pub returns-then-state : goal.returns-then-state
returns-then-state c = search pick_cases

pub returns-then-is_listed : goal.returns-then-is_listed
returns-then-is_listed c = search pick_cases

pub returns : goal.returns
returns c = search pick_cases
