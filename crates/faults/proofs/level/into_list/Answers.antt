use Rattle.faults.proofs.Lists.{list_cases}
use Rattle.faults.proofs.level.into_list.Goals as goal

pub returns-in-Refused : goal.returns-in-Refused
returns-in-Refused c = search list_cases

pub into_items-requires : goal.into_items-requires
into_items-requires c = search list_cases

pub returns-then-can_begin : goal.returns-then-can_begin
returns-then-can_begin c = search list_cases

pub returns-in-Got : goal.returns-in-Got
returns-in-Got c = search list_cases
