use Rattle.faults.proofs.Lists.{map_cases}
use Rattle.faults.proofs.level.into_map.Goals as goal

pub returns-in-Refused : goal.returns-in-Refused
returns-in-Refused c = search map_cases

pub into_pairs-requires : goal.into_pairs-requires
into_pairs-requires c = search map_cases

pub returns-then-can_begin-2 : goal.returns-then-can_begin-2
returns-then-can_begin-2 c = search map_cases

pub returns-then-can_begin : goal.returns-then-can_begin
returns-then-can_begin c = search map_cases

pub returns-in-Got : goal.returns-in-Got
returns-in-Got c = search map_cases
