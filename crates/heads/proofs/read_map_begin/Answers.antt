use Rattle.heads.proofs.Ahead.{map_head_cases}
use Rattle.heads.proofs.read_map_begin.Goals as goal

pub returns-then-lacks_room : goal.returns-then-lacks_room
returns-then-lacks_room c = search map_head_cases

pub returns-in-Refused : goal.returns-in-Refused
returns-in-Refused c = search map_head_cases

pub returns-else-lacks_room : goal.returns-else-lacks_room
returns-else-lacks_room c = search map_head_cases
