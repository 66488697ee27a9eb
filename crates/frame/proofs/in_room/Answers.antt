use Rattle.frame.proofs.TurnCases.{room_cases}
use Rattle.frame.proofs.in_room.Goals as goal

pub returns-then-held-limits : goal.returns-then-held-limits
returns-then-held-limits c = search room_cases

pub returns : goal.returns
returns c = search room_cases
