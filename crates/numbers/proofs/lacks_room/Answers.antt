use Rattle.numbers.proofs.Cases.{room_cases}
use Rattle.numbers.proofs.lacks_room.Goals as goal

pub returns-then-have-at : goal.returns-then-have-at
returns-then-have-at c = search room_cases

pub returns : goal.returns
returns c = search room_cases
