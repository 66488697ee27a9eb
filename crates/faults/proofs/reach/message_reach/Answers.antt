use Rattle.faults.proofs.Reaches.{message_cases}
use Rattle.faults.proofs.reach.message_reach.Goals as goal

pub returns-then-s-p : goal.returns-then-s-p
returns-then-s-p c = search message_cases

pub returns-then-s-p-2 : goal.returns-then-s-p-2
returns-then-s-p-2 c = search message_cases

pub returns : goal.returns
returns c = search message_cases
