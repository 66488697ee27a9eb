use Rattle.heads.proofs.Cases.{message_cases}
use Rattle.heads.proofs.read_message_begin.Goals as goal

pub returns-then-s-at : goal.returns-then-s-at
returns-then-s-at c = search message_cases

pub returns-then-s-at-2 : goal.returns-then-s-at-2
returns-then-s-at-2 c = search message_cases

pub returns : goal.returns
returns c = search message_cases
