use Rattle.frame_rows.proofs.Cases.{types}
use Rattle.frame_rows.proofs.open.type_of.Goals as goal

pub returns-then-n-lt14 : goal.returns-then-n-lt14
returns-then-n-lt14 c = search types

pub returns : goal.returns
returns c = search types
