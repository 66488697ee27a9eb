use Rattle.frame.proofs.OneBurst.{firsts}
use Rattle.frame.proofs.whole.is_first.Goals as goal

pub returns-in-Fields : goal.returns-in-Fields
returns-in-Fields c = search firsts

pub returns-in-Items : goal.returns-in-Items
returns-in-Items c = search firsts

pub returns-in-Keys : goal.returns-in-Keys
returns-in-Keys c = search firsts

pub returns-in-Values : goal.returns-in-Values
returns-in-Values c = search firsts
