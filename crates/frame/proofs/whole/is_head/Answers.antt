use Rattle.frame.proofs.OneBurst.{heads}
use Rattle.frame.proofs.whole.is_head.Goals as goal

pub returns-in-Head : goal.returns-in-Head
returns-in-Head c = search heads

pub returns-in-Truth : goal.returns-in-Truth
returns-in-Truth c = search heads

pub returns-in-List : goal.returns-in-List
returns-in-List c = search heads

pub returns-in-Types : goal.returns-in-Types
returns-in-Types c = search heads

pub returns-in-Varint : goal.returns-in-Varint
returns-in-Varint c = search heads

pub returns-in-Number : goal.returns-in-Number
returns-in-Number c = search heads

pub returns-in-Done : goal.returns-in-Done
returns-in-Done c = search heads

pub returns-in-Refused : goal.returns-in-Refused
returns-in-Refused c = search heads
