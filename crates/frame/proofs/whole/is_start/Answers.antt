use Rattle.frame.proofs.OneBurst.{starts}
use Rattle.frame.proofs.whole.is_start.Goals as goal

pub returns-then-depth-ne1 : goal.returns-then-depth-ne1
returns-then-depth-ne1 c = search starts

pub returns-then-body-ne0 : goal.returns-then-body-ne0
returns-then-body-ne0 c = search starts

pub returns-then-is_head : goal.returns-then-is_head
returns-then-is_head c = search starts

pub returns : goal.returns
returns c = search starts
