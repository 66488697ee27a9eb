use borrow.Author.Rules.{rules}
use Rattle.output.specs.State.{begun}
use Rattle.output.proofs.TCompactOutputProtocol.new.Goals as goal

pub returns : goal.returns
unfolding begun
returns c = search rules
