use borrow.Author.Rules.{rules}
use Rattle.input.specs.State.{fresh}
use Rattle.input.proofs.TCompactInputProtocol.new.Goals as goal

pub returns : goal.returns
unfolding fresh
returns c = search rules
