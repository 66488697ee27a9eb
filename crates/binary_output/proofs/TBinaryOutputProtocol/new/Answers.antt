use borrow.Author.Rules.{rules}
use Rattle.binary_output.specs.State.{begun}
use Rattle.binary_output.proofs.TBinaryOutputProtocol.new.Goals as goal

pub new_at-requires : goal.new_at-requires
unfolding begun
new_at-requires c = search rules

pub returns : goal.returns
unfolding begun
returns c = search rules
