use borrow.Author.Rules.{sfits_of}
use Rattle.wanted.proofs.Cases.{ids_same}
use Rattle.wanted.proofs.same_id.Goals as goal

pub returns : goal.returns
returns c = search (ids_same, sfits_of)
