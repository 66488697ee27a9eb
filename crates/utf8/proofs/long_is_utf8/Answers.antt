use borrow.Author.Rules.{rules}
use Rattle.utf8.proofs.Library.{just_texts}
use Rattle.utf8.proofs.long_is_utf8.Goals as goal

pub returns : goal.returns
returns c = search (rules, just_texts)
