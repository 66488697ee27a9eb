use Rattle.heads.proofs.Cases.{some_cases}
use Rattle.heads.proofs.some.Goals as goal

pub returns-then-s-from : goal.returns-then-s-from
returns-then-s-from c = search some_cases

pub returns : goal.returns
returns c = search some_cases
