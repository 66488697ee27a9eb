use Rattle.heads.proofs.Cases.{listed_cases}
use Rattle.heads.proofs.listed.Goals as goal

pub returns-then-why-ne0 : goal.returns-then-why-ne0
returns-then-why-ne0 c = search listed_cases

pub returns : goal.returns
returns c = search listed_cases
