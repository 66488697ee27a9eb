use Rattle.heads.proofs.Cases.{i8_cases}
use Rattle.heads.proofs.read_i8.Goals as goal

pub returns-then-s-at : goal.returns-then-s-at
returns-then-s-at c = search i8_cases

pub returns : goal.returns
returns c = search i8_cases
