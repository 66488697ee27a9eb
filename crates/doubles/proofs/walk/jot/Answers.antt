use Rattle.doubles.proofs.Cases.{jot_cases}
use Rattle.doubles.proofs.walk.jot.Goals as goal

pub returns-then-n-row : goal.returns-then-n-row
returns-then-n-row c = search jot_cases

pub returns : goal.returns
returns c = search jot_cases
