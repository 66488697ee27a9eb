use Rattle.rows.proofs.Cases.{numbers}
use Rattle.rows.proofs.row.number.Goals as goal

pub returns : goal.returns
returns c = search numbers
