use Rattle.rows.proofs.Cases.{awaits}
use Rattle.rows.proofs.row.awaited_no.Goals as goal

pub returns-in-Nothing : goal.returns-in-Nothing
returns-in-Nothing c = search awaits

pub returns-in-Truth : goal.returns-in-Truth
returns-in-Truth c = search awaits
