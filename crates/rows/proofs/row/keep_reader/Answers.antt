use Rattle.rows.proofs.Cases.{keeps}
use Rattle.rows.proofs.row.keep_reader.Goals as goal

pub returns-then-why-eq0 : goal.returns-then-why-eq0
returns-then-why-eq0 c = search keeps

pub returns-else-why-eq0 : goal.returns-else-why-eq0
returns-else-why-eq0 c = search keeps
