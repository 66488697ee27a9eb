use Rattle.frame_rows.proofs.Cases.{nest_ats}
use Rattle.frame_rows.proofs.open.nest_at.Goals as goal

pub returns : goal.returns
returns c = search nest_ats
