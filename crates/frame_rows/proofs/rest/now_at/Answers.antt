use Rattle.frame_rows.proofs.Cases.{now_ats}
use Rattle.frame_rows.proofs.rest.now_at.Goals as goal

pub returns : goal.returns
returns c = search now_ats
