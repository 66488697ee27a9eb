use Rattle.frame_rows.proofs.Puts.{now_puts}
use Rattle.frame_rows.proofs.rest.put_now.Goals as goal

pub returns-in-Asks : goal.returns-in-Asks
returns-in-Asks c = search now_puts

pub returns-in-Done : goal.returns-in-Done
returns-in-Done c = search now_puts

pub returns-in-Refused : goal.returns-in-Refused
returns-in-Refused c = search now_puts
