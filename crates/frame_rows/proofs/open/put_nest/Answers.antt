use Rattle.frame_rows.proofs.Puts.{nest_puts}
use Rattle.frame_rows.proofs.open.put_nest.Goals as goal

pub returns-in-Fields : goal.returns-in-Fields
returns-in-Fields c = search nest_puts

pub returns-in-Items : goal.returns-in-Items
returns-in-Items c = search nest_puts

pub returns-in-Keys : goal.returns-in-Keys
returns-in-Keys c = search nest_puts

pub returns-in-Values : goal.returns-in-Values
returns-in-Values c = search nest_puts
