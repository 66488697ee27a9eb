use Rattle.days.proofs.Cases.{number_put}
use Rattle.days.proofs.put_number.Goals as goal

pub returns : goal.returns
returns c = search number_put
