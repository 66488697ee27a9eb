use Rattle.tagrumzil.proofs.Picked.{picks_through}
use Rattle.tagrumzil.proofs.picking.tagrumzil_pick.Goals as goal

pub returns : goal.returns
returns c = record { told_done = search picks_through; found_after = search picks_through }
