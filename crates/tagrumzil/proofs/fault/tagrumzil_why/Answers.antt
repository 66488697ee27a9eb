use Rattle.tagrumzil.proofs.Told.{told_why}
use Rattle.tagrumzil.proofs.fault.tagrumzil_why.Goals as goal

pub returns-in-Accepted : goal.returns-in-Accepted
returns-in-Accepted c = record { told_fault = search told_why; path_after = search told_why }

pub returns-in-Refused : goal.returns-in-Refused
returns-in-Refused c = record { told_fault = search told_why; path_after = search told_why }
