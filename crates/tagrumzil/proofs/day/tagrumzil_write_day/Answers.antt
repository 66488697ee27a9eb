use Rattle.tagrumzil.proofs.Daily.{daily}
use Rattle.tagrumzil.proofs.day.tagrumzil_write_day.Goals as goal

pub returns-in-To : goal.returns-in-To
returns-in-To c = record { put_day = search daily; out_after = search daily }

pub returns-in-Refused : goal.returns-in-Refused
returns-in-Refused c = record { put_day = search daily; out_after = search daily }
