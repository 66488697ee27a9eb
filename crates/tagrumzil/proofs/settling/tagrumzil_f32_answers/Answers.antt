use Rattle.tagrumzil.proofs.Singles.{told_singles}
use Rattle.tagrumzil.proofs.settling.tagrumzil_f32_answers.Goals as goal

pub returns-in-Got : goal.returns-in-Got
returns-in-Got c = record { told_row = search told_singles; answers_after = search told_singles }

pub returns-in-Refused : goal.returns-in-Refused
returns-in-Refused c = record { told_row = search told_singles; answers_after = search told_singles }
