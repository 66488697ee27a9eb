use Rattle.tagrumzil.proofs.Bared.{bares}
use Rattle.tagrumzil.proofs.bare.tagrumzil_varint64.Goals as goal

pub returns-then-s-at : goal.returns-then-s-at
returns-then-s-at c = search bares

pub returns-in-Got : goal.returns-in-Got
returns-in-Got c = search bares

pub returns-in-Refused : goal.returns-in-Refused
returns-in-Refused c = search bares
