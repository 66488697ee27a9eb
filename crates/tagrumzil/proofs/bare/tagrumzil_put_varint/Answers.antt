use Rattle.tagrumzil.proofs.Bared.{bares}
use Rattle.tagrumzil.proofs.bare.tagrumzil_put_varint.Goals as goal

pub returns-then-buf-at : goal.returns-then-buf-at
returns-then-buf-at c = search bares

pub returns-in-To : goal.returns-in-To
returns-in-To c = search bares

pub returns-in-Refused : goal.returns-in-Refused
returns-in-Refused c = search bares
