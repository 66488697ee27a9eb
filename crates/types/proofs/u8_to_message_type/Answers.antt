use Rattle.types.specs.Codes.{message_by_number}
use Rattle.types.proofs.Codes.{no_message}
use Rattle.types.proofs.u8_to_message_type.Goals as goal

pub returns-in-1 : goal.returns-in-1
unfolding message_by_number
returns-in-1 c = cc

pub returns-in-2 : goal.returns-in-2
unfolding message_by_number
returns-in-2 c = cc

pub returns-in-3 : goal.returns-in-3
unfolding message_by_number
returns-in-3 c = cc

pub returns-in-4 : goal.returns-in-4
unfolding message_by_number
returns-in-4 c = cc

pub returns-in_default : goal.returns-in_default
unfolding message_by_number
returns-in_default c = no_message _ c.in_default.in_default-own.rest
