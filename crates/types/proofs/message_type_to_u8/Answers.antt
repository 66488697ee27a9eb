use Rattle.types.specs.Codes.{message_code}
use Rattle.types.proofs.message_type_to_u8.Goals as goal

pub returns-in-Call : goal.returns-in-Call
unfolding message_code
returns-in-Call c = cc

pub returns-in-Reply : goal.returns-in-Reply
unfolding message_code
returns-in-Reply c = cc

pub returns-in-Exception : goal.returns-in-Exception
unfolding message_code
returns-in-Exception c = cc

pub returns-in-OneWay : goal.returns-in-OneWay
unfolding message_code
returns-in-OneWay c = cc
