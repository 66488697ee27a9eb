use Rattle.puts.proofs.Pieces.{message_cases}
use Rattle.puts.proofs.message.Goals as goal

pub overflow_mul-second : goal.overflow_mul-second
overflow_mul-second c = search message_cases

pub overflow_add-second : goal.overflow_add-second
overflow_add-second c = search message_cases

pub returns : goal.returns
returns c = search message_cases
