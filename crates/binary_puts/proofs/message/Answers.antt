use Rattle.binary_puts.proofs.Pieces.{message_cases}
use Rattle.binary_puts.proofs.message.Goals as goal

pub returns : goal.returns
returns c = search message_cases
