use Rattle.output.proofs.Cases.{message_cases}
use Rattle.output.proofs.TCompactOutputProtocol.write_message_begin.Goals as goal

pub returns-then-why-ne0 : goal.returns-then-why-ne0
returns-then-why-ne0 c = search message_cases

pub returns : goal.returns
returns c = search message_cases
