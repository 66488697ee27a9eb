use Rattle.skip.proofs.Call.{waiting_cases}
use Rattle.skip.proofs.skip_waiting.Goals as goal

pub returns-then-type_to_u8-eq1 : goal.returns-then-type_to_u8-eq1
returns-then-type_to_u8-eq1 c = search waiting_cases

pub returns : goal.returns
returns c = search waiting_cases
