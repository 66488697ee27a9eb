use Rattle.binary_output.proofs.Checks.{stop_cases}
use Rattle.binary_output.proofs.TBinaryOutputProtocol.refusal.Goals as goal

pub returns-then-why-ne0 : goal.returns-then-why-ne0
returns-then-why-ne0 c = search stop_cases

pub returns : goal.returns
returns c = search stop_cases
