use Rattle.binary_output.proofs.Checks.{begin_cases}
use Rattle.binary_output.proofs.TBinaryOutputProtocol.begin_refusal.Goals as goal

pub returns-then-self : goal.returns-then-self
returns-then-self c = search begin_cases

pub returns : goal.returns
returns c = search begin_cases
