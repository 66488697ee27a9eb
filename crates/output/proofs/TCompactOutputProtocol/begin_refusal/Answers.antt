use Rattle.output.proofs.Checks.{begin_cases}
use Rattle.output.proofs.TCompactOutputProtocol.begin_refusal.Goals as goal

pub returns-then-self : goal.returns-then-self
returns-then-self c = search begin_cases

pub returns : goal.returns
returns c = search begin_cases
