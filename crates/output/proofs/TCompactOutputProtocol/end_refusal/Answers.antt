use Rattle.output.proofs.Checks.{end_cases}
use Rattle.output.proofs.TCompactOutputProtocol.end_refusal.Goals as goal

pub returns-then-self-eq0 : goal.returns-then-self-eq0
returns-then-self-eq0 c = search end_cases

pub returns : goal.returns
returns c = search end_cases
