use Rattle.input.proofs.Cases.{gate_cases}
use Rattle.input.proofs.TCompactInputProtocol.refusal.Goals as goal

pub returns-in-Nothing : goal.returns-in-Nothing
returns-in-Nothing c = search gate_cases

pub returns-in-Truth : goal.returns-in-Truth
returns-in-Truth c = search gate_cases

pub returns : goal.returns
returns c = search gate_cases
