use Rattle.input.proofs.Cases.{missing_cases}
use Rattle.input.proofs.missing.Goals as goal

pub returns-then-why-eq-END : goal.returns-then-why-eq-END
returns-then-why-eq-END c = search missing_cases

pub returns-then-end-len : goal.returns-then-end-len
returns-then-end-len c = search missing_cases

pub returns : goal.returns
returns c = search missing_cases
