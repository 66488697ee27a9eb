use Rattle.frame.proofs.Tests.{refusal_cases}
use Rattle.frame.proofs.is_refusal.Goals as goal

pub returns-then-why-eq-END : goal.returns-then-why-eq-END
returns-then-why-eq-END c = search refusal_cases

pub returns-then-why-eq-RANGE : goal.returns-then-why-eq-RANGE
returns-then-why-eq-RANGE c = search refusal_cases

pub returns-then-why-ge-BAD_TYPE : goal.returns-then-why-ge-BAD_TYPE
returns-then-why-ge-BAD_TYPE c = search refusal_cases

pub returns : goal.returns
returns c = search refusal_cases
