use Rattle.faults.proofs.Call.{why_cases}
use Rattle.faults.proofs.why.Goals as goal

pub returns-then-number-ne0 : goal.returns-then-number-ne0
returns-then-number-ne0 c = search why_cases

pub why_on-requires : goal.why_on-requires
why_on-requires c = search why_cases

pub returns : goal.returns
returns c = search why_cases
