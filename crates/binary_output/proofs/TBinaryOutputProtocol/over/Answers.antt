use Rattle.binary_output.proofs.Checks.{over_cases}
use Rattle.binary_output.proofs.TBinaryOutputProtocol.over.Goals as goal

pub returns-then-wrong-ne0 : goal.returns-then-wrong-ne0
returns-then-wrong-ne0 c = search over_cases

pub returns-then-left-head : goal.returns-then-left-head
returns-then-left-head c = search over_cases

pub returns-then-left-head-2 : goal.returns-then-left-head-2
returns-then-left-head-2 c = search over_cases

pub returns : goal.returns
returns c = search over_cases
