use Rattle.picker.proofs.Passing.{nearer_cases}
use Rattle.picker.proofs.nearer.Goals as goal

pub returns-then-id-next : goal.returns-then-id-next
returns-then-id-next c = search nearer_cases

pub returns-then-last-id : goal.returns-then-last-id
returns-then-last-id c = search nearer_cases

pub returns : goal.returns
returns c = search nearer_cases
