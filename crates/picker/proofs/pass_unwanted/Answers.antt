use Rattle.picker.proofs.Passing.{pass_cases}
use Rattle.picker.proofs.pass_unwanted.Goals as goal

pub returns : goal.returns
returns c = search pass_cases
