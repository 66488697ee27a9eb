use Rattle.days.proofs.Cases.{fit_cases}
use Rattle.days.proofs.makes_day.Goals as goal

pub returns-then-ends-gt4096 : goal.returns-then-ends-gt4096
returns-then-ends-gt4096 c = search fit_cases

pub returns-then-ends-bytes : goal.returns-then-ends-bytes
returns-then-ends-bytes c = search fit_cases

pub returns : goal.returns
returns c = search fit_cases
