use Rattle.frame.proofs.Cases.{two_cases}
use Rattle.frame.proofs.open_pairs.Goals as goal

pub returns-then-why-ne0 : goal.returns-then-why-ne0
returns-then-why-ne0 c = search two_cases

pub returns-then-left-least_bytes : goal.returns-then-left-least_bytes
returns-then-left-least_bytes c = search two_cases

pub returns : goal.returns
returns c = search two_cases
