use Rattle.doubles.proofs.Cases.{double_cases}
use Rattle.doubles.proofs.walk.walk_double.Goals as goal

pub returns-in-Got : goal.returns-in-Got
returns-in-Got c = search double_cases

pub returns-in-Refused : goal.returns-in-Refused
returns-in-Refused c = search double_cases
