use Rattle.faults.proofs.Rows.{kind_cases}
use Rattle.faults.proofs.step_kind.Goals as goal

pub returns-in-Field : goal.returns-in-Field
returns-in-Field c = search kind_cases

pub returns-in-Element : goal.returns-in-Element
returns-in-Element c = search kind_cases

pub returns-in-Key : goal.returns-in-Key
returns-in-Key c = search kind_cases

pub returns-in-Value : goal.returns-in-Value
returns-in-Value c = search kind_cases
