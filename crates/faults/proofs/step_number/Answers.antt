use borrow.Author.Rules.{rules}
use Rattle.faults.proofs.Rows.{number_cases}
use Rattle.faults.proofs.step_number.Goals as goal

pub overflow_cast-result : goal.overflow_cast-result
overflow_cast-result c = search (rules, number_cases)

pub returns-in-Field : goal.returns-in-Field
returns-in-Field c = search (rules, number_cases)

pub returns-in-Element : goal.returns-in-Element
returns-in-Element c = search (rules, number_cases)

pub returns-in-Key : goal.returns-in-Key
returns-in-Key c = search (rules, number_cases)

pub returns-in-Value : goal.returns-in-Value
returns-in-Value c = search (rules, number_cases)
