use mathlib.Core.Path.{refl}
use borrow.Author.Rules.{rules}
use Rattle.faults.proofs.Rows.{row_cases}
use Rattle.faults.proofs.put_row.Goals as goal

pub loop-j-init : goal.loop-j-init
loop-j-init c = (search rules, refl, refl)

pub loop-j-preserved : goal.loop-j-preserved
loop-j-preserved c = (search rules, search rules, search (rules, row_cases))

pub returns : goal.returns
returns c = search (rules, row_cases)
