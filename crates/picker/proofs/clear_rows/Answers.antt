use borrow.Author.Rules.{rules}
use Rattle.picker.proofs.Cases.{clear_cases}
use Rattle.picker.proofs.clear_rows.Goals as goal

pub loop-j-init : goal.loop-j-init
loop-j-init c = (search (rules, clear_cases), search (rules, clear_cases), search (rules, clear_cases))

pub put_row-requires : goal.put_row-requires
put_row-requires c = search (rules, clear_cases)

pub overflow_add-j : goal.overflow_add-j
overflow_add-j c = search (rules, clear_cases)

pub loop-j-smaller : goal.loop-j-smaller
loop-j-smaller c = search (rules, clear_cases)

pub loop-j-preserved : goal.loop-j-preserved
loop-j-preserved c = (search (rules, clear_cases), search (rules, clear_cases), search (rules, clear_cases))

pub shape_of-rows : goal.shape_of-rows
shape_of-rows c = search (rules, clear_cases)

pub returns : goal.returns
returns c = search (rules, clear_cases)
