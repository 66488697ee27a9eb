use borrow.Author.Rules.{rules}
use Rattle.wanted.proofs.Cases.{distinct_cases}
use Rattle.wanted.proofs.are_distinct.Goals as goal

pub loop-j-init : goal.loop-j-init
loop-j-init c = (search (rules, distinct_cases), search (rules, distinct_cases))

pub overflow_add-j : goal.overflow_add-j
overflow_add-j c = search (rules, distinct_cases)

pub offset_bounds-ids-j : goal.offset_bounds-ids-j
offset_bounds-ids-j c = search (rules, distinct_cases)

pub bounds-ids-j : goal.bounds-ids-j
bounds-ids-j c = search (rules, distinct_cases)

pub among_ids-requires : goal.among_ids-requires
among_ids-requires c = search (rules, distinct_cases)

pub returns-then-among_ids : goal.returns-then-among_ids
returns-then-among_ids c = search (rules, distinct_cases)

pub overflow_add-j-in-loop-j : goal.overflow_add-j-in-loop-j
overflow_add-j-in-loop-j c = search (rules, distinct_cases)

pub loop-j-smaller : goal.loop-j-smaller
loop-j-smaller c = search (rules, distinct_cases)

pub loop-j-preserved : goal.loop-j-preserved
loop-j-preserved c = (search (rules, distinct_cases), search (rules, distinct_cases))

pub returns : goal.returns
returns c = search (rules, distinct_cases)
