use borrow.Author.Rules.{rules}
use Rattle.picker.proofs.Passing.{past_cases}
use Rattle.picker.proofs.next_wanted.Goals as goal

pub loop-j-init : goal.loop-j-init
loop-j-init c = (search (rules, past_cases), search (rules, past_cases))

pub offset_bounds-ids-j : goal.offset_bounds-ids-j
offset_bounds-ids-j c = search (rules, past_cases)

pub bounds-ids-j : goal.bounds-ids-j
bounds-ids-j c = search (rules, past_cases)

pub nearer-next-requires : goal.nearer-next-requires
nearer-next-requires c = search (rules, past_cases)

pub overflow_add-j : goal.overflow_add-j
overflow_add-j c = search (rules, past_cases)

pub loop-j-smaller : goal.loop-j-smaller
loop-j-smaller c = search (rules, past_cases)

pub loop-j-preserved : goal.loop-j-preserved
loop-j-preserved c = (search (rules, past_cases), search (rules, past_cases))

pub returns : goal.returns
returns c = search (rules, past_cases)
