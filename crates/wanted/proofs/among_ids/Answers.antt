use borrow.Author.Rules.{rules}
use Rattle.wanted.proofs.Cases.{among_cases}
use Rattle.wanted.proofs.among_ids.Goals as goal

pub loop-j-init : goal.loop-j-init
loop-j-init c = (search (rules, among_cases), search (rules, among_cases))

pub offset_bounds-ids-j : goal.offset_bounds-ids-j
offset_bounds-ids-j c = search (rules, among_cases)

pub bounds-ids-j : goal.bounds-ids-j
bounds-ids-j c = search (rules, among_cases)

pub same_id-requires : goal.same_id-requires
same_id-requires c = search (rules, among_cases)

pub returns-then-same_id : goal.returns-then-same_id
returns-then-same_id c = search (rules, among_cases)

pub overflow_add-j : goal.overflow_add-j
overflow_add-j c = search (rules, among_cases)

pub loop-j-smaller : goal.loop-j-smaller
loop-j-smaller c = search (rules, among_cases)

pub loop-j-preserved : goal.loop-j-preserved
loop-j-preserved c = (search (rules, among_cases), search (rules, among_cases))

pub returns : goal.returns
returns c = search (rules, among_cases)
