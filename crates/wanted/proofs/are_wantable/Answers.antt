use borrow.Author.Rules.{rules}
use Rattle.wanted.proofs.Cases.{wantables_cases}
use Rattle.wanted.proofs.are_wantable.Goals as goal

pub loop-j-init : goal.loop-j-init
loop-j-init c = (search (rules, wantables_cases), search (rules, wantables_cases))

pub bounds-kinds-j : goal.bounds-kinds-j
bounds-kinds-j c = search (rules, wantables_cases)

pub is_wantable-requires : goal.is_wantable-requires
is_wantable-requires c = search (rules, wantables_cases)

pub overflow_add-j : goal.overflow_add-j
overflow_add-j c = search (rules, wantables_cases)

pub loop-j-smaller : goal.loop-j-smaller
loop-j-smaller c = search (rules, wantables_cases)

pub loop-j-preserved : goal.loop-j-preserved
loop-j-preserved c = (search (rules, wantables_cases), search (rules, wantables_cases))

pub returns-else-is_wantable : goal.returns-else-is_wantable
returns-else-is_wantable c = search (rules, wantables_cases)

pub returns : goal.returns
returns c = search (rules, wantables_cases)
