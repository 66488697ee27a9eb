use borrow.Author.Rules.{rules}
use Rattle.days.proofs.Cases.{check_cases, check_done}
use Rattle.days.proofs.check_day.Goals as goal

pub returns-then-file-lt8 : goal.returns-then-file-lt8
returns-then-file-lt8 c = search (rules, check_cases)

pub number_at-n-requires : goal.number_at-n-requires
number_at-n-requires c = search (rules, check_cases)

pub returns-then-n-gt4096 : goal.returns-then-n-gt4096
returns-then-n-gt4096 c = search (rules, check_cases)

pub returns-then-file-base : goal.returns-then-file-base
returns-then-file-base c = search (rules, check_cases)

pub number_at-last-requires : goal.number_at-last-requires
number_at-last-requires c = search (rules, check_cases)

pub returns-then-last-base : goal.returns-then-last-base
returns-then-last-base c = search (rules, check_cases)

pub loop-i-init : goal.loop-i-init
loop-i-init c = search (rules, check_cases)

pub overflow_add-i : goal.overflow_add-i
overflow_add-i c = search (rules, check_cases)

pub number_at-next-requires : goal.number_at-next-requires
number_at-next-requires c = search (rules, check_cases)

pub returns-then-next-last : goal.returns-then-next-last
returns-then-next-last c = search (rules, check_cases)

pub loop-i-preserved : goal.loop-i-preserved
loop-i-preserved c = search (rules, check_cases)

pub returns-then-last-file : goal.returns-then-last-file
returns-then-last-file c = search (rules, check_cases)

pub returns : goal.returns
returns c = check_done _ _ _ _ c.loop-i.invariant (search rules) (search rules)
