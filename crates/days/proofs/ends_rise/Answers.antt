use borrow.Author.Rules.{rules}
use Rattle.days.proofs.Cases.{rise_cases}
use Rattle.days.proofs.ends_rise.Goals as goal

pub loop-i-init : goal.loop-i-init
loop-i-init c = search (rules, rise_cases)

pub returns-then-end-at : goal.returns-then-end-at
returns-then-end-at c = search (rules, rise_cases)

pub loop-i-preserved : goal.loop-i-preserved
loop-i-preserved c = search (rules, rise_cases)

pub returns : goal.returns
returns c = search (rules, rise_cases)
