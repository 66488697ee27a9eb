use native.Mathlib.Omega.{arith}
use borrow.Author.Rules.{rules}
use Rattle.faults.proofs.Inner.{items_cases, items_start}
use Rattle.faults.proofs.level.into_items.Goals as goal

pub loop-i-init : goal.loop-i-init
loop-i-init c = items_start _ _ _ _ _ _ (search rules)

pub returns-in-Refused : goal.returns-in-Refused
returns-in-Refused c = search items_cases

pub loop-i-smaller : goal.loop-i-smaller
loop-i-smaller c = omega arith

pub loop-i-preserved : goal.loop-i-preserved
loop-i-preserved c = search items_cases

pub returns : goal.returns
returns c = search items_cases
