use mathlib.Core.Path.{refl}
use borrow.Author.Rules.{rules}
use Rattle.faults.proofs.Reaches.{reach_cases}
use Rattle.faults.proofs.reach.number_reach.Goals as goal

pub loop-left-init : goal.loop-left-init
loop-left-init c = (search rules, refl)

pub returns-then-s-p : goal.returns-then-s-p
returns-then-s-p c = search reach_cases

pub returns-then-b-lt128 : goal.returns-then-b-lt128
returns-then-b-lt128 c = search reach_cases

pub loop-left-preserved : goal.loop-left-preserved
loop-left-preserved c = (search rules, search reach_cases)

pub returns : goal.returns
returns c = search reach_cases
