use native.Mathlib.Omega.{arith}
use borrow.Author.Rules.{rules}
use Rattle.faults.proofs.Inner.{pairs_cases, pairs_start}
use Rattle.faults.proofs.level.into_pairs.Goals as goal

pub loop-i-init : goal.loop-i-init
loop-i-init c = pairs_start _ _ _ _ _ _ _ (search rules)

pub returns-in-Refused : goal.returns-in-Refused
returns-in-Refused c = search pairs_cases

pub returns-in-Refused-skip_value : goal.returns-in-Refused-skip_value
returns-in-Refused-skip_value c = search pairs_cases

pub loop-i-smaller : goal.loop-i-smaller
loop-i-smaller c = omega arith

pub loop-i-preserved : goal.loop-i-preserved
loop-i-preserved c = search pairs_cases

pub returns : goal.returns
returns c = search pairs_cases
