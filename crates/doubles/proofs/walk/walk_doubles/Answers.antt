use Rattle.std.proofs.Common.{arith, rules}
use Rattle.doubles.proofs.Cases.{many_cases}
use Rattle.doubles.proofs.walk.walk_doubles.Goals as goal

pub loop-left-init : goal.loop-left-init
loop-left-init c = search (rules, many_cases)

pub shape_of-row-in-Refused : goal.shape_of-row-in-Refused
shape_of-row-in-Refused c = search (rules, many_cases)

pub returns-in-Refused : goal.returns-in-Refused
returns-in-Refused c = search (rules, many_cases)

pub loop-left-smaller : goal.loop-left-smaller
loop-left-smaller c = omega arith

pub loop-left-preserved : goal.loop-left-preserved
loop-left-preserved c = (search (rules, many_cases), search (rules, many_cases))

pub shape_of-row : goal.shape_of-row
shape_of-row c = search (rules, many_cases)

pub returns : goal.returns
returns c = search (rules, many_cases)
