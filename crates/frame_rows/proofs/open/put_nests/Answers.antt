use borrow.Author.Rules.{rules}
use mathlib.Core.Path.{refl}
use native.Mathlib.Omega.{arith}
use Rattle.frame_rows.proofs.Puts.{nests_begin, nests_next, nests_end}
use Rattle.frame_rows.proofs.open.put_nests.Goals as goal

pub loop-i-init : goal.loop-i-init
loop-i-init c = (omega arith, search rules, refl, search nests_begin)

pub bounds-levels-i : goal.bounds-levels-i
bounds-levels-i c = omega arith

pub put_nest-requires : goal.put_nest-requires
put_nest-requires c = omega arith

pub loop-i-smaller : goal.loop-i-smaller
loop-i-smaller c = omega arith

pub loop-i-preserved : goal.loop-i-preserved
loop-i-preserved c = (omega arith, omega arith, search rules, search nests_next)

pub returns : goal.returns
returns c = search (nests_end, arith)
