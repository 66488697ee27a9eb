use borrow.Author.Rules.{rules}
use native.Mathlib.Omega.{arith}
use Rattle.frame_rows.proofs.Cases.{levels_none, levels_on, levels_all}
use Rattle.frame_rows.proofs.open.levels_of.Goals as goal

pub loop-i-init : goal.loop-i-init
loop-i-init c = (omega arith, search rules, search levels_none)

pub nest_or-requires : goal.nest_or-requires
nest_or-requires c = omega arith

pub bounds-levels-i : goal.bounds-levels-i
bounds-levels-i c = omega arith

pub loop-i-smaller : goal.loop-i-smaller
loop-i-smaller c = omega arith

pub loop-i-preserved : goal.loop-i-preserved
loop-i-preserved c = (omega arith, omega arith, search levels_on)

pub returns : goal.returns
returns c = search (levels_all, arith)
