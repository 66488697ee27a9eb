use Rattle.faults.specs.Value.{tracked}
use Rattle.faults.specs.Trace.{trace}
use Rattle.faults.proofs.Levels.{On}
use Rattle.faults.proofs.find.Given as goal

abbrev pub invariant-loop-rows : goal.invariant-loop-rows
invariant-loop-rows l = On l.s l.limits (trace (tracked l.limits l.initial.left l.initial.inner) l.s l.initial.p.0) l.rows l.count l.p.0 l.inner l.left

abbrev pub decreases-loop-rows : goal.decreases-loop-rows
decreases-loop-rows l = l.left
