use Prim.Native.Nat.{◌-◌}
use Rattle.faults.specs.Value.{many, tracked}
use Rattle.faults.specs.Trace.{trace}
use Rattle.faults.proofs.Inner.{Going}
use Rattle.faults.proofs.level.into_items.Given as goal

abbrev pub invariant-loop-i : goal.invariant-loop-i
invariant-loop-i l = Going l.s l.p.0 (many (tracked l.limits l.room l.kind) l.i (l.count - l.i)) (trace (many (tracked l.limits l.room l.kind) 0 l.count) l.s l.initial.p.0)

abbrev pub decreases-loop-i : goal.decreases-loop-i
decreases-loop-i l = l.count - l.i
