use Prim.Native.Nat.{suc, ◌-◌}
use lib.ListN.{length}
use Rattle.types.specs.declared.TType.TheVariants as T
use Rattle.faults.specs.Value.{fields, tracked}
use Rattle.faults.specs.Trace.{trace}
use Rattle.faults.proofs.Inner.{Going}
use Rattle.faults.proofs.level.into_struct.Given as goal

abbrev pub invariant-loop-why : goal.invariant-loop-why
invariant-loop-why l = Going l.s l.p.0 (fields (tracked l.limits l.room) l.last.0) (trace (tracked l.limits (suc l.room) T.Struct) l.s l.initial.p.0)

abbrev pub decreases-loop-why : goal.decreases-loop-why
decreases-loop-why l = length l.s - l.p.0
