use Prim.Native.Nat.{◌-◌}
use lib.ListN.{length}
use Rattle.skip.specs.Leaves.{Onward}
use Rattle.skip.proofs.leaves.skip_fields.Given as goal

abbrev pub invariant-loop-p : goal.invariant-loop-p
invariant-loop-p l = Onward l.s l.initial.p.0 l.initial.id.0 l.below.0 l.p.0 l.id.0

abbrev pub decreases-loop-p : goal.decreases-loop-p
decreases-loop-p l = length l.s - l.p.0
