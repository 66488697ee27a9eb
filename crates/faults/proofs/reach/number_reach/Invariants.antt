use mathlib.Core.Path.{◌≡◌}
use Prim.Native.Nat.{◌≤◌}
use lib.ListN.{length}
use Rattle.faults.specs.Heads.{groups}
use Rattle.faults.specs.Trace.{up_to}
use Rattle.faults.proofs.reach.number_reach.Given as goal

abbrev pub invariant-loop-left : goal.invariant-loop-left
invariant-loop-left l = (l.p ≤ length l.s) × (up_to (groups l.left) l.s l.p ≡ up_to (groups l.most) l.s l.at)

abbrev pub decreases-loop-left : goal.decreases-loop-left
decreases-loop-left l = l.left
