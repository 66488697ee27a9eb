use mathlib.Core.Path.{◌≡◌}
use Prim.Native.Nat.{◌≤◌, ◌+◌, ◌-◌}
use lib.ListN.{length, drop}
use Rattle.frame.specs.Machine.{ran}
use Rattle.frame.specs.State.{rest_of, Standing}
use Rattle.frame.proofs.run.Given as goal

abbrev pub invariant-loop-wait : goal.invariant-loop-wait
invariant-loop-wait l = (l.at ≤ length l.burst) × (ran l.limits l.initial.rest l.initial.used (rest_of l.initial.stand) l.burst ≡ ran l.limits l.rest l.used (rest_of l.stand) (drop l.at l.burst)) × Standing l.limits (l.initial.used + l.initial.rest) l.rest l.used l.stand

abbrev pub decreases-loop-wait : goal.decreases-loop-wait
decreases-loop-wait l = length l.burst - l.at
