use mathlib.Core.Path.{◌≡◌}
use Prim.Native.Nat.{◌-◌, ◌≤◌}
use lib.ListN.{length, drop}
use Rattle.wanted.specs.Wanted.{wantables}
use Rattle.wanted.proofs.are_wantable.Given as goal

abbrev pub invariant-loop-j : goal.invariant-loop-j
invariant-loop-j l = (l.j ≤ length l.kinds) × (wantables (drop l.j l.kinds) ≡ wantables l.kinds)

abbrev pub decreases-loop-j : goal.decreases-loop-j
decreases-loop-j l = length l.kinds - l.j
