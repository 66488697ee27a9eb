use mathlib.Core.Path.{◌≡◌}
use Prim.Native.Nat.{◌-◌, ◌≤◌}
use lib.ListN.{length, drop}
use Rattle.wanted.specs.Wanted.{distinct}
use Rattle.wanted.proofs.are_distinct.Given as goal

abbrev pub invariant-loop-j : goal.invariant-loop-j
invariant-loop-j l = (l.j ≤ length l.ids) × (distinct (drop l.j l.ids) ≡ distinct l.ids)

abbrev pub decreases-loop-j : goal.decreases-loop-j
decreases-loop-j l = length l.ids - l.j
