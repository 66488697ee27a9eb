use mathlib.Core.Path.{◌≡◌}
use Prim.Native.Nat.{◌-◌, ◌≤◌}
use lib.ListN.{length, drop}
use Rattle.wanted.specs.Wanted.{among}
use Rattle.wanted.proofs.among_ids.Given as goal

abbrev pub invariant-loop-j : goal.invariant-loop-j
invariant-loop-j l = (l.j ≤ length l.ids) × (among l.id.0 (drop l.j l.ids) ≡ among l.id.0 (drop l.initial.j l.ids))

abbrev pub decreases-loop-j : goal.decreases-loop-j
decreases-loop-j l = length l.ids - l.j
