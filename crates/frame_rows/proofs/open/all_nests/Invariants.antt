use mathlib.Core.Path.{◌≡◌}
use Prim.Native.Nat.{◌≤◌}
use Rattle.frame_rows.specs.Row.{all_nests}
use Rattle.frame_rows.proofs.open.all_nests.Given as goal

abbrev pub invariant-loop-d : goal.invariant-loop-d
invariant-loop-d l = (l.d ≤ 64) × (all_nests l.row l.initial.d ≡ all_nests l.row l.d)

abbrev pub decreases-loop-d : goal.decreases-loop-d
decreases-loop-d l = l.d
