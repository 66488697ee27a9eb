use mathlib.Core.Path.{◌≡◌}
use Prim.Native.Nat.{◌-◌, ◌≤◌}
use Rattle.frame_rows.specs.Row.{levels_of}
use Rattle.frame_rows.proofs.open.levels_of.Given as goal

abbrev pub invariant-loop-i : goal.invariant-loop-i
invariant-loop-i l = (l.i ≤ l.depth) × (l.depth ≤ 64) × (l.levels ≡ levels_of l.row l.i)

abbrev pub decreases-loop-i : goal.decreases-loop-i
decreases-loop-i l = l.depth - l.i
