use mathlib.Core.Path.{◌≡◌}
use Prim.Native.Nat.{◌-◌, ◌≤◌}
use lib.ListN.{length}
use Rattle.frame_rows.specs.Row.{put_nests}
use Rattle.frame_rows.proofs.open.put_nests.Given as goal

abbrev pub invariant-loop-i : goal.invariant-loop-i
invariant-loop-i l = (l.i ≤ l.depth) × (l.depth ≤ 64) × (length l.row ≡ length l.initial.row) × (l.row ≡ put_nests l.initial.row l.levels l.i)

abbrev pub decreases-loop-i : goal.decreases-loop-i
decreases-loop-i l = l.depth - l.i
