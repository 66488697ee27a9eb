use mathlib.Core.Path.{◌≡◌}
use Prim.Native.Nat.{◌-◌, ◌≤◌}
use lib.ListN.{length}
use Rattle.picker.specs.Notes.{clear}
use Rattle.picker.proofs.clear_rows.Given as goal

abbrev pub invariant-loop-j : goal.invariant-loop-j
invariant-loop-j l = (l.j ≤ l.n) × (length l.rows ≡ length l.initial.rows) × (clear (l.n - l.j) l.j l.rows ≡ clear l.n 0 l.initial.rows)

abbrev pub decreases-loop-j : goal.decreases-loop-j
decreases-loop-j l = l.n - l.j
