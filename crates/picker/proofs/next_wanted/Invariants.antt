use mathlib.Core.Path.{◌≡◌}
use Prim.Native.Nat.{◌-◌, ◌≤◌}
use lib.IntN.{pos}
use lib.ListN.{length, drop}
use Rattle.picker.specs.Notes.{least_past}
use Rattle.picker.proofs.next_wanted.Given as goal

abbrev pub invariant-loop-j : goal.invariant-loop-j
invariant-loop-j l = (l.j ≤ length l.ids) × (least_past l.last.0 (drop l.j l.ids) l.next.0 ≡ least_past l.last.0 l.ids (pos 32767))

abbrev pub decreases-loop-j : goal.decreases-loop-j
decreases-loop-j l = length l.ids - l.j
