use mathlib.Core.Path.{◌≡◌}
use Prim.Native.Nat.{◌-◌}
use lib.ListN.{length}
use Rattle.picker.proofs.Noted.{Left}
use Rattle.picker.proofs.note_struct.Given as goal

abbrev pub invariant-loop-b : goal.invariant-loop-b
invariant-loop-b l = (length l.rows ≡ length l.initial.rows) × Left l.s l.limits l.room l.ids l.kinds l.initial.rows l.initial.last.0 l.initial.p.0 l.rows l.last.0 l.p.0

abbrev pub decreases-loop-b : goal.decreases-loop-b
decreases-loop-b l = length l.s - l.p.0
