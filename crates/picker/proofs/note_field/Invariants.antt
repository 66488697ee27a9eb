use mathlib.Core.Path.{◌≡◌}
use Prim.Native.Nat.{◌-◌, ◌≤◌}
use lib.ListN.{length, drop}
use Rattle.picker.specs.Notes.{note}
use Rattle.picker.proofs.note_field.Given as goal

abbrev pub invariant-loop-j : goal.invariant-loop-j
invariant-loop-j l = (l.j ≤ length l.ids) × (length l.rows ≡ length l.initial.rows) × (note l.id.0 l.code (record { kind = l.kind; start = l.start; end = l.end }) (drop l.j l.ids) (drop l.j l.kinds) l.j l.rows ≡ note l.id.0 l.code (record { kind = l.kind; start = l.start; end = l.end }) l.ids l.kinds 0 l.initial.rows)

abbrev pub decreases-loop-j : goal.decreases-loop-j
decreases-loop-j l = length l.ids - l.j
