-- The cycle of printing: the room falls from a container to its elements. Assumes nothing.
use mathlib.Core.Path.{◌≡◌}
use Prim.Native.Nat.{◌+◌, ◌-◌, ◌*◌}
use lib.ListN.{length}
use Rattle.printer.specs.Value.{many_told, pairs_told, fields_told, value_told}
use Rattle.printer.specs.Printing.{prints}
use Rattle.printer.proofs.+prints.Given as goal

abbrev pub decreases-print_field : goal.decreases-print_field
decreases-print_field l = 4 * l.room + 1

abbrev pub decreases-print_fields : goal.decreases-print_fields
decreases-print_fields l = 4 * l.room + 2

abbrev pub decreases-print_items : goal.decreases-print_items
decreases-print_items l = 4 * l.room + 2

abbrev pub decreases-print_many : goal.decreases-print_many
decreases-print_many l = 4 * l.room + 1

abbrev pub decreases-print_map : goal.decreases-print_map
decreases-print_map l = 4 * l.room + 3

abbrev pub decreases-print_pair : goal.decreases-print_pair
decreases-print_pair l = 4 * l.room + 1

abbrev pub decreases-print_pairs : goal.decreases-print_pairs
decreases-print_pairs l = 4 * l.room + 2

abbrev pub decreases-print_struct : goal.decreases-print_struct
decreases-print_struct l = 4 * l.room + 3

abbrev pub decreases-print_value : goal.decreases-print_value
decreases-print_value l = 4 * l.room

abbrev pub invariant-print_fields-loop-e : goal.invariant-print_fields-loop-e
invariant-print_fields-loop-e l = prints (fields_told (value_told l.limits l.room) l.last.0) l.s l.p.0 (l.out, l.q) ≡ prints (fields_told (value_told l.limits l.room) l.initial.last.0) l.s l.initial.p.0 (l.initial.out, l.initial.q)

abbrev pub decreases-print_fields-loop-e : goal.decreases-print_fields-loop-e
decreases-print_fields-loop-e l = length l.s - l.p.0

abbrev pub invariant-print_many-loop-left : goal.invariant-print_many-loop-left
invariant-print_many-loop-left l = prints (many_told (value_told l.limits l.room l.kind) l.left) l.s l.p.0 (l.out, l.q) ≡ prints (many_told (value_told l.limits l.room l.kind) l.initial.left) l.s l.initial.p.0 (l.initial.out, l.initial.q)

abbrev pub decreases-print_many-loop-left : goal.decreases-print_many-loop-left
decreases-print_many-loop-left l = l.left

abbrev pub invariant-print_pairs-loop-left : goal.invariant-print_pairs-loop-left
invariant-print_pairs-loop-left l = prints (pairs_told (value_told l.limits l.room l.key) (value_told l.limits l.room l.value) l.left) l.s l.p.0 (l.out, l.q) ≡ prints (pairs_told (value_told l.limits l.room l.key) (value_told l.limits l.room l.value) l.initial.left) l.s l.initial.p.0 (l.initial.out, l.initial.q)

abbrev pub decreases-print_pairs-loop-left : goal.decreases-print_pairs-loop-left
decreases-print_pairs-loop-left l = l.left
