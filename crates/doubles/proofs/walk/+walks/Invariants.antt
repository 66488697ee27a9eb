-- The cycle of the walk: the room falls from a container to its elements. Assumes nothing.
use Rattle.std.proofs.Common.{◌≡◌, ◌+◌, ◌-◌, ◌*◌, length}
use Rattle.types.specs.Value.{truth}
use Rattle.heads.specs.Reader.{read_at}
use Rattle.skip.specs.Walk.{fields}
use Rattle.skip.specs.Value.{many, many_pairs, value_of}
use Rattle.doubles.specs.Doubles.{doubles_all, doubles_pairs}
use Rattle.doubles.specs.Walked.{doubles_in}
use Rattle.doubles.proofs.Sheets.{Onto}
use Rattle.doubles.proofs.walk.+walks.Given as goal

abbrev pub decreases-walk_list : goal.decreases-walk_list
decreases-walk_list l = 4 * l.room - 1

abbrev pub decreases-walk_many : goal.decreases-walk_many
decreases-walk_many l = 4 * l.room + 1

abbrev pub decreases-walk_map : goal.decreases-walk_map
decreases-walk_map l = 4 * l.room - 1

abbrev pub decreases-walk_pair : goal.decreases-walk_pair
decreases-walk_pair l = 4 * l.room + 1

abbrev pub decreases-walk_pairs : goal.decreases-walk_pairs
decreases-walk_pairs l = 4 * l.room + 2

abbrev pub decreases-walk_struct : goal.decreases-walk_struct
decreases-walk_struct l = 4 * l.room + 1

abbrev pub decreases-walk_value : goal.decreases-walk_value
decreases-walk_value l = 4 * l.room

abbrev pub invariant-walk_many-loop-left : goal.invariant-walk_many-loop-left
invariant-walk_many-loop-left l = (length l.row ≡ length l.initial.row) × Onto doubles_all (read_at (many (value_of l.limits l.room l.kind) l.left) l.s l.p.0) (l.so_far, l.row) doubles_all (read_at (many (value_of l.limits l.room l.kind) l.initial.left) l.s l.initial.p.0) (l.initial.so_far, l.initial.row)

abbrev pub decreases-walk_many-loop-left : goal.decreases-walk_many-loop-left
decreases-walk_many-loop-left l = l.left

abbrev pub invariant-walk_pairs-loop-left : goal.invariant-walk_pairs-loop-left
invariant-walk_pairs-loop-left l = (length l.row ≡ length l.initial.row) × Onto doubles_pairs (read_at (many_pairs (value_of l.limits l.room l.key) (value_of l.limits l.room l.value) l.left) l.s l.p.0) (l.so_far, l.row) doubles_pairs (read_at (many_pairs (value_of l.limits l.room l.key) (value_of l.limits l.room l.value) l.initial.left) l.s l.initial.p.0) (l.initial.so_far, l.initial.row)

abbrev pub decreases-walk_pairs-loop-left : goal.decreases-walk_pairs-loop-left
decreases-walk_pairs-loop-left l = l.left

abbrev pub invariant-walk_struct-loop-e : goal.invariant-walk_struct-loop-e
invariant-walk_struct-loop-e l = (length l.row ≡ length l.initial.row) × Onto doubles_in (read_at (fields truth (value_of l.limits l.room) l.last.0) l.s l.p.0) (l.so_far, l.row) doubles_in (read_at (fields truth (value_of l.limits l.room) l.initial.last.0) l.s l.initial.p.0) (l.initial.so_far, l.initial.row)

abbrev pub decreases-walk_struct-loop-e : goal.decreases-walk_struct-loop-e
decreases-walk_struct-loop-e l = length l.s - l.p.0
