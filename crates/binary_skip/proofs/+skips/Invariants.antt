-- The cycle of skips: the room falls from a container to its elements. Assumes nothing.
use mathlib.Core.Path.{◌≡◌}
use Prim.Native.Nat.{◌+◌, ◌-◌, ◌*◌}
use lib.ListN.{length}
use lib.IntN.{pos}
use Rattle.types.specs.Value.{truth}
use Rattle.skip.specs.Value.{many, many_pairs}
use Rattle.skip.specs.Skip.{past}
use Rattle.protocols.specs.Value.{fields_by, value_by}
use Rattle.binary_heads.specs.Words.{binary}
use Rattle.binary_skip.proofs.+skips.Given as goal

abbrev pub decreases-skip_list : goal.decreases-skip_list
decreases-skip_list l = 3 * l.room + 1

abbrev pub decreases-skip_map : goal.decreases-skip_map
decreases-skip_map l = 3 * l.room + 2

abbrev pub decreases-skip_pairs : goal.decreases-skip_pairs
decreases-skip_pairs l = 3 * l.room + 1

abbrev pub decreases-skip_struct : goal.decreases-skip_struct
decreases-skip_struct l = 3 * l.room + 1

abbrev pub decreases-skip_value : goal.decreases-skip_value
decreases-skip_value l = 3 * l.room

abbrev pub invariant-skip_list-loop-left : goal.invariant-skip_list-loop-left
invariant-skip_list-loop-left l = past (many (value_by binary l.limits l.room l.kind) l.left) l.s l.p.0 ≡ past (many (value_by binary l.limits l.room l.kind) l.initial.left) l.s l.initial.p.0

abbrev pub decreases-skip_list-loop-left : goal.decreases-skip_list-loop-left
decreases-skip_list-loop-left l = l.left

abbrev pub invariant-skip_pairs-loop-left : goal.invariant-skip_pairs-loop-left
invariant-skip_pairs-loop-left l = past (many_pairs (value_by binary l.limits l.room l.fn.key) (value_by binary l.limits l.room l.fn.value) l.left) l.s l.p.0 ≡ past (many_pairs (value_by binary l.limits l.room l.fn.key) (value_by binary l.limits l.room l.fn.value) l.initial.left) l.s l.initial.p.0

abbrev pub decreases-skip_pairs-loop-left : goal.decreases-skip_pairs-loop-left
decreases-skip_pairs-loop-left l = l.left

abbrev pub invariant-skip_struct-loop-e : goal.invariant-skip_struct-loop-e
invariant-skip_struct-loop-e l = past (fields_by binary truth (value_by binary l.limits l.room) (pos 0)) l.s l.p.0 ≡ past (fields_by binary truth (value_by binary l.limits l.room) (pos 0)) l.s l.initial.p.0

abbrev pub decreases-skip_struct-loop-e : goal.decreases-skip_struct-loop-e
decreases-skip_struct-loop-e l = length l.s - l.p.0
