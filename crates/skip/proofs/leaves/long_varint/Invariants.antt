use mathlib.Core.Path.{◌≡◌}
use Rattle.numbers.specs.Varint.{groups}
use Rattle.skip.specs.Skip.{past}
use Rattle.skip.proofs.leaves.long_varint.Given as goal

abbrev pub invariant-loop-left : goal.invariant-loop-left
invariant-loop-left l = past (groups l.left) l.s l.p ≡ past (groups l.initial.left) l.s l.initial.p

abbrev pub decreases-loop-left : goal.decreases-loop-left
decreases-loop-left l = l.left
