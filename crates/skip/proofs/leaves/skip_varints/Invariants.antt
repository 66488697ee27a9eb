use mathlib.Core.Path.{◌≡◌}
use Rattle.numbers.specs.Varint.{groups}
use Rattle.skip.specs.Skip.{past}
use Rattle.skip.specs.Leaves.{times}
use Rattle.skip.proofs.leaves.skip_varints.Given as goal

abbrev pub invariant-loop-left : goal.invariant-loop-left
invariant-loop-left l = past (times l.left (groups l.most)) l.s l.p.0 ≡ past (times l.initial.left (groups l.most)) l.s l.initial.p.0

abbrev pub decreases-loop-left : goal.decreases-loop-left
decreases-loop-left l = l.left
