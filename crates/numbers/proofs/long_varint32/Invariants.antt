use Rattle.std.proofs.Common.{◌≡◌, ◌+◌, ◌*◌}
use Rattle.numbers.specs.Varint.{varint_at}
use Rattle.numbers.proofs.Read.{run}
use Rattle.numbers.proofs.long_varint32.Given as goal

abbrev pub invariant-loop-left : goal.invariant-loop-left
invariant-loop-left l = (l.shift + 7 * l.left ≡ 35) × (run 32 l.value l.shift l.left l.s l.p ≡ varint_at 32 5 l.s l.at)

abbrev pub decreases-loop-left : goal.decreases-loop-left
decreases-loop-left l = l.left
