-- The words that are still to be read fall, and the buffer keeps its length. Assumes nothing.
use Rattle.std.proofs.Common.{◌≡◌, ◌-◌, length}
use Rattle.vectors.proofs.writer.calls.Given as goal

abbrev pub invariant-loop-i : goal.invariant-loop-i
invariant-loop-i g l = length l.lent ≡ length l.initial.lent

abbrev pub decreases-loop-i : goal.decreases-loop-i
decreases-loop-i g l = 1000 - l.i
