use Rattle.std.proofs.Common.{◌≡◌, ◌-◌, length}
use Rattle.doubles.specs.Walked.{Further}
use Rattle.doubles.proofs.walk.walk_run.Given as goal

abbrev pub invariant-loop-p : goal.invariant-loop-p
invariant-loop-p l = (length l.row ≡ length l.initial.row) × Further l.s l.initial.p.0 l.initial.id.0 (l.initial.so_far, l.initial.row) l.p.0 l.id.0 (l.so_far, l.row)

abbrev pub decreases-loop-p : goal.decreases-loop-p
decreases-loop-p l = length l.s - l.p.0
