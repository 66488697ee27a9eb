use Rattle.std.proofs.Common.{◌≡◌, length}
use Rattle.heads.specs.Reader.{read_at}
use Rattle.skip.specs.Value.{many}
use Rattle.doubles.specs.Doubles.{doubles_all}
use Rattle.doubles.specs.Walked.{double_tree}
use Rattle.doubles.proofs.Sheets.{Onto}
use Rattle.doubles.proofs.walk.walk_doubles.Given as goal

abbrev pub invariant-loop-left : goal.invariant-loop-left
invariant-loop-left l = (length l.row ≡ length l.initial.row) × Onto doubles_all (read_at (many double_tree l.left) l.s l.p.0) (l.so_far, l.row) doubles_all (read_at (many double_tree l.initial.left) l.s l.initial.p.0) (l.initial.so_far, l.initial.row)

abbrev pub decreases-loop-left : goal.decreases-loop-left
decreases-loop-left l = l.left
