use mathlib.Core.Path.{◌≡◌}
use lib.ListN.{drop}
use Prim.Native.Nat.{◌-◌, ◌*◌}
use Rattle.text.specs.Pen.{inked}
use Rattle.fault_lines.specs.Row.{row_words}
use Rattle.fault_lines.proofs.put_steps.Given as goal

abbrev pub invariant-loop-k : goal.invariant-loop-k
invariant-loop-k l = inked (row_words l.before (l.steps - l.k) (drop (2 * l.k) l.row)) (l.out, l.p) ≡ inked (row_words l.before l.steps l.row) (l.initial.out, l.to)

abbrev pub decreases-loop-k : goal.decreases-loop-k
decreases-loop-k l = l.steps - l.k
