use mathlib.Core.Path.{◌≡◌}
use Prim.Native.Nat.{◌≤◌}
use lib.ListN.{length}
use Rattle.frame.specs.Machine.{settled}
use Rattle.frame.specs.State.{held}
use Rattle.frame.proofs.settle.Given as goal

abbrev pub invariant-loop-open : goal.invariant-loop-open
invariant-loop-open l = (l.rows ≡ l.initial.rows) × (l.open ≤ l.initial.open) × (l.pass ≤ l.left) × (length l.rows ≡ 64) × (settled l.limits l.left (held l.initial.rows l.initial.open) l.initial.pass ≡ settled l.limits l.left (held l.rows l.open) l.pass)

abbrev pub decreases-loop-open : goal.decreases-loop-open
decreases-loop-open l = l.open
