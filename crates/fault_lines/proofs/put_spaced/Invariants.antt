use mathlib.Core.Path.{◌≡◌}
use lib.ListN.{length, drop}
use Prim.Native.Nat.{◌-◌}
use Rattle.text.specs.Pen.{inked}
use Rattle.fault_lines.specs.Told.{spaced_hex}
use Rattle.fault_lines.proofs.put_spaced.Given as goal

abbrev pub invariant-loop-i : goal.invariant-loop-i
invariant-loop-i l = inked (spaced_hex (drop l.i l.bytes)) (l.out, l.p) ≡ inked (spaced_hex l.bytes) (l.initial.out, l.to)

abbrev pub decreases-loop-i : goal.decreases-loop-i
decreases-loop-i l = length l.bytes - l.i
