use Prim.Native.Nat.{◌-◌}
use mathlib.Core.Path.{◌≡◌}
use lib.ListN.{length, drop}
use Rattle.days.specs.Write.{up_to}
use Rattle.days.proofs.ends_rise.Given as goal

abbrev pub invariant-loop-i : goal.invariant-loop-i
invariant-loop-i l = up_to l.all 0 l.ends ≡ up_to l.all l.at (drop l.i l.ends)

abbrev pub decreases-loop-i : goal.decreases-loop-i
decreases-loop-i l = length l.ends - l.i
