use Prim.Native.Nat.{◌-◌}
use Rattle.days.proofs.Cases.{Checking}
use Rattle.days.proofs.check_day.Given as goal

abbrev pub invariant-loop-i : goal.invariant-loop-i
invariant-loop-i l = Checking l.file l.n l.last l.i

abbrev pub decreases-loop-i : goal.decreases-loop-i
decreases-loop-i l = l.n - l.i
