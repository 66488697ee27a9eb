use Prim.Native.Nat.{◌-◌}
use lib.ListN.{length}
use Rattle.days.proofs.Puts.{Heading}
use Rattle.days.proofs.put_header.Given as goal

abbrev pub invariant-loop-i : goal.invariant-loop-i
invariant-loop-i l = Heading l.initial.out l.ends l.out l.i

abbrev pub decreases-loop-i : goal.decreases-loop-i
decreases-loop-i l = length l.ends - l.i
