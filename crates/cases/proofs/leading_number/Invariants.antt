use Rattle.std.proofs.Common.{◌<◌}
use Rattle.cases.proofs.leading_number.Given as goal

abbrev pub invariant-loop-digit : goal.invariant-loop-digit
invariant-loop-digit l = l.n < 100000
