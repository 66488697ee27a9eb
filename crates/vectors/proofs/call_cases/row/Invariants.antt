-- The words that are still to be read fall. Assumes nothing.
use Rattle.std.proofs.Common.{◌-◌}
use Rattle.vectors.proofs.call_cases.row.Given as goal

abbrev pub decreases-loop-i : goal.decreases-loop-i
decreases-loop-i g l = 1000 - l.i
