-- What stands at the room's start is within it.
use Rattle.std.proofs.Common.{◌≡◌, ◌≤◌, length}
use Rattle.day.proofs.gather.Given as goal

abbrev pub invariant-loop-i : goal.invariant-loop-i
invariant-loop-i g l = (l.at ≤ length l.room) × (length l.room ≡ length l.initial.room) × (length l.ends ≡ length l.initial.ends)
