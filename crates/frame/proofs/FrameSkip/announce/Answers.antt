use mathlib.Core.Path.{refl}
use native.Mathlib.Omega.{arith}
use Rattle.frame.proofs.Calls.{announce_depth, announce_cases}
use Rattle.frame.proofs.FrameSkip.announce.Goals as goal

pub enter-stand-requires : goal.enter-stand-requires
enter-stand-requires c = (announce_depth _ 0 _ c.in_range.ensures c.if-in_range.true, omega arith, refl)

pub returns-then-in_range : goal.returns-then-in_range
returns-then-in_range c = search announce_cases

pub returns : goal.returns
returns c = search announce_cases
