use mathlib.Core.Path.{refl}
use Rattle.skip.proofs.Leaf.{varint_cases}
use Rattle.skip.proofs.leaves.long_varint.Goals as goal

pub loop-left-init : goal.loop-left-init
loop-left-init c = refl

pub returns-then-s-p : goal.returns-then-s-p
returns-then-s-p c = search varint_cases

pub returns-then-s-p-lt128 : goal.returns-then-s-p-lt128
returns-then-s-p-lt128 c = search varint_cases

pub loop-left-preserved : goal.loop-left-preserved
loop-left-preserved c = search varint_cases

pub returns : goal.returns
returns c = search varint_cases
