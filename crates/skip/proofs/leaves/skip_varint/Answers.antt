use Rattle.skip.proofs.Leaf.{varint_last}
use Rattle.skip.proofs.leaves.skip_varint.Goals as goal

pub returns-then-s-at-lt128 : goal.returns-then-s-at-lt128
returns-then-s-at-lt128 c = search varint_last
