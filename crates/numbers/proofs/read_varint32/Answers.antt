use Rattle.std.proofs.Common.{lit≤}
use Rattle.numbers.specs.Answers.{as32, varint32_at}
use Rattle.numbers.proofs.Read.{as_one}
use Rattle.numbers.proofs.read_varint32.Goals as goal

pub returns-then-b-lt128 : goal.returns-then-b-lt128
unfolding varint32_at
returns-then-b-lt128 c = search (as_one as32 32 4 (lit≤ tt))
