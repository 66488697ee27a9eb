use Rattle.std.proofs.Common.{lit≤}
use Rattle.numbers.specs.Answers.{as64, varint64_at}
use Rattle.numbers.proofs.Read.{as_one}
use Rattle.numbers.proofs.read_varint64.Goals as goal

pub returns-then-b-lt128 : goal.returns-then-b-lt128
unfolding varint64_at
returns-then-b-lt128 c = search (as_one as64 64 9 (lit≤ tt))
