use Rattle.std.proofs.Common.{rules}
use Rattle.numbers.specs.Answers.{as64, varint64_at}
use Rattle.numbers.proofs.Read.{start, as_ended, as_last, as_spent, turned}
use Rattle.numbers.proofs.long_varint64.Goals as goal

pub loop-left-init : goal.loop-left-init
loop-left-init c = search (rules, start)

pub returns-then-s-p : goal.returns-then-s-p
unfolding varint64_at
returns-then-s-p c = search (as_ended as64)

pub returns-then-b-lt128 : goal.returns-then-b-lt128
unfolding varint64_at
returns-then-b-lt128 c = search (as_last as64)

pub loop-left-preserved : goal.loop-left-preserved
loop-left-preserved c = (search rules, search turned)

pub returns : goal.returns
unfolding varint64_at
returns c = search (as_spent as64)
