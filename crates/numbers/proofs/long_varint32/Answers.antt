use Rattle.std.proofs.Common.{rules}
use Rattle.numbers.specs.Answers.{as32, varint32_at}
use Rattle.numbers.proofs.Read.{start, as_ended, as_last, as_spent, turned}
use Rattle.numbers.proofs.long_varint32.Goals as goal

pub loop-left-init : goal.loop-left-init
loop-left-init c = search (rules, start)

pub returns-then-s-p : goal.returns-then-s-p
unfolding varint32_at
returns-then-s-p c = search (as_ended as32)

pub returns-then-b-lt128 : goal.returns-then-b-lt128
unfolding varint32_at
returns-then-b-lt128 c = search (as_last as32)

pub loop-left-preserved : goal.loop-left-preserved
loop-left-preserved c = (search rules, search turned)

pub returns : goal.returns
unfolding varint32_at
returns c = search (as_spent as32)
