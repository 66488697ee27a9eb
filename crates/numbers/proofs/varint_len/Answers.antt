use Rattle.std.proofs.Common.{rules}
use Rattle.numbers.proofs.Cases.{len_cases}
use Rattle.numbers.proofs.varint_len.Goals as goal

pub overflow_add-len : goal.overflow_add-len
overflow_add-len c = search len_cases

pub loop-rest-preserved : goal.loop-rest-preserved
loop-rest-preserved c = (search rules, search len_cases)

pub returns : goal.returns
returns c = search len_cases
