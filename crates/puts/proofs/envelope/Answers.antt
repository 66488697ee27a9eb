use Rattle.puts.proofs.Pieces.{envelope_cases}
use Rattle.puts.proofs.envelope.Goals as goal

pub overflow_add-head : goal.overflow_add-head
overflow_add-head c = search envelope_cases

pub overflow_add-start : goal.overflow_add-start
overflow_add-start c = search envelope_cases

pub returns-then-lacks_both : goal.returns-then-lacks_both
returns-then-lacks_both c = search envelope_cases

pub overflow_add-at : goal.overflow_add-at
overflow_add-at c = search envelope_cases

pub overflow_add-at-2 : goal.overflow_add-at-2
overflow_add-at-2 c = search envelope_cases

pub returns : goal.returns
returns c = search envelope_cases
