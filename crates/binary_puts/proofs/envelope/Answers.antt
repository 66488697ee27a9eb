use Rattle.binary_puts.proofs.Pieces.{envelope_cases}
use Rattle.binary_puts.proofs.envelope.Goals as goal

pub returns-then-lacks_both : goal.returns-then-lacks_both
returns-then-lacks_both c = search envelope_cases

pub overflow_add-at : goal.overflow_add-at
overflow_add-at c = search envelope_cases

pub overflow_add-at-2 : goal.overflow_add-at-2
overflow_add-at-2 c = search envelope_cases

pub overflow_add-at-3 : goal.overflow_add-at-3
overflow_add-at-3 c = search envelope_cases

pub returns : goal.returns
returns c = search envelope_cases
