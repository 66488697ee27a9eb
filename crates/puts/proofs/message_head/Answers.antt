use Rattle.puts.proofs.Pieces.{head_cases}
use Rattle.puts.proofs.message_head.Goals as goal

pub overflow_add-result : goal.overflow_add-result
overflow_add-result c = search head_cases

pub overflow_add-result-2 : goal.overflow_add-result-2
overflow_add-result-2 c = search head_cases

pub returns : goal.returns
returns c = search head_cases
