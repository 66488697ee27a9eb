use Rattle.numbers.proofs.Cases.{read_four_cases}
use Rattle.numbers.proofs.read_four.Goals as goal

pub overflow_add-result : goal.overflow_add-result
overflow_add-result c = search read_four_cases

pub overflow_add-result-2 : goal.overflow_add-result-2
overflow_add-result-2 c = search read_four_cases

pub overflow_add-result-3 : goal.overflow_add-result-3
overflow_add-result-3 c = search read_four_cases

pub returns : goal.returns
returns c = search read_four_cases
