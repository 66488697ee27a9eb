use Rattle.puts.proofs.Deltas.{delta_cases}
use Rattle.puts.proofs.short_delta.Goals as goal

pub overflow_cast-delta : goal.overflow_cast-delta
overflow_cast-delta c = search delta_cases

pub overflow_cast-delta-2 : goal.overflow_cast-delta-2
overflow_cast-delta-2 c = search delta_cases

pub overflow_sub-delta : goal.overflow_sub-delta
overflow_sub-delta c = search delta_cases

pub returns-then-delta-lt1 : goal.returns-then-delta-lt1
returns-then-delta-lt1 c = search delta_cases

pub returns-then-delta-gt14 : goal.returns-then-delta-gt14
returns-then-delta-gt14 c = search delta_cases

pub overflow_cast-result : goal.overflow_cast-result
overflow_cast-result c = search delta_cases

pub returns : goal.returns
returns c = search delta_cases
