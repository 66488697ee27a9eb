use Rattle.puts.proofs.Pieces.{field_len_cases}
use Rattle.puts.proofs.field_len.Goals as goal

pub overflow_add-result : goal.overflow_add-result
overflow_add-result c = search field_len_cases

pub returns-then-delta-eq0 : goal.returns-then-delta-eq0
returns-then-delta-eq0 c = search field_len_cases

pub returns : goal.returns
returns c = search field_len_cases
