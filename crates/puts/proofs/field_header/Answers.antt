use Rattle.puts.proofs.Pieces.{header_cases}
use Rattle.puts.proofs.field_header.Goals as goal

pub returns-then-delta-eq0 : goal.returns-then-delta-eq0
returns-then-delta-eq0 c = search header_cases

pub overflow_mul-delta : goal.overflow_mul-delta
overflow_mul-delta c = search header_cases

pub overflow_add-delta : goal.overflow_add-delta
overflow_add-delta c = search header_cases

pub returns : goal.returns
returns c = search header_cases
