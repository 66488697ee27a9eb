use Rattle.puts.proofs.Checks.{count_cases}
use Rattle.puts.proofs.wrong.count_refusal.Goals as goal

pub returns-then-count-lt0 : goal.returns-then-count-lt0
returns-then-count-lt0 c = search count_cases

pub overflow_cast-n : goal.overflow_cast-n
overflow_cast-n c = search count_cases

pub returns-then-n-eq0 : goal.returns-then-n-eq0
returns-then-n-eq0 c = search count_cases

pub returns-then-type_to_u8-eq0 : goal.returns-then-type_to_u8-eq0
returns-then-type_to_u8-eq0 c = search count_cases

pub returns-then-type_to_u8-eq0-2 : goal.returns-then-type_to_u8-eq0-2
returns-then-type_to_u8-eq0-2 c = search count_cases

pub returns-then-limits-n : goal.returns-then-limits-n
returns-then-limits-n c = search count_cases

pub returns : goal.returns
returns c = search count_cases
