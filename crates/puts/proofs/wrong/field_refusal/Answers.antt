use Rattle.puts.proofs.Checks.{field_cases}
use Rattle.puts.proofs.wrong.field_refusal.Goals as goal

pub returns-then-type_to_u8-eq0 : goal.returns-then-type_to_u8-eq0
returns-then-type_to_u8-eq0 c = search field_cases

pub returns : goal.returns
returns c = search field_cases
