use Rattle.puts.proofs.Checks.{length_cases}
use Rattle.puts.proofs.wrong.length_refusal.Goals as goal

pub returns-then-limits-bytes : goal.returns-then-limits-bytes
returns-then-limits-bytes c = search length_cases

pub returns : goal.returns
returns c = search length_cases
