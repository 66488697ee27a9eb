use Rattle.puts.proofs.Checks.{text_cases}
use Rattle.puts.proofs.wrong.text_refusal.Goals as goal

pub returns-then-why-ne0 : goal.returns-then-why-ne0
returns-then-why-ne0 c = search text_cases

pub returns-then-is_utf8 : goal.returns-then-is_utf8
returns-then-is_utf8 c = search text_cases

pub returns : goal.returns
returns c = search text_cases
