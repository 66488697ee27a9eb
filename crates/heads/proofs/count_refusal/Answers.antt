use Rattle.heads.proofs.Cases.{count_cases}
use Rattle.heads.proofs.count_refusal.Goals as goal

pub returns-then-n-gt2147483647 : goal.returns-then-n-gt2147483647
returns-then-n-gt2147483647 c = search count_cases

pub returns-then-limits-n : goal.returns-then-limits-n
returns-then-limits-n c = search count_cases

pub returns : goal.returns
returns c = search count_cases
