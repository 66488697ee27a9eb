use Rattle.heads.proofs.Cases.{i64_cases}
use Rattle.heads.proofs.read_i64.Goals as goal

pub returns-in-Got : goal.returns-in-Got
returns-in-Got c = search i64_cases

pub returns-in-Refused : goal.returns-in-Refused
returns-in-Refused c = search i64_cases
