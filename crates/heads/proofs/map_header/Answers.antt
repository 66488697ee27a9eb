use Rattle.heads.proofs.Cases.{map_cases}
use Rattle.heads.proofs.map_header.Goals as goal

pub returns-then-n-eq0 : goal.returns-then-n-eq0
returns-then-n-eq0 c = search map_cases

pub returns-in-Refused : goal.returns-in-Refused
returns-in-Refused c = search map_cases

pub returns-else-n-eq0 : goal.returns-else-n-eq0
returns-else-n-eq0 c = search map_cases
