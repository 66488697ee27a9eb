use Rattle.heads.proofs.Cases.{bytes_cases}
use Rattle.heads.proofs.read_bytes.Goals as goal

pub returns-then-limits-n : goal.returns-then-limits-n
returns-then-limits-n c = search bytes_cases

pub some-requires : goal.some-requires
some-requires c = search bytes_cases

pub returns-in-Refused : goal.returns-in-Refused
returns-in-Refused c = search bytes_cases

pub returns-else-limits-n : goal.returns-else-limits-n
returns-else-limits-n c = search bytes_cases
