use Rattle.binary_heads.proofs.Cases.{named_cases}
use Rattle.binary_heads.proofs.named.Goals as goal

pub returns-in-Refused : goal.returns-in-Refused
returns-in-Refused c = search named_cases

pub returns-in-Refused-read_be32 : goal.returns-in-Refused-read_be32
returns-in-Refused-read_be32 c = search named_cases

pub returns-in-Got-read_be32 : goal.returns-in-Got-read_be32
returns-in-Got-read_be32 c = search named_cases
