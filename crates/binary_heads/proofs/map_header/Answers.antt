use Rattle.binary_heads.proofs.Cases.{map_cases}
use Rattle.binary_heads.proofs.map_header.Goals as goal

pub returns-in-Refused : goal.returns-in-Refused
returns-in-Refused c = search map_cases

pub returns-in-Refused-read_kind : goal.returns-in-Refused-read_kind
returns-in-Refused-read_kind c = search map_cases

pub returns-in-Got-read_kind : goal.returns-in-Got-read_kind
returns-in-Got-read_kind c = search map_cases
