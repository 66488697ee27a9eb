use Rattle.heads.proofs.Cases.{list_cases}
use Rattle.heads.proofs.list_header.Goals as goal

pub returns-then-s-at : goal.returns-then-s-at
returns-then-s-at c = search list_cases

pub returns-then-count-lt15 : goal.returns-then-count-lt15
returns-then-count-lt15 c = search list_cases

pub returns-in-Refused : goal.returns-in-Refused
returns-in-Refused c = search list_cases

pub returns-in-Refused-read_varint32 : goal.returns-in-Refused-read_varint32
returns-in-Refused-read_varint32 c = search list_cases

pub returns-in-Got-read_varint32 : goal.returns-in-Got-read_varint32
returns-in-Got-read_varint32 c = search list_cases
