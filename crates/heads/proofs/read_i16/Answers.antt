use Rattle.heads.proofs.Cases.{i16_cases}
use Rattle.heads.proofs.read_i16.Goals as goal

pub returns-in-Got : goal.returns-in-Got
returns-in-Got c = search i16_cases

pub returns-in-Refused : goal.returns-in-Refused
returns-in-Refused c = search i16_cases
