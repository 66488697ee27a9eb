use Rattle.types.proofs.Codes.{field_cases}
use Rattle.types.proofs.field_u8_to_type.Goals as goal

pub returns-in-0 : goal.returns-in-0
returns-in-0 c = search field_cases

pub returns-in-1 : goal.returns-in-1
returns-in-1 c = search field_cases

pub returns-in-2 : goal.returns-in-2
returns-in-2 c = search field_cases

pub returns-in-Got : goal.returns-in-Got
returns-in-Got c = search field_cases

pub returns-in-Refused : goal.returns-in-Refused
returns-in-Refused c = search field_cases
