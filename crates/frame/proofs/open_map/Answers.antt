use Rattle.frame.proofs.Cases.{map_cases}
use Rattle.frame.proofs.open_map.Goals as goal

pub returns-in-Refused : goal.returns-in-Refused
returns-in-Refused c = search map_cases

pub returns-in-Refused-collection_u8_to_type : goal.returns-in-Refused-collection_u8_to_type
returns-in-Refused-collection_u8_to_type c = search map_cases

pub returns-in-Got-collection_u8_to_type : goal.returns-in-Got-collection_u8_to_type
returns-in-Got-collection_u8_to_type c = search map_cases
