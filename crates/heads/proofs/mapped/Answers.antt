use Rattle.heads.proofs.Cases.{mapped_cases}
use Rattle.heads.proofs.mapped.Goals as goal

pub returns-then-s-at : goal.returns-then-s-at
returns-then-s-at c = search mapped_cases

pub returns-then-why-ne0 : goal.returns-then-why-ne0
returns-then-why-ne0 c = search mapped_cases

pub returns-in-Refused : goal.returns-in-Refused
returns-in-Refused c = search mapped_cases

pub returns-in-Refused-collection_u8_to_type : goal.returns-in-Refused-collection_u8_to_type
returns-in-Refused-collection_u8_to_type c = search mapped_cases

pub returns-else-why-ne0 : goal.returns-else-why-ne0
returns-else-why-ne0 c = search mapped_cases
