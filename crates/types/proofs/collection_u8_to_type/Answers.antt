use Rattle.types.proofs.Codes.{element_cases}
use Rattle.types.proofs.collection_u8_to_type.Goals as goal

pub returns-then-code-eq2 : goal.returns-then-code-eq2
returns-then-code-eq2 c = search element_cases

pub returns : goal.returns
returns c = search element_cases
