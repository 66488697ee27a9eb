use Rattle.heads.proofs.Cases.{uuid_cases}
use Rattle.heads.proofs.read_uuid.Goals as goal

pub returns-then-s-at : goal.returns-then-s-at
returns-then-s-at c = search uuid_cases

pub returns : goal.returns
returns c = search uuid_cases
