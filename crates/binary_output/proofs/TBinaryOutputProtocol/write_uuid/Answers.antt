use Rattle.binary_output.proofs.Cases.{plain_cases}
use Rattle.binary_output.proofs.TBinaryOutputProtocol.write_uuid.Goals as goal

pub returns-then-why-ne0 : goal.returns-then-why-ne0
returns-then-why-ne0 c = search plain_cases

pub returns : goal.returns
returns c = search plain_cases
