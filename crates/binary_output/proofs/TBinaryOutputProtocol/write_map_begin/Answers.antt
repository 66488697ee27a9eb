use Rattle.binary_output.proofs.Cases.{pairs_cases}
use Rattle.binary_output.proofs.TBinaryOutputProtocol.write_map_begin.Goals as goal

pub returns-then-why-ne0 : goal.returns-then-why-ne0
returns-then-why-ne0 c = search pairs_cases

pub returns : goal.returns
returns c = search pairs_cases
