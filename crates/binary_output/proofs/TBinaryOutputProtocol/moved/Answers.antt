use Rattle.binary_output.proofs.Cases.{moved_cases}
use Rattle.binary_output.proofs.TBinaryOutputProtocol.moved.Goals as goal

pub returns-in-Refused : goal.returns-in-Refused
returns-in-Refused c = search moved_cases

pub returns-in-To : goal.returns-in-To
returns-in-To c = search moved_cases
