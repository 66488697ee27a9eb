use Rattle.output.proofs.Cases.{moved_cases}
use Rattle.output.proofs.TCompactOutputProtocol.begun.Goals as goal

pub returns-in-Refused : goal.returns-in-Refused
returns-in-Refused c = search moved_cases

pub returns-in-To : goal.returns-in-To
returns-in-To c = search moved_cases
