use Rattle.wanted.proofs.Cases.{wantable_cases}
use Rattle.wanted.proofs.is_wantable.Goals as goal

pub returns-in-Refused : goal.returns-in-Refused
returns-in-Refused c = search wantable_cases

pub returns-in-Got : goal.returns-in-Got
returns-in-Got c = search wantable_cases
