use Rattle.frame.proofs.OneBurst.{wholes}
use Rattle.frame.proofs.whole.passed_whole.Goals as goal

pub returns-then-burst-left : goal.returns-then-burst-left
returns-then-burst-left c = search wholes

pub slice_bounds-skip_value-end : goal.slice_bounds-skip_value-end
slice_bounds-skip_value-end c = search wholes

pub returns-in-Done : goal.returns-in-Done
returns-in-Done c = search wholes

pub returns-in-Refused : goal.returns-in-Refused
returns-in-Refused c = search wholes
