use Rattle.frame.proofs.Cases.{start_cases}
use Rattle.frame.proofs.start.Goals as goal

pub returns-then-can_begin : goal.returns-then-can_begin
returns-then-can_begin c = search start_cases

pub returns : goal.returns
returns c = search start_cases
