use Rattle.frame.proofs.Cases.{pair_cases}
use Rattle.frame.proofs.start_pairs.Goals as goal

pub returns-then-can_begin-2 : goal.returns-then-can_begin-2
returns-then-can_begin-2 c = search pair_cases

pub returns-then-can_begin : goal.returns-then-can_begin
returns-then-can_begin c = search pair_cases

pub returns : goal.returns
returns c = search pair_cases
