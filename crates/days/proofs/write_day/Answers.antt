use Rattle.days.proofs.Puts.{write_cases}
use Rattle.days.proofs.write_day.Goals as goal

pub returns-then-out-base : goal.returns-then-out-base
returns-then-out-base c = search write_cases

pub put_header-requires : goal.put_header-requires
put_header-requires c = search write_cases

pub returns-then-makes_day : goal.returns-then-makes_day
returns-then-makes_day c = search write_cases

pub returns : goal.returns
returns c = search write_cases
