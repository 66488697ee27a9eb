use Rattle.frame.proofs.Applied.{enter_cases}
use Rattle.frame.proofs.enter.Goals as goal

pub returns-then-w-left : goal.returns-then-w-left
returns-then-w-left c = search enter_cases

pub returns-then-w-gt0 : goal.returns-then-w-gt0
returns-then-w-gt0 c = search enter_cases

pub bounds-rows-depth : goal.bounds-rows-depth
bounds-rows-depth c = search enter_cases

pub returns-in-Asks : goal.returns-in-Asks
returns-in-Asks c = search enter_cases

pub returns-in-Enters : goal.returns-in-Enters
returns-in-Enters c = search enter_cases

pub returns-in-Passes : goal.returns-in-Passes
returns-in-Passes c = search enter_cases

pub returns-in-Refused : goal.returns-in-Refused
returns-in-Refused c = search enter_cases
