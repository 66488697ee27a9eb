use Rattle.frame.proofs.Sounds.{take_cases}
use Rattle.frame.proofs.FrameSkip.take.Goals as goal

pub answer-requires : goal.answer-requires
answer-requires c = search take_cases

pub run_on-requires : goal.run_on-requires
run_on-requires c = search take_cases

pub returns-in-More : goal.returns-in-More
returns-in-More c = search take_cases

pub returns-in-Done : goal.returns-in-Done
returns-in-Done c = search take_cases

pub returns-in-Refused : goal.returns-in-Refused
returns-in-Refused c = search take_cases

pub returns : goal.returns
returns c = search take_cases
