use Rattle.frame.proofs.Sounds.{stand_now}
use Rattle.frame.proofs.Calls.{close_cases}
use Rattle.frame.proofs.FrameSkip.close.Goals as goal

pub answer-requires : goal.answer-requires
answer-requires c = search stand_now

pub returns-in-More : goal.returns-in-More
returns-in-More c = search close_cases

pub returns-in-Done : goal.returns-in-Done
returns-in-Done c = search close_cases

pub returns-in-Refused : goal.returns-in-Refused
returns-in-Refused c = search close_cases

pub returns : goal.returns
returns c = search close_cases
