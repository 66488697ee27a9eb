use Rattle.frame.proofs.Tests.{answer_cases}
use Rattle.frame.proofs.FrameSkip.answer.Goals as goal

pub overflow_add-result : goal.overflow_add-result
overflow_add-result c = search answer_cases

pub returns-in-Asks : goal.returns-in-Asks
returns-in-Asks c = search answer_cases

pub returns-in-Done : goal.returns-in-Done
returns-in-Done c = search answer_cases

pub returns-in-Refused : goal.returns-in-Refused
returns-in-Refused c = search answer_cases
