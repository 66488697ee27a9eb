use Rattle.frame.proofs.Tests.{sound_cases}
use Rattle.frame.proofs.FrameSkip.is_sound.Goals as goal

pub returns-in-Asks : goal.returns-in-Asks
returns-in-Asks c = search sound_cases

pub returns-in-Done : goal.returns-in-Done
returns-in-Done c = search sound_cases

pub returns-in-Refused : goal.returns-in-Refused
returns-in-Refused c = search sound_cases

pub returns-then-in_range : goal.returns-then-in_range
returns-then-in_range c = search sound_cases

pub returns : goal.returns
returns c = search sound_cases
