-- The scope paper's number of a frame's answer, 0 where the struct has ended; the values are those that the case has. "More" is no refusal and has no number of the
-- paper's: 255 stands for it. Assumes nothing: these are definitions.
use Rattle.std.specs.Prelude.{ℕ}
use Rattle.frame.specs.declared.FrameAnswer.{FrameAnswer}
use Rattle.frame.specs.declared.FrameAnswer.TheVariants as A

abbrev pub MORE : ℕ
MORE = 255

abbrev pub number_frame : FrameAnswer → ℕ
number_frame A.More = MORE
number_frame (A.Done n) = 0
number_frame (A.Refused why) = why
