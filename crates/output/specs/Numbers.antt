-- The scope paper's number of each answer, 0 where nothing is refused; the values are those that the case has. Assumes nothing: these are definitions.
use Rattle.std.specs.Prelude.{ℕ}
use Rattle.output.specs.declared.WriteAnswer.{WriteAnswer}
use Rattle.output.specs.declared.WriteAnswer.TheVariants as W

abbrev pub number_write : WriteAnswer → ℕ
number_write W.Written = 0
number_write (W.Refused why) = why
