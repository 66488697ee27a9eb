-- The scope paper's number of each answer, 0 where nothing is refused; the values are those that the case has. Assumes nothing: these are definitions.
use Rattle.std.specs.Prelude.{ℕ}
use Rattle.printer.specs.declared.Text.{Text}
use Rattle.printer.specs.declared.Text.TheVariants as X

abbrev pub number_text : Text → ℕ
number_text (X.Wrote n) = 0
number_text (X.Refused why) = why
