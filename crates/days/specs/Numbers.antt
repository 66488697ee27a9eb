-- The scope paper's number of each answer, 0 where nothing is refused; the values are those that the case has. Assumes nothing: these are definitions.
use Rattle.std.specs.Prelude.{ℕ}
use Rattle.days.specs.declared.Checked.{Checked}
use Rattle.days.specs.declared.Checked.TheVariants as C
use Rattle.days.specs.declared.Part.{Part}
use Rattle.days.specs.declared.Part.TheVariants as P

abbrev pub number_checked : Checked → ℕ
number_checked (C.Count n) = 0
number_checked (C.Refused why) = why

abbrev pub number_part : Part → ℕ
number_part (P.At a e) = 0
number_part (P.Refused why) = why
