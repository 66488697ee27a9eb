-- The scope paper's number of each answer, 0 where nothing is refused; the values are those that the case has. Assumes nothing: these are definitions.
use Rattle.std.specs.Prelude.{ℕ}
use Rattle.lent.specs.declared.Counted.{Counted}
use Rattle.lent.specs.declared.Counted.TheVariants as C

abbrev pub number_counted : Counted → ℕ
number_counted (C.Done n p) = 0
number_counted (C.Refused why) = why
