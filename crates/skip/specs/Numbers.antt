-- The scope paper's number of each answer, 0 where nothing is refused; the values are those that the case has. Assumes nothing: these are definitions.
use Rattle.std.specs.Prelude.{ℕ}
use Rattle.skip.specs.declared.Skipped.{Skipped}
use Rattle.skip.specs.declared.Skipped.TheVariants as S

abbrev pub number_skipped : Skipped → ℕ
number_skipped (S.Done p) = 0
number_skipped (S.Refused why) = why
