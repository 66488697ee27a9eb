-- What the call that asks why leaves with its caller. Assumes nothing: these are definitions.
use Rattle.std.specs.Prelude.{ℕ, ◌≡◌}
use Rattle.faults.specs.declared.Verdict.{Verdict}
use Rattle.faults.specs.declared.Verdict.TheVariants as Say

-- the number, 0 for none; the offset, or the place behind the struct; how many steps the path has
abbrev pub number_told : Verdict → ℕ
number_told (Say.Accepted e) = 0
number_told (Say.Refused why off n) = why

abbrev pub offset_told : Verdict → ℕ
offset_told (Say.Accepted e) = e.0
offset_told (Say.Refused why off n) = off

abbrev pub steps_told : Verdict → ℕ
steps_told (Say.Accepted e) = 0
steps_told (Say.Refused why off n) = n

pub record ToldFault (offset' steps' n : ℕ) (told : Verdict) : Type 0 where
  pub number : n ≡ number_told told
  pub the_offset : offset' ≡ offset_told told
  pub the_steps : steps' ≡ steps_told told
