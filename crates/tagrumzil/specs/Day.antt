-- What the calls of the day file leave with their caller: `w'` is behind the call what w was before it. Assumes nothing: these are definitions.
use Rattle.std.specs.Prelude.{ℕ, ◌≡◌}
use Rattle.numbers.specs.declared.Wrote.{Wrote}
use Rattle.days.specs.declared.Checked.{Checked}
use Rattle.days.specs.declared.Checked.TheVariants as C
use Rattle.days.specs.declared.Part.{Part}
use Rattle.days.specs.declared.Part.TheVariants as P
use Rattle.tagrumzil.specs.Bare.{number_wrote, end_wrote}

-- the number, 0 for none; how many messages there are
abbrev pub number_checked : Checked → ℕ
number_checked (C.Count n) = 0
number_checked (C.Refused why) = why

abbrev pub count_checked : ℕ → Checked → ℕ
count_checked old (C.Count n) = n
count_checked old (C.Refused why) = old

pub record FoundCount (count count' n : ℕ) (found : Checked) : Type 0 where
  pub number : n ≡ number_checked found
  pub the_count : count' ≡ count_checked count found

-- the number, 0 for none; where a message starts and ends
abbrev pub number_part : Part → ℕ
number_part (P.At a e) = 0
number_part (P.Refused why) = why

abbrev pub start_part : ℕ → Part → ℕ
start_part old (P.At a e) = a
start_part old (P.Refused why) = old

abbrev pub end_part : ℕ → Part → ℕ
end_part old (P.At a e) = e
end_part old (P.Refused why) = old

pub record FoundPart (start start' end end' n : ℕ) (found : Part) : Type 0 where
  pub number : n ≡ number_part found
  pub the_start : start' ≡ start_part start found
  pub the_end : end' ≡ end_part end found

-- the number, 0 for none; how long the file is
pub record PutDay (length length' n : ℕ) (wrote : Wrote) : Type 0 where
  pub number : n ≡ number_wrote wrote
  pub the_length : length' ≡ end_wrote length wrote
