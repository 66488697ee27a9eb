-- What the calls of the day file leave, at each of their returns. Assumes nothing.
use mathlib.Core.Path.{◌≡◌, refl}
use Prim.Native.Nat.{ℕ}
use Rattle.numbers.specs.declared.Wrote.{Wrote}
use Rattle.numbers.specs.declared.Wrote.TheVariants as W
use Rattle.days.specs.declared.Checked.{Checked}
use Rattle.days.specs.declared.Checked.TheVariants as C
use Rattle.days.specs.declared.Part.{Part}
use Rattle.days.specs.declared.Part.TheVariants as P
use Rattle.tagrumzil.specs.Day.{FoundCount, FoundPart, PutDay}

module _ (f want : Checked) (g : f ≡ want) (count : ℕ) where
  pub counted : (n : ℕ) → f ≡ C.Count n → FoundCount count n 0 want
  counted n e = rw (← g, e) (record { number = refl; the_count = refl })

  pub not_counted : (why : ℕ) → f ≡ C.Refused why → FoundCount count count why want
  not_counted why e = rw (← g, e) (record { number = refl; the_count = refl })

module _ (f want : Part) (g : f ≡ want) (start end : ℕ) where
  pub found_at : (a e : ℕ) → f ≡ P.At a e → FoundPart start a end e 0 want
  found_at a e h = rw (← g, h) (record { number = refl; the_start = refl; the_end = refl })

  pub not_found : (why : ℕ) → f ≡ P.Refused why → FoundPart start start end end why want
  not_found why h = rw (← g, h) (record { number = refl; the_start = refl; the_end = refl })

module _ (f want : Wrote) (g : f ≡ want) (length : ℕ) where
  pub day_put_lem : (n : ℕ) → f ≡ W.To n → PutDay length n 0 want
  day_put_lem n e = rw (← g, e) (record { number = refl; the_length = refl })

  pub day_not : (why : ℕ) → f ≡ W.Refused why → PutDay length length why want
  day_not why e = rw (← g, e) (record { number = refl; the_length = refl })

pub ruleset daily = (counted, not_counted, found_at, not_found, day_put_lem, day_not)
