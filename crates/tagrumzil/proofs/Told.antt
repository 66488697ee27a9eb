-- What the call that asks why leaves, at each of its returns: the state that the row holds is the one that is read from it. Assumes nothing.
use mathlib.Core.Path.{◌≡◌, refl, ap, ◌∙◌}
use mathlib.Core.List.{List}
use Prim.Native.Nat.{ℕ}
use lib.IntN.{ℤ}
use Rattle.types.specs.declared.Place.{Place}
use Rattle.input.specs.State.{State}
use Rattle.faults.specs.Fault.{why_call, why_row}
use Rattle.faults.specs.declared.Verdict.{Verdict}
use Rattle.faults.specs.declared.Verdict.TheVariants as Say
use Rattle.tagrumzil.specs.Fault.{ToldFault}

module _ (s : List ℕ) (st want : State) (e : st ≡ want) where
  module _ (v : Verdict) (n : ℕ) (g : v ≡ why_call n s st) where
    pub told_accepted : (to : Place) → v ≡ Say.Accepted to → ToldFault to.0 0 0 (why_call n s want)
    told_accepted to h = rw (← e, ← g, h) (record { number = refl; the_offset = refl; the_steps = refl })

    pub told_refused : (why off steps : ℕ) → v ≡ Say.Refused why off steps → ToldFault off steps why (why_call n s want)
    told_refused why off steps h = rw (← e, ← g, h) (record { number = refl; the_offset = refl; the_steps = refl })

  pub row_told_lem : (row row' : List ℤ) → row' ≡ why_row s st row → row' ≡ why_row s want row
  row_told_lem row row' f = f ∙ ap (λ (x : State). why_row s x row) e

pub ruleset told_why = (told_accepted, told_refused, row_told_lem)
