-- The picker over a row: the state that the row holds is the one that is read from it. Assumes nothing.
use mathlib.Core.Path.{◌≡◌, ap, subst, ◌∙◌}
use mathlib.Core.List.{List}
use Prim.Native.Nat.{ℕ}
use lib.IntN.{ℤ}
use lib.ListN.{length}
use Rattle.input.specs.State.{State}
use Rattle.input.specs.declared.ReadDone.{ReadDone}
use Rattle.picker.specs.Pick.{pick_call, picked_rows}
use Rattle.rows.specs.Reads.{ToldDone}

module _ (wanted : List ℤ) (kinds found s : List ℕ) (st want : State) (e : st ≡ want) where
  pub pick_told : (row row' : List ℕ) (n : ℕ) (read : ReadDone) → ToldDone row row' n read → read ≡ pick_call wanted kinds (length found) s st → ToldDone row row' n (pick_call wanted kinds (length found) s want)
  pick_told row row' n read t f = subst (ToldDone row row' n) (f ∙ ap (pick_call wanted kinds (length found) s) e) t

  pub pick_found : (found' : List ℕ) → found' ≡ picked_rows wanted kinds s st found → found' ≡ picked_rows wanted kinds s want found
  pick_found found' f = f ∙ ap (λ (x : State). picked_rows wanted kinds s x found) e

pub ruleset picks_through = (pick_told, pick_found)
