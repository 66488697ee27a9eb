-- Skip by number, and the struct calls, at each of their returns. Assumes nothing.
use mathlib.Core.Path.{◌≡◌, refl, sym}
use mathlib.Core.List.{List, [], ◌∷◌}
use Prim.Native.Nat.{ℕ, zero, suc, ◌≤◌}
use native.Mathlib.Omega.{arith}
use borrow.Author.Rules.{sfits_of}
use borrow.Author.Tests.{eq-eqb, ne_eqb}
use lib.IntN.{ℤ, pos}
use lib.ListN.{length, get_or, set}
use lib.Seq.{set_out}
use mir.Facts.{to_z-of_z}
use Rattle.types.specs.Codes.{type_by_number}
use Rattle.types.specs.declared.TType.{TType}
use Rattle.types.specs.declared.TypeRead.{TypeRead}
use Rattle.types.specs.declared.TypeRead.TheVariants as R
use Rattle.input.specs.State as I
use Rattle.input.specs.Answers.{number_done}
use Rattle.input.specs.declared.DoneAnswer.{DoneAnswer}
use Rattle.input.specs.declared.DoneAnswer.TheVariants as N
use Rattle.input.specs.declared.ReadDone.{ReadDone}
use Rattle.output.specs.State as O
use Rattle.skip.specs.Skip.{skip_call}
use Rattle.rows.specs.Row.{reader_after}
use Rattle.rows.specs.Structs.{skip_by}

-- skip of a type by its number
module _ (s : List ℕ) (n : ℕ) (st : I.State) (t : TypeRead) (e : t ≡ type_by_number n) where
  pub skip_typed : (k : TType) (r : ReadDone) → t ≡ R.Got k → r ≡ skip_call s st k → r ≡ skip_by s n st
  unfolding skip_by
  skip_typed k r f g = rw (← e, f) g

  module _ (wrong why : ℕ) (f : t ≡ R.Refused wrong) (g : why ≡ I.gate (length s) st) where
    pub skip_stopped : (why ≡ 0 → ⊥) → record { answer = N.Refused why; state = st } ≡ skip_by s n st
    unfolding skip_by O.or_else
    skip_stopped h = rw (← e, f, ← g, ne_eqb why 0 h)

    pub skip_untyped : why ≡ 0 → record { answer = N.Refused wrong; state = st } ≡ skip_by s n st
    unfolding skip_by O.or_else
    skip_untyped h = rw (← e, f, ← g, eq-eqb why 0 h)

pub ruleset skipping = (skip_typed, skip_stopped, skip_untyped)

-- the row, by the number that the answer gives
pub after_by : (row after : List ℕ) (n m : ℕ) (st : I.State) → after ≡ reader_after row n st → n ≡ m → after ≡ reader_after row m st
after_by row after n m st e f = rw f at e

module _ (a : DoneAnswer) where
  pub done_done : (n : ℕ) → a ≡ N.Done → n ≡ 0 → n ≡ number_done a
  done_done n e f = rw e f

  pub done_refused : (why n : ℕ) → a ≡ N.Refused why → n ≡ why → n ≡ number_done a
  done_refused why n e f = rw e f

pub ruleset done_told = (after_by, done_done, done_refused)

-- an id saved past the row's end changes nothing
none_there : (ids : List ℤ) (i : ℕ) → length ids ≤ i → get_or ids i (pos 0) ≡ pos 0
none_there [] i h = refl
none_there (x ∷ xs) zero h = absurd (omega arith)
none_there (x ∷ xs) (suc i) h = none_there xs i (omega arith)

pub saved_past : (ids : List ℤ) (i : ℕ) (z : ℤ) → length ids ≤ i → ids ≡ set ids i z
saved_past ids i z h = sym (set_out ids i z h)

pub no_saved : (ids : List ℤ) (i : ℕ) → length ids ≤ i → pos 0 ≡ get_or ids i (pos 0)
no_saved ids i h = sym (none_there ids i h)

pub ruleset saving = (saved_past, no_saved, to_z-of_z, sfits_of)
