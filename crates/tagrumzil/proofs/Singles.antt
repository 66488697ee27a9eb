-- What the calls that ask for an f32 leave, at each of their returns: the state that the row holds is the one that is read from it. Assumes nothing.
use mathlib.Core.Path.{◌≡◌, ap, subst, ◌∙◌}
use mathlib.Core.List.{List}
use Prim.Native.Nat.{ℕ}
use Rattle.input.specs.State.{State}
use Rattle.input.specs.declared.DoneAnswer.TheVariants as N
use Rattle.rows.specs.Reads.{ToldDone}
use Rattle.single.specs.declared.Counts.{Counts}
use Rattle.doubles.specs.Calls.{counts_call, row_call, answered_row}
use Rattle.doubles.specs.declared.CountsAnswer.TheVariants as C
use Rattle.doubles.specs.declared.ReadCounts.{ReadCounts}
use Rattle.doubles.specs.declared.RowAnswer.TheVariants as R
use Rattle.doubles.specs.declared.ReadRow.{ReadRow}
use Rattle.tagrumzil.specs.Single.{ToldCounts, ToldRow}

module _ (s : List ℕ) (st want : State) (e : st ≡ want) where
  module _ (read : ReadCounts) (g : read ≡ counts_call s st) (row row' : List ℕ) (n : ℕ) where
    pub told_counts : (c : Counts) (y m u : ℕ) → read.answer ≡ C.Got c → ToldDone row row' n (record { answer = N.Done; state = read.state }) → ToldCounts row row' y c.yes m c.no u c.nan n (counts_call s want)
    told_counts c y m u h d =
        subst (ToldCounts row row' y c.yes m c.no u c.nan n) (g ∙ ap (counts_call s) e)
        (record { done = rw h d; the_yes = rw h; the_no = rw h; the_nan = rw h })

    pub told_no_counts : (why y m u : ℕ) → read.answer ≡ C.Refused why → ToldDone row row' n (record { answer = N.Refused why; state = read.state }) → ToldCounts row row' y y m m u u n (counts_call s want)
    told_no_counts why y m u h d =
        subst (ToldCounts row row' y y m m u u n) (g ∙ ap (counts_call s) e)
        (record { done = rw h d; the_yes = rw h; the_no = rw h; the_nan = rw h })

  module _ (room : ℕ) (read : ReadRow) (g : read ≡ row_call room s st) (row row' : List ℕ) (n : ℕ) where
    pub told_answers : (m count : ℕ) → read.answer ≡ R.Got m → ToldDone row row' n (record { answer = N.Done; state = read.state }) → ToldRow row row' count m n (row_call room s want)
    told_answers m count h d =
        subst (ToldRow row row' count m n) (g ∙ ap (row_call room s) e) (record { done = rw h d; the_count = rw h })

    pub told_no_answers : (why count : ℕ) → read.answer ≡ R.Refused why → ToldDone row row' n (record { answer = N.Refused why; state = read.state }) → ToldRow row row' count count n (row_call room s want)
    told_no_answers why count h d =
        subst (ToldRow row row' count count n) (g ∙ ap (row_call room s) e) (record { done = rw h d; the_count = rw h })

  pub told_row : (answers answers' : List ℕ) → answers' ≡ answered_row s st answers → answers' ≡ answered_row s want answers
  told_row answers answers' f = f ∙ ap (λ (x : State). answered_row s x answers) e

pub ruleset told_singles = (told_counts, told_no_counts, told_answers, told_no_answers, told_row)
