-- What the calls that ask for an f32 leave with their caller. Assumes nothing: these are definitions.
use Rattle.std.specs.Prelude.{ℕ, ◌≡◌, List}
use Rattle.input.specs.declared.DoneAnswer.{DoneAnswer}
use Rattle.input.specs.declared.DoneAnswer.TheVariants as N
use Rattle.rows.specs.Reads.{ToldDone}
use Rattle.single.specs.declared.Counts.{Counts}
use Rattle.doubles.specs.declared.CountsAnswer.{CountsAnswer}
use Rattle.doubles.specs.declared.CountsAnswer.TheVariants as C
use Rattle.doubles.specs.declared.ReadCounts.{ReadCounts}
use Rattle.doubles.specs.declared.RowAnswer.{RowAnswer}
use Rattle.doubles.specs.declared.RowAnswer.TheVariants as R
use Rattle.doubles.specs.declared.ReadRow.{ReadRow}

-- without the counts
abbrev pub counts_done : CountsAnswer → DoneAnswer
counts_done (C.Got c) = N.Done
counts_done (C.Refused why) = N.Refused why

-- one of the three, or what the caller had: "lent counts as they were"
abbrev pub count_told : (Counts → ℕ) → ℕ → CountsAnswer → ℕ
count_told f old (C.Got c) = f c
count_told f old (C.Refused why) = old

pub record ToldCounts (row row' : List ℕ) (yes yes' no no' nan nan' n : ℕ) (read : ReadCounts) : Type 0 where
  pub done : ToldDone row row' n (record { answer = counts_done read.answer; state = read.state })
  pub the_yes : yes' ≡ count_told (λ c. c.yes) yes read.answer
  pub the_no : no' ≡ count_told (λ c. c.no) no read.answer
  pub the_nan : nan' ≡ count_told (λ c. c.nan) nan read.answer

abbrev pub row_done : RowAnswer → DoneAnswer
row_done (R.Got n) = N.Done
row_done (R.Refused why) = N.Refused why

-- how many answers, or what the caller had
abbrev pub many_told : ℕ → RowAnswer → ℕ
many_told old (R.Got n) = n
many_told old (R.Refused why) = old

pub record ToldRow (row row' : List ℕ) (count count' n : ℕ) (read : ReadRow) : Type 0 where
  pub done : ToldDone row row' n (record { answer = row_done read.answer; state = read.state })
  pub the_count : count' ≡ many_told count read.answer
