-- The calls over the reader's state. Assumes nothing: these are definitions.
use Rattle.std.specs.Prelude.{ℕ, cond, List, [], ◌∷◌, length, nat_le}
use Rattle.types.specs.Refusals.{NO_ROOM}
use Rattle.types.specs.declared.TType.TheVariants as T
use Rattle.types.specs.Value.{Tree}
use Rattle.numbers.specs.Answers.{put_at}
use Rattle.heads.specs.Reader.{read_to}
use Rattle.input.specs.State.{State, cut_of}
use Rattle.input.specs.Outcome.{Said, says, refuses, Outcome, guarded, from, stays}
use Rattle.skip.specs.Value.{value_of}
use Rattle.skip.specs.Skip.{room_of}
use Rattle.single.specs.Held.{held}
use Rattle.single.specs.Counts.{counted_all}
use Rattle.single.specs.declared.Counts.{Counts}
use Rattle.doubles.specs.Doubles.{doubles_of}
use Rattle.doubles.specs.Walked.{code}
use Rattle.doubles.specs.declared.CountsAnswer.{CountsAnswer}
use Rattle.doubles.specs.declared.CountsAnswer.TheVariants as C
use Rattle.doubles.specs.declared.ReadCounts.{ReadCounts}
use Rattle.doubles.specs.declared.RowAnswer.TheVariants as R
use Rattle.doubles.specs.declared.ReadRow.{ReadRow}

-- the struct at the reader's place, and the reader behind it: "A struct that skip refuses gives that refusal"
unfoldable pub ahead : List ℕ → State → Outcome Tree
ahead s st = from stays st (read_to (value_of st.limits (room_of st) T.Struct) s (cut_of st) st.place.0)

-- "Order: 15; 12; .. then what the input shows"
unfoldable pub on_struct : List ℕ → State → Outcome Tree
on_struct s st = guarded s st (ahead s st)

abbrev pub none : Counts
none = record { yes = 0; no = 0; nan = 0 }

-- "count yes, no and not-a-number"
unfoldable pub counts_of : Tree → Counts
counts_of t = counted_all none (doubles_of t)

abbrev pub to_counts : Said Tree → CountsAnswer
to_counts (says t) = C.Got (counts_of t)
to_counts (refuses why) = C.Refused why

abbrev pub as_counts : Outcome Tree → ReadCounts
as_counts o = record { answer = to_counts o.said; state = o.state }

unfoldable pub counts_call : List ℕ → State → ReadCounts
counts_call s st = as_counts (on_struct s st)

-- "For each double of a trial, say whether": an answer a double, in the tree's order
unfoldable pub codes_of : List ℕ → List ℕ
codes_of [] = []
codes_of (n ∷ ns) = code (held n) ∷ codes_of ns

-- with room for so many lent: NO ROOM where there are more. "A refusal returns its number and the state as given"
abbrev pub declines_row : ℕ → State → ReadRow
declines_row why st = record { answer = R.Refused why; state = st }

abbrev pub to_row : ℕ → State → State → Said Tree → ReadRow
to_row room st next (says t) = cond (nat_le (length (doubles_of t)) room) (record { answer = R.Got (length (doubles_of t)); state = next }) (declines_row NO_ROOM st)
to_row room st next (refuses why) = declines_row why st

unfoldable pub row_call : ℕ → List ℕ → State → ReadRow
row_call room s st = to_row room st (on_struct s st).state (on_struct s st).said

-- what is left in the lent row: the answers at its front; what lies behind them stays, and all of it where the call is refused
abbrev pub in_row : List ℕ → Said Tree → List ℕ
in_row row (says t) = put_at row 0 (codes_of (doubles_of t))
in_row row (refuses why) = row

unfoldable pub answered_row : List ℕ → State → List ℕ → List ℕ
answered_row s st row = in_row row (on_struct s st).said
