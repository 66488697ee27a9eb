-- What a writer call leaves with its caller. Assumes nothing: these are definitions.
use Rattle.std.specs.Prelude.{ℕ, ◌≡◌, Bool, false, cond, List, [], ℤ, pos, negsuc, eqb}
use Rattle.types.specs.Codes.{type_by_number, message_by_number}
use Rattle.types.specs.declared.FieldId.{FieldId}
use Rattle.types.specs.declared.SeqNo.{SeqNo}
use Rattle.types.specs.declared.TType.TheVariants as T
use Rattle.types.specs.declared.TypeRead.{TypeRead}
use Rattle.types.specs.declared.TypeRead.TheVariants as R
use Rattle.types.specs.declared.MessageTypeRead.{MessageTypeRead}
use Rattle.types.specs.declared.MessageTypeRead.TheVariants as MR
use Rattle.output.specs.State.{State, in_turn}
use Rattle.output.specs.Calls.{Call, call, writes, leaves, message_call, field_call, items_call, pairs_call}
use Rattle.output.specs.declared.WriteAnswer.{WriteAnswer}
use Rattle.output.specs.declared.WriteAnswer.TheVariants as WA
use Rattle.output.specs.declared.Written.{Written}
use Rattle.rows.specs.Row.{writer_after}

-- the scope paper's number of an answer: 0 for none
abbrev pub number_written : WriteAnswer → ℕ
number_written WA.Written = 0
number_written (WA.Refused why) = why

-- the number and the row, from the answer: `w'` is behind the call what w was before it
pub record Kept (row row' : List ℕ) (n : ℕ) (w : Written) : Type 0 where
  pub number : n ≡ number_written w.answer
  pub the_row : row' ≡ writer_after row (number_written w.answer) w.state

-- and the buffer, from the call that was made in a state
pub record Made (row row' buf buf' : List ℕ) (n : ℕ) (st : State) (c : Call) : Type 0 where
  pub kept : Kept row row' n (writes buf st c)
  pub the_buf : buf' ≡ leaves buf st c

-- a call that is refused for its arguments, "15; 12; what the arguments show"
abbrev pub wrong_call : State → ℕ → Call
wrong_call st wrong = call (in_turn st wrong) [] st

-- "Calls by number take 1 for Bool; 2 has no type there": BAD TYPE
abbrev pub field_of_type : State → FieldId → TypeRead → Call
field_of_type st id (R.Got t) = field_call st t id
field_of_type st id (R.Refused why) = wrong_call st why

unfoldable pub field_by : State → ℕ → FieldId → Call
field_by st n id = field_of_type st id (type_by_number n)

abbrev pub items_of_type : State → ℤ → TypeRead → Call
items_of_type st z (R.Got t) = items_call st t z
items_of_type st z (R.Refused why) = wrong_call st why

unfoldable pub items_by : State → ℕ → ℤ → Call
items_by st n z = items_of_type st z (type_by_number n)

abbrev pub pairs_of_types : State → ℤ → TypeRead → TypeRead → Call
pairs_of_types st z (R.Got k) (R.Got v) = pairs_call st k v z
pairs_of_types st z (R.Got k) (R.Refused why) = wrong_call st why
pairs_of_types st z (R.Refused why) v = wrong_call st why

abbrev pub is_none : ℤ → Bool
is_none (pos n) = eqb n 0
is_none (negsuc n) = false

-- "A map written with count 0 has its types ignored"
unfoldable pub pairs_by : State → ℕ → ℕ → ℤ → Call
pairs_by st k v z = cond (is_none z) (pairs_call st T.Stop T.Stop z) (pairs_of_types st z (type_by_number k) (type_by_number v))

-- "type not 1 to 4": BAD MESSAGE TYPE
abbrev pub message_of_type : State → SeqNo → List ℕ → MessageTypeRead → Call
message_of_type st i name (MR.Got m) = message_call st m i name
message_of_type st i name (MR.Refused why) = wrong_call st why

unfoldable pub message_by : State → ℕ → SeqNo → List ℕ → Call
message_by st n i name = message_of_type st i name (message_by_number n)
