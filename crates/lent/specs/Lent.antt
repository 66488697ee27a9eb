-- What the calls over a reader with its bytes answer: what the same calls answer over the bytes and the state, and the reader behind them. Assumes nothing:
-- these are definitions.
use Rattle.std.specs.Prelude.{ℕ, List}
use Rattle.std.specs.Borrow.{Bor}
use Rattle.types.specs.declared.TType.{TType}
use Rattle.input.specs.State.{State}
use Rattle.input.specs.Calls.{read_message, read_field}
use Rattle.input.specs.declared.ReadMessage.{ReadMessage}
use Rattle.input.specs.declared.ReadField.{ReadField}
use Rattle.input.specs.declared.ReadDone.{ReadDone}
use Rattle.skip.specs.Skip.{skip_call}
use Rattle.lent.specs.declared.LentReader.{LentReader}
use Rattle.lent.specs.declared.LentMessage.{LentMessage}
use Rattle.lent.specs.declared.LentField.{LentField}
use Rattle.lent.specs.declared.LentDone.{LentDone}

-- a reader of a state and the bytes that it is lent
abbrev pub lent : State → Bor (List ℕ) → LentReader
lent st s = record { state = st; bytes = s }

-- the same bytes, at the state that a call handed back
abbrev pub at : LentReader → State → LentReader
at r st = lent st r.bytes

-- a call's answer, and the reader behind it
abbrev pub hand_message : LentReader → ReadMessage → LentMessage
hand_message r x = record { answer = x.answer; reader = at r x.state }

abbrev pub hand_field : LentReader → ReadField → LentField
hand_field r x = record { answer = x.answer; reader = at r x.state }

abbrev pub hand_done : LentReader → ReadDone → LentDone
hand_done r x = record { answer = x.answer; reader = at r x.state }

unfoldable pub lent_message : LentReader → LentMessage
lent_message r = hand_message r (read_message r.bytes.now r.state)

unfoldable pub lent_field : LentReader → LentField
lent_field r = hand_field r (read_field r.bytes.now r.state)

unfoldable pub lent_skip : LentReader → TType → LentDone
lent_skip r kind = hand_done r (skip_call r.bytes.now r.state kind)
