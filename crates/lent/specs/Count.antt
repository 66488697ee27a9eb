-- How many fields the struct of a message has, and where it ends, by the calls' own answers one after the other. Assumes nothing: these are definitions.
use Rattle.std.specs.Prelude.{ℕ, zero, suc, List, length}
use Rattle.types.specs.Refusals.{END}
use Rattle.types.specs.declared.TType.{TType}
use Rattle.input.specs.State.{State}
use Rattle.input.specs.Calls.{read_message, read_field}
use Rattle.input.specs.declared.MessageAnswer.{MessageAnswer}
use Rattle.input.specs.declared.MessageAnswer.TheVariants as M
use Rattle.input.specs.declared.FieldAnswer.{FieldAnswer}
use Rattle.input.specs.declared.FieldAnswer.TheVariants as F
use Rattle.input.specs.declared.DoneAnswer.{DoneAnswer}
use Rattle.input.specs.declared.DoneAnswer.TheVariants as D
use Rattle.skip.specs.Skip.{skip_call}
use Rattle.lent.specs.declared.Counted.{Counted}
use Rattle.lent.specs.declared.Counted.TheVariants as C

-- behind a field's value: `go` counts on
abbrev pub after_skip : Counted → DoneAnswer → Counted
after_skip go D.Done = go
after_skip go (D.Refused why) = C.Refused why

-- behind a field's header: a stop ends the struct where it stands; any other field's value is skipped, by `past`
abbrev pub after_field : (TType → Counted) → ℕ → State → FieldAnswer → Counted
after_field past n st F.Stop = C.Done n st.place
after_field past n st (F.Field kind id) = past kind
after_field past n st (F.Refused why) = C.Refused why

-- with n fields counted: at most k more, and then the stop
unfoldable pub count_from : ℕ → List ℕ → State → ℕ → Counted
count_from zero s st n = C.Refused END
count_from (suc k) s st n =
    let x = read_field s st in
    after_field (λ kind. let y = skip_call s x.state kind in after_skip (count_from k s y.state (suc n)) y.answer) n x.state x.answer

abbrev pub after_message : Counted → MessageAnswer → Counted
after_message go (M.Got kind sequence start end) = go
after_message go (M.Refused why) = C.Refused why

-- the header, and then no more fields than there are bytes, since each has a byte of its own
unfoldable pub count_fields : List ℕ → State → Counted
count_fields s st = let x = read_message s st in after_message (count_from (length s) s x.state 0) x.answer
