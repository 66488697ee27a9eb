-- What skip answers: where the value ends, or the refusal. Assumes nothing: these are definitions.
use Rattle.std.specs.Prelude.{ℕ, ◌-◌, cond, List, length, eqb}
use Rattle.types.specs.Refusals.{OUT_OF_TURN, BAD_STATE}
use Rattle.types.specs.Codes.{type_code}
use Rattle.types.specs.declared.TType.{TType}
use Rattle.types.specs.declared.TConfiguration.{TConfiguration}
use Rattle.numbers.specs.Varint.{Found, got, refused}
use Rattle.heads.specs.Reader.{Reader, read_at, read_to}
use Rattle.heads.specs.Answers.{place}
use Rattle.input.specs.State.{State, sound, cut_of, moved_to, with_pending}
use Rattle.input.specs.Outcome.{Outcome, answers, declines}
use Rattle.input.specs.Answers.{as_done}
use Rattle.input.specs.declared.Awaited.{Awaited}
use Rattle.input.specs.declared.Awaited.TheVariants as W
use Rattle.input.specs.declared.ReadDone.{ReadDone}
use Rattle.skip.specs.Value.{value_of}
use Rattle.skip.specs.declared.Skipped.{Skipped}
use Rattle.skip.specs.declared.Skipped.TheVariants.{Done, Refused}

-- what is read is passed over
abbrev pub passed : {A : Type 0} → Found A → Skipped
passed (got a e) = Done (place e)
passed (refused why) = Refused why

unfoldable pub past : {A : Type 0} → Reader A → List ℕ → ℕ → Skipped
past p s at = passed (read_at p s at)

-- skip of a value of a type at a place, with `room` levels left
unfoldable pub skip_of : List ℕ → TConfiguration → ℕ → TType → ℕ → Skipped
skip_of s lim room ty at = past (value_of lim room ty) s at

-- the same up to a cut: what is missed there, with input behind it, is MESSAGE SIZE
unfoldable pub skip_to : List ℕ → ℕ → TConfiguration → ℕ → TType → ℕ → Skipped
skip_to s cut lim room ty at = passed (read_to (value_of lim room ty) s cut at)

-- the state behind what was passed over; a refusal hands it back as given
abbrev pub over : State → Skipped → Outcome (Unit {0})
over st (Done e) = answers tt (moved_to st e)
over st (Refused why) = declines why st

-- the room left: "Nesting starts at the reader's struct depth"
abbrev pub room_of : State → ℕ
room_of st = st.limits.depth - st.depth

-- "A pending Bool is taken, using no byte; any other skip leaves ids and depth as they were"; any other type is OUT OF TURN then
abbrev pub awaited : List ℕ → State → TType → Awaited → Outcome (Unit {0})
awaited s st kind W.Nothing = over st (skip_to s (cut_of st) st.limits (room_of st) kind st.place.0)
awaited s st kind (W.Truth b) = cond (eqb (type_code kind) 1) (answers tt (with_pending st W.Nothing)) (declines OUT_OF_TURN st)

-- skip over the reader's state: BAD STATE first
unfoldable pub skips : TType → List ℕ → State → Outcome (Unit {0})
skips kind s st = cond (sound (length s) st) (awaited s st kind st.pending.0) (declines BAD_STATE st)

unfoldable pub skip_call : List ℕ → State → TType → ReadDone
skip_call s st kind = as_done (skips kind s st)

-- the call's answer where the value ended at e
abbrev pub skipped_to : State → ℕ → ReadDone
skipped_to st e = as_done (answers tt (moved_to st (place e)))
