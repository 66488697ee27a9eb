-- What a call says and the state that it hands back: the checks of the state, then what the readers find at its place. Assumes nothing: these
-- are definitions.
use Rattle.std.specs.Prelude.{ℕ, List, Bool, cond, length, eqb, leb, pos}
use Rattle.types.specs.Refusals.{DEPTH, OUT_OF_TURN, BAD_STATE}
use Rattle.numbers.specs.Varint.{Found, got, refused}
use Rattle.heads.specs.Reader.{Reader, read_to}
use Rattle.heads.specs.Heads.{truth, Field, stop, bool, value, Message}
use Rattle.heads.specs.Answers.{place, id_of}
use Rattle.input.specs.State.{State, sound, gate, cut_of, begun_here, moved_to, with_last, with_pending, entered, left}
use Rattle.input.specs.declared.Awaited.{Awaited}
use Rattle.input.specs.declared.Awaited.TheVariants as W

-- what a call says: a value, or the number of a refusal
pub data Said (A : Type 0) : Type 0 where
  says : A → Said A
  refuses : ℕ → Said A

-- and the state that it hands back
pub record Outcome (A : Type 0) : Type 0 where
  pub said : Said A
  pub state : State

abbrev pub answers : {A : Type 0} → A → State → Outcome A
answers a st = record { said = says a; state = st }

-- "A refusal returns its number and the state as given"
abbrev pub declines : {A : Type 0} → ℕ → State → Outcome A
declines why st = record { said = refuses why; state = st }

-- "Order: 15; 12; ..": the checks of the state come before what a call does
abbrev pub guarded : {A : Type 0} → List ℕ → State → Outcome A → Outcome A
guarded s st o = cond (eqb (gate (length s) st) 0) o (declines (gate (length s) st) st)

-- behind what was found at the state's place; `move` is what else it changes
abbrev pub from : {A : Type 0} → (State → A → State) → State → Found A → Outcome A
from move st (got a e) = answers a (moved_to (move st a) (place e))
from move st (refused why) = declines why st

-- ".. then what the input shows, in reading order": a call that reads up to a cut, by its reader and its move
unfoldable pub calls_to : {A : Type 0} → (State → ℕ) → (State → Reader A) → (State → A → State) → List ℕ → State → Outcome A
calls_to cut p move s st = guarded s st (from move st (read_to (p st) s (cut st) st.place.0))

-- up to the state's own cut
abbrev pub calls : {A : Type 0} → (State → Reader A) → (State → A → State) → List ℕ → State → Outcome A
calls p move s st = calls_to cut_of p move s st

-- only the place moves
abbrev pub stays : {A : Type 0} → State → A → State
stays st a = st

-- an element's bool, at the state's place
unfoldable pub element : List ℕ → State → Outcome Bool
element s st = from stays st (read_to truth s (cut_of st) st.place.0)

-- "OUT OF TURN: a bool is pending and the call is neither the bool call ..": that one takes the bool, for no byte
abbrev pub taken : List ℕ → State → Awaited → Outcome Bool
taken s st W.Nothing = element s st
taken s st (W.Truth b) = answers b (with_pending st W.Nothing)

unfoldable pub bools : List ℕ → State → Outcome Bool
bools s st = cond (sound (length s) st) (taken s st st.pending.0) (declines BAD_STATE st)

-- "DEPTH: a struct is begun .. at the depth limit"
unfoldable pub begins : List ℕ → State → Outcome (Unit {0})
begins s st = guarded s st (cond (leb st.limits.depth st.depth) (declines DEPTH st) (answers tt (entered st)))

-- "or a struct is ended at depth 0"
unfoldable pub ends : List ℕ → State → Outcome (Unit {0})
ends s st = guarded s st (cond (eqb st.depth 0) (declines OUT_OF_TURN st) (answers tt (left st)))

-- "Reading it sets the last field id to 0"; the message began where it was read
abbrev pub anew : State → Message → State
anew st m = with_last (begun_here st) (id_of (pos 0))

-- the cut of a message that begins at the state's place
abbrev pub cut_here : State → ℕ
cut_here st = cut_of (begun_here st)

-- "Type 0 reads as Stop .., last id unchanged"; a bool field's value waits for the bool call
abbrev pub on_field : State → Field → State
on_field st stop = st
on_field st (bool b id) = with_pending (with_last st (id_of id)) (W.Truth b)
on_field st (value t id) = with_last st (id_of id)
