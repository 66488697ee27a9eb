-- What a call says and the state that it hands back: the checks of the state, then what the readers find at its place. Assumes nothing: these are definitions.
use Rattle.std.specs.Prelude.{ℕ, List, cond, length, eqb, leb}
use Rattle.types.specs.Refusals.{DEPTH, OUT_OF_TURN}
use Rattle.numbers.specs.Varint.{Found, got, refused}
use Rattle.heads.specs.Reader.{Reader, read_to}
use Rattle.heads.specs.Answers.{place}
use Rattle.input.specs.Outcome.{Said, says, refuses}
use Rattle.binary_input.specs.State.{State, gate, cut_of, begun_here, moved_to, entered, left}

-- what a call says, and the state that it hands back
pub record Outcome (A : Type 0) : Type 0 where
  pub said : Said A
  pub state : State

abbrev pub answers : {A : Type 0} → A → State → Outcome A
answers a st = record { said = says a; state = st }

-- "A refusal returns its number and the state as given"
abbrev pub declines : {A : Type 0} → ℕ → State → Outcome A
declines why st = record { said = refuses why; state = st }

-- "Order: 15; 12; ..": the checks of the state come before what a call does
abbrev pub guarded : {A : Type 0} → List ℕ → State → Outcome A → Outcome A
guarded s st o = cond (eqb (gate (length s) st) 0) o (declines (gate (length s) st) st)

-- behind what was found at the state's place; `move` is what else it changes
abbrev pub from : {A : Type 0} → (State → State) → State → Found A → Outcome A
from move st (got a e) = answers a (moved_to (move st) (place e))
from move st (refused why) = declines why st

-- ".. then what the input shows, in reading order": a call that reads up to a cut, by its reader and its move
unfoldable pub calls_to : {A : Type 0} → (State → ℕ) → (State → Reader A) → (State → State) → List ℕ → State → Outcome A
calls_to cut p move s st = guarded s st (from move st (read_to (p st) s (cut st) st.place.0))

-- only the place moves
abbrev pub stays : State → State
stays st = st

-- up to the state's own cut
abbrev pub calls : {A : Type 0} → (State → Reader A) → List ℕ → State → Outcome A
calls p s st = calls_to cut_of p stays s st

-- the cut of a message that begins at the state's place
abbrev pub cut_here : State → ℕ
cut_here st = cut_of (begun_here st)

-- "DEPTH: a struct is begun .. at the depth limit"
unfoldable pub begins : List ℕ → State → Outcome (Unit {0})
begins s st = guarded s st (cond (leb st.limits.depth st.depth) (declines DEPTH st) (answers tt (entered st)))

-- "or a struct is ended at depth 0"
unfoldable pub ends : List ℕ → State → Outcome (Unit {0})
ends s st = guarded s st (cond (eqb st.depth 0) (declines OUT_OF_TURN st) (answers tt (left st)))
