-- The binary reader's state, what is checked of it before a byte is read, and its moves: the compact reader's (crates/input/specs/State.antt) without what that
-- protocol alone needs, a last id, the ids of the structs around and a bool that waits. Assumes nothing: these are definitions.
use Rattle.std.specs.Prelude.{ℕ, ◌+◌, ◌-◌, Bool, cond, ◌&&◌, leb}
use Rattle.types.specs.Refusals.{BAD_STATE}
use Rattle.types.specs.Limits.{in_range}
use Rattle.types.specs.declared.TConfiguration.{TConfiguration}
use Rattle.types.specs.declared.Place.{Place}
use Rattle.heads.specs.Answers.{place}
use Rattle.binary_input.specs.declared.TBinaryInputProtocol.{TBinaryInputProtocol}

abbrev pub State : Type 0
State = TBinaryInputProtocol

-- a reader at a place of its input, in no struct; its count begins there, at "the state's start, before any message"
abbrev pub fresh_at : Place → TConfiguration → State
fresh_at at lim = record { place = at; depth = 0; limits = lim; begin = at }

-- at the start of its input
unfoldable pub fresh : TConfiguration → State
fresh lim = fresh_at (place 0) lim

-- the place where the message must have ended: where it began, and the ceiling behind that
abbrev pub cut_of : State → ℕ
cut_of st = st.begin.0 + st.limits.message

-- "BAD STATE: a limit out of range, a place past the buffer's end, a depth over its limit, a message's beginning past the place, a place past the cut"; "A state is
-- sound when 15 is not given"
unfoldable pub sound : ℕ → State → Bool
sound len st =
    in_range st.limits && leb st.place.0 len && leb st.depth st.limits.depth && leb st.begin.0 st.place.0 && leb st.place.0 (cut_of st)

-- what every call refuses first, and 0 where it goes on: no bool waits, so that OUT OF TURN is a struct's end alone
unfoldable pub gate : ℕ → State → ℕ
gate len st = cond (sound len st) 0 BAD_STATE

-- The moves. A state is put together here and nowhere else; what no move names stays.
abbrev pub moved_to : State → Place → State
moved_to st at = record { place = at; depth = st.depth; limits = st.limits; begin = st.begin }

-- "Beginning a message starts the count at its first byte"
abbrev pub begun_here : State → State
begun_here st = record { place = st.place; depth = st.depth; limits = st.limits; begin = st.place }

-- a struct's begin and its end
abbrev pub entered : State → State
entered st = record { place = st.place; depth = st.depth + 1; limits = st.limits; begin = st.begin }

abbrev pub left : State → State
left st = record { place = st.place; depth = st.depth - 1; limits = st.limits; begin = st.begin }

-- the room left: "Nesting starts at the reader's struct depth"
abbrev pub room_of : State → ℕ
room_of st = st.limits.depth - st.depth
