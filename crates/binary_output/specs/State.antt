-- The binary writer's state: when it is sound, and each kind of move. A field's header has the whole id and a bool is a byte, so there is no last id, and no
-- bool is pending. Assumes nothing: these are definitions.
use Rattle.std.specs.Prelude.{ℕ, ◌+◌, ◌-◌, cond, ◌&&◌, leb}
use Rattle.types.specs.Refusals.{BAD_STATE}
use Rattle.types.specs.Limits.{in_range}
use Rattle.types.specs.declared.TConfiguration.{TConfiguration}
use Rattle.types.specs.declared.Place.{Place}
use Rattle.binary_output.specs.declared.TBinaryOutputProtocol.{TBinaryOutputProtocol}

abbrev pub State : Type 0
State = TBinaryOutputProtocol

abbrev pub place_of : ℕ → Place
place_of n = record { 0 = n }

-- the place where the message must have ended: where it began, and the ceiling behind that
abbrev pub cut_of : State → ℕ
cut_of st = st.begin.0 + st.limits.message

-- how many bytes the ceiling leaves it from the state's place on
abbrev pub left_of : State → ℕ
left_of st = st.limits.message - (st.place.0 - st.begin.0)

-- "a limit out of range, a place past the buffer's end, a depth over its limit", "a beginning past the place, and a place past the cut": BAD STATE; "A
-- state is sound when 15 is not given"
unfoldable pub unsound : ℕ → State → ℕ
unsound len st =
    cond (in_range st.limits && leb st.place.0 len && leb st.depth st.limits.depth && leb st.begin.0 st.place.0 && leb st.place.0 (cut_of st)) 0 BAD_STATE

-- a new writer at a place of its buffer, in no struct; its count begins there, at "the state's start, before any message"
abbrev pub begun_at : Place → TConfiguration → State
begun_at at lim = record { place = at; depth = 0; limits = lim; begin = at }

-- at the buffer's start
unfoldable pub begun : TConfiguration → State
begun lim = begun_at (place_of 0) lim

-- at another place
abbrev pub moved_to : State → ℕ → State
moved_to st p = record { place = place_of p; depth = st.depth; limits = st.limits; begin = st.begin }

-- "Beginning a message starts the count at its first byte"
abbrev pub begun_here : State → State
begun_here st = record { place = st.place; depth = st.depth; limits = st.limits; begin = st.place }

-- one struct deeper, and back
abbrev pub entered : State → State
entered st = record { place = st.place; depth = st.depth + 1; limits = st.limits; begin = st.begin }

abbrev pub ended : State → State
ended st = record { place = st.place; depth = st.depth - 1; limits = st.limits; begin = st.begin }
