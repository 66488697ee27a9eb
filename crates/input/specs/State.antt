-- The reader's state, what is checked of it before a byte is read, and its moves. Assumes nothing: these are definitions.
use Rattle.std.specs.Prelude.{ℕ, ◌+◌, ◌-◌, List, Bool, true, false, cond, ◌&&◌, get_or, set, replicate, leb, ℤ, pos}
use Rattle.types.specs.Refusals.{BAD_STATE, OUT_OF_TURN}
use Rattle.types.specs.Limits.{in_range}
use Rattle.types.specs.declared.TConfiguration.{TConfiguration}
use Rattle.types.specs.declared.Place.{Place}
use Rattle.types.specs.declared.FieldId.{FieldId}
use Rattle.heads.specs.Answers.{place, id_of}
use Rattle.input.specs.declared.Awaited.{Awaited}
use Rattle.input.specs.declared.Awaited.TheVariants as W
use Rattle.input.specs.declared.Pending.{Pending}
use Rattle.input.specs.declared.TCompactInputProtocol.{TCompactInputProtocol}

abbrev pub State : Type 0
State = TCompactInputProtocol

abbrev pub awaiting : Awaited → Pending
awaiting w = record { 0 = w }

-- a reader at a place of its input, in no struct, with nothing read; its count begins there, at "the state's start, before any message"
abbrev pub fresh_at : Place → TConfiguration → State
fresh_at at lim =
    record {
      place = at;
      last = id_of (pos 0);
      depth = 0;
      ids = replicate 64 (pos 0);
      pending = awaiting W.Nothing;
      limits = lim;
      begin = at;
    }

-- at the start of its input
unfoldable pub fresh : TConfiguration → State
fresh lim = fresh_at (place 0) lim

-- the place where the message must have ended: where it began, and the ceiling behind that
abbrev pub cut_of : State → ℕ
cut_of st = st.begin.0 + st.limits.message

-- "BAD STATE: a limit out of range, a place past the buffer's end, a depth over its limit"; "a beginning past the place, and a place past the cut"; "A state is sound when 15 is not given"
unfoldable pub sound : ℕ → State → Bool
sound len st =
    in_range st.limits && leb st.place.0 len && leb st.depth st.limits.depth && leb st.begin.0 st.place.0 && leb st.place.0 (cut_of st)

-- a bool is pending
abbrev pub waits : Awaited → Bool
waits W.Nothing = false
waits (W.Truth b) = true

-- "Order: 15; 12": what every call but the bool call refuses first, and 0 where it goes on
unfoldable pub gate : ℕ → State → ℕ
gate len st = cond (sound len st) (cond (waits st.pending.0) OUT_OF_TURN 0) BAD_STATE

-- The moves. A state is put together here and nowhere else; what no move names stays.
abbrev pub put : State → Place → FieldId → ℕ → List ℤ → Pending → State
put st at id depth ids w = record { place = at; last = id; depth = depth; ids = ids; pending = w; limits = st.limits; begin = st.begin }

abbrev pub moved_to : State → Place → State
moved_to st at = put st at st.last st.depth st.ids st.pending

-- "Beginning a message starts the count at its first byte"
abbrev pub begun_here : State → State
begun_here st = record { place = st.place; last = st.last; depth = st.depth; ids = st.ids; pending = st.pending; limits = st.limits; begin = st.place }

abbrev pub with_last : State → FieldId → State
with_last st id = put st st.place id st.depth st.ids st.pending

abbrev pub with_pending : State → Awaited → State
with_pending st w = put st st.place st.last st.depth st.ids (awaiting w)

-- "Struct: begin saves the last id and sets 0"
abbrev pub entered : State → State
entered st = put st st.place (id_of (pos 0)) (st.depth + 1) (set st.ids st.depth st.last.0) st.pending

-- "end restores it"
abbrev pub left : State → State
left st = put st st.place (id_of (get_or st.ids (st.depth - 1) (pos 0))) (st.depth - 1) st.ids st.pending
