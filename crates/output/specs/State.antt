-- The writer's state: when it is sound, and each kind of move. Assumes nothing: these are definitions.
use Rattle.std.specs.Prelude.{ℕ, ◌+◌, ◌-◌, cond, ◌&&◌, get_or, set, replicate, leb, ℤ, pos}
use Rattle.types.specs.Refusals.{OUT_OF_TURN, BAD_STATE}
use Rattle.types.specs.Limits.{in_range}
use Rattle.types.specs.declared.TConfiguration.{TConfiguration}
use Rattle.types.specs.declared.Place.{Place}
use Rattle.types.specs.declared.FieldId.{FieldId}
unfoldable pub use Rattle.puts.specs.Wrong.{or_else}
use Rattle.output.specs.declared.AwaitedField.{AwaitedField}
use Rattle.output.specs.declared.AwaitedField.TheVariants as A
use Rattle.output.specs.declared.PendingField.{PendingField}
use Rattle.output.specs.declared.TCompactOutputProtocol.{TCompactOutputProtocol}

abbrev pub State : Type 0
State = TCompactOutputProtocol

abbrev pub place_of : ℕ → Place
place_of n = record { 0 = n }

abbrev pub id_of : ℤ → FieldId
id_of z = record { 0 = z }

abbrev pub pending_of : AwaitedField → PendingField
pending_of a = record { 0 = a }

-- the place where the message must have ended: where it began, and the ceiling behind that
abbrev pub cut_of : State → ℕ
cut_of st = st.begin.0 + st.limits.message

-- how many bytes the ceiling leaves it from the state's place on
abbrev pub left_of : State → ℕ
left_of st = st.limits.message - (st.place.0 - st.begin.0)

-- "a limit out of range, a place past the buffer's end, a depth over its limit", "a beginning past the place, and a place past the cut": BAD STATE; "A
-- state is sound when 15 is not given"
unfoldable pub unsound : ℕ → State → ℕ
unsound len st =
    cond (in_range st.limits && leb st.place.0 len && leb st.depth st.limits.depth && leb st.begin.0 st.place.0 && leb st.place.0 (cut_of st)) 0 BAD_STATE

-- "a bool is pending and the call is [not] the bool call": OUT OF TURN
abbrev pub turn : AwaitedField → ℕ
turn A.Nothing = 0
turn (A.Field id) = OUT_OF_TURN

-- "Order: 15; 12; what the arguments show": for a call that is not the bool call, what stands behind 15
unfoldable pub in_turn : State → ℕ → ℕ
in_turn st wrong = or_else (turn st.pending.0) wrong

-- a new writer at a place of its buffer, in no struct, with nothing pending; its count begins there, at "the state's start, before any message"
abbrev pub begun_at : Place → TConfiguration → State
begun_at at lim =
    record {
      place = at;
      last = id_of (pos 0);
      depth = 0;
      ids = replicate 64 (pos 0);
      pending = pending_of A.Nothing;
      limits = lim;
      begin = at;
    }

-- at the buffer's start
unfoldable pub begun : TConfiguration → State
begun lim = begun_at (place_of 0) lim

-- at another place
abbrev pub moved_to : State → ℕ → State
moved_to st p =
    record { place = place_of p; last = st.last; depth = st.depth; ids = st.ids; pending = st.pending; limits = st.limits; begin = st.begin }

-- "Beginning a message starts the count at its first byte"
abbrev pub begun_here : State → State
begun_here st =
    record { place = st.place; last = st.last; depth = st.depth; ids = st.ids; pending = st.pending; limits = st.limits; begin = st.place }

-- behind a field's header: its id is the last one, and no bool is pending
abbrev pub headed : State → FieldId → State
headed st id =
    record { place = st.place; last = id; depth = st.depth; ids = st.ids; pending = pending_of A.Nothing; limits = st.limits; begin = st.begin }

-- "A bool field's header is written by the bool call": till then the field is pending
abbrev pub awaiting : State → FieldId → State
awaiting st id =
    record { place = st.place; last = st.last; depth = st.depth; ids = st.ids; pending = pending_of (A.Field id); limits = st.limits; begin = st.begin }

-- "Struct: begin saves the last id and sets 0"
abbrev pub entered : State → State
entered st =
    record {
      place = st.place;
      last = id_of (pos 0);
      depth = st.depth + 1;
      ids = set st.ids st.depth st.last.0;
      pending = st.pending;
      limits = st.limits;
      begin = st.begin;
    }

-- "end restores it"
abbrev pub ended : State → State
ended st =
    record {
      place = st.place;
      last = id_of (get_or st.ids (st.depth - 1) (pos 0));
      depth = st.depth - 1;
      ids = st.ids;
      pending = st.pending;
      limits = st.limits;
      begin = st.begin;
    }
