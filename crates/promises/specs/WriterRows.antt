-- The writer's exports: a row of six numbers and one of 64 ids that hold a state, and what each export leaves of them and of the lent
-- buffer, as its contract says it (crates/rows/specs). Assumes nothing: these are definitions.
use Rattle.std.specs.Prelude.{ℕ, ◌≡◌, List, [], ◌∷◌, ℤ, pos, length, get_or, replicate}
use Rattle.std.specs.Int.{w16}
use Rattle.std.proofs.Common.{SFits}
use Rattle.output.specs.State.{State}
use Rattle.output.specs.declared.AwaitedField.{AwaitedField}
use Rattle.output.specs.declared.AwaitedField.TheVariants as A
use Rattle.rows.specs.Row.{limits_of, writer_of, writer_after}
use Rattle.rows.specs.Writes.{number_written}
use Rattle.rows.specs.Structs.{struct_writer, saved_write, restored_write, begin_writes, begin_leaves, end_writes, end_leaves}
use Rattle.promises.specs.Writes.{Write, message, begin, end, field, stop, bool, i8, int, double, uuid, bytes, string, items, pairs, number, next, left}

-- a state with the ids of another row
abbrev pub with_ids : State → List ℤ → State
with_ids st ids =
    record {
      place = st.place;
      last = st.last;
      depth = st.depth;
      ids = ids;
      pending = st.pending;
      limits = st.limits;
      begin = st.begin;
    }

-- an id has 16 bits: that of a bool field that is awaited, and the one that the field call is given
abbrev pub Awaits : AwaitedField → Type 0
Awaits A.Nothing = Unit {0}
Awaits (A.Field id) = SFits w16 id.0

abbrev pub Given : Write → Type 0
Given (message m z name) = Unit {0}
Given begin = Unit {0}
Given end = Unit {0}
Given (field t id) = SFits w16 id.0
Given stop = Unit {0}
Given (bool b) = Unit {0}
Given (i8 z) = Unit {0}
Given (int z) = Unit {0}
Given (double n) = Unit {0}
Given (uuid bs) = Unit {0}
Given (bytes bs) = Unit {0}
Given (string bs) = Unit {0}
Given (items t z) = Unit {0}
Given (pairs k v z) = Unit {0}

-- the two rows hold the state, whose ids have 16 bits
pub record Holds (row : List ℕ) (ids : List ℤ) (st : State) : Type 0 where
  pub six : length row ≡ 6
  pub many : length ids ≡ 64
  pub small : (i : ℕ) → SFits w16 (get_or ids i (pos 0))
  pub last : SFits w16 st.last.0
  pub awaits : Awaits st.pending.0
  pub limits : st.limits ≡ limits_of row
  pub held : writer_of row ≡ with_ids st (replicate 64 (pos 0))
  pub own : st.ids ≡ ids

-- what an export leaves: its number, the buffer, the row and the ids
pub record Left : Type 0 where
  pub number : ℕ
  pub buffer : List ℕ
  pub row : List ℕ
  pub ids : List ℤ

-- a call that takes no ids
abbrev pub alone : Write → List ℕ → List ℕ → List ℤ → Left
alone c buf row ids =
    let st = writer_of row in
    record { number = number c buf st; buffer = left c buf st; row = writer_after row (number c buf st) (next c buf st); ids = ids }

-- a struct's begin and end, which do
abbrev pub begins : List ℕ → List ℕ → List ℤ → Left
begins buf row ids =
    let st = struct_writer row ids in
    let w = begin_writes buf st in
    record {
      number = number_written w.answer;
      buffer = begin_leaves buf st;
      row = writer_after row (number_written w.answer) w.state;
      ids = saved_write ids st w.answer;
    }

abbrev pub ends : List ℕ → List ℕ → List ℤ → Left
ends buf row ids =
    let st = struct_writer row ids in
    let w = end_writes buf st in
    record {
      number = number_written w.answer;
      buffer = end_leaves buf st;
      row = writer_after row (number_written w.answer) (restored_write ids w.state w.answer);
      ids = ids;
    }

unfoldable pub exported : Write → List ℕ → List ℕ → List ℤ → Left
exported (message m z name) buf row ids = alone (message m z name) buf row ids
exported begin buf row ids = begins buf row ids
exported end buf row ids = ends buf row ids
exported (field t id) buf row ids = alone (field t id) buf row ids
exported stop buf row ids = alone stop buf row ids
exported (bool b) buf row ids = alone (bool b) buf row ids
exported (i8 z) buf row ids = alone (i8 z) buf row ids
exported (int z) buf row ids = alone (int z) buf row ids
exported (double n) buf row ids = alone (double n) buf row ids
exported (uuid bs) buf row ids = alone (uuid bs) buf row ids
exported (bytes bs) buf row ids = alone (bytes bs) buf row ids
exported (string bs) buf row ids = alone (string bs) buf row ids
exported (items t z) buf row ids = alone (items t z) buf row ids
exported (pairs k v z) buf row ids = alone (pairs k v z) buf row ids

-- exports one after the other, each on what the one before left
pub record Rows : Type 0 where
  pub buffer : List ℕ
  pub row : List ℕ
  pub ids : List ℤ

unfoldable pub exported_all : List Write → List ℕ → List ℕ → List ℤ → Rows
exported_all [] buf row ids = record { buffer = buf; row = row; ids = ids }
exported_all (c ∷ cs) buf row ids = let x = exported c buf row ids in exported_all cs x.buffer x.row x.ids

-- the arguments of each
unfoldable pub AllGiven : List Write → Type 0
AllGiven [] = Unit {0}
AllGiven (c ∷ cs) = Given c × AllGiven cs
