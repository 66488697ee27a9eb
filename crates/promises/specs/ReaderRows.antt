-- The reader's exports: a row of six numbers and one of 64 ids that hold a state, and what each export leaves of them, as its contract
-- says it (crates/rows/specs). Assumes nothing: these are definitions.
use Rattle.std.specs.Prelude.{ℕ, ◌≡◌, List, [], ◌∷◌, ℤ, pos, length, get_or, replicate}
use Rattle.std.specs.Int.{w16}
use Rattle.std.proofs.Common.{SFits}
use Rattle.input.specs.State as I
use Rattle.input.specs.Calls.{struct_begin, struct_end}
use Rattle.input.specs.Answers.{number_done}
use Rattle.rows.specs.Row.{limits_of, reader_of, reader_after}
use Rattle.rows.specs.Structs.{struct_reader, saved_read, restored_read}
use Rattle.promises.specs.Reads.{Plain, Read, i8, i16, i32, i64, double, uuid, bytes, string, field, message, begin, plain, header, bool, end, skip, pick, reads}

-- a state with the ids of another row
abbrev pub with_ids : I.State → List ℤ → I.State
with_ids st ids =
    record {
      place = st.place;
      last = st.last;
      depth = st.depth;
      ids = ids;
      pending = st.pending;
      limits = st.limits;
      begin = st.begin;
    }

-- the two rows hold the state, whose ids have 16 bits
pub record Holds (row : List ℕ) (ids : List ℤ) (st : I.State) : Type 0 where
  pub six : length row ≡ 6
  pub many : length ids ≡ 64
  pub small : (i : ℕ) → SFits w16 (get_or ids i (pos 0))
  pub last : SFits w16 st.last.0
  pub limits : st.limits ≡ limits_of row
  pub held : reader_of row ≡ with_ids st (replicate 64 (pos 0))
  pub own : st.ids ≡ ids

-- what an export leaves: its number, the row and the ids
pub record Left : Type 0 where
  pub number : ℕ
  pub row : List ℕ
  pub ids : List ℤ

-- a call that takes no ids
abbrev pub alone : Read → List ℕ → List ℕ → List ℤ → Left
alone c s row ids =
    let r = reads c s (reader_of row) in
    record { number = r.number; row = reader_after row r.number r.state; ids = ids }

-- a struct's begin and end, which do
abbrev pub begins : List ℕ → List ℕ → List ℤ → Left
begins s row ids =
    let r = struct_begin s (struct_reader row ids) in
    record {
      number = number_done r.answer;
      row = reader_after row (number_done r.answer) r.state;
      ids = saved_read ids (struct_reader row ids) r.answer;
    }

abbrev pub ends : List ℕ → List ℕ → List ℤ → Left
ends s row ids =
    let r = struct_end s (struct_reader row ids) in
    record {
      number = number_done r.answer;
      row = reader_after row (number_done r.answer) (restored_read ids r.state r.answer);
      ids = ids;
    }

abbrev pub plainly : Plain → List ℕ → List ℕ → List ℤ → Left
plainly i8 s row ids = alone (plain i8) s row ids
plainly i16 s row ids = alone (plain i16) s row ids
plainly i32 s row ids = alone (plain i32) s row ids
plainly i64 s row ids = alone (plain i64) s row ids
plainly double s row ids = alone (plain double) s row ids
plainly uuid s row ids = alone (plain uuid) s row ids
plainly bytes s row ids = alone (plain bytes) s row ids
plainly string s row ids = alone (plain string) s row ids
plainly field s row ids = alone (plain field) s row ids
plainly message s row ids = alone (plain message) s row ids
plainly begin s row ids = begins s row ids

unfoldable pub exported : Read → List ℕ → List ℕ → List ℤ → Left
exported (plain c) s row ids = plainly c s row ids
exported (header c) s row ids = alone (header c) s row ids
exported bool s row ids = alone bool s row ids
exported end s row ids = ends s row ids
exported (skip t) s row ids = alone (skip t) s row ids
exported (pick wanted kinds n) s row ids = alone (pick wanted kinds n) s row ids

-- exports one after the other, each on what the one before left
pub record Rows : Type 0 where
  pub row : List ℕ
  pub ids : List ℤ

unfoldable pub exported_all : List Read → List ℕ → List ℕ → List ℤ → Rows
exported_all [] s row ids = record { row = row; ids = ids }
exported_all (c ∷ cs) s row ids = let x = exported c s row ids in exported_all cs s x.row x.ids
