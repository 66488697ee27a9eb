-- How a writer and a reader stand before demands 2 and 3, and what they have done behind them. Assumes nothing: these are definitions.
use Rattle.std.specs.Prelude.{ℕ, ◌+◌, ◌*◌, ◌≤◌, ◌<◌, ◌≡◌, true, List, [], ◌++◌, ℤ, pos, length, get_or, drop}
use Rattle.std.proofs.Math.Seq.{slice}
use Rattle.types.specs.declared.FieldId.{FieldId}
use Rattle.types.specs.declared.TConfiguration.{TConfiguration}
use Rattle.types.specs.Value as val
use Rattle.types.specs.Value.{Tree, Fields, type_of}
use Rattle.numbers.specs.Answers.{put_at}
use Rattle.input.specs.State as I
use Rattle.input.specs.declared.Awaited.TheVariants as W
use Rattle.output.specs.State as O
use Rattle.output.specs.declared.AwaitedField.TheVariants as A
use Rattle.skip.specs.Skip.{skipped_to}
use Rattle.wanted.specs.Wanted.{among}
use Rattle.picker.specs.Pick.{Own, answer, rows_of, pick_call, picked_rows}
use Rattle.laws.specs.Written.{bytes_of}
use Rattle.laws.specs.Writing.{Step, ran, run}
use Rattle.laws.specs.Reading.{Took, took}
use Rattle.unknown.specs.Inserted.{last_in, kind_of, bytes_in}

-- "output .. have room, .. reader and writer stand at one struct depth under the same limits, no bool is pending, and in each state that
-- takes part the bytes end no later than its own cut" (the array of ids has 64 places, as its type says)
pub record Writer (lim : TConfiguration) (depth : ℕ) (bs buf : List ℕ) (cut : ℕ) (st : O.State) : Type 0 where
  pub sound : O.unsound (length buf) st ≡ 0
  pub lims : st.limits ≡ lim
  pub deep : st.depth ≡ depth
  pub free : st.pending.0 ≡ A.Nothing
  pub ids : length st.ids ≡ 64
  pub room : st.place.0 + length bs ≤ length buf
  pub before : st.place.0 + length bs ≤ cut

-- a reader at any place of any input that holds the bytes there; whatever stands behind them is `rest`
pub record Reader (lim : TConfiguration) (depth : ℕ) (bs s rest : List ℕ) (cut : ℕ) (st : I.State) : Type 0 where
  pub sound : I.sound (length s) st ≡ true
  pub lims : st.limits ≡ lim
  pub deep : st.depth ≡ depth
  pub free : st.pending.0 ≡ W.Nothing
  pub ids : length st.ids ≡ 64
  pub here : drop st.place.0 s ≡ bs ++ rest
  pub inside : st.place.0 + length bs ≤ cut

-- n bytes on, with this last id and no bool pending; depth, limits, where the message began and the ids below the depth as they were
pub record Went (n begin : ℕ) (last : FieldId) (st next : O.State) : Type 0 where
  pub there : next.place.0 ≡ st.place.0 + n
  pub last_id : next.last ≡ last
  pub deep : next.depth ≡ st.depth
  pub lims : next.limits ≡ st.limits
  pub begins : next.begin.0 ≡ begin
  pub below : (i : ℕ) → i < st.depth → get_or next.ids i (pos 0) ≡ get_or st.ids i (pos 0)
  pub free : next.pending.0 ≡ A.Nothing

pub record Came (n begin : ℕ) (last : FieldId) (st next : I.State) : Type 0 where
  pub there : next.place.0 ≡ st.place.0 + n
  pub last_id : next.last ≡ last
  pub deep : next.depth ≡ st.depth
  pub lims : next.limits ≡ st.limits
  pub begins : next.begin.0 ≡ begin
  pub below : (i : ℕ) → i < st.depth → get_or next.ids i (pos 0) ≡ get_or st.ids i (pos 0)
  pub free : next.pending.0 ≡ W.Nothing

-- a row of calls that put these bytes at the writer's place, and nothing else
pub record Wrote (steps : List Step) (bs buf : List ℕ) (begin : ℕ) (st : O.State) : Type 0 where
  pub next : O.State
  pub writes : run steps buf st ≡ ran (put_at buf st.place.0 bs) next
  pub went : Went (length bs) begin st.last st next

-- a row of calls that gave a; "no byte left" where nothing stands behind the bytes
pub record Read {A : Type 0} (calls : Took A) (a : A) (bs s rest : List ℕ) (begin : ℕ) (last : FieldId) (st : I.State) : Type 0 where
  pub next : I.State
  pub reads : calls ≡ took a next
  pub came : Came (length bs) begin last st next
  pub none_left : rest ≡ [] → next.place.0 ≡ length s

-- what the picker answers where a struct was written: it ends just behind it, only the rows of the wanted ids are written, and each has
-- the kind and the value's bytes of the struct's last field of that id and type
pub record Picked (ids : List ℤ) (kinds : List ℕ) (fs : Fields) (s : List ℕ) (st : I.State) (rows : List ℕ) : Type 0 where
  pub own : List Own
  pub answers : pick_call ids kinds (length rows) s st ≡ skipped_to st (st.place.0 + length (bytes_of (val.struct fs)))
  pub noted : picked_rows ids kinds s st rows ≡ rows_of ids kinds own ++ drop (3 * length ids) rows
  pub kind : (id : ℤ) (k : ℕ) → (answer id k own).kind ≡ kind_of (last_in id k fs)
  pub value : (id : ℤ) (k : ℕ) → slice (answer id k own).start (answer id k own).end s ≡ bytes_in (last_in id k fs)

-- two structs, picked alike: "change no answer"
pub record Unmoved (ids : List ℤ) (kinds : List ℕ) (fs gs : Fields) (s₁ s₂ : List ℕ) (st₁ st₂ : I.State) (rows₁ rows₂ : List ℕ) :
    Type 0 where
  pub first : Picked ids kinds fs s₁ st₁ rows₁
  pub second : Picked ids kinds gs s₂ st₂ rows₂
  pub kind : (id : ℤ) → among id ids ≡ true → (k : ℕ) → (answer id k first.own).kind ≡ (answer id k second.own).kind
  pub value : (id : ℤ) → among id ids ≡ true → (k : ℕ) → slice (answer id k first.own).start (answer id k first.own).end s₁ ≡
      slice (answer id k second.own).start (answer id k second.own).end s₂
