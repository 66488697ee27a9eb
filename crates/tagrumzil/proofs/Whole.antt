-- A state in two rows is a whole state: the calls that take no ids answer the same whatever the ids are, and leave them; the struct calls do with their row of
-- ids what they do with a state's own. Assumes nothing.
use mathlib.Core.Path.{◌≡◌, refl, ap}
use mathlib.Core.Bool.{Bool, true, false, cond}
use mathlib.Core.List.{List, [], ◌∷◌}
use Prim.Native.Nat.{ℕ, ◌+◌, ◌-◌, ◌*◌, ◌/◌, ◌%◌, ◌≤◌, ◌<◌}
use native.Mathlib.Omega.{arith}
use borrow.Author.Tests.{ne_eqb, eq-eqb, lt-ltb, le-ltb}
use lib.Dec.{eqb, leb}
use lib.IntN.{ℤ, pos}
use lib.ListN.{length, get_or, replicate}
use mir.Syntax.{w16}
use mir.Val.{SFits, of_z}
use mir.Facts.{to_z-of_z, Fits-of_z}
use Rattle.types.specs.Codes.{truth_code}
use Rattle.types.specs.Limits.{in_range}
use Rattle.types.specs.Refusals.{DEPTH, OUT_OF_TURN, BAD_STATE}
use Rattle.numbers.specs.Varint.{Found, got, refused}
use Rattle.heads.specs.Reader.{Reader, read_to}
use Rattle.heads.specs.Heads.{Field, stop, bool, value, field, message}
use Rattle.heads.specs.Answers.{place}
use Rattle.input.specs.State as I
use Rattle.input.specs.Outcome.{Outcome, calls_to, calls, cut_here, from, answers, declines, stays, begins, ends, anew, on_field}
use Rattle.input.specs.Answers.{as_done}
use Rattle.input.specs.Calls.{struct_begin, struct_end}
use Rattle.input.specs.declared.Awaited.{Awaited}
use Rattle.input.specs.declared.Awaited.TheVariants as W
use Rattle.input.specs.declared.ReadDone.{ReadDone}
use Rattle.numbers.specs.Answers.{wrote_at}
use Rattle.numbers.specs.declared.Wrote.{Wrote}
use Rattle.numbers.specs.declared.Wrote.TheVariants as P
use Rattle.output.specs.State as O
use Rattle.output.specs.Calls.{call, size_wrong, why_not, writes, leaves, settled, refused_by, begin_wrong, end_wrong, struct_begin_call, struct_end_call}
use Rattle.output.specs.declared.AwaitedField.{AwaitedField}
use Rattle.output.specs.declared.AwaitedField.TheVariants as A
use Rattle.output.specs.declared.Written.{Written}
use Rattle.rows.specs.Row.{last_in, turn_of, limits_of, no_limits, awaited_of, awaited_no, field_of, field_no, reader_top, reader_of, reader_after, writer_top, writer_of, writer_after, refilled}
use Rattle.rows.specs.Structs.{saved_read, restored_read, saved_write, restored_write, begin_writes, end_writes}

-- a state with other ids
abbrev pub with_ids : I.State → List ℤ → I.State
with_ids st ids = record { place = st.place; last = st.last; depth = st.depth; ids = ids; pending = st.pending; limits = st.limits; begin = st.begin }

abbrev pub to_ids : {A : Type 0} → Outcome A → List ℤ → Outcome A
to_ids o ids = record { said = o.said; state = with_ids o.state ids }

module _ (s : List ℕ) (st : I.State) (ids : List ℤ) where
  module _ {A : Type 0} (move : I.State → A → I.State) (k : (a : A) → move (with_ids st ids) a ≡ with_ids (move st a) ids) where
    moved : (b : Bool) (g : ℕ) (f : Found A) → cond b (from move (with_ids st ids) f) (declines g (with_ids st ids)) ≡ to_ids (cond b (from move st f) (declines g st)) ids
    moved true g (got a e) = ap (λ (x : I.State). answers a (I.moved_to x (place e))) (k a)
    moved true g (refused why) = refl
    moved false g f = refl

    pub calls_whole : (cut : I.State → ℕ) → cut (with_ids st ids) ≡ cut st → (p : I.State → Reader A) → p (with_ids st ids) ≡ p st → calls_to cut p move s (with_ids st ids) ≡ to_ids (calls_to cut p move s st) ids
    unfolding calls_to I.gate I.sound
    calls_whole cut c p e = rw (c, e) (moved (eqb (I.gate (length s) st) 0) (I.gate (length s) st) (read_to (p st) s (cut st) st.place.0))

  -- of each call that only moves the place
  pub stays_whole : {A : Type 0} (p : I.State → Reader A) → p (with_ids st ids) ≡ p st → calls p stays s (with_ids st ids) ≡ to_ids (calls p stays s st) ids
  stays_whole p e = calls_whole stays (λ a. refl) I.cut_of refl p e

  -- of the field call and the message call
  fielded : (f : Field) → on_field (with_ids st ids) f ≡ with_ids (on_field st f) ids
  fielded stop = refl
  fielded (bool b id) = refl
  fielded (value t id) = refl

  pub field_whole : calls (λ st. field st.last.0) on_field s (with_ids st ids) ≡ to_ids (calls (λ st. field st.last.0) on_field s st) ids
  field_whole = calls_whole on_field fielded I.cut_of refl (λ st. field st.last.0) refl

  pub message_whole : calls_to cut_here (λ st. message st.limits) anew s (with_ids st ids) ≡ to_ids (calls_to cut_here (λ st. message st.limits) anew s st) ids
  message_whole = calls_whole anew (λ m. refl) cut_here refl (λ st. message st.limits) refl

  -- a struct's begin saves the last id in the row as in the state
  begun : (a b : Bool) (g : ℕ) → as_done (cond a (cond b (declines DEPTH (with_ids st ids)) (answers tt (I.entered (with_ids st ids)))) (declines g (with_ids st ids))) ≡ (let r : ReadDone = as_done (cond a (cond b (declines DEPTH st) (answers tt (I.entered st))) (declines g st)) in record { answer = r.answer; state = with_ids r.state (saved_read ids st r.answer) })
  begun true true g = refl
  begun true false g = refl
  begun false b g = refl

  pub begun_whole : struct_begin s (with_ids st ids) ≡ record { answer = (struct_begin s st).answer; state = with_ids (struct_begin s st).state (saved_read ids st (struct_begin s st).answer) }
  unfolding struct_begin begins I.gate I.sound
  begun_whole = begun (eqb (I.gate (length s) st) 0) (leb st.limits.depth st.depth) (I.gate (length s) st)

  -- and its end restores it
  ended : (a b : Bool) (g : ℕ) → as_done (cond a (cond b (declines OUT_OF_TURN (with_ids st ids)) (answers tt (I.left (with_ids st ids)))) (declines g (with_ids st ids))) ≡ (let r : ReadDone = as_done (cond a (cond b (declines OUT_OF_TURN st) (answers tt (I.left st))) (declines g st)) in record { answer = r.answer; state = with_ids (restored_read ids r.state r.answer) ids })
  ended true true g = refl
  ended true false g = refl
  ended false b g = refl

  pub ended_whole : struct_end s (with_ids st ids) ≡ record { answer = (struct_end s st).answer; state = with_ids (restored_read ids (struct_end s st).state (struct_end s st).answer) ids }
  unfolding struct_end ends I.gate I.sound
  ended_whole = ended (eqb (I.gate (length s) st) 0) (eqb st.depth 0) (I.gate (length s) st)

-- The writer's states.
abbrev pub ids_with : O.State → List ℤ → O.State
ids_with st ids = record { place = st.place; last = st.last; depth = st.depth; ids = ids; pending = st.pending; limits = st.limits; begin = st.begin }

module _ (buf : List ℕ) (st : O.State) (ids : List ℤ) where
  -- of a call that leaves the ids: what is wrong with it and its bytes do not see them
  written : (a : Bool) (g : ℕ) (next : O.State) (w : Wrote) → cond a (settled (ids_with st ids) (ids_with next ids) w) (refused_by (ids_with st ids) g) ≡ (let r : Written = cond a (settled st next w) (refused_by st g) in record { answer = r.answer; state = ids_with r.state ids })
  unfolding settled
  written true g next (P.To p) = refl
  written true g next (P.Refused why) = refl
  written false g next w = refl

  pub writes_whole : (wrong : ℕ) (bs : List ℕ) (next : O.State) → writes buf (ids_with st ids) (call wrong bs (ids_with next ids)) ≡ record { answer = (writes buf st (call wrong bs next)).answer; state = ids_with (writes buf st (call wrong bs next)).state ids }
  unfolding writes why_not size_wrong O.unsound
  writes_whole wrong bs next = written (eqb (why_not buf st (call wrong bs next)) 0) (why_not buf st (call wrong bs next)) next (wrote_at buf st.place.0 bs)

  pub leaves_whole : (wrong : ℕ) (bs : List ℕ) (next : O.State) → leaves buf (ids_with st ids) (call wrong bs (ids_with next ids)) ≡ leaves buf st (call wrong bs next)
  unfolding leaves why_not size_wrong O.unsound
  leaves_whole wrong bs next = refl

  -- a struct's begin and end
  begins_so : (a : Bool) (g : ℕ) (w : Wrote) → cond a (settled (ids_with st ids) (O.entered (ids_with st ids)) w) (refused_by (ids_with st ids) g) ≡ (let r : Written = cond a (settled st (O.entered st) w) (refused_by st g) in record { answer = r.answer; state = ids_with r.state (saved_write ids st r.answer) })
  unfolding settled
  begins_so true g (P.To p) = refl
  begins_so true g (P.Refused why) = refl
  begins_so false g w = refl

  pub begin_writes_whole : begin_writes buf (ids_with st ids) ≡ record { answer = (begin_writes buf st).answer; state = ids_with (begin_writes buf st).state (saved_write ids st (begin_writes buf st).answer) }
  unfolding begin_writes writes why_not size_wrong O.unsound O.in_turn begin_wrong
  begin_writes_whole =
      begins_so (eqb (why_not buf st (struct_begin_call st)) 0) (why_not buf st (struct_begin_call st)) (wrote_at buf st.place.0 [])

  ends_so : (a : Bool) (g : ℕ) (w : Wrote) → cond a (settled (ids_with st ids) (O.ended (ids_with st ids)) w) (refused_by (ids_with st ids) g) ≡ (let r : Written = cond a (settled st (O.ended st) w) (refused_by st g) in record { answer = r.answer; state = ids_with (restored_write ids r.state r.answer) ids })
  unfolding settled
  ends_so true g (P.To p) = refl
  ends_so true g (P.Refused why) = refl
  ends_so false g w = refl

  pub end_writes_whole : end_writes buf (ids_with st ids) ≡ record { answer = (end_writes buf st).answer; state = ids_with (restored_write ids (end_writes buf st).state (end_writes buf st).answer) ids }
  unfolding end_writes writes why_not size_wrong O.unsound O.in_turn end_wrong
  end_writes_whole =
      ends_so (eqb (why_not buf st (struct_end_call st)) 0) (why_not buf st (struct_end_call st)) (wrote_at buf st.place.0 [])

-- A row that holds no state: of another length, or with something waiting that cannot. What stands for its state every call refuses, BAD STATE.
pub no_reader : (len : ℕ) → I.gate len (I.fresh no_limits) ≡ BAD_STATE
unfolding I.gate I.sound I.fresh in_range
no_reader len = refl

pub no_writer : (len : ℕ) → O.unsound len (O.begun no_limits) ≡ BAD_STATE
unfolding O.unsound O.begun in_range
no_writer len = refl

module _ (row : List ℕ) (h : length row ≡ 6 → ⊥) where
  pub no_reader_row : reader_of row ≡ I.fresh no_limits
  unfolding reader_of
  no_reader_row = rw (ne_eqb (length row) 6 h)

  pub no_writer_row : writer_of row ≡ O.begun no_limits
  unfolding writer_of
  no_writer_row = rw (ne_eqb (length row) 6 h)

module _ (row : List ℕ) (six : length row ≡ 6) where
  pub no_reader_turn : reader_top ≤ get_or row 1 0 → reader_of row ≡ I.fresh no_limits
  unfolding reader_of
  no_reader_turn h = rw (eq-eqb (length row) 6 six, le-ltb (get_or row 1 0) 196608 h)

  pub no_writer_turn : writer_top ≤ get_or row 1 0 → writer_of row ≡ O.begun no_limits
  unfolding writer_of
  no_writer_turn h = rw (eq-eqb (length row) 6 six, le-ltb (get_or row 1 0) 4295032832 h)

-- The row behind a call holds the call's next state, its ids apart, which stand in the other row.
data Six : List ℕ → Type 0 where
  six : (a b c d e f : ℕ) → Six (a ∷ b ∷ c ∷ d ∷ e ∷ f ∷ [])

view : (row : List ℕ) → length row ≡ 6 → Six row
view [] h = absurd (omega arith)
view (a ∷ []) h = absurd (omega arith)
view (a ∷ b ∷ []) h = absurd (omega arith)
view (a ∷ b ∷ c ∷ []) h = absurd (omega arith)
view (a ∷ b ∷ c ∷ d ∷ []) h = absurd (omega arith)
view (a ∷ b ∷ c ∷ d ∷ e ∷ []) h = absurd (omega arith)
view (a ∷ b ∷ c ∷ d ∷ e ∷ f ∷ []) h = six a b c d e f
view (a ∷ b ∷ c ∷ d ∷ e ∷ f ∷ g ∷ r) h = absurd (omega arith)

low_part : (o w : ℕ) → o < 65536 → (o + w * 65536) % 65536 ≡ o
low_part o w h = omega arith

high_part : (o w : ℕ) → o < 65536 → (o + w * 65536) / 65536 ≡ w
high_part o w h = omega arith

last_back : (z : ℤ) (w : ℕ) → SFits w16 z → last_in (turn_of z w) ≡ z
last_back z w h = rw (low_part (of_z w16 z) w (Fits-of_z h).fits) (to_z-of_z h)

awaited_back : (w : Awaited) → awaited_of (awaited_no w) ≡ w
unfolding awaited_of awaited_no truth_code
awaited_back W.Nothing = refl
awaited_back (W.Truth true) = refl
awaited_back (W.Truth false) = refl

awaited_small : (w : Awaited) → awaited_no w < 3
unfolding awaited_no truth_code
awaited_small W.Nothing = omega arith
awaited_small (W.Truth true) = omega arith
awaited_small (W.Truth false) = omega arith

pub reader_back : (row : List ℕ) (st : I.State) → length row ≡ 6 → SFits w16 st.last.0 → st.limits ≡ limits_of row → reader_of (reader_after row 0 st) ≡ with_ids st (replicate 64 (pos 0))
unfolding reader_of reader_after refilled
reader_back row st h k l = go (view row h) l
  where
    w : ℕ
    w = awaited_no st.pending.0

    o : ℕ
    o = of_z w16 st.last.0

    go : {row : List ℕ} → Six row → st.limits ≡ limits_of row → reader_of (reader_after row 0 st) ≡ with_ids st (replicate 64 (pos 0))
    go (six a b c d e f) l =
        let small : o < 65536 = (Fits-of_z k).fits in
        let below : o + w * 65536 < 196608 = omega (arith, awaited_small st.pending.0) in
        rw (lt-ltb (o + w * 65536) 196608 below, last_back st.last.0 w k, high_part o w small, awaited_back st.pending.0, l)

-- a bool field that the writer awaits has an id of 16 bits
abbrev pub FieldFits : AwaitedField → Type 0
FieldFits A.Nothing = Unit {0}
FieldFits (A.Field id) = SFits w16 id.0

field_back : (w : AwaitedField) → FieldFits w → field_of (field_no w) ≡ w
unfolding field_of field_no
field_back A.Nothing h = refl
field_back (A.Field id) h =
    let back : of_z w16 id.0 + 1 - 1 ≡ of_z w16 id.0 = omega arith in
    rw (ne_eqb (of_z w16 id.0 + 1) 0 (omega arith), back, to_z-of_z h)

field_small : (w : AwaitedField) → FieldFits w → field_no w < 65537
unfolding field_no
field_small A.Nothing h = omega arith
field_small (A.Field id) h = omega (arith, (Fits-of_z h).fits)

pub writer_back : (row : List ℕ) (st : O.State) → length row ≡ 6 → SFits w16 st.last.0 → FieldFits st.pending.0 → st.limits ≡ limits_of row → writer_of (writer_after row 0 st) ≡ ids_with st (replicate 64 (pos 0))
unfolding writer_of writer_after refilled
writer_back row st h k p l = go (view row h) l
  where
    w : ℕ
    w = field_no st.pending.0

    o : ℕ
    o = of_z w16 st.last.0

    go : {row : List ℕ} → Six row → st.limits ≡ limits_of row → writer_of (writer_after row 0 st) ≡ ids_with st (replicate 64 (pos 0))
    go (six a b c d e f) l =
        let small : o < 65536 = (Fits-of_z k).fits in
        let below : o + w * 65536 < 4295032832 = omega (arith, field_small st.pending.0 p) in
        rw (lt-ltb (o + w * 65536) 4295032832 below, last_back st.last.0 w k, high_part o w small, field_back st.pending.0 p, l)
