-- A row of exported reader calls does what the row of state calls does, from any rows that hold a state, ids included. Assumes nothing.
use mathlib.Core.Path.{◌≡◌, refl, sym, ap, ap₂, subst, ◌∙◌}
use mathlib.Core.Bool.{Bool, true, false, cond}
use mathlib.Core.List.{List, [], ◌∷◌}
use Prim.Native.Nat.{ℕ, zero, suc, ◌-◌, ◌*◌}
use native.Mathlib.Omega.{arith}
use native.Mathlib.Decide.{ℕ_discrete}
use borrow.Author.Tests.{eq-eqb, ne_eqb}
use lib.Dec.{eqb, leb, ltb}
use lib.IntN.{ℤ, pos}
use lib.ListN.{length, get_or, set, drop, take, replicate, length-set}
use mir.Syntax.{w16}
use mir.Val.{SFits}
use Rattle.types.specs.Codes.{type_code}
use Rattle.types.specs.Refusals.{BAD_STATE, OUT_OF_TURN, DEPTH, NO_ROOM, BAD_LIST}
use Rattle.types.specs.declared.TType.{TType}
use Rattle.types.specs.Value as val
use Rattle.types.specs.Value.{Tree}
use Rattle.numbers.specs.Varint.{Found, got, refused, placed}
use Rattle.heads.specs.Reader.{Reader, read_at, read_to, missed}
use Rattle.heads.specs.Heads.{int8, int16, int32, int64, double, uuid, truth, binary, text, items_head, pairs_head, Field, stop, bool, value, field, Message, message}
use Rattle.heads.specs.Answers.{place, id_of}
use Rattle.heads.proofs.Lawful.{not_both}
use Rattle.input.specs.State.{State, sound, gate, cut_of, moved_to, with_last, with_pending, entered, left}
use Rattle.input.specs.Outcome.{Outcome, answers, declines, from, calls_to, calls, stays, element, taken, bools, begins, ends, cut_here, anew, on_field}
use Rattle.input.specs.Answers.{as_bool, as_i8, as_i16, as_i32, as_i64, as_double, as_part, as_list, as_map, as_field, as_message, as_done, number_bool, number_i8, number_i16, number_i32, number_i64, number_double, number_part, number_list, number_map, number_field, number_message, number_done}
use Rattle.input.specs.Calls.{read_bool, read_i8, read_i16, read_i32, read_i64, read_double, read_uuid, read_bytes, read_string, read_list, read_set, read_map, read_field, read_message, struct_begin, struct_end}
use Rattle.input.specs.declared.Awaited.{Awaited}
use Rattle.input.specs.declared.Awaited.TheVariants as W
use Rattle.input.specs.declared.DoneAnswer.{DoneAnswer}
use Rattle.input.specs.declared.DoneAnswer.TheVariants as N
use Rattle.input.specs.declared.ReadDone.{ReadDone}
use Rattle.skip.specs.Walk.{Entry, fields}
use Rattle.skip.specs.Value.{value_of}
use Rattle.wanted.specs.Wanted.{listed}
use Rattle.skip.specs.Skip.{over, room_of, awaited, skips, skip_to, skip_call}
use Rattle.skip.specs.declared.Skipped.{Skipped}
use Rattle.skip.specs.declared.Skipped.TheVariants as S
use Rattle.picker.specs.Pick.{on_struct, picks, forgets, pick_call}
use Rattle.rows.specs.Row.{limits_of, reader_of, reader_after, refilled}
use Rattle.rows.specs.Structs.{struct_reader, saved_read, restored_read}
use Rattle.rows.proofs.Cases.{reader_left}
use Rattle.tagrumzil.proofs.Whole as whole
use Rattle.promises.specs.Reads as r
use Rattle.promises.specs.Reads.{Plain, Header, Read, Ended, ended, reads, reads_all}
use Rattle.promises.specs.ReaderRows as x
use Rattle.promises.specs.ReaderRows.{with_ids, Holds, Left, exported, exported_all}
use Rattle.promises.proofs.Within.{IdFits, field_fits}
use Rattle.promises.proofs.Reader.{laws}

-- a call does not see the ids, and leaves them
abbrev Blind : (List ℕ → State → Ended) → Type 0
Blind call = (s : List ℕ) (st : State) (ids : List ℤ) → call s (with_ids st ids) ≡ ended (call s st).number (with_ids (call s st).state ids)

-- bool
bool_blind : (s : List ℕ) (st : State) (ids : List ℤ) → bools s (with_ids st ids) ≡ whole.to_ids (bools s st) ids
unfolding bools sound element
bool_blind s st ids = go (sound (length s) st) st.pending.0
  where
    found : (x : Found Bool) → from stays (with_ids st ids) x ≡ whole.to_ids (from stays st x) ids
    found (got b e) = refl
    found (refused why) = refl

    takes : (w : Awaited) → taken s (with_ids st ids) w ≡ whole.to_ids (taken s st w) ids
    takes W.Nothing = found (read_to truth s (cut_of st) st.place.0)
    takes (W.Truth b) = refl

    go : (b : Bool) (w : Awaited) → cond b (taken s (with_ids st ids) w) (declines BAD_STATE (with_ids st ids)) ≡ whole.to_ids (cond b (taken s st w) (declines BAD_STATE st)) ids
    go true w = takes w
    go false w = refl

-- skip
skip_blind : (t : TType) (s : List ℕ) (st : State) (ids : List ℤ) → skips t s (with_ids st ids) ≡ whole.to_ids (skips t s st) ids
unfolding skips sound
skip_blind t s st ids = go (sound (length s) st) st.pending.0
  where
    passes : (x : Skipped) → over (with_ids st ids) x ≡ whole.to_ids (over st x) ids
    passes (S.Done e) = refl
    passes (S.Refused why) = refl

    turn : (b : Bool) (v : Bool) → cond b (answers {A = Unit {0}} tt (with_pending (with_ids st ids) W.Nothing)) (declines OUT_OF_TURN (with_ids st ids)) ≡ whole.to_ids (cond b (answers {A = Unit {0}} tt (with_pending st W.Nothing)) (declines OUT_OF_TURN st)) ids
    turn true v = refl
    turn false v = refl

    takes : (w : Awaited) → awaited s (with_ids st ids) t w ≡ whole.to_ids (awaited s st t w) ids
    takes W.Nothing = passes (skip_to s (cut_of st) st.limits (room_of st) t st.place.0)
    takes (W.Truth v) = turn (eqb (type_code t) 1) v

    go : (b : Bool) (w : Awaited) → cond b (awaited s (with_ids st ids) t w) (declines BAD_STATE (with_ids st ids)) ≡ whole.to_ids (cond b (awaited s st t w) (declines BAD_STATE st)) ids
    go true w = takes w
    go false w = refl

-- the picker
pick_blind : (wanted : List ℤ) (kinds : List ℕ) (n : ℕ) (s : List ℕ) (st : State) (ids : List ℤ) → picks wanted kinds n s (with_ids st ids) ≡ whole.to_ids (picks wanted kinds n s st) ids
unfolding picks on_struct gate sound
pick_blind wanted kinds n s st ids = go (eqb (gate (length s) st) 0) (listed wanted kinds) (ltb st.depth st.limits.depth) (leb (3 * length wanted) n)
  where
    found : (x : Found (List (Entry Tree))) → from stays (with_ids st ids) x ≡ whole.to_ids (from stays st x) ids
    found (got a e) = refl
    found (refused why) = refl

    go : (a b c d : Bool) → cond a (cond b (cond c (cond d (on_struct s (with_ids st ids)) (declines NO_ROOM (with_ids st ids))) (declines DEPTH (with_ids st ids))) (declines BAD_LIST (with_ids st ids))) (declines (gate (length s) st) (with_ids st ids)) ≡ whole.to_ids (cond a (cond b (cond c (cond d (on_struct s st) (declines NO_ROOM st)) (declines DEPTH st)) (declines BAD_LIST st)) (declines (gate (length s) st) st)) ids
    go true true true true = found (read_to (fields val.truth (value_of st.limits (room_of st - 1)) (pos 0)) s (cut_of st) st.place.0)
    go true true true false = refl
    go true true false d = refl
    go true false c d = refl
    go false b c d = refl

-- each call that takes no ids: all of them but a struct's begin and end
abbrev enters : Plain → Bool
enters r.i8 = false
enters r.i16 = false
enters r.i32 = false
enters r.i64 = false
enters r.double = false
enters r.uuid = false
enters r.bytes = false
enters r.string = false
enters r.field = false
enters r.message = false
enters r.begin = true

no_way : {X : Type 0} → ◌≡◌ {A = Bool} true false → X
no_way e = let z : ◌≡◌ {A = ℕ} 0 1 = cc in absurd (omega arith)

plain_blind : (c : Plain) → enters c ≡ false → Blind (λ s st. reads (r.plain c) s st)
unfolding reads r.plainly read_i8 read_i16 read_i32 read_i64 read_double read_uuid read_bytes read_string read_field read_message
plain_blind r.i8 other s st ids = ap (λ (o : Outcome ℤ). ended (number_i8 (as_i8 o).answer) (as_i8 o).state) (whole.stays_whole s st ids (λ st. int8) refl)
plain_blind r.i16 other s st ids = ap (λ (o : Outcome ℤ). ended (number_i16 (as_i16 o).answer) (as_i16 o).state) (whole.stays_whole s st ids (λ st. int16) refl)
plain_blind r.i32 other s st ids = ap (λ (o : Outcome ℤ). ended (number_i32 (as_i32 o).answer) (as_i32 o).state) (whole.stays_whole s st ids (λ st. int32) refl)
plain_blind r.i64 other s st ids = ap (λ (o : Outcome ℤ). ended (number_i64 (as_i64 o).answer) (as_i64 o).state) (whole.stays_whole s st ids (λ st. int64) refl)
plain_blind r.double other s st ids = ap (λ (o : Outcome ℕ). ended (number_double (as_double o).answer) (as_double o).state) (whole.stays_whole s st ids (λ st. double) refl)
plain_blind r.uuid other s st ids = ap (λ (o : Outcome (List ℕ)). ended (number_part (as_part o).answer) (as_part o).state) (whole.stays_whole s st ids (λ st. uuid) refl)
plain_blind r.bytes other s st ids = ap (λ (o : Outcome (List ℕ)). ended (number_part (as_part o).answer) (as_part o).state) (whole.stays_whole s st ids (λ st. binary st.limits) refl)
plain_blind r.string other s st ids = ap (λ (o : Outcome (List ℕ)). ended (number_part (as_part o).answer) (as_part o).state) (whole.stays_whole s st ids (λ st. text st.limits) refl)
plain_blind r.field other s st ids = ap (λ (o : Outcome Field). ended (number_field (as_field o).answer) (as_field o).state) (whole.field_whole s st ids)
plain_blind r.message other s st ids = ap (λ (o : Outcome Message). ended (number_message (as_message o).answer) (as_message o).state) (whole.message_whole s st ids)
plain_blind r.begin other s st ids = no_way other

header_blind : (c : Header) → Blind (λ s st. reads (r.header c) s st)
unfolding reads r.headed read_list read_set read_map
header_blind r.list s st ids = ap (λ (o : Outcome (TType × ℕ)). ended (number_list (as_list o).answer) (as_list o).state) (whole.stays_whole s st ids (λ st. items_head st.limits) refl)
header_blind r.set s st ids = ap (λ (o : Outcome (TType × ℕ)). ended (number_list (as_list o).answer) (as_list o).state) (whole.stays_whole s st ids (λ st. items_head st.limits) refl)
header_blind r.map s st ids = ap (λ (o : Outcome (TType × TType × ℕ)). ended (number_map (as_map o).answer) (as_map o).state) (whole.stays_whole s st ids (λ st. pairs_head st.limits) refl)

bool_reads : Blind (λ s st. reads r.bool s st)
unfolding reads read_bool
bool_reads s st ids = ap (λ (o : Outcome Bool). ended (number_bool (as_bool o).answer) (as_bool o).state) (bool_blind s st ids)

skip_reads : (t : TType) → Blind (λ s st. reads (r.skip t) s st)
unfolding reads skip_call
skip_reads t s st ids = ap (λ (o : Outcome (Unit {0})). ended (number_done (as_done o).answer) (as_done o).state) (skip_blind t s st ids)

pick_reads : (wanted : List ℤ) (kinds : List ℕ) (n : ℕ) → Blind (λ s st. reads (r.pick wanted kinds n) s st)
unfolding reads pick_call
pick_reads wanted kinds n s st ids = ap (λ (o : Outcome (List (Entry Tree))). ended (number_done (as_done (forgets o)).answer) (as_done (forgets o)).state) (pick_blind wanted kinds n s st ids)

-- What a call leaves of a state: limits and ids as they were, and a last id of 16 bits.
pub record Fine (st next : State) : Type 0 where
  pub limits : next.limits ≡ st.limits
  pub last : SFits w16 next.last.0
  pub ids : next.ids ≡ st.ids

same : (st : State) → SFits w16 st.last.0 → Fine st st
same st h = record { limits = refl; last = h; ids = refl }

fine_calls : {A : Type 0} (cut : State → ℕ) (p : State → Reader A) (move : State → A → State) (s : List ℕ) (st : State) → SFits w16 st.last.0 → ((a : A) (e : ℕ) → read_to (p st) s (cut st) st.place.0 ≡ got a e → Fine st (moved_to (move st a) (place e))) → Fine st (calls_to cut p move s st).state
unfolding calls_to
fine_calls {A} cut p move s st h k = go (eqb (gate (length s) st) 0) (read_to (p st) s (cut st) st.place.0) refl
  where
    go : (b : Bool) (x : Found A) → read_to (p st) s (cut st) st.place.0 ≡ x → Fine st (cond b (from move st x) (declines (gate (length s) st) st)).state
    go true (got a e) q = k a e q
    go true (refused why) q = same st h
    go false x q = same st h

fine_stays : {A : Type 0} (p : State → Reader A) (s : List ℕ) (st : State) → SFits w16 st.last.0 → Fine st (calls p stays s st).state
fine_stays p s st h = fine_calls cut_of p stays s st h (λ a e q. record { limits = refl; last = h; ids = refl })

-- what was found up to a cut was found by the reader
was_read : {A : Type 0} (p : Reader A) (s : List ℕ) (cut at : ℕ) (a : A) (e : ℕ) → read_to p s cut at ≡ got a e → (n : ℕ) × (p (drop at (take cut s)) ≡ got a n)
unfolding read_to read_at
was_read {A} p s cut at a e h = go (p (drop at (take cut s))) refl h
  where
    go : (x : Found A) → p (drop at (take cut s)) ≡ x → missed (ltb cut (length s)) (placed at x) ≡ got a e → (n : ℕ) × (p (drop at (take cut s)) ≡ got a n)
    go (got b n) f g = let q : b ≡ a = cc in (n, f ∙ ap (λ (y : A). got y n) q)
    go (refused why) f g = not_both g

fine_field : (s : List ℕ) (st : State) → SFits w16 st.last.0 → Fine st (calls (λ st. field st.last.0) on_field s st).state
fine_field s st h = fine_calls cut_of (λ st. field st.last.0) on_field s st h on
  where
    moved : (x : Field) (e : ℕ) → IdFits x → Fine st (moved_to (on_field st x) (place e))
    moved stop e f = record { limits = refl; last = h; ids = refl }
    moved (bool b id) e f = record { limits = refl; last = f; ids = refl }
    moved (value t id) e f = record { limits = refl; last = f; ids = refl }

    on : (x : Field) (e : ℕ) → read_to (field st.last.0) s (cut_of st) st.place.0 ≡ got x e → Fine st (moved_to (on_field st x) (place e))
    on x e q = let w = was_read (field st.last.0) s (cut_of st) st.place.0 x e q in moved x e (field_fits st.last.0 h (drop st.place.0 (take (cut_of st) s)) x w.0 w.1)

fine_message : (s : List ℕ) (st : State) → SFits w16 st.last.0 → Fine st (calls_to cut_here (λ st. message st.limits) anew s st).state
fine_message s st h = fine_calls cut_here (λ st. message st.limits) anew s st h (λ m e q. record { limits = refl; last = record { sfits = omega arith }; ids = refl })

fine_bool : (s : List ℕ) (st : State) → SFits w16 st.last.0 → Fine st (bools s st).state
unfolding bools element
fine_bool s st h = go (sound (length s) st) st.pending.0
  where
    found : (x : Found Bool) → Fine st (from stays st x).state
    found (got b e) = record { limits = refl; last = h; ids = refl }
    found (refused why) = same st h

    takes : (w : Awaited) → Fine st (taken s st w).state
    takes W.Nothing = found (read_to truth s (cut_of st) st.place.0)
    takes (W.Truth b) = record { limits = refl; last = h; ids = refl }

    go : (b : Bool) (w : Awaited) → Fine st (cond b (taken s st w) (declines BAD_STATE st)).state
    go true w = takes w
    go false w = same st h

fine_skip : (t : TType) (s : List ℕ) (st : State) → SFits w16 st.last.0 → Fine st (skips t s st).state
unfolding skips
fine_skip t s st h = go (sound (length s) st) st.pending.0
  where
    passes : (x : Skipped) → Fine st (over st x).state
    passes (S.Done e) = record { limits = refl; last = h; ids = refl }
    passes (S.Refused why) = same st h

    turn : (b : Bool) → Fine st (cond b (answers {A = Unit {0}} tt (with_pending st W.Nothing)) (declines OUT_OF_TURN st)).state
    turn true = record { limits = refl; last = h; ids = refl }
    turn false = same st h

    takes : (w : Awaited) → Fine st (awaited s st t w).state
    takes W.Nothing = passes (skip_to s (cut_of st) st.limits (room_of st) t st.place.0)
    takes (W.Truth v) = turn (eqb (type_code t) 1)

    go : (b : Bool) (w : Awaited) → Fine st (cond b (awaited s st t w) (declines BAD_STATE st)).state
    go true w = takes w
    go false w = same st h

fine_pick : (wanted : List ℤ) (kinds : List ℕ) (n : ℕ) (s : List ℕ) (st : State) → SFits w16 st.last.0 → Fine st (picks wanted kinds n s st).state
unfolding picks on_struct
fine_pick wanted kinds n s st h = go (eqb (gate (length s) st) 0) (listed wanted kinds) (ltb st.depth st.limits.depth) (leb (3 * length wanted) n)
  where
    found : (x : Found (List (Entry Tree))) → Fine st (from stays st x).state
    found (got a e) = record { limits = refl; last = h; ids = refl }
    found (refused why) = same st h

    go : (a b c d : Bool) → Fine st (cond a (cond b (cond c (cond d (on_struct s st) (declines NO_ROOM st)) (declines DEPTH st)) (declines BAD_LIST st)) (declines (gate (length s) st) st)).state
    go true true true true = found (read_to (fields val.truth (value_of st.limits (room_of st - 1)) (pos 0)) s (cut_of st) st.place.0)
    go true true true false = same st h
    go true true false d = same st h
    go true false c d = same st h
    go false b c d = same st h

abbrev Kept : (List ℕ → State → Ended) → Type 0
Kept call = (s : List ℕ) (st : State) → SFits w16 st.last.0 → Fine st (call s st).state

plain_kept : (c : Plain) → enters c ≡ false → Kept (λ s st. reads (r.plain c) s st)
unfolding reads r.plainly read_i8 read_i16 read_i32 read_i64 read_double read_uuid read_bytes read_string read_field read_message
plain_kept r.i8 other s st h = fine_stays (λ st. int8) s st h
plain_kept r.i16 other s st h = fine_stays (λ st. int16) s st h
plain_kept r.i32 other s st h = fine_stays (λ st. int32) s st h
plain_kept r.i64 other s st h = fine_stays (λ st. int64) s st h
plain_kept r.double other s st h = fine_stays (λ st. double) s st h
plain_kept r.uuid other s st h = fine_stays (λ st. uuid) s st h
plain_kept r.bytes other s st h = fine_stays (λ st. binary st.limits) s st h
plain_kept r.string other s st h = fine_stays (λ st. text st.limits) s st h
plain_kept r.field other s st h = fine_field s st h
plain_kept r.message other s st h = fine_message s st h
plain_kept r.begin other s st h = no_way other

header_kept : (c : Header) → Kept (λ s st. reads (r.header c) s st)
unfolding reads r.headed read_list read_set read_map
header_kept r.list s st h = fine_stays (λ st. items_head st.limits) s st h
header_kept r.set s st h = fine_stays (λ st. items_head st.limits) s st h
header_kept r.map s st h = fine_stays (λ st. pairs_head st.limits) s st h

bool_kept : Kept (λ s st. reads r.bool s st)
unfolding reads read_bool
bool_kept s st h = fine_bool s st h

skip_kept : (t : TType) → Kept (λ s st. reads (r.skip t) s st)
unfolding reads skip_call
skip_kept t s st h = fine_skip t s st h

pick_kept : (wanted : List ℤ) (kinds : List ℕ) (n : ℕ) → Kept (λ s st. reads (r.pick wanted kinds n) s st)
unfolding reads pick_call
pick_kept wanted kinds n s st h = fine_pick wanted kinds n s st h

-- The rows. Behind a call that was answered they hold its next state.
pub data Six : List ℕ → Type 0 where
  six : (a b c d e f : ℕ) → Six (a ∷ b ∷ c ∷ d ∷ e ∷ f ∷ [])

pub view : (row : List ℕ) → length row ≡ 6 → Six row
view [] h = absurd (omega arith)
view (a ∷ []) h = absurd (omega arith)
view (a ∷ b ∷ []) h = absurd (omega arith)
view (a ∷ b ∷ c ∷ []) h = absurd (omega arith)
view (a ∷ b ∷ c ∷ d ∷ []) h = absurd (omega arith)
view (a ∷ b ∷ c ∷ d ∷ e ∷ []) h = absurd (omega arith)
view (a ∷ b ∷ c ∷ d ∷ e ∷ f ∷ []) h = six a b c d e f
view (a ∷ b ∷ c ∷ d ∷ e ∷ f ∷ g ∷ l) h = absurd (omega arith)

still_six : (row : List ℕ) (st : State) → length row ≡ 6 → length (reader_after row 0 st) ≡ 6
unfolding reader_after refilled
still_six row st h = go (view row h)
  where
    go : {row : List ℕ} → Six row → length (reader_after row 0 st) ≡ 6
    go (six a b c d e f) = refl

same_limits : (row : List ℕ) (st : State) → length row ≡ 6 → limits_of (reader_after row 0 st) ≡ limits_of row
unfolding reader_after refilled
same_limits row st h = go (view row h)
  where
    go : {row : List ℕ} → Six row → limits_of (reader_after row 0 st) ≡ limits_of row
    go (six a b c d e f) = refl

abbrev zeros : List ℤ
zeros = replicate 64 (pos 0)

-- a state whose row and ids are these, from the row that held the state before
answered : (row : List ℕ) (ids ids' : List ℤ) (st next : State) → Holds row ids st → next.limits ≡ st.limits → SFits w16 next.last.0 → length ids' ≡ 64 → ((i : ℕ) → SFits w16 (get_or ids' i (pos 0))) → next.ids ≡ ids' → Holds (reader_after row 0 (with_ids next zeros)) ids' next
answered row ids ids' st next h l f m k o =
    record {
      six = still_six row (with_ids next zeros) h.six;
      many = m;
      small = k;
      last = f;
      limits = l ∙ h.limits ∙ sym (same_limits row (with_ids next zeros) h.six);
      held = whole.reader_back row (with_ids next zeros) h.six f (l ∙ h.limits);
      own = o;
    }

-- what an export does, beside the call: the same number, and rows that hold the call's next state
pub record Does (e : Left) (c : Ended) : Type 0 where
  pub number : e.number ≡ c.number
  pub holds : Holds e.row e.ids c.state

alone_does : (c : Read) → Blind (λ s st. reads c s st) → Kept (λ s st. reads c s st) → (s row : List ℕ) (ids : List ℤ) (st : State) → Holds row ids st → Does (x.alone c s row ids) (reads c s st)
alone_does c blind keeps s row ids st h = record { number = ap (λ (e : Ended). e.number) q; holds = subst (λ (l : List ℕ). Holds l ids (reads c s st).state) (sym there) (go (ℕ_discrete (reads c s st).number 0)) }
  where
    q : reads c s (reader_of row) ≡ ended (reads c s st).number (with_ids (reads c s st).state zeros)
    q = ap (reads c s) h.held ∙ blind s st zeros

    there : (x.alone c s row ids).row ≡ reader_after row (reads c s st).number (with_ids (reads c s st).state zeros)
    there = ap (λ (e : Ended). reader_after row e.number e.state) q

    go : Dec ((reads c s st).number ≡ 0) → Holds (reader_after row (reads c s st).number (with_ids (reads c s st).state zeros)) ids (reads c s st).state
    go (yes z) =
        let f = keeps s st h.last in
        subst (λ (n : ℕ). Holds (reader_after row n (with_ids (reads c s st).state zeros)) ids (reads c s st).state) (sym z)
        (answered row ids ids st (reads c s st).state h f.limits f.last h.many h.small (f.ids ∙ h.own))
    go (no z) =
        subst (λ (l : List ℕ). Holds l ids (reads c s st).state) (reader_left row (reads c s st).number (with_ids (reads c s st).state zeros) z)
        (subst (Holds row ids) (sym ((laws c).kept s st z)) h)

-- a struct's begin
data Begun (s : List ℕ) (st : State) : Type 0 where
  in_it : struct_begin s st ≡ record { answer = N.Done; state = entered st } → Begun s st
  out_of_it : (why : ℕ) → (why ≡ 0 → ⊥) → struct_begin s st ≡ record { answer = N.Refused why; state = st } → Begun s st

begun : (s : List ℕ) (st : State) → Begun s st
unfolding struct_begin begins
begun s st = go (ℕ_discrete (gate (length s) st) 0) (leb st.limits.depth st.depth) refl
  where
    go : Dec (gate (length s) st ≡ 0) → (b : Bool) → leb st.limits.depth st.depth ≡ b → Begun s st
    go (no z) b f = out_of_it (gate (length s) st) z (rw (ne_eqb (gate (length s) st) 0 z))
    go (yes z) true f = out_of_it DEPTH (λ e. omega arith) (rw (eq-eqb (gate (length s) st) 0 z, f))
    go (yes z) false f = in_it (rw (eq-eqb (gate (length s) st) 0 z, f))

pub set_small : (ids : List ℤ) (d : ℕ) (z : ℤ) → ((i : ℕ) → SFits w16 (get_or ids i (pos 0))) → SFits w16 z → (i : ℕ) → SFits w16 (get_or (set ids d z) i (pos 0))
set_small [] d z h k i = h i
set_small (y ∷ ids) zero z h k zero = k
set_small (y ∷ ids) zero z h k (suc i) = h (suc i)
set_small (y ∷ ids) (suc d) z h k zero = h zero
set_small (y ∷ ids) (suc d) z h k (suc i) = set_small ids d z (λ j. h (suc j)) k i

at_home : (row : List ℕ) (ids : List ℤ) (st : State) → Holds row ids st → struct_reader row ids ≡ with_ids st zeros
unfolding struct_reader
at_home row ids st h = rw (eq-eqb (length ids) 64 h.many) h.held

begin_there : (s row : List ℕ) (ids : List ℤ) (st : State) → Holds row ids st → (a : DoneAnswer) (next : State) → struct_begin s st ≡ record { answer = a; state = next } → x.begins s row ids ≡ record { number = number_done a; row = reader_after row (number_done a) (with_ids next (saved_read zeros st a)); ids = saved_read ids (with_ids st zeros) a }
begin_there s row ids st h a next e =
    let home = at_home row ids st h in
    let q : struct_begin s (struct_reader row ids) ≡ record { answer = a; state = with_ids next (saved_read zeros st a) } =
    ap (struct_begin s) home ∙ whole.begun_whole s st zeros ∙ ap (λ (d : ReadDone). record { answer = d.answer; state = with_ids d.state (saved_read zeros st d.answer) }) e
    in
    ap₂ (λ (d : ReadDone) (u : State). record { number = number_done d.answer; row = reader_after row (number_done d.answer) d.state; ids = saved_read ids u d.answer }) q home

begin_does : (s row : List ℕ) (ids : List ℤ) (st : State) → Holds row ids st → Does (x.begins s row ids) (reads (r.plain r.begin) s st)
unfolding reads r.plainly reader_after
begin_does s row ids st h = go (begun s st)
  where
    go : Begun s st → Does (x.begins s row ids) (ended (number_done (struct_begin s st).answer) (struct_begin s st).state)
    go (in_it e) =
        subst (λ (d : ReadDone). Does (x.begins s row ids) (ended (number_done d.answer) d.state)) (sym e)
        (subst (λ (l : Left). Does l (ended 0 (entered st))) (sym (begin_there s row ids st h N.Done (entered st) e))
        (record {
          number = refl;
          holds =
              answered row ids (set ids st.depth st.last.0) st (entered st) h refl (record { sfits = omega arith }) (length-set ids st.depth st.last.0 ∙ h.many)
              (set_small ids st.depth st.last.0 h.small h.last) (ap (λ (l : List ℤ). set l st.depth st.last.0) h.own);
        }))
    go (out_of_it why z e) =
        subst (λ (d : ReadDone). Does (x.begins s row ids) (ended (number_done d.answer) d.state)) (sym e)
        (subst (λ (l : Left). Does l (ended why st)) (sym (begin_there s row ids st h (N.Refused why) st e))
        (record { number = refl; holds = subst (λ (l : List ℕ). Holds l ids st) (reader_left row why (with_ids st zeros) z) h }))

-- and its end
data Over (s : List ℕ) (st : State) : Type 0 where
  out : struct_end s st ≡ record { answer = N.Done; state = left st } → Over s st
  not_out : (why : ℕ) → (why ≡ 0 → ⊥) → struct_end s st ≡ record { answer = N.Refused why; state = st } → Over s st

over_with : (s : List ℕ) (st : State) → Over s st
unfolding struct_end ends
over_with s st = go (ℕ_discrete (gate (length s) st) 0) (eqb st.depth 0) refl
  where
    go : Dec (gate (length s) st ≡ 0) → (b : Bool) → eqb st.depth 0 ≡ b → Over s st
    go (no z) b f = not_out (gate (length s) st) z (rw (ne_eqb (gate (length s) st) 0 z))
    go (yes z) true f = not_out OUT_OF_TURN (λ e. omega arith) (rw (eq-eqb (gate (length s) st) 0 z, f))
    go (yes z) false f = out (rw (eq-eqb (gate (length s) st) 0 z, f))

end_there : (s row : List ℕ) (ids : List ℤ) (st : State) → Holds row ids st → (a : DoneAnswer) (next : State) → struct_end s st ≡ record { answer = a; state = next } → x.ends s row ids ≡ record { number = number_done a; row = reader_after row (number_done a) (restored_read ids (with_ids (restored_read zeros next a) zeros) a); ids = ids }
end_there s row ids st h a next e =
    let q : struct_end s (struct_reader row ids) ≡ record { answer = a; state = with_ids (restored_read zeros next a) zeros } =
    ap (struct_end s) (at_home row ids st h) ∙ whole.ended_whole s st zeros ∙ ap (λ (d : ReadDone). record { answer = d.answer; state = with_ids (restored_read zeros d.state d.answer) zeros }) e
    in
    ap (λ (d : ReadDone). record { number = number_done d.answer; row = reader_after row (number_done d.answer) (restored_read ids d.state d.answer); ids = ids }) q

end_does : (s row : List ℕ) (ids : List ℤ) (st : State) → Holds row ids st → Does (x.ends s row ids) (reads r.end s st)
unfolding reads
end_does s row ids st h = go (over_with s st)
  where
    go : Over s st → Does (x.ends s row ids) (ended (number_done (struct_end s st).answer) (struct_end s st).state)
    go (out e) =
        subst (λ (d : ReadDone). Does (x.ends s row ids) (ended (number_done d.answer) d.state)) (sym e)
        (subst (λ (l : Left). Does l (ended 0 (left st))) (sym (end_there s row ids st h N.Done (left st) e))
        (record {
          number = refl;
          holds =
              subst (λ (l : List ℤ). Holds (reader_after row 0 (with_last (with_ids (left st) zeros) (id_of (get_or l (st.depth - 1) (pos 0))))) ids (left st)) h.own
              (answered row ids ids st (left st) h refl (subst (λ (l : List ℤ). SFits w16 (get_or l (st.depth - 1) (pos 0))) (sym h.own) (h.small (st.depth - 1))) h.many h.small h.own);
        }))
    go (not_out why z e) =
        subst (λ (d : ReadDone). Does (x.ends s row ids) (ended (number_done d.answer) d.state)) (sym e)
        (subst (λ (l : Left). Does l (ended why st)) (sym (end_there s row ids st h (N.Refused why) st e))
        (record { number = refl; holds = subst (λ (l : List ℕ). Holds l ids st) (reader_left row why (with_ids st zeros) z) h }))

-- every export does what its call does
plain_does : (c : Plain) → enters c ≡ false → (s row : List ℕ) (ids : List ℤ) (st : State) → Holds row ids st → Does (x.alone (r.plain c) s row ids) (reads (r.plain c) s st)
plain_does c e = alone_does (r.plain c) (plain_blind c e) (plain_kept c e)

each_does : (c : Plain) (s row : List ℕ) (ids : List ℤ) (st : State) → Holds row ids st → Does (x.plainly c s row ids) (reads (r.plain c) s st)
each_does r.i8 = plain_does r.i8 refl
each_does r.i16 = plain_does r.i16 refl
each_does r.i32 = plain_does r.i32 refl
each_does r.i64 = plain_does r.i64 refl
each_does r.double = plain_does r.double refl
each_does r.uuid = plain_does r.uuid refl
each_does r.bytes = plain_does r.bytes refl
each_does r.string = plain_does r.string refl
each_does r.field = plain_does r.field refl
each_does r.message = plain_does r.message refl
each_does r.begin = begin_does

pub does : (c : Read) (s row : List ℕ) (ids : List ℤ) (st : State) → Holds row ids st → Does (exported c s row ids) (reads c s st)
unfolding exported
does (r.plain c) s row ids st h = each_does c s row ids st h
does (r.header c) s row ids st h = alone_does (r.header c) (header_blind c) (header_kept c) s row ids st h
does r.bool s row ids st h = alone_does r.bool bool_reads bool_kept s row ids st h
does r.end s row ids st h = end_does s row ids st h
does (r.skip t) s row ids st h = alone_does (r.skip t) (skip_reads t) (skip_kept t) s row ids st h
does (r.pick wanted kinds n) s row ids st h = alone_does (r.pick wanted kinds n) (pick_reads wanted kinds n) (pick_kept wanted kinds n) s row ids st h

-- and so a row of them
pub all_held : (cs : List Read) (s row : List ℕ) (ids : List ℤ) (st : State) → Holds row ids st → Holds (exported_all cs s row ids).row (exported_all cs s row ids).ids (reads_all cs s st)
unfolding exported_all reads_all
all_held [] s row ids st h = h
all_held (c ∷ cs) s row ids st h = all_held cs s (exported c s row ids).row (exported c s row ids).ids (reads c s st).state (does c s row ids st h).holds
