-- `count_fields` (lent) counts what the walk over fields finds: the same end and refusal, and as many fields. Assumes nothing.
use mathlib.Core.Path.{◌≡◌, refl, sym, ap, ap₂, subst, ◌∙◌}
use mathlib.Core.Bool.{Bool, true, false, cond}
use mathlib.Core.List.{List, [], ◌∷◌}
use Prim.Native.Nat.{ℕ, zero, suc, ◌+◌, ◌≤◌, ◌<◌}
use native.Mathlib.Omega.{arith}
use lib.Dec.{ltb}
use lib.IntN.{ℤ, pos}
use lib.ListN.{length, take, drop}
use Rattle.types.specs.Refusals.{BAD_STATE}
use Rattle.types.specs.Codes.{type_code}
use Rattle.types.specs.declared.TType.{TType}
use Rattle.types.specs.declared.TType.TheVariants as T
use Rattle.types.specs.Value as val
use Rattle.types.specs.Value.{Tree}
use Rattle.numbers.specs.Varint.{Found, got, refused, placed}
use Rattle.heads.specs.Reader.{Reader, done, and_then, read_at, read_to, missing, missed}
use Rattle.heads.specs.Heads.{Field, stop, bool, value, field, Message, message}
use Rattle.heads.specs.Answers.{place, id_of}
use Rattle.heads.proofs.Lawful.{Takes, not_both}
use Rattle.heads.proofs.Readers.{field_takes, message_takes}
use Rattle.heads.proofs.Steps.{found_at, step, stop_at, done_at}
use Rattle.input.specs.State.{State, sound, cut_of, waits, moved_to, with_last, with_pending}
use Rattle.input.specs.Outcome.{Outcome, answers, declines, calls_to, cut_here, anew, on_field}
use Rattle.input.specs.Answers.{as_field, as_message, as_done, number_message}
use Rattle.input.specs.Calls.{read_field, read_message}
use Rattle.input.specs.declared.Awaited.{Awaited}
use Rattle.input.specs.declared.Awaited.TheVariants as W
use Rattle.input.specs.declared.FieldAnswer.TheVariants as F
use Rattle.input.specs.declared.ReadField.{ReadField}
use Rattle.input.specs.declared.ReadDone.{ReadDone}
use Rattle.input.proofs.Gate.{is_sound}
use Rattle.input.proofs.Laws.{read_well, read_lost, landed}
use Rattle.input.proofs.Each.{field_laws, message_laws, num_message}
use Rattle.input.proofs.Refusals.{message_told_lem}
use Rattle.skip.specs.Walk.{Entry, with_size, sizing, behind, fields}
use Rattle.skip.specs.Value.{value_of}
use Rattle.skip.specs.Skip.{passed, skip_to, over, room_of, awaited, skips, skip_call}
use Rattle.skip.proofs.Walks.{fields_step}
use Rattle.skip.proofs.Laws.{skip_laws}
use Rattle.skip.proofs.Call.{nothing_waits}
use Rattle.lent.specs.Count.{after_skip, after_field, count_from, after_message, count_fields}
use Rattle.lent.specs.declared.Counted.{Counted}
use Rattle.lent.specs.declared.Counted.TheVariants as C
use Rattle.promises.specs.Promises.{counted}

-- up to the cut: what the reader finds there, a missed byte apart
abbrev near : List ℕ → State → List ℕ
near s st = take (cut_of st) s

abbrev short : List ℕ → State → Bool
short s st = ltb (cut_of st) (length s)

abbrev walks : State → ℤ → Reader (List (Entry Tree))
walks st last = fields val.truth (value_of st.limits (room_of st)) last

-- a field's header: one call
module _ (s : List ℕ) (st : State) (ok : sound (length s) st ≡ true) (free : st.pending.0 ≡ W.Nothing) where
  not_busy : waits st.pending.0 ≡ false
  not_busy = ap waits free

  header_is : (x : Field) (e : ℕ) → read_at (field st.last.0) (near s st) st.place.0 ≡ got x e → read_field s st ≡ as_field (answers x (moved_to (on_field st x) (place e)))
  unfolding read_field read_to
  header_is x e f = ap as_field (read_well cut_of (λ y. field y.last.0) on_field s st ok not_busy x e (ap (missed (short s st)) f))

  header_not : (why : ℕ) → read_at (field st.last.0) (near s st) st.place.0 ≡ refused why → read_field s st ≡ as_field (declines (missing (short s st) why) st)
  unfolding read_field read_to
  header_not why f = ap as_field (read_lost cut_of (λ y. field y.last.0) on_field s st ok not_busy (missing (short s st) why) (ap (missed (short s st)) f))

-- a value, passed over
skip_is : (s : List ℕ) (st : State) (t : TType) → sound (length s) st ≡ true → st.pending.0 ≡ W.Nothing → (x : Found Tree) → read_at (value_of st.limits (room_of st) t) (near s st) st.place.0 ≡ x → skips t s st ≡ over st (passed (missed (short s st) x))
unfolding skips skip_to read_to
skip_is s st t ok free x f =
    ap₂ (λ (b : Bool) (w : Awaited). cond b (awaited s st t w) (declines BAD_STATE st)) ok free ∙ ap (λ (y : Found Tree). over st (passed (missed (short s st) y))) f

truth_is : (s : List ℕ) (st : State) (b : Bool) → sound (length s) st ≡ true → st.pending.0 ≡ W.Truth b → skips T.Bool s st ≡ answers tt (with_pending st W.Nothing)
unfolding skips type_code
truth_is s st b ok w = ap₂ (λ (c : Bool) (a : Awaited). cond c (awaited s st T.Bool a) (declines BAD_STATE st)) ok w

-- with how many bytes it took
sized_at_lem : {A : Type 0} (p : Reader A) (s : List ℕ) (at : ℕ) (a : A) (e : ℕ) → read_at p s at ≡ got a e → (n : ℕ) × (read_at (sizing p) s at ≡ got (a, n) e)
unfolding read_at sizing
sized_at_lem p s at a e f =
    let w = found_at at (p (drop at s)) a e f in
    (w.0, ap (λ (x : Found _). placed at (with_size x)) w.1 ∙ ap (got (a, w.0)) w.2)

sized_not : {A : Type 0} (p : Reader A) (s : List ℕ) (at why : ℕ) → read_at p s at ≡ refused why → read_at (sizing p) s at ≡ refused why
unfolding read_at sizing
sized_not {A} p s at why f = go (p (drop at s)) f
  where
    go : (x : Found A) → placed at x ≡ refused why → placed at (with_size x) ≡ refused why
    go (got a n) e = let z : ◌≡◌ {A = ℕ} 0 1 = cc in absurd (omega arith)
    go (refused w) e = let q : w ≡ why = cc in ap refused q

-- what comes behind a found walk: a field more, or the refusal
one_more : (n : ℕ) (more : Bool) (e : ℕ) (s : List ℕ) (p : Reader (List (Entry Tree))) (f : Entry Tree) → counted n (missed more (read_at (and_then p (λ fs. done (f ∷ fs))) s e)) ≡ counted (suc n) (missed more (read_at p s e))
one_more n more e s p f = go (read_at p s e) refl
  where
    go : (x : Found (List (Entry Tree))) → read_at p s e ≡ x → counted n (missed more (read_at (and_then p (λ fs. done (f ∷ fs))) s e)) ≡ counted (suc n) (missed more (read_at p s e))
    go (got fs d) q =
        ap (λ (y : Found (List (Entry Tree))). counted n (missed more y)) (step p (λ fs. done (f ∷ fs)) s e fs d q ∙ done_at s d (f ∷ fs))
        ∙ ap (λ (k : ℕ). C.Done k (place d)) (omega arith)
        ∙ sym (ap (λ (y : Found (List (Entry Tree))). counted (suc n) (missed more y)) q)
    go (refused why) q =
        ap (λ (y : Found (List (Entry Tree))). counted n (missed more y)) (stop_at p (λ fs. done (f ∷ fs)) s e why q)
        ∙ sym (ap (λ (y : Found (List (Entry Tree))). counted (suc n) (missed more y)) q)

-- a header's end lies behind its place
later : (last : ℤ) (s : List ℕ) (at : ℕ) (x : Field) (e : ℕ) → read_at (field last) s at ≡ got x e → at < e
unfolding read_at
later last s at x e f = let w = found_at at (field last (drop at s)) x e f in omega (arith, w.2, field_takes last (drop at s) x w.0 w.1)

no_earlier : {A : Type 0} (p : Reader A) (s : List ℕ) (at : ℕ) (a : A) (e : ℕ) → read_at p s at ≡ got a e → at ≤ e
unfolding read_at
no_earlier p s at a e f = let w = found_at at (p (drop at s)) a e f in omega (arith, w.2)

-- the walk's first step, at a place
first_step : (st : State) (last : ℤ) (s : List ℕ) (at : ℕ) → read_at (walks st last) s at ≡ read_at (and_then (sizing (field last)) (λ h. behind val.truth (value_of st.limits (room_of st)) (fields val.truth (value_of st.limits (room_of st))) h.0 h.1)) s at
unfolding read_at
first_step st last s at = ap (placed at) (fields_step val.truth (value_of st.limits (room_of st)) last (drop at s))

-- one turn of the count, from what the header's call answered
turn : ℕ → List ℕ → ℕ → ReadField → Counted
turn k s n x = after_field (λ kind. after_skip (count_from k s (skip_call s x.state kind).state (suc n)) (skip_call s x.state kind).answer) n x.state x.answer

turns : (k : ℕ) (s : List ℕ) (st : State) (n : ℕ) → count_from (suc k) s st n ≡ turn k s n (read_field s st)
unfolding count_from turn
turns k s st n = refl

-- and of a field's value, from what the skip answered
passes : (k : ℕ) (s : List ℕ) (n : ℕ) → ReadDone → Counted
passes k s n y = after_skip (count_from k s y.state (suc n)) y.answer

turn_value : (k : ℕ) (s : List ℕ) (n : ℕ) (st : State) (t : TType) (id : ℤ) → turn k s n (record { answer = F.Field t (id_of id); state = st }) ≡ passes k s n (skip_call s st t)
unfolding turn passes
turn_value k s n st t id = refl

abbrev Counts : ℕ → List ℕ → Type 0
Counts k s = (st : State) (n : ℕ) → sound (length s) st ≡ true → st.pending.0 ≡ W.Nothing → length s < k + st.place.0 → count_from k s st n ≡ counted n (missed (short s st) (read_at (walks st st.last.0) (near s st) st.place.0))

module _ (k : ℕ) (s : List ℕ) (ih : Counts k s) (st : State) (n : ℕ) (ok : sound (length s) st ≡ true) (free : st.pending.0 ≡ W.Nothing) (l : length s < suc k + st.place.0) where
  abbrev on : Field × ℕ → Reader (List (Entry Tree))
  on h = behind val.truth (value_of st.limits (room_of st)) (fields val.truth (value_of st.limits (room_of st))) h.0 h.1

  abbrev found : Found (List (Entry Tree)) → Counted
  found x = counted n (missed (short s st) x)

  abbrev Goal : Type 0
  Goal = count_from (suc k) s st n ≡ found (read_at (walks st st.last.0) (near s st) st.place.0)

  -- what the walk gives behind a header
  walk_on : (x : Field) (e : ℕ) → read_at (field st.last.0) (near s st) st.place.0 ≡ got x e → (m : ℕ) × (read_at (walks st st.last.0) (near s st) st.place.0 ≡ read_at (on (x, m)) (near s st) e)
  walk_on x e f =
      let z = sized_at_lem (field st.last.0) (near s st) st.place.0 x e f in
      (z.0, first_step st st.last.0 (near s st) st.place.0 ∙ step (sizing (field st.last.0)) on (near s st) st.place.0 (x, z.0) e z.1)

  -- what the count does there
  counts_on : (x : Field) (e : ℕ) → read_at (field st.last.0) (near s st) st.place.0 ≡ got x e → count_from (suc k) s st n ≡ turn k s n (as_field (answers x (moved_to (on_field st x) (place e))))
  counts_on x e f = turns k s st n ∙ ap (turn k s n) (header_is s st ok free x e f)

  sound_on : (x : Field) (e : ℕ) → read_at (field st.last.0) (near s st) st.place.0 ≡ got x e → sound (length s) (moved_to (on_field st x) (place e)) ≡ true
  sound_on x e f = subst (λ (r : ReadField). sound (length s) r.state ≡ true) (header_is s st ok free x e f) (field_laws.still_sound s st ok)

  at_refusal : (why : ℕ) → read_at (field st.last.0) (near s st) st.place.0 ≡ refused why → Goal
  unfolding turn
  at_refusal why f =
      turns k s st n
      ∙ ap (turn k s n) (header_not s st ok free why f)
      ∙ sym (ap found (first_step st st.last.0 (near s st) st.place.0 ∙ stop_at (sizing (field st.last.0)) on (near s st) st.place.0 why (sized_not (field st.last.0) (near s st) st.place.0 why f)))

  at_stop : (e : ℕ) → read_at (field st.last.0) (near s st) st.place.0 ≡ got stop e → Goal
  unfolding turn
  at_stop e f =
      counts_on stop e f
      ∙ ap (λ (j : ℕ). C.Done j (place e)) (omega arith)
      ∙ sym (ap found ((walk_on stop e f).1 ∙ done_at (near s st) e []))

  -- behind a value: one field more, and on from the next state
  go_on_lem : (next : State) (id : ℤ) (d : ℕ) (m size : ℕ) (v : Tree) → next ≡ moved_to (with_last st (id_of id)) (place d) → sound (length s) next ≡ true → st.place.0 < d → count_from k s next (suc n) ≡ found (read_at (and_then (fields val.truth (value_of st.limits (room_of st)) id) (λ fs. done (record { id = id; what = v; head = m; size = size } ∷ fs))) (near s st) d)
  go_on_lem next id d m size v e o h =
      ap (λ (y : State). count_from k s y (suc n)) e
      ∙ ih (moved_to (with_last st (id_of id)) (place d)) (suc n) (subst (λ (y : State). sound (length s) y ≡ true) e o) free (omega arith)
      ∙ sym (one_more n (short s st) d (near s st) (fields val.truth (value_of st.limits (room_of st)) id) (record { id = id; what = v; head = m; size = size }))

  same_free : (id : ℤ) (e : ℕ) → with_pending (moved_to (with_last st (id_of id)) (place e)) W.Nothing ≡ moved_to (with_last st (id_of id)) (place e)
  same_free id e = ap (λ (w : Awaited). with_pending (moved_to (with_last st (id_of id)) (place e)) w) (sym free)

  at_bool : (b : Bool) (id : ℤ) (e : ℕ) → read_at (field st.last.0) (near s st) st.place.0 ≡ got (bool b id) e → Goal
  unfolding turn skip_call
  at_bool b id e f =
      let after : State = moved_to (with_pending (with_last st (id_of id)) (W.Truth b)) (place e) in
      let w = walk_on (bool b id) e f in
      let q = truth_is s after b (sound_on (bool b id) e f) refl in
      let o = subst (λ (r : Outcome (Unit {0})). sound (length s) r.state ≡ true) q ((skip_laws T.Bool).still_sound s after (sound_on (bool b id) e f)) in
      counts_on (bool b id) e f
      ∙ ap (λ (r : Outcome (Unit {0})). after_skip (count_from k s r.state (suc n)) (as_done r).answer) q
      ∙ go_on_lem (with_pending after W.Nothing) id e w.0 0 (val.truth b) (same_free id e) o (later st.last.0 (near s st) st.place.0 (bool b id) e f)
      ∙ sym (ap found w.1)

  at_value : (t : TType) (id : ℤ) (e : ℕ) → read_at (field st.last.0) (near s st) st.place.0 ≡ got (value t id) e → Goal
  unfolding turn skip_call
  at_value t id e f = go (read_at (value_of st.limits (room_of st) t) (near s st) e) refl
    where
      head : (m : ℕ) × (read_at (walks st st.last.0) (near s st) st.place.0 ≡ read_at (on (value t id, m)) (near s st) e)
      head = walk_on (value t id) e f

      o : sound (length s) (moved_to (with_last st (id_of id)) (place e)) ≡ true
      o = sound_on (value t id) e f

      go : (x : Found Tree) → read_at (value_of st.limits (room_of st) t) (near s st) e ≡ x → count_from (suc k) s st n ≡ found (read_at (walks st st.last.0) (near s st) st.place.0)
      go (refused why) g =
          counts_on (value t id) e f
          ∙ ap (λ (r : Outcome (Unit {0})). after_skip (count_from k s r.state (suc n)) (as_done r).answer) (skip_is s (moved_to (with_last st (id_of id)) (place e)) t o free (refused why) g)
          ∙ sym (ap found (head.1 ∙ stop_at (sizing (value_of st.limits (room_of st) t)) (λ v. and_then (fields val.truth (value_of st.limits (room_of st)) id) (λ fs. done (record { id = id; what = v.0; head = head.0; size = v.1 } ∷ fs))) (near s st) e why (sized_not (value_of st.limits (room_of st) t) (near s st) e why g)))
      go (got v d) g =
          let z = sized_at_lem (value_of st.limits (room_of st) t) (near s st) e v d g in
          let q = skip_is s (moved_to (with_last st (id_of id)) (place e)) t o free (got v d) g in
          let p = subst (λ (r : Outcome (Unit {0})). sound (length s) r.state ≡ true) q ((skip_laws t).still_sound s (moved_to (with_last st (id_of id)) (place e)) o) in
          counts_on (value t id) e f
          ∙ ap (λ (r : Outcome (Unit {0})). after_skip (count_from k s r.state (suc n)) (as_done r).answer) q
          ∙ go_on_lem (moved_to (with_last st (id_of id)) (place d)) id d head.0 z.0 v refl p (omega (arith, later st.last.0 (near s st) st.place.0 (value t id) e f, no_earlier (value_of st.limits (room_of st) t) (near s st) e v d g))
          ∙ sym (ap found (head.1 ∙ step (sizing (value_of st.limits (room_of st) t)) (λ y. and_then (fields val.truth (value_of st.limits (room_of st)) id) (λ fs. done (record { id = id; what = y.0; head = head.0; size = y.1 } ∷ fs))) (near s st) e (v, z.0) d z.1))

  by_header : (x : Found Field) → read_at (field st.last.0) (near s st) st.place.0 ≡ x → Goal
  by_header (got stop e) f = at_stop e f
  by_header (got (bool b id) e) f = at_bool b id e f
  by_header (got (value t id) e) f = at_value t id e f
  by_header (refused why) f = at_refusal why f

counts : (k : ℕ) (s : List ℕ) → Counts k s
counts zero s st n ok free l = absurd (omega (arith, (is_sound (length s) st ok).here))
counts (suc k) s st n ok free l = by_header k s (counts k s) st n ok free l (read_at (field st.last.0) (near s st) st.place.0) refl

-- a message that was read takes a byte
some_message : (p : Reader Message) → Takes p → (s : List ℕ) (cut at : ℕ) (m : Message) (e : ℕ) → read_to p s cut at ≡ got m e → 0 < e
unfolding read_to read_at
some_message p t s cut at m e f = go (p (drop at (take cut s))) refl f
  where
    go : (x : Found Message) → p (drop at (take cut s)) ≡ x → missed (ltb cut (length s)) (placed at x) ≡ got m e → 0 < e
    go (got y n) q g = let z : at + n ≡ e = cc in omega (arith, t (drop at (take cut s)) y n q)
    go (refused why) q g = not_both g

pub counts_fields : (s : List ℕ) (st : State) → number_message (read_message s st).answer ≡ 0 → count_fields s st ≡ counted 0 (read_to (fields val.truth (value_of st.limits (room_of st)) (pos 0)) s (cut_of (read_message s st).state) (read_message s st).state.place.0)
unfolding read_message count_fields read_to
counts_fields s st z =
    let o : Outcome Message = calls_to cut_here (λ y. message y.limits) anew s st in
    let w = landed cut_here (λ y. message y.limits) anew s st (message_told_lem st.limits) (sym (num_message o.state.place.0 o.said) ∙ z) in
    let next : State = moved_to (anew st w.value) (place w.end) in
    let ok : sound (length s) next ≡ true = subst (λ (r : Outcome Message). sound (length s) r.state ≡ true) w.is (message_laws.still_sound s st w.is_sound) in
    let some = some_message (message st.limits) (message_takes st.limits) s (cut_here st) st.place.0 w.value w.end w.stood in
    ap (λ (r : Outcome Message). after_message (count_from (length s) s r.state 0) (as_message r).answer) w.is
    ∙ counts (length s) s next 0 ok (nothing_waits st.pending.0 w.free) (omega arith)
    ∙ sym (ap (λ (r : Outcome Message). counted 0 (missed (ltb (cut_of r.state) (length s)) (read_at (fields val.truth (value_of st.limits (room_of st)) (pos 0)) (take (cut_of r.state) s) r.state.place.0))) w.is)
