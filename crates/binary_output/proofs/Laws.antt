-- What holds of every call, from the one definition: it goes through or it is refused, and what each leaves of state and buffer. Assumes nothing.
use mathlib.Core.Path.{◌≡◌, refl, sym, ap, subst, ◌∙◌}
use mathlib.Core.Bool.{true}
use mathlib.Core.List.{List, ◌++◌}
use mathlib.Core.Logic.{◌⊎◌, inl, inr, ⊎_elim}
use Prim.Native.Nat.{ℕ, ◌+◌, ◌-◌, ◌≤◌, ◌<◌}
use native.Mathlib.Omega.{arith}
use native.Mathlib.Decide.{ℕ_discrete}
use borrow.Author.Tests.{eq-eqb, ne_eqb, lt-leb}
use lib.ListN.{length, take, drop}
use lib.Seq.{drop_at, drop-drop}
use Rattle.types.specs.Refusals.{NO_ROOM, MESSAGE_SIZE}
use Rattle.types.specs.declared.Place.{Place}
use Rattle.numbers.specs.Varint.{got, placed}
use Rattle.numbers.specs.Answers.{put_at}
use Rattle.numbers.proofs.Found.{by_lt}
use Rattle.numbers.proofs.Put.{wrote_to, wrote_not, put_not, put_drop, put_take, length_put}
use Rattle.heads.specs.Reader.{Reader, read_at}
use Rattle.types.specs.Limits.{in_range}
use Rattle.types.specs.declared.TConfiguration.{TConfiguration}
use Rattle.types.proofs.Limits.{Ranged, ranged}
use Rattle.puts.specs.Wrong.{or_else}
use Rattle.binary_output.specs.State.{State, place_of, unsound, cut_of, left_of, moved_to, begun, begun_at, entered, ended}
use Rattle.binary_output.specs.Calls.{call, refused_by, written, settled, size_wrong, writes, leaves}
use Rattle.binary_output.specs.declared.BinaryWritten.{BinaryWritten}
use Rattle.output.specs.declared.WriteAnswer.TheVariants as WA
use Rattle.puts.proofs.Checks.{both_none}
use Rattle.binary_output.proofs.Checks.{Sound, sound, sound_is, within_cut}
use Rattle.binary_output.proofs.Cases.{refusing, keeping, writing, putting}

-- a call that goes through: nothing stops it, its bytes have room and are put, and the next state stands behind them
pub record Went (buf : List ℕ) (st : State) (wrong : ℕ) (bs : List ℕ) (next : State) : Type 0 where
  pub sound : Sound (length buf) st
  pub right : wrong ≡ 0
  pub small : size_wrong next (length bs) ≡ 0
  pub room : st.place.0 + length bs ≤ length buf
  pub answers : writes buf st (call wrong bs next) ≡ written (moved_to next (st.place.0 + length bs))
  pub puts : leaves buf st (call wrong bs next) ≡ put_at buf st.place.0 bs

-- a call that is refused: the number is the first of the order, the state is handed back and the buffer is as it was
pub record Stopped (buf : List ℕ) (st : State) (wrong : ℕ) (bs : List ℕ) (next : State) : Type 0 where
  pub why : ℕ
  pub first : why ≡ or_else (or_else (unsound (length buf) st) (or_else wrong (size_wrong next (length bs)))) NO_ROOM
  pub answers : writes buf st (call wrong bs next) ≡ refused_by st why
  pub keeps : leaves buf st (call wrong bs next) ≡ buf

module _ (buf : List ℕ) (st : State) (wrong : ℕ) (bs : List ℕ) (next : State) where
  stop : ℕ
  stop = or_else (unsound (length buf) st) (or_else wrong (size_wrong next (length bs)))

  -- each call does one of the two
  pub either : Went buf st wrong bs next ⊎ Stopped buf st wrong bs next
  unfolding stop or_else settled
  either = go (ℕ_discrete stop 0)
    where
      at : ℕ
      at = st.place.0

      go : Dec (stop ≡ 0) → Went buf st wrong bs next ⊎ Stopped buf st wrong bs next
      go (no h) =
          inr
          (record {
            why = stop;
            first = rw (ne_eqb stop 0 h);
            answers = sym (refusing buf st wrong stop bs next refl h);
            keeps = sym (keeping buf st wrong stop bs next refl h);
          })
      go (yes h) =
          let b = both_none (unsound (length buf) st) (or_else wrong (size_wrong next (length bs))) h in
          let c = both_none wrong (size_wrong next (length bs)) b.1 in
          by_lt (length buf) (at + length bs)
          (λ l.
          inr
          (record {
            why = NO_ROOM;
            first = rw (eq-eqb stop 0 h);
            answers = sym (writing buf st wrong stop bs next refl h) ∙ ap (settled st next) (sym (wrote_not buf at bs l));
            keeps = sym (putting buf st wrong stop bs next refl h) ∙ sym (put_not buf at bs l);
          }))
          (λ l.
          inl
          (record {
            sound = sound (length buf) st b.0;
            right = c.0;
            small = c.1;
            room = l;
            answers = sym (writing buf st wrong stop bs next refl h) ∙ ap (settled st next) (sym (wrote_to buf at bs l));
            puts = sym (putting buf st wrong stop bs next refl h);
          }))

  -- nothing but what the order names stops a call
  pub goes : Sound (length buf) st → wrong ≡ 0 → size_wrong next (length bs) ≡ 0 → st.place.0 + length bs ≤ length buf → Went buf st wrong bs next
  unfolding stop or_else settled
  goes s e z l =
      let h : stop ≡ 0 = rw (sound_is (length buf) st s, e, z) in
      record {
        sound = s;
        right = e;
        small = z;
        room = l;
        answers = sym (writing buf st wrong stop bs next refl h) ∙ ap (settled st next) (sym (wrote_to buf st.place.0 bs l));
        puts = sym (putting buf st wrong stop bs next refl h);
      }

  not_refused : {X : Type 0} (n : ℕ) → WA.Written ≡ WA.Refused n → X
  not_refused n e = let z : ◌≡◌ {A = ℕ} 0 1 = cc in absurd (omega arith)

  -- which of the two is told by the answer
  pub went : (writes buf st (call wrong bs next)).answer ≡ WA.Written → Went buf st wrong bs next
  went e =
      ⊎_elim (λ w. w)
      (λ s. not_refused s.why (sym e ∙ ap (λ (r : BinaryWritten). r.answer) s.answers))
      either

  -- "A refusal returns its number and the state as given; lent buffers keep their bytes", and the number is the first in the order
  pub refused : (n : ℕ) → (writes buf st (call wrong bs next)).answer ≡ WA.Refused n → (n ≡ or_else (or_else (unsound (length buf) st) (or_else wrong (size_wrong next (length bs)))) NO_ROOM) × ((writes buf st (call wrong bs next)).state ≡ st) × (leaves buf st (call wrong bs next) ≡ buf)
  refused n e =
      ⊎_elim (λ w. not_refused n (sym (ap (λ (r : BinaryWritten). r.answer) w.answers) ∙ e))
      (λ s.
      let q : WA.Refused n ≡ WA.Refused s.why = sym e ∙ ap (λ (r : BinaryWritten). r.answer) s.answers in
      let z : n ≡ s.why = cc in
      (z ∙ s.first, ap (λ (r : BinaryWritten). r.state) s.answers, s.keeps))
      either

  -- the buffer keeps its length
  pub same_length : length (leaves buf st (call wrong bs next)) ≡ length buf
  same_length = ⊎_elim (λ w. ap length w.puts ∙ length_put buf st.place.0 bs) (λ s. ap length s.keeps) either

  -- what stands before the place stays
  pub before : take st.place.0 (leaves buf st (call wrong bs next)) ≡ take st.place.0 buf
  before =
      ⊎_elim (λ w. ap (take st.place.0) w.puts ∙ put_take buf st.place.0 bs w.room)
      (λ s. ap (take st.place.0) s.keeps) either

  module _ (w : Went buf st wrong bs next) where
    -- the bytes stand at the place
    pub its_bytes : drop st.place.0 (leaves buf st (call wrong bs next)) ≡ bs ++ drop (st.place.0 + length bs) buf
    its_bytes = ap (drop st.place.0) w.puts ∙ put_drop buf st.place.0 bs w.room

    -- and what is read of them whatever follows is read there, up to the next state's place
    pub reads_back : {A : Type 0} (p : Reader A) (a : A) → ((rest : List ℕ) → p (bs ++ rest) ≡ got a (length bs)) → read_at p (leaves buf st (call wrong bs next)) st.place.0 ≡ got a (st.place.0 + length bs)
    unfolding read_at
    reads_back p a f =
        ap (λ (l : List ℕ). placed st.place.0 (p l)) its_bytes ∙ ap (placed st.place.0) (f (drop (st.place.0 + length bs) buf))

  -- what stands behind the next state's place stays
  pub behind : drop (writes buf st (call wrong bs next)).state.place.0 (leaves buf st (call wrong bs next)) ≡ drop (writes buf st (call wrong bs next)).state.place.0 buf
  behind =
      ⊎_elim
      (λ w.
      let p : (writes buf st (call wrong bs next)).state.place.0 ≡ st.place.0 + length bs = ap (λ (r : BinaryWritten). r.state.place.0) w.answers in
      rw p
      (sym (drop-drop (length bs) st.place.0 (leaves buf st (call wrong bs next)))
      ∙ ap (drop (length bs)) (its_bytes w)
      ∙ drop_at bs (drop (st.place.0 + length bs) buf) (length bs) refl))
      (λ s. ap (drop (writes buf st (call wrong bs next)).state.place.0) s.keeps)
      either

-- the state behind a call, its place apart: under the same limits, no deeper than they allow, and of a message that began no later
pub record Follows (wrong : ℕ) (st next : State) : Type 0 where
  pub limits : next.limits ≡ st.limits
  pub place : next.place.0 ≡ st.place.0
  pub deep : wrong ≡ 0 → st.depth ≤ st.limits.depth → next.depth ≤ st.limits.depth
  pub begins : st.begin.0 ≤ st.place.0 → next.begin.0 ≤ st.place.0
  pub cuts : st.place.0 ≤ cut_of st → st.place.0 ≤ cut_of next

-- a sound state stays sound over the buffer that is left, whatever the call answers
module _ (buf : List ℕ) (st : State) (wrong : ℕ) (bs : List ℕ) (next : State) where
  pub still_sound : Follows wrong st next → Sound (length buf) st → Sound (length (leaves buf st (call wrong bs next))) (writes buf st (call wrong bs next)).state
  still_sound f s = rw (same_length buf st wrong bs next) (⊎_elim on_well (λ x. rw x.answers s) (either buf st wrong bs next))
    where
      on_well : Went buf st wrong bs next → Sound (length buf) (writes buf st (call wrong bs next)).state
      on_well w =
          let a = f.begins s.after in
          let e = f.limits in
          let d : next.limits.depth ≡ st.limits.depth = ap (λ (x : TConfiguration). x.depth) e in
          let c = within_cut next (omega (arith, f.place)) (omega (arith, f.place, f.cuts s.before)) (length bs) w.small in
          rw w.answers
          (record { limits = subst Ranged (sym e) s.limits; here = w.room; deep = omega (arith, f.deep w.right s.deep); after = omega arith; before = omega (arith, f.place) })

-- "The writer refuses 19, before NO ROOM, when its call would pass the ceiling": whatever room there is
module _ (buf : List ℕ) (st : State) (wrong : ℕ) (bs : List ℕ) (next : State) where
  pub over_ceiling : Follows wrong st next → Sound (length buf) st → wrong ≡ 0 → cut_of next < st.place.0 + length bs → writes buf st (call wrong bs next) ≡ refused_by st MESSAGE_SIZE
  unfolding or_else size_wrong
  over_ceiling f s e h =
      let a = f.begins s.after in
      let c = f.cuts s.before in
      let over : or_else (unsound (length buf) st) (or_else wrong (size_wrong next (length bs))) ≡ MESSAGE_SIZE = rw (sound_is (length buf) st s, e, lt-leb (length bs) (left_of next) (omega (arith, f.place))) in
      sym (refusing buf st wrong MESSAGE_SIZE bs next (sym over) (λ z. omega arith))

-- a new writer is sound over any buffer that has its place, where its limits are in range
pub made_sound : (at : Place) (lim : TConfiguration) (len : ℕ) → in_range lim ≡ true → at.0 ≤ len → Sound len (begun_at at lim)
made_sound at lim len e h = record { limits = ranged lim e; here = h; deep = omega arith; after = omega arith; before = omega arith }

pub new_sound : (lim : TConfiguration) (len : ℕ) → in_range lim ≡ true → Sound len (begun lim)
unfolding begun
new_sound lim len e = made_sound (place_of 0) lim len e (omega arith)

-- the end of a struct gives back the state that its begin found
pub end_begin : (st : State) → ended (entered st) ≡ st
end_begin st =
    let e : st.depth + 1 - 1 ≡ st.depth = omega arith in
    ap (λ (d : ℕ). record { place = st.place; depth = d; limits = st.limits; begin = st.begin }) e
