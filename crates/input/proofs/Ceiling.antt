-- "a byte missed there, with input behind it, gives 19, MESSAGE SIZE, and a byte missed at the true end gives END": 19 is given only where the message's
-- ceiling cuts the input off, and END only where it does not. Assumes nothing.
use mathlib.Core.Path.{◌≡◌, refl, sym, ap, ◌∙◌}
use mathlib.Core.Bool.{Bool, true, false}
use mathlib.Core.List.{List}
use Prim.Native.Nat.{ℕ, ◌≤◌, ◌<◌}
use native.Mathlib.Omega.{arith}
use borrow.Author.Tests.{eq-eqb, ltb-true, ltb-false}
use lib.Dec.{eqb, ltb}
use lib.ListN.{length, take, drop}
use Rattle.types.specs.Refusals.{END, OUT_OF_TURN, BAD_STATE, MESSAGE_SIZE}
use Rattle.numbers.specs.Varint.{Found, got, refused}
use Rattle.heads.specs.Reader.{Reader, read_at, read_to, missing}
use Rattle.heads.specs.Heads.{int8, int16, int32, int64, double, uuid, truth, binary, text, items_head, pairs_head, field, message}
use Rattle.heads.proofs.Cut.{missed_no}
use Rattle.heads.proofs.Steps.{lost_at}
use Rattle.input.specs.State.{State, cut_of, sound}
use Rattle.input.specs.Outcome.{Outcome, from, calls_to, cut_here, stays, element, taken, bools, anew, on_field}
use Rattle.input.specs.Answers.{as_i8, as_i16, as_i32, as_i64, as_double, as_part, as_list, as_map, as_field, as_message, number_bool, number_i8, number_i16, number_i32, number_i64, number_double, number_part, number_list, number_map, number_field, number_message}
use Rattle.input.specs.Calls.{read_bool, read_i8, read_i16, read_i32, read_i64, read_double, read_uuid, read_bytes, read_string, read_list, read_set, read_map, read_field, read_message}
use Rattle.input.specs.declared.Awaited.{Awaited}
use Rattle.input.specs.declared.Awaited.TheVariants as W
use Rattle.input.proofs.Gate.{Gated, bad, turn, through, gated}
use Rattle.input.proofs.Refusals.{Told, int8_told, int16_told, int32_told, int64_told, double_told, uuid_told, truth_told, binary_told, text_told, items_head_told, pairs_head_told, field_told, message_told_lem}
use Rattle.input.proofs.Laws.{number_of}
use Rattle.input.proofs.Each.{num_bool, num_i8, num_i16, num_i32, num_i64, num_double, num_part, num_list, num_map, num_field, num_message}

-- what the number that is given says of the cut; `cut` is the one that the call reads up to
pub record Ceiling (cut : State → ℕ) {R : Type 0} (call : List ℕ → State → R) (number : R → ℕ) : Type 0 where
  pub at_end : (s : List ℕ) (st : State) → number (call s st) ≡ END → length s ≤ cut st
  pub at_cut : (s : List ℕ) (st : State) → number (call s st) ≡ MESSAGE_SIZE → cut st < length s

-- a number that was turned, or not
no_end : (why : ℕ) → missing true why ≡ END → ⊥
no_end why e = go (eqb why END) refl
  where
    go : (b : Bool) → eqb why END ≡ b → ⊥
    go true f = let z : MESSAGE_SIZE ≡ END = rw f at e in omega arith
    go false f = let z : why ≡ END = rw f at e in let o : ◌≡◌ {A = Bool} true false = sym (eq-eqb why END z) ∙ f in let q : ◌≡◌ {A = ℕ} 0 1 = cc in omega arith

module _ {A : Type 0} (p : Reader A) (told : Told p) (s : List ℕ) (c at why : ℕ) (e : read_to p s c at ≡ refused why) where
  pub missed_end : why ≡ END → length s ≤ c
  unfolding read_to
  missed_end z = go (ltb c (length s)) refl (missed_no (ltb c (length s)) (read_at p (take c s) at) why e)
    where
      go : (b : Bool) → ltb c (length s) ≡ b → (u : ℕ) × (read_at p (take c s) at ≡ refused u) × (missing b u ≡ why) → length s ≤ c
      go true f m = absurd (no_end m.0 (m.2 ∙ z))
      go false f m = ltb-false _ _ f

  pub missed_cut : why ≡ MESSAGE_SIZE → c < length s
  unfolding read_to read_at
  missed_cut z = go (ltb c (length s)) refl (missed_no (ltb c (length s)) (read_at p (take c s) at) why e)
    where
      go : (b : Bool) → ltb c (length s) ≡ b → (u : ℕ) × (read_at p (take c s) at ≡ refused u) × (missing b u ≡ why) → c < length s
      go true f m = ltb-true _ _ f
      go false f m = absurd ((told (drop at (take c s)) m.0 (lost_at at _ m.0 m.1)).sizeless (m.2 ∙ z))

-- what was found, as an outcome
module _ {A : Type 0} (p : Reader A) (told : Told p) (move : State → A → State) (s : List ℕ) (c : ℕ) (st : State) where
  from_end : number_of (from move st (read_to p s c st.place.0)).said ≡ END → length s ≤ c
  from_end z = go (read_to p s c st.place.0) refl
    where
      go : (x : Found A) → read_to p s c st.place.0 ≡ x → length s ≤ c
      go (got a e) f = let n : 0 ≡ END = rw f at z in absurd (omega arith)
      go (refused why) f = missed_end p told s c st.place.0 why f (rw f at z)

  from_cut : number_of (from move st (read_to p s c st.place.0)).said ≡ MESSAGE_SIZE → c < length s
  from_cut z = go (read_to p s c st.place.0) refl
    where
      go : (x : Found A) → read_to p s c st.place.0 ≡ x → c < length s
      go (got a e) f = let n : 0 ≡ MESSAGE_SIZE = rw f at z in absurd (omega arith)
      go (refused why) f = missed_cut p told s c st.place.0 why f (rw f at z)

-- a call that reads, in the words `out` of its declared answer
module _ (cut : State → ℕ) {A R : Type 0} (p : State → Reader A) (told : (st : State) → Told (p st)) (move : State → A → State) (out : Outcome A → R) (number : R → ℕ) (fit : (o : Outcome A) → number (out o) ≡ number_of o.said) where
  by_gate : (s : List ℕ) (st : State) (n : ℕ) → number (out (calls_to cut p move s st)) ≡ n → (n ≡ BAD_STATE → ⊥) → (n ≡ OUT_OF_TURN → ⊥) → number_of (from move st (read_to (p st) s (cut st) st.place.0)).said ≡ n
  unfolding calls_to
  by_gate s st n z nb nt = go (gated (length s) st)
    where
      said : number_of (calls_to cut p move s st).said ≡ n
      said = sym (fit (calls_to cut p move s st)) ∙ z

      go : Gated (length s) st → number_of (from move st (read_to (p st) s (cut st) st.place.0)).said ≡ n
      go (bad f g) = absurd (nb (sym (rw g at said)))
      go (turn f w g) = absurd (nt (sym (rw g at said)))
      go (through f w g) = rw g at said

  pub reads_ceiling : Ceiling cut (λ s st. out (calls_to cut p move s st)) number
  reads_ceiling =
      record {
        at_end = λ s st z. from_end (p st) (told st) move s (cut st) st (by_gate s st END z (λ e. omega arith) (λ e. omega arith));
        at_cut = λ s st z. from_cut (p st) (told st) move s (cut st) st (by_gate s st MESSAGE_SIZE z (λ e. omega arith) (λ e. omega arith));
      }

-- the bool call, which may find one that waits
bool_number : (s : List ℕ) (st : State) (n : ℕ) → number_of (bools s st).said ≡ n → (n ≡ BAD_STATE → ⊥) → 0 < n → number_of (from stays st (read_to truth s (cut_of st) st.place.0)).said ≡ n
unfolding bools element
bool_number s st n z nb h = go (sound (length s) st) refl st.pending.0 refl
  where
    go : (b : Bool) → sound (length s) st ≡ b → (a : Awaited) → st.pending.0 ≡ a → number_of (from stays st (read_to truth s (cut_of st) st.place.0)).said ≡ n
    go false f a g = absurd (nb (sym (rw f at z)))
    go true f W.Nothing g = sym (ap (λ (a : Awaited). number_of (taken s st a).said) g) ∙ (rw f at z)
    go true f (W.Truth x) g = let q : 0 ≡ n = sym (ap (λ (a : Awaited). number_of (taken s st a).said) g) ∙ (rw f at z) in absurd (omega arith)

pub bool_ceiling : Ceiling cut_of read_bool (λ r. number_bool r.answer)
unfolding read_bool
bool_ceiling =
    record {
      at_end = λ s st z. from_end truth truth_told stays s (cut_of st) st (bool_number s st END (sym (num_bool (bools s st).said) ∙ z) (λ e. omega arith) (omega arith));
      at_cut = λ s st z. from_cut truth truth_told stays s (cut_of st) st (bool_number s st MESSAGE_SIZE (sym (num_bool (bools s st).said) ∙ z) (λ e. omega arith) (omega arith));
    }

pub i8_ceiling : Ceiling cut_of read_i8 (λ r. number_i8 r.answer)
unfolding read_i8
i8_ceiling = reads_ceiling cut_of (λ st. int8) (λ st. int8_told) stays as_i8 _ (λ o. num_i8 o.said)

pub i16_ceiling : Ceiling cut_of read_i16 (λ r. number_i16 r.answer)
unfolding read_i16
i16_ceiling = reads_ceiling cut_of (λ st. int16) (λ st. int16_told) stays as_i16 _ (λ o. num_i16 o.said)

pub i32_ceiling : Ceiling cut_of read_i32 (λ r. number_i32 r.answer)
unfolding read_i32
i32_ceiling = reads_ceiling cut_of (λ st. int32) (λ st. int32_told) stays as_i32 _ (λ o. num_i32 o.said)

pub i64_ceiling : Ceiling cut_of read_i64 (λ r. number_i64 r.answer)
unfolding read_i64
i64_ceiling = reads_ceiling cut_of (λ st. int64) (λ st. int64_told) stays as_i64 _ (λ o. num_i64 o.said)

pub double_ceiling : Ceiling cut_of read_double (λ r. number_double r.answer)
unfolding read_double
double_ceiling = reads_ceiling cut_of (λ st. double) (λ st. double_told) stays as_double _ (λ o. num_double o.said)

pub uuid_ceiling : Ceiling cut_of read_uuid (λ r. number_part r.answer)
unfolding read_uuid
uuid_ceiling = reads_ceiling cut_of (λ st. uuid) (λ st. uuid_told) stays as_part _ (λ o. num_part o.state.place.0 o.said)

pub bytes_ceiling : Ceiling cut_of read_bytes (λ r. number_part r.answer)
unfolding read_bytes
bytes_ceiling = reads_ceiling cut_of (λ st. binary st.limits) (λ st. binary_told st.limits) stays as_part _ (λ o. num_part o.state.place.0 o.said)

pub string_ceiling : Ceiling cut_of read_string (λ r. number_part r.answer)
unfolding read_string
string_ceiling = reads_ceiling cut_of (λ st. text st.limits) (λ st. text_told st.limits) stays as_part _ (λ o. num_part o.state.place.0 o.said)

-- W5 "counts to the same cut and answers by the same rule"
pub list_ceiling : Ceiling cut_of read_list (λ r. number_list r.answer)
unfolding read_list
list_ceiling = reads_ceiling cut_of (λ st. items_head st.limits) (λ st. items_head_told st.limits) stays as_list _ (λ o. num_list o.said)

pub set_ceiling : Ceiling cut_of read_set (λ r. number_list r.answer)
unfolding read_set
set_ceiling = reads_ceiling cut_of (λ st. items_head st.limits) (λ st. items_head_told st.limits) stays as_list _ (λ o. num_list o.said)

pub map_ceiling : Ceiling cut_of read_map (λ r. number_map r.answer)
unfolding read_map
map_ceiling = reads_ceiling cut_of (λ st. pairs_head st.limits) (λ st. pairs_head_told st.limits) stays as_map _ (λ o. num_map o.said)

pub field_ceiling : Ceiling cut_of read_field (λ r. number_field r.answer)
unfolding read_field
field_ceiling = reads_ceiling cut_of (λ st. field st.last.0) (λ st. field_told st.last.0) on_field as_field _ (λ o. num_field o.said)

-- "Beginning a message starts the count at its first byte"
pub message_ceiling : Ceiling cut_here read_message (λ r. number_message r.answer)
unfolding read_message
message_ceiling = reads_ceiling cut_here (λ st. message st.limits) (λ st. message_told_lem st.limits) anew as_message _ (λ o. num_message o.state.place.0 o.said)
