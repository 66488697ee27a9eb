-- What every call of the binary reader keeps to: a refusal hands back the state as given, and a sound state stays sound. Assumes nothing.
use mathlib.Core.Path.{◌≡◌, refl}
use mathlib.Core.Bool.{Bool, true, false, cond}
use mathlib.Core.List.{List}
use Prim.Native.Nat.{ℕ, ◌≤◌}
use native.Mathlib.Omega.{arith}
use borrow.Author.Tests.{leb-false}
use lib.Dec.{eqb, leb}
use lib.ListN.{length}
use lib.IntN.{pos}
use Rattle.types.specs.Refusals.{DEPTH, OUT_OF_TURN}
use Rattle.types.specs.declared.TType.{TType}
use Rattle.numbers.specs.Varint.{Found, got, refused}
use Rattle.heads.specs.Reader.{Reader, read_to}
use Rattle.heads.specs.Heads.{Field, stop, bool, value}
use Rattle.heads.specs.Answers.{place}
use Rattle.heads.proofs.Ahead.{Fair, lawful_fair, backed_fair}
use Rattle.heads.proofs.Cut.{was_cut}
use Rattle.input.specs.Outcome.{Said, says}
use Rattle.input.specs.Answers.{to_bool, to_i8, to_i16, to_i32, to_i64, to_double, to_part, to_list, to_map, to_field, to_done, number_bool, number_i8, number_i16, number_i32, number_i64, number_double, number_part, number_list, number_map, number_field, number_message, number_done}
use Rattle.skip.specs.declared.Skipped.{Skipped}
use Rattle.skip.specs.declared.Skipped.TheVariants.{Done, Refused}
use Rattle.protocols.specs.Words.{items_head, pairs_head}
use Rattle.protocols.specs.Value.{value_by}
use Rattle.protocols.specs.Answers.{skip_to_by}
use Rattle.protocols.proofs.Lawfuls.{value_lawful}
use Rattle.skip.proofs.Past.{was_read}
use Rattle.binary_heads.specs.Heads.{text}
use Rattle.binary_heads.specs.Words.{binary}
use Rattle.binary_heads.proofs.Owes.{binary_owes, text_lawful, message_lawful}
use Rattle.binary_input.specs.State.{State, sound, cut_of, begun_here, moved_to, entered, left, room_of}
use Rattle.binary_input.specs.Outcome.{Outcome, answers, declines, guarded, from, stays, calls_to, cut_here, begins, ends}
use Rattle.binary_input.specs.Answers.{to_message}
use Rattle.binary_input.specs.Calls.{read_bool, read_i8, read_i16, read_i32, read_i64, read_double, read_uuid, read_bytes, read_string, read_list, read_set, read_map, read_field, read_message, struct_begin, struct_end, over, skip_call}
use Rattle.binary_input.proofs.Gate.{Sound, is_sound, sound_is, Gated, bad, through, gated, gate_free}

-- a call whose outcome is this, behind the gate
module _ {A : Type 0} (s : List ℕ) (st : State) (o : Outcome A) (num : Said A → ℕ) (zero-said : (a : A) → num (says a) ≡ 0) where
  behind_gate : (((num o.said ≡ 0) → ⊥) → o.state ≡ st) → ((num (guarded s st o).said ≡ 0) → ⊥) → (guarded s st o).state ≡ st
  behind_gate h f = go (gated (length s) st)
    where
      go : Gated (length s) st → (guarded s st o).state ≡ st
      go (bad x g) = rw g
      go (through x g) = rw g (h (λ z. f (rw g z)))

-- what is found moves the state, and what is refused does not
module _ {A : Type 0} (cut : State → ℕ) (p : State → Reader A) (move : State → State) (s : List ℕ) (st : State) where
  pub kept : (num : Said A → ℕ) → ((a : A) → num (says a) ≡ 0) → ((num (calls_to cut p move s st).said ≡ 0) → ⊥) → (calls_to cut p move s st).state ≡ st
  unfolding calls_to
  kept num z f = behind_gate s st (from move st (read_to (p st) s (cut st) st.place.0)) num z (found (read_to (p st) s (cut st) st.place.0)) f
    where
      found : (x : Found A) → ((num (from move st x).said ≡ 0) → ⊥) → (from move st x).state ≡ st
      found (got a e) h = absurd (h (z a))
      found (refused why) h = refl

  -- a sound state stays sound, whatever is found
  module _ (l : Fair (p st)) (late : Sound (length s) st → st.place.0 ≤ cut st) (next : (e : ℕ) → Sound (length s) st → st.place.0 ≤ e → e ≤ cut st → e ≤ length s → Sound (length s) (moved_to (move st) (place e))) where
    pub still : sound (length s) st ≡ true → sound (length s) (calls_to cut p move s st).state ≡ true
    unfolding calls_to
    still f = go (gated (length s) st)
      where
        b : Sound (length s) st
        b = is_sound (length s) st f

        found : (x : Found A) → read_to (p st) s (cut st) st.place.0 ≡ x → sound (length s) (from move st x).state ≡ true
        found (got a e) r =
            let c = was_cut (p st) s (cut st) st.place.0 a e l (late b) b.here r in
            sound_is (length s) _ (next e b (omega (arith, c.all)) c.before c.inside)
        found (refused why) r = f

        go : Gated (length s) st → sound (length s) (guarded s st (from move st (read_to (p st) s (cut st) st.place.0))).state ≡ true
        go (bad x g) = rw g f
        go (through x g) = rw g (found (read_to (p st) s (cut st) st.place.0) refl)

-- the two moves of reading calls
moved_on : (len : ℕ) (st : State) (e : ℕ) → Sound len st → st.place.0 ≤ e → e ≤ cut_of st → e ≤ len → Sound len (moved_to st (place e))
moved_on len st e b h k i = record { limits = b.limits; here = i; deep = b.deep; after = omega (arith, b.after); before = k }

begun_on : (len : ℕ) (st : State) (e : ℕ) → Sound len st → st.place.0 ≤ e → e ≤ cut_here st → e ≤ len → Sound len (moved_to (begun_here st) (place e))
begun_on len st e b h k i = record { limits = b.limits; here = i; deep = b.deep; after = h; before = k }

-- each call, refused: its state is the one given
module _ (s : List ℕ) (st : State) where
  pub bool_kept : (number_bool (read_bool s st).answer ≡ 0 → ⊥) → (read_bool s st).state ≡ st
  unfolding read_bool
  bool_kept = kept cut_of (λ st. binary.truth) stays s st (λ x. number_bool (to_bool x)) (λ a. refl)

  pub i8_kept : (number_i8 (read_i8 s st).answer ≡ 0 → ⊥) → (read_i8 s st).state ≡ st
  unfolding read_i8
  i8_kept = kept cut_of (λ st. binary.int8) stays s st (λ x. number_i8 (to_i8 x)) (λ a. refl)

  pub i16_kept : (number_i16 (read_i16 s st).answer ≡ 0 → ⊥) → (read_i16 s st).state ≡ st
  unfolding read_i16
  i16_kept = kept cut_of (λ st. binary.int16) stays s st (λ x. number_i16 (to_i16 x)) (λ a. refl)

  pub i32_kept : (number_i32 (read_i32 s st).answer ≡ 0 → ⊥) → (read_i32 s st).state ≡ st
  unfolding read_i32
  i32_kept = kept cut_of (λ st. binary.int32) stays s st (λ x. number_i32 (to_i32 x)) (λ a. refl)

  pub i64_kept : (number_i64 (read_i64 s st).answer ≡ 0 → ⊥) → (read_i64 s st).state ≡ st
  unfolding read_i64
  i64_kept = kept cut_of (λ st. binary.int64) stays s st (λ x. number_i64 (to_i64 x)) (λ a. refl)

  pub double_kept : (number_double (read_double s st).answer ≡ 0 → ⊥) → (read_double s st).state ≡ st
  unfolding read_double
  double_kept = kept cut_of (λ st. binary.double) stays s st (λ x. number_double (to_double x)) (λ a. refl)

  pub uuid_kept : (number_part (read_uuid s st).answer ≡ 0 → ⊥) → (read_uuid s st).state ≡ st
  unfolding read_uuid
  uuid_kept = kept cut_of (λ st. binary.uuid) stays s st (λ x. number_part (to_part (calls_to cut_of (λ st. binary.uuid) stays s st).state.place.0 x)) (λ a. refl)

  pub bytes_kept : (number_part (read_bytes s st).answer ≡ 0 → ⊥) → (read_bytes s st).state ≡ st
  unfolding read_bytes
  bytes_kept = kept cut_of (λ st. binary.binary st.limits) stays s st (λ x. number_part (to_part (calls_to cut_of (λ st. binary.binary st.limits) stays s st).state.place.0 x)) (λ a. refl)

  pub string_kept : (number_part (read_string s st).answer ≡ 0 → ⊥) → (read_string s st).state ≡ st
  unfolding read_string
  string_kept = kept cut_of (λ st. text st.limits) stays s st (λ x. number_part (to_part (calls_to cut_of (λ st. text st.limits) stays s st).state.place.0 x)) (λ a. refl)

  pub list_kept : (number_list (read_list s st).answer ≡ 0 → ⊥) → (read_list s st).state ≡ st
  unfolding read_list
  list_kept = kept cut_of (λ st. items_head binary st.limits) stays s st (λ x. number_list (to_list x)) (λ a. refl)

  pub set_kept : (number_list (read_set s st).answer ≡ 0 → ⊥) → (read_set s st).state ≡ st
  unfolding read_set
  set_kept = kept cut_of (λ st. items_head binary st.limits) stays s st (λ x. number_list (to_list x)) (λ a. refl)

  pub map_kept : (number_map (read_map s st).answer ≡ 0 → ⊥) → (read_map s st).state ≡ st
  unfolding read_map
  map_kept = kept cut_of (λ st. pairs_head binary st.limits) stays s st (λ x. number_map (to_map x)) (λ a. refl)

  field_zero : (a : Field) → number_field (to_field (says a)) ≡ 0
  field_zero stop = refl
  field_zero (bool b id) = refl
  field_zero (value t id) = refl

  pub field_kept : (number_field (read_field s st).answer ≡ 0 → ⊥) → (read_field s st).state ≡ st
  unfolding read_field
  field_kept = kept cut_of (λ st. binary.field (pos 0)) stays s st (λ x. number_field (to_field x)) field_zero

  pub message_kept : (number_message (read_message s st).answer ≡ 0 → ⊥) → (read_message s st).state ≡ st
  unfolding read_message
  message_kept = kept cut_here (λ st. binary.message st.limits) begun_here s st (λ x. number_message (to_message (calls_to cut_here (λ st. binary.message st.limits) begun_here s st).state.place.0 x)) (λ a. refl)

  pub begin_kept : (number_done (struct_begin s st).answer ≡ 0 → ⊥) → (struct_begin s st).state ≡ st
  unfolding struct_begin begins
  begin_kept = behind_gate s st _ (λ x. number_done (to_done x)) (λ a. refl) (go (leb st.limits.depth st.depth))
    where
      go : (b : Bool) → ((number_done (to_done (cond b (declines DEPTH st) (answers (tt {0}) (entered st))).said) ≡ 0) → ⊥) → (cond b (declines DEPTH st) (answers (tt {0}) (entered st))).state ≡ st
      go true h = refl
      go false h = absurd (h refl)

  pub end_kept : (number_done (struct_end s st).answer ≡ 0 → ⊥) → (struct_end s st).state ≡ st
  unfolding struct_end ends
  end_kept = behind_gate s st _ (λ x. number_done (to_done x)) (λ a. refl) (go (eqb st.depth 0))
    where
      go : (b : Bool) → ((number_done (to_done (cond b (declines OUT_OF_TURN st) (answers (tt {0}) (left st))).said) ≡ 0) → ⊥) → (cond b (declines OUT_OF_TURN st) (answers (tt {0}) (left st))).state ≡ st
      go true h = refl
      go false h = absurd (h refl)

  pub skip_kept : (kind : TType) → (number_done (skip_call s st kind).answer ≡ 0 → ⊥) → (skip_call s st kind).state ≡ st
  unfolding skip_call
  skip_kept kind = behind_gate s st _ (λ x. number_done (to_done x)) (λ a. refl) (go (skip_to_by binary s (cut_of st) st.limits (room_of st) kind st.place.0))
    where
      go : (x : Skipped) → ((number_done (to_done (over st x).said) ≡ 0) → ⊥) → (over st x).state ≡ st
      go (Done e) h = absurd (h refl)
      go (Refused why) h = refl

-- and a sound state stays sound: a scalar, a header, a message
module _ (s : List ℕ) (st : State) (f : sound (length s) st ≡ true) where
  pub reads_on : {A : Type 0} (p : State → Reader A) → Fair (p st) → sound (length s) (calls_to cut_of p stays s st).state ≡ true
  reads_on p l = still cut_of p stays s st l (λ b. b.before) (λ e b h k i. moved_on (length s) st e b h k i) f

  pub message_on : sound (length s) (read_message s st).state ≡ true
  unfolding read_message
  message_on =
      still cut_here (λ st. binary.message st.limits) begun_here s st (lawful_fair _ (message_lawful st.limits))
      (λ b. omega arith) (λ e b h k i. begun_on (length s) st e b h k i) f

  pub list_on : sound (length s) (read_list s st).state ≡ true
  unfolding read_list
  list_on = reads_on (λ st. items_head binary st.limits) (backed_fair _ _ (binary_owes.list st.limits).lawful)

  pub map_on : sound (length s) (read_map s st).state ≡ true
  unfolding read_map
  map_on = reads_on (λ st. pairs_head binary st.limits) (backed_fair _ _ (binary_owes.map st.limits).lawful)

  pub field_on : sound (length s) (read_field s st).state ≡ true
  unfolding read_field
  field_on = reads_on (λ st. binary.field (pos 0)) (lawful_fair _ (binary_owes.field (pos 0)).lawful)

  pub bytes_on : sound (length s) (read_bytes s st).state ≡ true
  unfolding read_bytes
  bytes_on = reads_on (λ st. binary.binary st.limits) (lawful_fair _ (binary_owes.binary st.limits).lawful)

  pub string_on : sound (length s) (read_string s st).state ≡ true
  unfolding read_string
  string_on = reads_on (λ st. text st.limits) (lawful_fair _ (text_lawful st.limits))

  pub begin_on : sound (length s) (struct_begin s st).state ≡ true
  unfolding struct_begin begins
  begin_on = rw (gate_free (length s) st f) (go (leb st.limits.depth st.depth) refl)
    where
      b : Sound (length s) st
      b = is_sound (length s) st f

      go : (t : Bool) → leb st.limits.depth st.depth ≡ t → sound (length s) (cond t (declines {A = Unit {0}} DEPTH st) (answers (tt {0}) (entered st))).state ≡ true
      go true d = f
      go false d = sound_is (length s) (entered st) (record { limits = b.limits; here = b.here; deep = omega (arith, leb-false st.limits.depth st.depth d); after = b.after; before = b.before })

  pub end_on : sound (length s) (struct_end s st).state ≡ true
  unfolding struct_end ends
  end_on = rw (gate_free (length s) st f) (go (eqb st.depth 0))
    where
      b : Sound (length s) st
      b = is_sound (length s) st f

      go : (t : Bool) → sound (length s) (cond t (declines {A = Unit {0}} OUT_OF_TURN st) (answers (tt {0}) (left st))).state ≡ true
      go true = f
      go false = sound_is (length s) (left st) (record { limits = b.limits; here = b.here; deep = omega (arith, b.deep); after = b.after; before = b.before })

  pub skip_on : (kind : TType) → sound (length s) (skip_call s st kind).state ≡ true
  unfolding skip_call skip_to_by
  skip_on kind = rw (gate_free (length s) st f) (go (skip_to_by binary s (cut_of st) st.limits (room_of st) kind st.place.0) refl)
    where
      b : Sound (length s) st
      b = is_sound (length s) st f

      go : (x : Skipped) → skip_to_by binary s (cut_of st) st.limits (room_of st) kind st.place.0 ≡ x → sound (length s) (over st x).state ≡ true
      go (Done q) e =
          let v = value_by binary st.limits (room_of st) kind in
          let r = was_read (read_to v s (cut_of st) st.place.0) q e in
          let c = was_cut v s (cut_of st) st.place.0 r.0 q.0 (lawful_fair v (value_lawful binary binary_owes st.limits (room_of st) kind)) b.before b.here r.1 in
          sound_is (length s) _ (moved_on (length s) st q.0 b (omega (arith, c.all)) c.before c.inside)
      go (Refused why) e = f
