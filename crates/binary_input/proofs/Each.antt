-- Every reading call of the binary reader: BAD STATE exactly where the state is not sound, OUT OF TURN never, and bytes behind what was read have no say. Assumes
-- nothing.
use mathlib.Core.Path.{◌≡◌, refl, sym, ap, ◌∙◌}
use mathlib.Core.Logic.{◌↔◌}
use mathlib.Core.Bool.{Bool, true, false}
use mathlib.Core.List.{List}
use Prim.Native.Nat.{ℕ, ◌≤◌}
use native.Mathlib.Omega.{arith}
use borrow.Author.Tests.{eqb-true, eq-eqb}
use lib.Dec.{eqb}
use lib.ListN.{length, take}
use lib.IntN.{pos}
use Rattle.types.specs.Refusals.{BAD_STATE, OUT_OF_TURN}
use Rattle.numbers.specs.Varint.{Found, got, refused}
use Rattle.numbers.proofs.Found.{as_long, zero_one}
use Rattle.heads.specs.Reader.{Reader, read_to}
use Rattle.heads.proofs.Lawful.{Lawful}
use Rattle.heads.proofs.Ahead.{Fair, lawful_fair, backed_fair}
use Rattle.heads.proofs.Cut.{was_cut, cut_same, cut_longer}
use Rattle.heads.proofs.Readers.{uuid_lawful, int8_lawful}
use Rattle.input.specs.Outcome.{Said, says, refuses}
use Rattle.input.proofs.Refusals.{Shown, Told, int8_told, uuid_told}
use Rattle.input.proofs.Laws.{cut_told}
use Rattle.protocols.specs.Words.{items_head, pairs_head}
use Rattle.binary_heads.specs.Heads.{text}
use Rattle.binary_heads.specs.Words.{binary}
use Rattle.binary_heads.proofs.Owes.{binary_owes, text_lawful, message_lawful}
use Rattle.binary_input.specs.State.{State, sound, gate, cut_of, begun_here}
use Rattle.binary_input.specs.Outcome.{Outcome, from, stays, calls_to, cut_here, ends}
use Rattle.binary_input.proofs.Gate.{Sound, is_sound, sound_is, Gated, bad, through, gated, gate_free}
use Rattle.binary_input.proofs.Told.{int16_told, int32_told, int64_told, double_told, truth_told, binary_told, text_told, items_head_told, pairs_head_told, field_told, message_told_lem}

-- what is said is not refused, and a refusal's number is one
not_said : {A X : Type 0} {a : A} {why : ℕ} → says a ≡ refuses why → X
not_said e = zero_one (cc)

same_why : {A : Type 0} (x y : ℕ) → ◌≡◌ {A = Said A} (refuses x) (refuses y) → x ≡ y
same_why x y e = cc

true_false : {X : Type 0} → true ≡ false → X
true_false e = zero_one (cc)

pub record Call {A : Type 0} (cut : State → ℕ) (p : State → Reader A) (move : State → State) : Type 0 where
  pub bad_state_lem : (s : List ℕ) (st : State) → ((calls_to cut p move s st).said ≡ refuses BAD_STATE) ↔ (sound (length s) st ≡ false)
  pub in_turn_lem : (s : List ℕ) (st : State) → (calls_to cut p move s st).said ≡ refuses OUT_OF_TURN → ⊥
  -- an input that agrees up to the end place, and is no shorter, gives the same answer
  pub behind : (s t : List ℕ) (st : State) (a : A) (e : ℕ) → sound (length s) st ≡ true → read_to (p st) s (cut st) st.place.0 ≡ got a e → take e t ≡ take e s → length s ≤ length t → calls_to cut p move t st ≡ calls_to cut p move s st

module _ {A : Type 0} (cut : State → ℕ) (p : State → Reader A) (move : State → State) (told : (st : State) → Told (p st)) (fair : (st : State) → Fair (p st)) (late : (len : ℕ) (st : State) → Sound len st → st.place.0 ≤ cut st) where
  module _ (s : List ℕ) (st : State) where
    stopped : sound (length s) st ≡ false → gate (length s) st ≡ BAD_STATE → (calls_to cut p move s st).said ≡ refuses BAD_STATE
    unfolding calls_to
    stopped f g = rw g

    passed : gate (length s) st ≡ 0 → calls_to cut p move s st ≡ from move st (read_to (p st) s (cut st) st.place.0)
    unfolding calls_to
    passed g = rw g

    -- what the reader says is no number of the gate's
    read_why : (why : ℕ) → (Shown why → ⊥) → gate (length s) st ≡ 0 → (calls_to cut p move s st).said ≡ refuses why → ⊥
    read_why why never g e = go (read_to (p st) s (cut st) st.place.0) refl
      where
        here : (x : Found A) → read_to (p st) s (cut st) st.place.0 ≡ x → (from move st x).said ≡ refuses why
        here x r = ap (λ (y : Found A). (from move st y).said) (sym r) ∙ ap (λ (o : Outcome A). o.said) (sym (passed g)) ∙ e

        go : (x : Found A) → read_to (p st) s (cut st) st.place.0 ≡ x → ⊥
        go (got a n) r = not_said (here (got a n) r)
        go (refused w) r =
            let z : w ≡ why = same_why w why (here (refused w) r) in
            never (cut_told (p st) (told st) s (cut st) st.place.0 why (r ∙ ap refused z))

    exactly : ((calls_to cut p move s st).said ≡ refuses BAD_STATE) ↔ (sound (length s) st ≡ false)
    exactly = go (gated (length s) st)
      where
        go : Gated (length s) st → ((calls_to cut p move s st).said ≡ refuses BAD_STATE) ↔ (sound (length s) st ≡ false)
        go (bad f g) = ((λ e. f), (λ h. stopped f g))
        go (through f g) = ((λ e. absurd (read_why BAD_STATE (λ w. w.stateless refl) g e)), (λ h. true_false (sym f ∙ h)))

    turned : (calls_to cut p move s st).said ≡ refuses OUT_OF_TURN → ⊥
    turned e = go (gated (length s) st)
      where
        go : Gated (length s) st → ⊥
        go (bad f g) = let z : BAD_STATE ≡ OUT_OF_TURN = same_why BAD_STATE OUT_OF_TURN (sym (stopped f g) ∙ e) in omega arith
        go (through f g) = read_why OUT_OF_TURN (λ w. w.turnless refl) g e

  again : (s t : List ℕ) (st : State) (a : A) (e : ℕ) → sound (length s) st ≡ true → read_to (p st) s (cut st) st.place.0 ≡ got a e → take e t ≡ take e s → length s ≤ length t → calls_to cut p move t st ≡ calls_to cut p move s st
  again s t st a e f r q l =
      let b = is_sound (length s) st f in
      let c = was_cut (p st) s (cut st) st.place.0 a e (fair st) (late (length s) st b) b.here r in
      let u : sound (length t) st ≡ true = sound_is (length t) st (record { limits = b.limits; here = omega (arith, b.here); deep = b.deep; after = b.after; before = b.before }) in
      let x : read_to (p st) t (cut st) st.place.0 ≡ got a e = cut_longer (p st) s (cut st) st.place.0 a e (fair st) c t q l in
      passed t st (gate_free (length t) st u) ∙ ap (from move st) (x ∙ sym r) ∙ sym (passed s st (gate_free (length s) st f))

  pub a_call : Call cut p move
  a_call = record { bad_state_lem = exactly; in_turn_lem = turned; behind = again }

-- of a reader that calls for no bytes ahead any input that agrees up to the end place does
pub freely : {A : Type 0} (cut : State → ℕ) (p : State → Reader A) (move : State → State) (s t : List ℕ) (st : State) → Lawful (p st) → st.place.0 ≤ cut st → (a : A) (e : ℕ) → sound (length s) st ≡ true → read_to (p st) s (cut st) st.place.0 ≡ got a e → take e t ≡ take e s → calls_to cut p move t st ≡ calls_to cut p move s st
unfolding calls_to
freely cut p move s t st l h a e f r q =
    let b = is_sound (length s) st f in
    let c = was_cut (p st) s (cut st) st.place.0 a e (lawful_fair (p st) l) h b.here r in
    let u : sound (length t) st ≡ true = sound_is (length t) st (record { limits = b.limits; here = omega (arith, c.all, as_long e s t c.inside q); deep = b.deep; after = b.after; before = b.before }) in
    let x : read_to (p st) t (cut st) st.place.0 ≡ got a e = cut_same (p st) s (cut st) st.place.0 a e l c t q in
    rw (gate_free (length t) st u, gate_free (length s) st f, x, r)

-- each of them
kept_cut : (len : ℕ) (st : State) → Sound len st → st.place.0 ≤ cut_of st
kept_cut len st b = b.before

own_cut : (len : ℕ) (st : State) → Sound len st → st.place.0 ≤ cut_here st
own_cut len st b = omega arith

pub bool_call_lem : Call cut_of (λ st. binary.truth) stays
bool_call_lem = a_call cut_of (λ st. binary.truth) stays (λ st. truth_told) (λ st. lawful_fair _ binary_owes.truth.lawful) kept_cut

pub i8_call_lem : Call cut_of (λ st. binary.int8) stays
i8_call_lem = a_call cut_of (λ st. binary.int8) stays (λ st. int8_told) (λ st. lawful_fair _ int8_lawful) kept_cut

pub i16_call_lem : Call cut_of (λ st. binary.int16) stays
i16_call_lem = a_call cut_of (λ st. binary.int16) stays (λ st. int16_told) (λ st. lawful_fair _ binary_owes.int16.lawful) kept_cut

pub i32_call_lem : Call cut_of (λ st. binary.int32) stays
i32_call_lem = a_call cut_of (λ st. binary.int32) stays (λ st. int32_told) (λ st. lawful_fair _ binary_owes.int32.lawful) kept_cut

pub i64_call_lem : Call cut_of (λ st. binary.int64) stays
i64_call_lem = a_call cut_of (λ st. binary.int64) stays (λ st. int64_told) (λ st. lawful_fair _ binary_owes.int64.lawful) kept_cut

pub double_call_lem : Call cut_of (λ st. binary.double) stays
double_call_lem = a_call cut_of (λ st. binary.double) stays (λ st. double_told) (λ st. lawful_fair _ binary_owes.double.lawful) kept_cut

pub uuid_call_lem : Call cut_of (λ st. binary.uuid) stays
uuid_call_lem = a_call cut_of (λ st. binary.uuid) stays (λ st. uuid_told) (λ st. lawful_fair _ uuid_lawful) kept_cut

pub bytes_call_lem : Call cut_of (λ st. binary.binary st.limits) stays
bytes_call_lem = a_call cut_of (λ st. binary.binary st.limits) stays (λ st. binary_told st.limits) (λ st. lawful_fair _ (binary_owes.binary st.limits).lawful) kept_cut

pub string_call_lem : Call cut_of (λ st. text st.limits) stays
string_call_lem = a_call cut_of (λ st. text st.limits) stays (λ st. text_told st.limits) (λ st. lawful_fair _ (text_lawful st.limits)) kept_cut

-- a list's or a set's
pub list_call : Call cut_of (λ st. items_head binary st.limits) stays
list_call = a_call cut_of (λ st. items_head binary st.limits) stays (λ st. items_head_told st.limits) (λ st. backed_fair _ _ (binary_owes.list st.limits).lawful) kept_cut

pub map_call : Call cut_of (λ st. pairs_head binary st.limits) stays
map_call = a_call cut_of (λ st. pairs_head binary st.limits) stays (λ st. pairs_head_told st.limits) (λ st. backed_fair _ _ (binary_owes.map st.limits).lawful) kept_cut

pub field_call_lem : Call cut_of (λ st. binary.field (pos 0)) stays
field_call_lem = a_call cut_of (λ st. binary.field (pos 0)) stays (λ st. field_told) (λ st. lawful_fair _ (binary_owes.field (pos 0)).lawful) kept_cut

pub message_call_lem : Call cut_here (λ st. binary.message st.limits) begun_here
message_call_lem = a_call cut_here (λ st. binary.message st.limits) begun_here (λ st. message_told_lem st.limits) (λ st. lawful_fair _ (message_lawful st.limits)) own_cut

-- "12 is a struct ended at depth 0", and nothing else
pub end_turn : (s : List ℕ) (st : State) → ((ends s st).said ≡ refuses OUT_OF_TURN) ↔ ((sound (length s) st ≡ true) × (st.depth ≡ 0))
unfolding ends
end_turn s st = go (gated (length s) st)
  where
    Turn : Type 0
    Turn = ((ends s st).said ≡ refuses OUT_OF_TURN) ↔ ((sound (length s) st ≡ true) × (st.depth ≡ 0))

    deep : sound (length s) st ≡ true → gate (length s) st ≡ 0 → (b : Bool) → eqb st.depth 0 ≡ b → Turn
    deep f g true d = ((λ e. (f, eqb-true st.depth 0 d)), (λ h. rw (g, d)))
    deep f g false d = ((λ e. not_said (rw (g, d) at e)), (λ h. true_false (sym (eq-eqb st.depth 0 h.1) ∙ d)))

    go : Gated (length s) st → Turn
    go (bad f g) = ((λ e. let z : BAD_STATE ≡ OUT_OF_TURN = same_why BAD_STATE OUT_OF_TURN (rw g at e) in absurd (omega arith)), (λ h. true_false (sym h.0 ∙ f)))
    go (through f g) = deep f g (eqb st.depth 0) refl
