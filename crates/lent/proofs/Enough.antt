-- The bound on a count has no say: however many more fields were let in than there are bytes, the answer is the same. Assumes nothing.
use Prim.Native.Nat.{ℕ, zero, suc, ◌+◌, ◌≤◌, ◌<◌}
use mathlib.Core.Path.{◌≡◌, refl, sym, ap, ◌∙◌}
use mathlib.Core.Bool.{true}
use mathlib.Core.List.{List}
use native.Mathlib.Omega.{arith}
use lib.Dec.{ltb}
use lib.ListN.{length, take, drop}
use Rattle.types.specs.declared.TType.{TType}
use Rattle.types.specs.declared.FieldId.{FieldId}
use Rattle.heads.specs.Reader.{Reader, read_at, read_to}
use Rattle.heads.proofs.Cut.{missed_got}
use Rattle.heads.specs.Heads.{Field, stop, bool, value, field, message}
use Rattle.heads.proofs.Lawful.{Takes}
use Rattle.heads.proofs.Readers.{field_takes, message_takes}
use Rattle.heads.proofs.Steps.{found_at}
use Rattle.input.specs.State.{State, sound, cut_of}
use Rattle.input.specs.Outcome.{Outcome, Said, says, refuses, calls_to, calls, cut_here, anew, on_field}
use Rattle.input.specs.Answers.{to_field, number_field, number_message, number_done}
use Rattle.input.specs.Calls.{read_message, read_field}
use Rattle.input.specs.declared.MessageAnswer.{MessageAnswer}
use Rattle.input.specs.declared.MessageAnswer.TheVariants as Ms
use Rattle.input.specs.declared.FieldAnswer.{FieldAnswer}
use Rattle.input.specs.declared.FieldAnswer.TheVariants as F
use Rattle.input.specs.declared.DoneAnswer.{DoneAnswer}
use Rattle.input.specs.declared.DoneAnswer.TheVariants as D
use Rattle.input.proofs.Gate.{is_sound}
use Rattle.input.proofs.Refusals.{Told, field_told, message_told_lem}
use Rattle.input.proofs.Laws.{number_of, landed}
use Rattle.input.proofs.Each.{num_message, field_laws, message_laws}
use Rattle.skip.specs.Skip.{skip_call}
use Rattle.skip.proofs.Laws.{skip_laws}
use Rattle.lent.specs.Count.{after_message, count_from, count_fields}
use Rattle.lent.specs.declared.Counted.{Counted}
use Rattle.lent.proofs.Counting.{ends_there, ends_short, ends_past, goes_past, no_message, some_message}

-- a call that reads, by a reader that takes a byte: the state is sound, and the place moves on
module _ {A : Type 0} (cut : State → ℕ) (p : State → Reader A) (move : State → A → State) (s : List ℕ) (st : State) where
  moves : Told (p st) → Takes (p st) → number_of (calls_to cut p move s st).said ≡ 0 → (sound (length s) st ≡ true) × (st.place.0 < (calls_to cut p move s st).state.place.0)
  unfolding read_to read_at
  moves told takes z =
      let l = landed cut p move s st told z in
      let bs = drop st.place.0 (take (cut st) s) in
      let g = found_at st.place.0 (p st bs) l.value l.end (missed_got (ltb (cut st) (length s)) _ l.value l.end l.stood) in
      let more = takes bs l.value g.0 g.1 in
      let e : (calls_to cut p move s st).state.place.0 ≡ l.end = ap (λ (o : Outcome A). o.state.place.0) l.is in
      (l.is_sound, omega (arith, more, g.2, e))

num_field : (x : Said Field) → number_of x ≡ number_field (to_field x)
num_field (says stop) = refl
num_field (says (bool b id)) = refl
num_field (says (value t id)) = refl
num_field (refuses why) = refl

field_moves : (s : List ℕ) (st : State) → number_field (read_field s st).answer ≡ 0 → (sound (length s) st ≡ true) × (st.place.0 < (read_field s st).state.place.0)
unfolding read_field
field_moves s st z = moves cut_of (λ st. field st.last.0) on_field s st (field_told st.last.0) (field_takes st.last.0) (num_field (calls (λ st. field st.last.0) on_field s st).said ∙ z)

message_moves : (s : List ℕ) (st : State) → number_message (read_message s st).answer ≡ 0 → (sound (length s) st ≡ true) × (st.place.0 < (read_message s st).state.place.0)
unfolding read_message
message_moves s st z = moves cut_here (λ st. message st.limits) anew s st (message_told_lem st.limits) (message_takes st.limits) (let o = calls_to cut_here (λ st. message st.limits) anew s st in sym (num_message o.state.place.0 o.said) ∙ z)

-- turns for every byte left, and one more, are enough
pub enough : (s : List ℕ) (k m : ℕ) → k ≤ m → (at : State) (n : ℕ) → sound (length s) at ≡ true → length s < k + at.place.0 → count_from m s at n ≡ count_from k s at n
enough s zero m h at n f l = let q = (is_sound (length s) at f).here in absurd (omega arith)
enough s (suc k) zero h at n f l = absurd (omega arith)
enough s (suc k) (suc m) h at n f l = on (read_field s at).answer refl (λ to f' l'. enough s k m (omega arith) to (suc n) f' l')
  where
    Next : Type 0
    Next = (to : State) → sound (length s) to ≡ true → length s < k + to.place.0 → count_from m s to (suc n) ≡ count_from k s to (suc n)

    past : (kind : TType) (id : FieldId) → (read_field s at).answer ≡ F.Field kind id → (b : DoneAnswer) → (skip_call s (read_field s at).state kind).answer ≡ b → Next → count_from (suc m) s at n ≡ count_from (suc k) s at n
    past kind id ea D.Done eb next =
        let there = (read_field s at).state in
        let one = (field_moves s at (ap number_field ea)).1 in
        let two = (skip_laws kind).onward s there (ap number_done eb) in
        let g = (skip_laws kind).still_sound s there (field_laws.still_sound s at f) in
        goes_past s at m n kind id ea eb ∙ next (skip_call s there kind).state g (omega (arith, one, two)) ∙ sym (goes_past s at k n kind id ea eb)
    past kind id ea (D.Refused why) eb next = ends_past s at m n kind id why ea eb ∙ sym (ends_past s at k n kind id why ea eb)

    on : (a : FieldAnswer) → (read_field s at).answer ≡ a → Next → count_from (suc m) s at n ≡ count_from (suc k) s at n
    on F.Stop ea next = ends_there s at m n ea ∙ sym (ends_there s at k n ea)
    on (F.Refused why) ea next = ends_short s at m n why ea ∙ sym (ends_short s at k n why ea)
    on (F.Field kind id) ea next = past kind id ea (skip_call s (read_field s at).state kind).answer refl next

-- so a message's fields are counted as with no bound
pub no_bound : (s : List ℕ) (st : State) (j : ℕ) → count_fields s st ≡ after_message (count_from (length s + j) s (read_message s st).state 0) (read_message s st).answer
no_bound s st j = on (read_message s st).answer refl
  where
    free : Counted
    free = count_from (length s + j) s (read_message s st).state 0

    on : (a : MessageAnswer) → (read_message s st).answer ≡ a → count_fields s st ≡ after_message free (read_message s st).answer
    on (Ms.Refused why) e = no_message s st why e ∙ sym (ap (after_message free) e)
    on (Ms.Got kind sequence start end) e =
        let m = message_moves s st (ap number_message e) in
        some_message s st kind sequence start end e
        ∙ sym (enough s (length s) (length s + j) (omega arith) (read_message s st).state 0 (message_laws.still_sound s st m.0) (omega (arith, m.1)))
        ∙ sym (ap (after_message free) e)
