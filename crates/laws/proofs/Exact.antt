-- What the calls read is well formed: a value that they give, nested no deeper than skip goes, is spelt by the bytes that they took. Assumes nothing.
use mathlib.Core.Path.{◌≡◌, refl, sym, ap, ap₂, subst, ◌∙◌}
use mathlib.Core.Bool.{Bool, true, false}
use mathlib.Core.Logic.{inl, inr}
use mathlib.Core.List.{List, [], ◌++◌}
use Prim.Native.Nat.{ℕ, zero, suc, ◌+◌, ◌-◌, ◌*◌, ◌≤◌, ◌<◌}
use native.Mathlib.Omega.{arith}
use borrow.Author.Tests.{eq-eqb}
use lib.Dec.{ltb}
use lib.ListN.{length, take, drop, length-take, length-drop, take-append-drop}
use lib.Seq.{take-add, take-take, drop-drop, length-take-le}
use lib.IntN.{ℤ, pos}
use Rattle.types.specs.Refusals.{BAD_UTF8}
use Rattle.types.specs.Limits.{in_range}
use Rattle.types.specs.declared.TType.{TType}
use Rattle.types.specs.declared.TType.TheVariants as T
use Rattle.types.specs.declared.TConfiguration.{TConfiguration}
use Rattle.types.specs.declared.FieldId.{FieldId}
use Rattle.types.specs.declared.TMessageType.{TMessageType}
use Rattle.types.specs.Value as val
use Rattle.types.specs.Value.{Tree, Trees, no_trees, tree, Pairs, no_pairs, pair, Fields, no_fields, size, size_p, nesting, nesting_all, nesting_pairs, nesting_fields}
use Rattle.numbers.specs.Varint.{Found, got, refused}
use Rattle.numbers.proofs.Found.{take_drop}
use Rattle.utf8.specs.Utf8.{utf8}
use Rattle.heads.specs.Reader.{Reader, read_at, read_to, missing, missed, Whole, and_then, provided, done, backed}
use Rattle.heads.specs.Heads.{int8, int16, int32, int64, double, uuid, truth, binary, text, items, pairs, least_size, items_head, pairs_head, Field, stop, bool, value, field, Message, message}
use Rattle.heads.specs.Answers.{place, id_of}
use Rattle.heads.specs.Spells.{Spells, SpellsAll, SpellsPairs, SpellsFields, Formed}
use Rattle.heads.proofs.Lawful.{Lawful, both, not_both, whole_of}
use Rattle.heads.proofs.Steps.{found_at}
use Rattle.heads.proofs.Ahead.{was_backed}
use Rattle.heads.proofs.Readers.{int8_lawful, int16_lawful, int32_lawful, int64_lawful, double_lawful, uuid_lawful, truth_lawful, binary_lawful, text_lawful, items_lawful, pairs_lawful, field_lawful, message_lawful, items_takes, pairs_takes, field_takes}
use Rattle.input.specs.State.{State, cut_of, sound, gate, moved_to, begun_here, entered}
use Rattle.input.specs.Outcome.{Outcome, answers, declines, from, calls_to, calls, cut_here, stays, element, bools, anew, on_field}
use Rattle.input.specs.Answers.{as_bool, as_i8, as_i16, as_i32, as_i64, as_double, as_part, as_list, as_map, as_field, as_message}
use Rattle.input.specs.Calls.{read_bool, read_i8, read_i16, read_i32, read_i64, read_double, read_uuid, read_bytes, read_string, read_list, read_map, read_field, read_message, uuid_part, bytes_part, string_part, name_part}
use Rattle.input.specs.declared.Awaited.TheVariants as W
use Rattle.input.proofs.Laws.{busy, gate_free}
use Rattle.input.proofs.Handed.{uuid_handed, bytes_handed, string_handed, name_handed}
use Rattle.laws.specs.Text.{Form, binaries, strings, Plan, under, key_under, value_under, Fits, Texts, TextsAll, TextsPairs, TextsFields}
use Rattle.laws.specs.Reading.{Took, took, halted, and_on, made, of_bool, of_i8, of_i16, of_i32, of_i64, of_double, of_part, of_list, of_map, of_message, a_bool, an_i8, an_i16, an_i32, an_i64, a_double, a_uuid, a_string, a_list, a_set, a_map, a_begin, an_end, a_message, read_all, read_pairs, behind_header, read_fields, Holders, holding, none, by_type, holders, read_levels, read_of, read_whole}
use Rattle.laws.proofs.Reading.{Gave, Ready, ready_on, is_fine, is_free, found_to, list_gave, set_is, set_gave, map_gave, message_gave, behind, ready_header, taken_bool, headed_is, begin_is, ready_in, read_tree}

-- a row of calls that gives something, taken apart
pub no_took : {A X : Type 0} {why : ℕ} {a : A} {st : State} → ◌≡◌ {A = Took A} (halted why) (took a st) → X
no_took e = let z : ◌≡◌ {A = ℕ} 0 1 = cc in absurd (omega arith)

pub parts : {A B X : Type 0} (x : Took A) (k : A → State → Took B) (b : B) (next : State) → ((a : A) (mid : State) → x ≡ took a mid → k a mid ≡ took b next → X) → and_on x k ≡ took b next → X
parts (took a st) k b next on e = on a st refl e
parts (halted why) k b next on e = no_took e

pub unmade : {A B : Type 0} (P : B → Type 0) (g : A → B) (x : Took A) (b : B) (next : State) → ((a : A) → x ≡ took a next → P (g a)) → made g x ≡ took b next → P b
unmade P g (took a st) b next on e =
    let q : g a ≡ b = cc in
    let n : st ≡ next = cc in
    subst P q (on a (ap (took a) n))
unmade P g (halted why) b next on e = no_took e

-- what the rows of one state give is one
settled : {A : Type 0} (x : Took A) (a : A) (st next : State) (n : ℕ) (last : FieldId) (g : Gave x a st n last) → x ≡ took a next → next ≡ g.next
settled x a st next n last g e = let q : took a next ≡ took a g.next = sym e ∙ g.is in cc

-- a message by its parts
same_message : (a m : Message) (name : List ℕ) (x next : State) → name ≡ a.2 → took (a.0, a.1, name) x ≡ took m next → a ≡ m
same_message a m name x next q e = let p : (a.0, a.1, name) ≡ m = cc in ap (λ (l : List ℕ). (a.0, a.1, l)) (sym q) ∙ p

-- a string read as such is the same bytes, and UTF-8
done_text : (cs one bs : List ℕ) (n : ℕ) (u : Bool) → utf8 one ≡ u → provided (utf8 one) BAD_UTF8 (done one) bs ≡ got cs n → (one ≡ cs) × (n ≡ 0) × (utf8 cs ≡ true)
unfolding provided done
done_text cs one bs n true e f =
    let g : got one 0 ≡ got cs n = rw e at f in
    let q : one ≡ cs = cc in
    (q, cc, ap utf8 (sym q) ∙ e)
done_text cs one bs n false e f = not_both (rw e at f)

text_apart : (l : TConfiguration) (cs bs : List ℕ) → Whole (text l) cs bs → Whole (binary l) cs bs × (utf8 cs ≡ true)
unfolding text and_then
text_apart l cs bs w =
    let f = both (binary l bs) (λ x. provided (utf8 x) BAD_UTF8 (done x)) bs cs (length bs) w in
    let g = done_text cs f.one (drop f.used bs) f.more (utf8 f.one) refl f.second in
    (f.first ∙ ap₂ got g.0 (omega (arith, f.all, g.1)), g.2)

abbrev items_need : TType × ℕ → ℕ
items_need h = h.1 * least_size h.0

abbrev pairs_need : TType × TType × ℕ → ℕ
pairs_need h = h.2 * least_size h.0 + h.2 * least_size h.1

module _ (s : List ℕ) (cut : ℕ) (lim : TConfiguration) (ok : in_range lim ≡ true) where
  -- the input up to the cut
  abbrev near : List ℕ
  near = take cut s

  -- whether there is input behind it
  abbrev more : Bool
  more = ltb cut (length s)

  -- what stands at a state's place, in so many bytes
  pub record Seen {A : Type 0} (p : Reader A) (a : A) (st : State) : Type 0 where
    pub size : ℕ
    pub inside : st.place.0 + size ≤ length near
    pub whole : Whole p a (take size (drop st.place.0 near))

  seen : {A : Type 0} (p : Reader A) → Lawful p → (a : A) (e : ℕ) (st : State) → st.place.0 ≤ length near → read_at p near st.place.0 ≡ got a e → Seen p a st
  unfolding read_at
  seen p lp a e st h f =
      let bs = drop st.place.0 near in
      let g = found_at st.place.0 (p bs) a e f in
      record { size = g.0; inside = omega (arith, lp.ends bs a g.0 g.1, length-drop st.place.0 near); whole = whole_of p lp bs a g.0 g.1 }

  -- a header there, with as many bytes ahead as it asks for
  pub record SeenHead {A : Type 0} (p : Reader A) (need : A → ℕ) (a : A) (st : State) : Type 0 where
    pub seen : Seen p a st
    pub ahead : need a ≤ length (drop seen.size (drop st.place.0 near))

  seen_head : {A : Type 0} (need : A → ℕ) (p : Reader A) → Lawful p → (a : A) (e : ℕ) (st : State) → st.place.0 ≤ length near → read_at (backed need p) near st.place.0 ≡ got a e → SeenHead p need a st
  unfolding read_at
  seen_head need p lp a e st h f =
      let bs = drop st.place.0 near in
      let g = found_at st.place.0 (backed need p bs) a e f in
      let w = was_backed need p bs a g.0 g.1 in
      record {
        seen = record { size = g.0; inside = omega (arith, lp.ends bs a g.0 w.0, length-drop st.place.0 near); whole = whole_of p lp bs a g.0 w.0 };
        ahead = w.1;
      }

  -- a value that the calls gave: spelt by the bytes that they took, its strings UTF-8 where they were read as such
  pub record Stood (room : ℕ) (plan : Plan) (ty : TType) (t : Tree) (st : State) : Type 0 where
    pub size : ℕ
    pub inside : st.place.0 + size ≤ length near
    pub spelt : Spells t lim room ty (take size (drop st.place.0 near))
    pub texts : Texts plan t

  -- a call that was answered found what it answers
  found : {A B : Type 0} (st : State) (p : Reader A) (move : State → A → State) (o : Outcome A) → o ≡ from move st (missed more (read_at p near st.place.0)) → (out : Outcome A → Took B) → ((why : ℕ) → out (declines why st) ≡ halted why) → (b : B) (next : State) → out o ≡ took b next → (a : A) × (e : ℕ) × (read_at p near st.place.0 ≡ got a e) × (out (answers a (moved_to (move st a) (place e))) ≡ took b next)
  found {A} {B} st p move o q out lost b next f = go (read_at p near st.place.0) refl
    where
      as_told_lem : (x : Found A) → read_at p near st.place.0 ≡ x → out (from move st (missed more x)) ≡ took b next
      as_told_lem x g = ap out (sym (q ∙ ap (λ (y : Found A). from move st (missed more y)) g)) ∙ f

      go : (x : Found A) → read_at p near st.place.0 ≡ x → (a : A) × (e : ℕ) × (read_at p near st.place.0 ≡ got a e) × (out (answers a (moved_to (move st a) (place e))) ≡ took b next)
      go (got a e) g = (a, e, g, as_told_lem (got a e) g)
      go (refused why) g = no_took (sym (lost (missing more why)) ∙ as_told_lem (refused why) g)

  module _ (depth : ℕ) (st : State) (r : Ready s cut lim depth st) (d : depth ≤ lim.depth) where
    -- what a call up to the state's own cut finds
    to_cut : {A : Type 0} (p : Reader A) (x : Found A) → read_at p near st.place.0 ≡ x → read_to p s (cut_of st) st.place.0 ≡ missed more x
    to_cut p x f = found_to s cut lim ok p x st r.cuts f

    opened : {A : Type 0} (p : State → Reader A) (move : State → A → State) → calls p move s st ≡ from move st (missed more (read_at (p st) near st.place.0))
    unfolding calls_to
    opened p move =
        let g : calls p move s st ≡ from move st (read_to (p st) s (cut_of st) st.place.0) = rw (eq-eqb (gate (length s) st) 0 (gate_free (length s) st (is_fine s cut lim ok depth st r d) (is_free s cut lim ok depth st r))) in
        g ∙ ap (from move st) (to_cut (p st) _ refl)

    answered : {A : Type 0} (p : Reader A) → Lawful p → (o : Outcome A) → o ≡ from stays st (missed more (read_at p near st.place.0)) → (out : Outcome A → Took A) → ((why : ℕ) → out (declines why st) ≡ halted why) → ((a : A) (e : ℕ) (x : State) → read_at p near st.place.0 ≡ got a e → out (answers a x) ≡ took a x) → (b : A) (next : State) → out o ≡ took b next → Seen p b st
    answered {A} p lp o q out lost well b next f =
        let g = found st p stays o q out lost b next f in
        let h : took g.0 (moved_to st (place g.1)) ≡ took b next = sym (well g.0 g.1 (moved_to st (place g.1)) g.2) ∙ g.3 in
        let same : g.0 ≡ b = cc in
        subst (λ (a : A). Seen p a st) same (seen p lp g.0 g.1 st r.here g.2)

    -- a header, with the bytes that it asks for ahead
    answered_head : {A : Type 0} (need : A → ℕ) (p : Reader A) → Lawful p → (o : Outcome A) → o ≡ from stays st (missed more (read_at (backed need p) near st.place.0)) → (out : Outcome A → Took A) → ((why : ℕ) → out (declines why st) ≡ halted why) → ((a : A) (x : State) → out (answers a x) ≡ took a x) → (b : A) (next : State) → out o ≡ took b next → SeenHead p need b st
    answered_head {A} need p lp o q out lost well b next f =
        let g = found st (backed need p) stays o q out lost b next f in
        let h : took g.0 (moved_to st (place g.1)) ≡ took b next = sym (well g.0 (moved_to st (place g.1))) ∙ g.3 in
        let same : g.0 ≡ b = cc in
        subst (λ (a : A). SeenHead p need a st) same (seen_head need p lp g.0 g.1 st r.here g.2)

    under_lim_head : {A : Type 0} (need : A → ℕ) (p : TConfiguration → Reader A) (a : A) → SeenHead (p st.limits) need a st → SeenHead (p lim) need a st
    under_lim_head need p a w = subst (λ (l : TConfiguration). SeenHead (p l) need a st) r.lims w

    under_lim : {A : Type 0} (p : TConfiguration → Reader A) (a : A) → Seen (p st.limits) a st → Seen (p lim) a st
    under_lim p a w = subst (λ (l : TConfiguration). Seen (p l) a st) r.lims w

    bool_seen : (b : Bool) (next : State) → a_bool s st ≡ took b next → Seen truth b st
    unfolding read_bool bools element
    bool_seen b next f = answered truth truth_lawful (bools s st) (rw (is_fine s cut lim ok depth st r d, r.free, to_cut truth (read_at truth near st.place.0) refl)) (λ o. of_bool (as_bool o).answer (as_bool o).state) (λ why. refl) (λ a e x g. refl) b next f

    int8_seen : (z : ℤ) (next : State) → an_i8 s st ≡ took z next → Seen int8 z st
    unfolding read_i8
    int8_seen z next f = answered int8 int8_lawful _ (opened (λ x. int8) stays) (λ o. of_i8 (as_i8 o).answer (as_i8 o).state) (λ why. refl) (λ a e x g. refl) z next f

    int16_seen : (z : ℤ) (next : State) → an_i16 s st ≡ took z next → Seen int16 z st
    unfolding read_i16
    int16_seen z next f = answered int16 int16_lawful _ (opened (λ x. int16) stays) (λ o. of_i16 (as_i16 o).answer (as_i16 o).state) (λ why. refl) (λ a e x g. refl) z next f

    int32_seen : (z : ℤ) (next : State) → an_i32 s st ≡ took z next → Seen int32 z st
    unfolding read_i32
    int32_seen z next f = answered int32 int32_lawful _ (opened (λ x. int32) stays) (λ o. of_i32 (as_i32 o).answer (as_i32 o).state) (λ why. refl) (λ a e x g. refl) z next f

    int64_seen : (z : ℤ) (next : State) → an_i64 s st ≡ took z next → Seen int64 z st
    unfolding read_i64
    int64_seen z next f = answered int64 int64_lawful _ (opened (λ x. int64) stays) (λ o. of_i64 (as_i64 o).answer (as_i64 o).state) (λ why. refl) (λ a e x g. refl) z next f

    double_seen : (n : ℕ) (next : State) → a_double s st ≡ took n next → Seen double n st
    unfolding read_double
    double_seen n next f = answered double double_lawful _ (opened (λ x. double) stays) (λ o. of_double (as_double o).answer (as_double o).state) (λ why. refl) (λ a e x g. refl) n next f

    uuid_seen : (u : List ℕ) (next : State) → a_uuid s st ≡ took u next → Seen uuid u st
    unfolding read_uuid
    uuid_seen u next f =
        answered uuid uuid_lawful _ (opened (λ x. uuid) stays) (λ o. of_part (uuid_part s st) (as_part o).answer (as_part o).state) (λ why. refl)
        (λ a e x g. ap (λ (l : List ℕ). took l x) (uuid_handed s st (is_fine s cut lim ok depth st r d) (is_free s cut lim ok depth st r) a e (to_cut uuid (got a e) g))) u next f

    list_seen : (h : TType × ℕ) (next : State) → a_list s st ≡ took h next → SeenHead (items lim) items_need h st
    unfolding read_list items_head
    list_seen h next f = under_lim_head items_need items h (answered_head items_need (items st.limits) (items_lawful st.limits) _ (opened (λ x. items_head x.limits) stays) (λ o. of_list (as_list o).answer (as_list o).state) (λ why. refl) (λ a x. refl) h next f)

    set_seen : (h : TType × ℕ) (next : State) → a_set s st ≡ took h next → SeenHead (items lim) items_need h st
    set_seen h next f = list_seen h next (sym (set_is s cut lim ok depth st r d) ∙ f)

    map_seen : (h : TType × TType × ℕ) (next : State) → a_map s st ≡ took h next → SeenHead (pairs lim) pairs_need h st
    unfolding read_map pairs_head
    map_seen h next f = under_lim_head pairs_need pairs h (answered_head pairs_need (pairs st.limits) (pairs_lawful st.limits) _ (opened (λ x. pairs_head x.limits) stays) (λ o. of_map (as_map o).answer (as_map o).state) (λ why. refl) (λ a x. refl) h next f)

    bytes_seen : (cs : List ℕ) (next : State) → a_string binaries s st ≡ took cs next → Seen (binary lim) cs st
    unfolding read_bytes
    bytes_seen cs next f =
        under_lim binary cs
        (answered (binary st.limits) (binary_lawful st.limits) _ (opened (λ x. binary x.limits) stays) (λ o. of_part (bytes_part s st) (as_part o).answer (as_part o).state) (λ why. refl)
        (λ a e x g. ap (λ (l : List ℕ). took l x) (bytes_handed s st (is_fine s cut lim ok depth st r d) (is_free s cut lim ok depth st r) a e (to_cut (binary st.limits) (got a e) g))) cs next f)

    text_seen : (cs : List ℕ) (next : State) → a_string strings s st ≡ took cs next → Seen (text lim) cs st
    unfolding read_string
    text_seen cs next f =
        under_lim text cs
        (answered (text st.limits) (text_lawful st.limits) _ (opened (λ x. text x.limits) stays) (λ o. of_part (string_part s st) (as_part o).answer (as_part o).state) (λ why. refl)
        (λ a e x g. ap (λ (l : List ℕ). took l x) (string_handed s st (is_fine s cut lim ok depth st r d) (is_free s cut lim ok depth st r) a e (to_cut (text st.limits) (got a e) g))) cs next f)

  -- a message's header, up to the cut of the message that it begins: the name that was handed out is the one that was read
  message_seen : (depth : ℕ) (st : State) → sound (length s) st ≡ true → Ready s cut lim depth (begun_here st) → (m : Message) (next : State) → a_message s st ≡ took m next → Seen (message lim) m st
  unfolding read_message calls_to
  message_seen depth st ok-st r m next f =
      let g = found st p anew _ (opened_here ∙ ap (from anew st) (to_here (read_at p near st.place.0) refl)) (λ o. of_message (name_part s st) (as_message o).answer (as_message o).state) (λ why. refl) m next f in
      message_here g.0 g.1 g.2 g.3
    where
      p : Reader Message
      p = message st.limits

      free : busy st ≡ false
      free = is_free s cut lim ok depth (begun_here st) r

      opened_here : calls_to cut_here (λ x. message x.limits) anew s st ≡ from anew st (read_to (message st.limits) s (cut_here st) st.place.0)
      opened_here = rw (eq-eqb (gate (length s) st) 0 (gate_free (length s) st ok-st free))

      to_here : (x : Found Message) → read_at (message st.limits) near st.place.0 ≡ x → read_to (message st.limits) s (cut_here st) st.place.0 ≡ missed more x
      to_here x q = found_to s cut lim ok (message st.limits) x (begun_here st) r.cuts q

      message_here : (a : Message) (e : ℕ) → read_at (message st.limits) near st.place.0 ≡ got a e → took (a.0, a.1, name_part s st) (moved_to (anew st a) (place e)) ≡ took m next → Seen (message lim) m st
      message_here a e f h =
          subst (λ (l : TConfiguration). Seen (message l) m st) r.lims
          (subst (λ (x : Message). Seen (message st.limits) x st) (same_message a m (name_part s st) _ next (name_handed s st ok-st free a e (to_here (got a e) f)) h)
          (seen (message st.limits) (message_lawful st.limits) a e st r.here f))

  -- the bytes of one part, and of two in a row
  part : (at n : ℕ) → drop at near ≡ take n (drop at near) ++ drop n (drop at near)
  part at n = sym (take-append-drop n (drop at near))

  part_long : (at n : ℕ) → at + n ≤ length near → length (take n (drop at near)) ≡ n
  part_long at n h = length-take-le n (drop at near) (omega (arith, length-drop at near))

  two_parts : (at to n m : ℕ) → to ≡ at + n → take (n + m) (drop at near) ≡ take n (drop at near) ++ take m (drop to near)
  two_parts at to n m q = take-add n m (drop at near) ∙ ap (λ (l : List ℕ). take n (drop at near) ++ take m l) (drop-drop n at near ∙ ap (λ (k : ℕ). drop k near) (sym q))

  three_parts : (at to on n m k : ℕ) → to ≡ at + n → on ≡ to + m → take (n + (m + k)) (drop at near) ≡ take n (drop at near) ++ (take m (drop to near) ++ take k (drop on near))
  three_parts at to on n m k p q = two_parts at to n (m + k) p ∙ ap (λ (l : List ℕ). take n (drop at near) ++ l) (two_parts to on m k q)

  three_inside : (at to on n m k : ℕ) → to ≡ at + n → on ≡ to + m → on + k ≤ length near → at + (n + (m + k)) ≤ length near
  three_inside at to on n m k p q h = omega arith

  -- the state behind what was given
  pub record After (depth : ℕ) (st mid : State) (n : ℕ) : Type 0 where
    pub ready : Ready s cut lim depth mid
    pub there : mid.place.0 ≡ st.place.0 + n
    pub last : mid.last ≡ st.last

  after_gave : {A : Type 0} (depth : ℕ) (x : Took A) (a : A) (st mid : State) (n : ℕ) → Ready s cut lim depth st → st.place.0 + n ≤ length near → Gave x a st n st.last → x ≡ took a mid → After depth st mid n
  after_gave depth x a st mid n r h g e =
      let q = settled x a st mid n st.last g e in
      subst (λ (m : State). After depth st m n) (sym q) (record { ready = ready_on s cut lim ok depth n st g.next r g.kept g.free h; there = g.kept.there; last = g.ends })

  -- with as many levels as bytes, and one more
  abbrev Only : ℕ → Type 0
  Only levels =
      (plan : Plan) (ty : TType) (room depth : ℕ) (st next : State) (t : Tree) → Ready s cut lim depth st → depth + room ≤ lim.depth → length near < levels + st.place.0 → read_levels s levels ty plan st ≡ took t next → nesting t ≤ room → Stood room plan ty t st

  after_value : (levels : ℕ) (plan : Plan) (ty : TType) (room depth : ℕ) (st mid : State) (t : Tree) → Ready s cut lim depth st → depth + room ≤ lim.depth → length near < levels + st.place.0 → (w : Stood room plan ty t st) → read_levels s levels ty plan st ≡ took t mid → After depth st mid w.size
  after_value levels plan ty room depth st mid t r d l w e =
      let at = st.place.0 in
      let long = part_long at w.size w.inside in
      after_gave depth (read_levels s levels ty plan st) t st mid w.size r w.inside
      (subst (λ (n : ℕ). Gave (read_levels s levels ty plan st) t st n st.last) long
      (read_tree s cut lim ok plan t room levels depth ty (take w.size (drop at near)) (drop w.size (drop at near)) st w.spelt w.texts r d (omega (arith, long, w.inside)) (part at w.size))) e

  -- behind a byte at least, with one level less
  further : (levels at to n : ℕ) → length near < suc levels + at → 0 < n → to ≡ at + n → length near < levels + to
  further levels at to n l p q = omega arith

  -- elements in a row
  pub record StoodAll (room : ℕ) (plan : Plan) (i : ℕ) (ty : TType) (ts : Trees) (k : ℕ) (st : State) : Type 0 where
    pub size : ℕ
    pub inside : st.place.0 + size ≤ length near
    pub spelt : SpellsAll ts lim room ty (take size (drop st.place.0 near))
    pub texts : TextsAll plan i ts
    pub count : val.size ts ≡ k

  pub record StoodPairs (room : ℕ) (plan : Plan) (i : ℕ) (k v : TType) (ps : Pairs) (n : ℕ) (st : State) : Type 0 where
    pub size : ℕ
    pub inside : st.place.0 + size ≤ length near
    pub spelt : SpellsPairs ps lim room k v (take size (drop st.place.0 near))
    pub texts : TextsPairs plan i ps
    pub count : size_p ps ≡ n

  pub record StoodFields (room : ℕ) (plan : Plan) (last : ℤ) (fs : Fields) (st : State) : Type 0 where
    pub size : ℕ
    pub inside : st.place.0 + size ≤ length near
    pub spelt : SpellsFields fs lim room last (take size (drop st.place.0 near))
    pub texts : TextsFields plan fs

  -- one behind the other
  no_elements : (room : ℕ) (plan : Plan) (i : ℕ) (ty : TType) (st : State) → st.place.0 ≤ length near → StoodAll room plan i ty no_trees 0 st
  unfolding SpellsAll TextsAll val.size
  no_elements room plan i ty st h = record { size = 0; inside = omega arith; spelt = refl; texts = tt; count = refl }

  all_join : (room : ℕ) (plan : Plan) (i : ℕ) (ty : TType) (t : Tree) (ts : Trees) (k : ℕ) (st mid : State) (w : Stood room (under plan (pos i)) ty t st) → mid.place.0 ≡ st.place.0 + w.size → StoodAll room plan (suc i) ty ts k mid → StoodAll room plan i ty (tree t ts) (suc k) st
  unfolding SpellsAll TextsAll val.size
  all_join room plan i ty t ts k st mid w q g =
      record {
        size = w.size + g.size;
        inside = omega (arith, g.inside);
        spelt = (take w.size (drop st.place.0 near), take g.size (drop mid.place.0 near), w.spelt, g.spelt, two_parts st.place.0 mid.place.0 w.size g.size q);
        texts = (w.texts, g.texts);
        count = ap suc g.count;
      }

  no_entries : (room : ℕ) (plan : Plan) (i : ℕ) (k v : TType) (st : State) → st.place.0 ≤ length near → StoodPairs room plan i k v no_pairs 0 st
  unfolding SpellsPairs TextsPairs size_p
  no_entries room plan i k v st h = record { size = 0; inside = omega arith; spelt = refl; texts = tt; count = refl }

  pairs_join : (room : ℕ) (plan : Plan) (i : ℕ) (kt vt : TType) (t u : Tree) (ps : Pairs) (k : ℕ) (st mid to : State) (w : Stood room (key_under plan i) kt t st) → mid.place.0 ≡ st.place.0 + w.size → (v : Stood room (value_under plan i) vt u mid) → to.place.0 ≡ mid.place.0 + v.size → StoodPairs room plan (suc i) kt vt ps k to → StoodPairs room plan i kt vt (pair t u ps) (suc k) st
  unfolding SpellsPairs TextsPairs size_p
  pairs_join room plan i kt vt t u ps k st mid to w q v p g =
      record {
        size = w.size + (v.size + g.size);
        inside = three_inside st.place.0 mid.place.0 to.place.0 w.size v.size g.size q p g.inside;
        spelt = (take w.size (drop st.place.0 near), take v.size (drop mid.place.0 near), take g.size (drop to.place.0 near), w.spelt, v.spelt, g.spelt, three_parts st.place.0 mid.place.0 to.place.0 w.size v.size g.size q p);
        texts = (w.texts, v.texts, g.texts);
        count = ap suc g.count;
      }

  truth_join : (room : ℕ) (plan : Plan) (last id : ℤ) (b : Bool) (fs : Fields) (st mid : State) (n : ℕ) → Whole (field last) (bool b id) (take n (drop st.place.0 near)) → mid.place.0 ≡ st.place.0 + n → StoodFields room plan id fs mid → StoodFields room plan last (val.field id (val.truth b) fs) st
  unfolding SpellsFields Texts TextsFields
  truth_join room plan last id b fs st mid n w q g =
      record {
        size = n + g.size;
        inside = omega (arith, g.inside);
        spelt = (take n (drop st.place.0 near), [], take g.size (drop mid.place.0 near), inl (b, refl, w, refl), g.spelt, two_parts st.place.0 mid.place.0 n g.size q);
        texts = (tt, g.texts);
      }

  value_join : (room : ℕ) (plan : Plan) (last id : ℤ) (ty : TType) (t : Tree) (fs : Fields) (st mid to : State) (n : ℕ) → Whole (field last) (value ty id) (take n (drop st.place.0 near)) → mid.place.0 ≡ st.place.0 + n → (v : Stood room (under plan id) ty t mid) → to.place.0 ≡ mid.place.0 + v.size → to.last.0 ≡ id → StoodFields room plan to.last.0 fs to → StoodFields room plan last (val.field id t fs) st
  unfolding SpellsFields TextsFields
  value_join room plan last id ty t fs st mid to n w q v p same g =
      record {
        size = n + (v.size + g.size);
        inside = three_inside st.place.0 mid.place.0 to.place.0 n v.size g.size q p g.inside;
        spelt = (take n (drop st.place.0 near), take v.size (drop mid.place.0 near), take g.size (drop to.place.0 near), inr (ty, w, v.spelt), subst (λ (z : ℤ). SpellsFields fs lim room z (take g.size (drop to.place.0 near))) same g.spelt, three_parts st.place.0 mid.place.0 to.place.0 n v.size g.size q p);
        texts = (v.texts, g.texts);
      }

  module _ (levels : ℕ) (ih : Only levels) where
    -- one value and those behind it
    all_step : (plan : Plan) (i : ℕ) (ty : TType) (room depth k : ℕ) (st mid : State) (t : Tree) (ts : Trees) → Ready s cut lim depth st → depth + room ≤ lim.depth → length near < levels + st.place.0 → read_levels s levels ty (under plan (pos i)) st ≡ took t mid → nesting_all (tree t ts) ≤ room → (Ready s cut lim depth mid → length near < levels + mid.place.0 → nesting_all ts ≤ room → StoodAll room plan (suc i) ty ts k mid) → StoodAll room plan i ty (tree t ts) (suc k) st
    unfolding nesting_all
    all_step plan i ty room depth k st mid t ts r d l e h on =
        let w = ih (under plan (pos i)) ty room depth st mid t r d l e (omega arith) in
        let a = after_value levels (under plan (pos i)) ty room depth st mid t r d l w e in
        all_join room plan i ty t ts k st mid w a.there (on a.ready (omega (arith, a.there)) (omega arith))

    only_all : (plan : Plan) (i : ℕ) (ty : TType) (room depth k : ℕ) (st next : State) (ts : Trees) → Ready s cut lim depth st → depth + room ≤ lim.depth → length near < levels + st.place.0 → read_all (read_levels s levels ty) plan i k st ≡ took ts next → nesting_all ts ≤ room → StoodAll room plan i ty ts k st
    unfolding read_all
    only_all plan i ty room depth zero st next ts r d l e h =
        let q : no_trees ≡ ts = cc in
        subst (λ (x : Trees). StoodAll room plan i ty x 0 st) q (no_elements room plan i ty st r.here)
    only_all plan i ty room depth (suc k) st next ts r d l e h =
        parts (read_levels s levels ty (under plan (pos i)) st) _ ts next
        (λ t mid f.
        unmade (λ (x : Trees). nesting_all x ≤ room → StoodAll room plan i ty x (suc k) st) (tree t) (read_all (read_levels s levels ty) plan (suc i) k mid) ts next
        (λ us g n. all_step plan i ty room depth k st mid t us r d l f n (λ rm lm m. only_all plan (suc i) ty room depth k mid next us rm d lm g m)))
        e h

    -- keys, each with its value behind it
    pairs_step : (plan : Plan) (i : ℕ) (kt vt : TType) (room depth k : ℕ) (st mid to : State) (t u : Tree) (ps : Pairs) → Ready s cut lim depth st → depth + room ≤ lim.depth → length near < levels + st.place.0 → read_levels s levels kt (key_under plan i) st ≡ took t mid → read_levels s levels vt (value_under plan i) mid ≡ took u to → nesting_pairs (pair t u ps) ≤ room → (Ready s cut lim depth to → length near < levels + to.place.0 → nesting_pairs ps ≤ room → StoodPairs room plan (suc i) kt vt ps k to) → StoodPairs room plan i kt vt (pair t u ps) (suc k) st
    unfolding nesting_pairs
    pairs_step plan i kt vt room depth k st mid to t u ps r d l e f h on =
        let w = ih (key_under plan i) kt room depth st mid t r d l e (omega arith) in
        let a = after_value levels (key_under plan i) kt room depth st mid t r d l w e in
        let lm : length near < levels + mid.place.0 = omega (arith, a.there) in
        let v = ih (value_under plan i) vt room depth mid to u a.ready d lm f (omega arith) in
        let b = after_value levels (value_under plan i) vt room depth mid to u a.ready d lm v f in
        pairs_join room plan i kt vt t u ps k st mid to w a.there v b.there (on b.ready (omega (arith, b.there)) (omega arith))

    only_pairs : (plan : Plan) (i : ℕ) (kt vt : TType) (room depth k : ℕ) (st next : State) (ps : Pairs) → Ready s cut lim depth st → depth + room ≤ lim.depth → length near < levels + st.place.0 → read_pairs (read_levels s levels kt) (read_levels s levels vt) plan i k st ≡ took ps next → nesting_pairs ps ≤ room → StoodPairs room plan i kt vt ps k st
    unfolding read_pairs
    only_pairs plan i kt vt room depth zero st next ps r d l e h =
        let q : no_pairs ≡ ps = cc in
        subst (λ (x : Pairs). StoodPairs room plan i kt vt x 0 st) q (no_entries room plan i kt vt st r.here)
    only_pairs plan i kt vt room depth (suc k) st next ps r d l e h =
        parts (read_levels s levels kt (key_under plan i) st) _ ps next
        (λ t mid f.
        parts (read_levels s levels vt (value_under plan i) mid) _ ps next
        (λ u to g.
        unmade (λ (x : Pairs). nesting_pairs x ≤ room → StoodPairs room plan i kt vt x (suc k) st) (pair t u) (read_pairs (read_levels s levels kt) (read_levels s levels vt) plan (suc i) k to) ps next
        (λ xs q n. pairs_step plan i kt vt room depth k st mid to t u xs r d l f g n (λ rt lt m. only_pairs plan (suc i) kt vt room depth k to next xs rt d lt q m))))
        e h

    -- the fields of a struct: behind a header of n bytes, from the fields behind its value
    module _ (plan : Plan) (room depth : ℕ) (d : depth + room ≤ lim.depth) (go : State → Took Fields) (rec : (st next : State) (fs : Fields) → Ready s cut lim depth st → length near ≤ levels + st.place.0 → go st ≡ took fs next → nesting_fields fs ≤ room → StoodFields room plan st.last.0 fs st) (st next : State) (r : Ready s cut lim depth st) (l : length near ≤ levels + st.place.0) (n : ℕ) (inside : st.place.0 + n ≤ length near) (some : 0 < n) where
      low : depth ≤ lim.depth
      low = omega arith

      abbrev mid : ℤ → State
      mid id = behind s cut lim ok depth st r low id W.Nothing n

      only_truth : (b : Bool) (id : ℤ) (fs : Fields) → Whole (field st.last.0) (bool b id) (take n (drop st.place.0 near)) → nesting_fields fs ≤ room → made (val.field id (val.truth b)) (go (mid id)) ≡ took fs next → StoodFields room plan st.last.0 fs st
      unfolding nesting_fields
      only_truth b id fs w h e =
          unmade (λ (x : Fields). nesting_fields x ≤ room → StoodFields room plan st.last.0 x st) (val.field id (val.truth b)) (go (mid id)) fs next
          (λ gs f m. truth_join room plan st.last.0 id b gs st (mid id) n w refl (rec (mid id) next gs (ready_header s cut lim ok depth st r low id n inside) (omega arith) f (omega arith)))
          e h

      value_step : (ty : TType) (id : ℤ) (t : Tree) (to : State) (gs : Fields) → Whole (field st.last.0) (value ty id) (take n (drop st.place.0 near)) → read_levels s levels ty (under plan id) (mid id) ≡ took t to → go to ≡ took gs next → nesting_fields (val.field id t gs) ≤ room → StoodFields room plan st.last.0 (val.field id t gs) st
      unfolding nesting_fields
      value_step ty id t to gs w f g m =
          let rm = ready_header s cut lim ok depth st r low id n inside in
          let v = ih (under plan id) ty room depth (mid id) to t rm d (omega arith) f (omega arith) in
          let a = after_value levels (under plan id) ty room depth (mid id) to t rm d (omega arith) v f in
          value_join room plan st.last.0 id ty t gs st (mid id) to n w refl v a.there (ap (λ (x : FieldId). x.0) a.last) (rec to next gs a.ready (omega (arith, a.there)) g (omega arith))

      only_value : (ty : TType) (id : ℤ) (fs : Fields) → Whole (field st.last.0) (value ty id) (take n (drop st.place.0 near)) → nesting_fields fs ≤ room → and_on (read_levels s levels ty (under plan id) (mid id)) (λ v to. made (val.field id v) (go to)) ≡ took fs next → StoodFields room plan st.last.0 fs st
      only_value ty id fs w h e =
          parts (read_levels s levels ty (under plan id) (mid id)) _ fs next
          (λ t to f.
          unmade (λ (x : Fields). nesting_fields x ≤ room → StoodFields room plan st.last.0 x st) (val.field id t) (go to) fs next
          (λ gs g m. value_step ty id t to gs w f g m))
          e h

    -- by what the header says
    only_behind : (plan : Plan) (room depth : ℕ) → depth + room ≤ lim.depth → (go : State → Took Fields) → ((st next : State) (fs : Fields) → Ready s cut lim depth st → length near ≤ levels + st.place.0 → go st ≡ took fs next → nesting_fields fs ≤ room → StoodFields room plan st.last.0 fs st) → (st next : State) (fs : Fields) → Ready s cut lim depth st → length near ≤ levels + st.place.0 → nesting_fields fs ≤ room → (x : Field) (n : ℕ) → field st.last.0 (drop st.place.0 near) ≡ got x n → behind_header (read_levels s levels) plan go (as_field (answers x (moved_to (on_field st x) (place (st.place.0 + n))))).answer (moved_to (on_field st x) (place (st.place.0 + n))) ≡ took fs next → StoodFields room plan st.last.0 fs st
    unfolding SpellsFields TextsFields read_levels
    only_behind plan room depth d go rec st next fs r l h stop n f e =
        let q : no_fields ≡ fs = cc in
        let at = st.place.0 in
        let i = (field_lawful st.last.0).ends (drop at near) stop n f in
        subst (λ (x : Fields). StoodFields room plan st.last.0 x st) q
        (record { size = n; inside = omega (arith, r.here, length-drop at near); spelt = whole_of (field st.last.0) (field_lawful st.last.0) (drop at near) stop n f; texts = tt })
    only_behind plan room depth d go rec st next fs r l h (bool b id) n f e =
        let at = st.place.0 in
        let i : at + n ≤ length near = omega (arith, r.here, length-drop at near, (field_lawful st.last.0).ends (drop at near) (bool b id) n f) in
        only_truth plan room depth d go rec st next r l n i (field_takes st.last.0 (drop at near) (bool b id) n f) b id fs (whole_of (field st.last.0) (field_lawful st.last.0) (drop at near) (bool b id) n f) h
        (sym (ap (λ (x : Took Tree). and_on x (λ v to. made (val.field id v) (go to))) (ap (made val.truth) (taken_bool s cut lim ok depth st r (omega arith) id b n i))) ∙ e)
    only_behind plan room depth d go rec st next fs r l h (value ty id) n f e =
        let at = st.place.0 in
        let i : at + n ≤ length near = omega (arith, r.here, length-drop at near, (field_lawful st.last.0).ends (drop at near) (value ty id) n f) in
        only_value plan room depth d go rec st next r l n i (field_takes st.last.0 (drop at near) (value ty id) n f) ty id fs (whole_of (field st.last.0) (field_lawful st.last.0) (drop at near) (value ty id) n f) h
        (sym (ap (λ (x : State). and_on (read_levels s levels ty (under plan id) x) (λ v to. made (val.field id v) (go to))) (headed_is s cut lim ok depth st r (omega arith) id n)) ∙ e)

    only_fields : (plan : Plan) (room depth k : ℕ) → depth + room ≤ lim.depth → (st next : State) (fs : Fields) → Ready s cut lim depth st → length near ≤ levels + st.place.0 → read_fields s (read_levels s levels) plan k st ≡ took fs next → nesting_fields fs ≤ room → StoodFields room plan st.last.0 fs st
    unfolding read_fields read_field read_at
    only_fields plan room depth zero d st next fs r l e h = no_took e
    only_fields plan room depth (suc k) d st next fs r l e h =
        let go = read_fields s (read_levels s levels) plan k in
        let p = field st.last.0 in
        let f = found st p on_field _ (opened depth st r (omega arith) (λ x. field x.last.0) on_field) (λ o. behind_header (read_levels s levels) plan go (as_field o).answer (as_field o).state) (λ why. refl) fs next e in
        let g = found_at st.place.0 (p (drop st.place.0 near)) f.0 f.1 f.2 in
        only_behind plan room depth d go (λ a b xs ra la ea ha. only_fields plan room depth k d a b xs ra la ea ha) st next fs r l h f.0 g.0 g.1
        (subst (λ (m : ℕ). behind_header (read_levels s levels) plan go (as_field (answers f.0 (moved_to (on_field st f.0) (place m)))).answer (moved_to (on_field st f.0) (place m)) ≡ took fs next) (sym g.2) f.3)

  -- a leaf
  leaf_stood : {A : Type 0} (g : A → Tree) (x : Took A) (p : Reader A) (room : ℕ) (plan : Plan) (ty : TType) (t : Tree) (st next : State) → ((a : A) → x ≡ took a next → Seen p a st) → ((a : A) (bs : List ℕ) → Whole p a bs → Spells (g a) lim room ty bs) → ((a : A) → Texts plan (g a)) → made g x ≡ took t next → Stood room plan ty t st
  leaf_stood g x p room plan ty t st next see spell text e =
      unmade (λ (y : Tree). Stood room plan ty y st) g x t next
      (λ a f. let w = see a f in record { size = w.size; inside = w.inside; spelt = spell a (take w.size (drop st.place.0 near)) w.whole; texts = text a })
      e

  -- a string, by either call
  fit_stood : (form : Form) (room : ℕ) (plan : Plan) (cs : List ℕ) (st : State) → plan [] ≡ form → Seen (binary lim) cs st → Fits form cs → Stood room plan T.String (val.bytes cs) st
  unfolding Spells Texts
  fit_stood form room plan cs st q w f =
      record { size = w.size; inside = w.inside; spelt = (refl, w.whole); texts = subst (λ (x : Form). Fits x cs) (sym q) f }

  string_stood : (form : Form) (room : ℕ) (plan : Plan) (t : Tree) (depth : ℕ) (st next : State) → plan [] ≡ form → Ready s cut lim depth st → depth ≤ lim.depth → made val.bytes (a_string form s st) ≡ took t next → Stood room plan T.String t st
  string_stood binaries room plan t depth st next q r d e =
      unmade (λ (y : Tree). Stood room plan T.String y st) val.bytes (a_string binaries s st) t next
      (λ cs f. fit_stood binaries room plan cs st q (bytes_seen depth st r d cs next f) tt)
      e
  string_stood strings room plan t depth st next q r d e =
      unmade (λ (y : Tree). Stood room plan T.String y st) val.bytes (a_string strings s st) t next
      (λ cs f.
      let w = text_seen depth st r d cs next f in
      let b = text_apart lim cs (take w.size (drop st.place.0 near)) w.whole in
      fit_stood strings room plan cs st q (record { size = w.size; inside = w.inside; whole = b.0 }) b.1)
      e

  -- a header and its elements
  headed : {A : Type 0} (depth : ℕ) (x : Took A) (p : Reader A) (a : A) (st mid : State) → Ready s cut lim depth st → (w : Seen p a st) (need : ℕ) → need ≤ length (drop w.size (drop st.place.0 near)) → ((bs rest : List ℕ) → Whole p a bs → need ≤ length rest → drop st.place.0 near ≡ bs ++ rest → Gave x a st (length bs) st.last) → x ≡ took a mid → After depth st mid w.size
  headed depth x p a st mid r w need ahead give e =
      let at = st.place.0 in
      after_gave depth x a st mid w.size r w.inside (subst (λ (k : ℕ). Gave x a st k st.last) (part_long at w.size w.inside) (give (take w.size (drop at near)) (drop w.size (drop at near)) w.whole ahead (part at w.size))) e

  head_takes : {A : Type 0} (p : Reader A) (a : A) (st : State) (w : Seen p a st) → ((bs : List ℕ) (a : A) (n : ℕ) → p bs ≡ got a n → 0 < n) → 0 < w.size
  head_takes p a st w h =
      let bs = take w.size (drop st.place.0 near) in
      omega (arith, h bs a (length bs) w.whole, part_long st.place.0 w.size w.inside)

  module _ (levels : ℕ) (ih : Only levels) (plan : Plan) (room depth : ℕ) (st next : State) (r : Ready s cut lim depth st) (d : depth + room ≤ lim.depth) (l : length near < suc levels + st.place.0) where
    -- a list and a set
    module _ (ty : TType) (x : Took (TType × ℕ)) (g : TType → Trees → Tree) (see : (a : TType × ℕ) (to : State) → x ≡ took a to → SeenHead (items lim) items_need a st) (give : (a : TType × ℕ) (bs rest : List ℕ) → Whole (items lim) a bs → items_need a ≤ length rest → drop st.place.0 near ≡ bs ++ rest → Gave x a st (length bs) st.last) (nest : (u : TType) (ts : Trees) → nesting (g u ts) ≡ suc (nesting_all ts)) (spell : (u : TType) (ts : Trees) (a b bs : List ℕ) → 0 < room → Whole (items lim) (u, val.size ts) a → SpellsAll ts lim (room - 1) u b → bs ≡ a ++ b → Spells (g u ts) lim room ty bs) (text : (u : TType) (ts : Trees) → TextsAll plan 0 ts → Texts plan (g u ts)) where
      items_join : (u : TType) (k : ℕ) (ts : Trees) (mid : State) → 0 < room → (w : Seen (items lim) (u, k) st) → mid.place.0 ≡ st.place.0 + w.size → StoodAll (room - 1) plan 0 u ts k mid → Stood room plan ty (g u ts) st
      items_join u k ts mid h w q b =
          record {
            size = w.size + b.size;
            inside = omega (arith, b.inside);
            spelt = spell u ts (take w.size (drop st.place.0 near)) (take b.size (drop mid.place.0 near)) (take (w.size + b.size) (drop st.place.0 near)) h (subst (λ (n : ℕ). Whole (items lim) (u, n) (take w.size (drop st.place.0 near))) (sym b.count) w.whole) b.spelt (two_parts st.place.0 mid.place.0 w.size b.size q);
            texts = text u ts b.texts;
          }

      items_step : (a : TType × ℕ) (mid : State) (ts : Trees) → x ≡ took a mid → read_all (read_levels s levels a.0) plan 0 a.1 mid ≡ took ts next → nesting (g a.0 ts) ≤ room → Stood room plan ty (g a.0 ts) st
      items_step a mid ts e f h =
          let n = nest a.0 ts in
          let v = see a mid e in
          let w = v.seen in
          let b = headed depth x (items lim) a st mid r w (items_need a) v.ahead (give a) e in
          let q = further levels st.place.0 mid.place.0 w.size l (head_takes (items lim) a st w (items_takes lim)) b.there in
          items_join a.0 a.1 ts mid (omega arith) w b.there (only_all levels ih plan 0 a.0 (room - 1) depth a.1 mid next ts b.ready (omega arith) q f (omega arith))

      items_stood : (t : Tree) → nesting t ≤ room → and_on x (λ a to. made (g a.0) (read_all (read_levels s levels a.0) plan 0 a.1 to)) ≡ took t next → Stood room plan ty t st
      items_stood t h e =
          parts x _ t next
          (λ a mid f. unmade (λ (y : Tree). nesting y ≤ room → Stood room plan ty y st) (g a.0) (read_all (read_levels s levels a.0) plan 0 a.1 mid) t next (λ ts q m. items_step a mid ts f q m))
          e h

    -- a map
    map_join : (k v : TType) (n : ℕ) (ps : Pairs) (mid : State) → 0 < room → (w : Seen (pairs lim) (k, v, n) st) → mid.place.0 ≡ st.place.0 + w.size → StoodPairs (room - 1) plan 0 k v ps n mid → Stood room plan T.Map (val.map k v ps) st
    unfolding Spells Texts
    map_join k v n ps mid h w q b =
        record {
          size = w.size + b.size;
          inside = omega (arith, b.inside);
          spelt = (refl, h, (take w.size (drop st.place.0 near), take b.size (drop mid.place.0 near), subst (λ (m : ℕ). Whole (pairs lim) (k, v, m) (take w.size (drop st.place.0 near))) (sym b.count) w.whole, b.spelt, two_parts st.place.0 mid.place.0 w.size b.size q));
          texts = b.texts;
        }

    map_step : (a : TType × TType × ℕ) (mid : State) (ps : Pairs) → a_map s st ≡ took a mid → read_pairs (read_levels s levels a.0) (read_levels s levels a.1) plan 0 a.2 mid ≡ took ps next → nesting (val.map a.0 a.1 ps) ≤ room → Stood room plan T.Map (val.map a.0 a.1 ps) st
    unfolding nesting
    map_step a mid ps e f h =
        let u = map_seen depth st r (omega arith) a mid e in
        let w = u.seen in
        let b = headed depth (a_map s st) (pairs lim) a st mid r w (pairs_need a) u.ahead (λ bs rest v i q. map_gave s cut lim ok depth st r (omega arith) a.0 a.1 a.2 bs rest v i q) e in
        let q = further levels st.place.0 mid.place.0 w.size l (head_takes (pairs lim) a st w (pairs_takes lim)) b.there in
        map_join a.0 a.1 a.2 ps mid (omega arith) w b.there (only_pairs levels ih plan 0 a.0 a.1 (room - 1) depth a.2 mid next ps b.ready (omega arith) q f (omega arith))

    map_stood : (t : Tree) → nesting t ≤ room → (holding s (read_levels s levels)).map plan st ≡ took t next → Stood room plan T.Map t st
    map_stood t h e =
        parts (a_map s st) _ t next
        (λ a mid f. unmade (λ (y : Tree). nesting y ≤ room → Stood room plan T.Map y st) (val.map a.0 a.1) (read_pairs (read_levels s levels a.0) (read_levels s levels a.1) plan 0 a.2 mid) t next (λ ps q m. map_step a mid ps f q m))
        e h

    -- a struct
    struct_step : (mid to : State) (fs : Fields) (w : Unit {0}) → a_begin s st ≡ took w mid → read_fields s (read_levels s levels) plan (suc (length s)) mid ≡ took fs to → nesting (val.struct fs) ≤ room → Stood room plan T.Struct (val.struct fs) st
    unfolding nesting Spells Texts
    struct_step mid to fs w e f h =
        let i : entered st ≡ mid = begun_at_lem (sym (begin_is s cut lim ok depth st r (omega arith) (omega arith)) ∙ e) in
        let g = only_fields levels ih plan (room - 1) (suc depth) (suc (length s)) (omega arith) (entered st) to fs (ready_in s cut lim ok depth st r (omega arith) (omega arith)) (omega arith) (ap (read_fields s (read_levels s levels) plan (suc (length s))) i ∙ f) (omega arith) in
        record { size = g.size; inside = g.inside; spelt = (refl, omega arith, g.spelt); texts = g.texts }
      where
        begun_at_lem : took tt (entered st) ≡ took w mid → entered st ≡ mid
        begun_at_lem q = cc

    struct_stood : (t : Tree) → nesting t ≤ room → (holding s (read_levels s levels)).struct plan st ≡ took t next → Stood room plan T.Struct t st
    struct_stood t h e =
        parts (a_begin s st) _ t next
        (λ u mid f.
        parts (read_fields s (read_levels s levels) plan (suc (length s)) mid) _ t next
        (λ fs to g. unmade (λ (y : Tree). nesting y ≤ room → Stood room plan T.Struct y st) (λ w. val.struct fs) (an_end s to) t next (λ w q m. struct_step mid to fs u f g m)))
        e h

  -- by the value's type, from how the four are read
  by_type_lem : (plan : Plan) (room depth : ℕ) (st next : State) (t : Tree) → Ready s cut lim depth st → depth ≤ lim.depth → (box : Holders) → (box.list plan st ≡ took t next → Stood room plan T.List t st) → (box.set plan st ≡ took t next → Stood room plan T.Set t st) → (box.map plan st ≡ took t next → Stood room plan T.Map t st) → (box.struct plan st ≡ took t next → Stood room plan T.Struct t st) → (ty : TType) → by_type s box ty plan st ≡ took t next → Stood room plan ty t st
  unfolding Spells Texts
  by_type_lem plan room depth st next t r d box li se ma stru T.Stop e = no_took e
  by_type_lem plan room depth st next t r d box li se ma stru T.Bool e = leaf_stood val.truth (a_bool s st) truth room plan T.Bool t st next (λ a f. bool_seen depth st r d a next f) (λ a bs w. (refl, w)) (λ a. tt) e
  by_type_lem plan room depth st next t r d box li se ma stru T.I08 e = leaf_stood val.i8 (an_i8 s st) int8 room plan T.I08 t st next (λ a f. int8_seen depth st r d a next f) (λ a bs w. (refl, w)) (λ a. tt) e
  by_type_lem plan room depth st next t r d box li se ma stru T.I16 e = leaf_stood val.i16 (an_i16 s st) int16 room plan T.I16 t st next (λ a f. int16_seen depth st r d a next f) (λ a bs w. (refl, w)) (λ a. tt) e
  by_type_lem plan room depth st next t r d box li se ma stru T.I32 e = leaf_stood val.i32 (an_i32 s st) int32 room plan T.I32 t st next (λ a f. int32_seen depth st r d a next f) (λ a bs w. (refl, w)) (λ a. tt) e
  by_type_lem plan room depth st next t r d box li se ma stru T.I64 e = leaf_stood val.i64 (an_i64 s st) int64 room plan T.I64 t st next (λ a f. int64_seen depth st r d a next f) (λ a bs w. (refl, w)) (λ a. tt) e
  by_type_lem plan room depth st next t r d box li se ma stru T.Double e = leaf_stood val.double (a_double s st) double room plan T.Double t st next (λ a f. double_seen depth st r d a next f) (λ a bs w. (refl, w)) (λ a. tt) e
  by_type_lem plan room depth st next t r d box li se ma stru T.String e = string_stood (plan []) room plan t depth st next refl r d e
  by_type_lem plan room depth st next t r d box li se ma stru T.List e = li e
  by_type_lem plan room depth st next t r d box li se ma stru T.Set e = se e
  by_type_lem plan room depth st next t r d box li se ma stru T.Map e = ma e
  by_type_lem plan room depth st next t r d box li se ma stru T.Struct e = stru e
  by_type_lem plan room depth st next t r d box li se ma stru T.Uuid e = leaf_stood val.uuid (a_uuid s st) uuid room plan T.Uuid t st next (λ a f. uuid_seen depth st r d a next f) (λ a bs w. (refl, w)) (λ a. tt) e

  -- by recursion on the levels
  only : (levels : ℕ) → Only levels
  unfolding read_levels holders nesting Spells Texts
  only zero plan ty room depth st next t r d l e h = by_type_lem plan room depth st next t r (omega arith) none (λ f. no_took f) (λ f. no_took f) (λ f. no_took f) (λ f. no_took f) ty e
  only (suc levels) plan ty room depth st next t r d l e h =
      by_type_lem plan room depth st next t r (omega arith) (holding s (read_levels s levels))
      (λ f.
      items_stood levels (only levels) plan room depth st next r d l T.List (a_list s st) val.list (λ a to q. list_seen depth st r (omega arith) a to q) (λ a bs rest w i q. list_gave s cut lim ok depth st r (omega arith) a.0 a.1 bs rest w i q) (λ u ts. refl) (λ u ts a b bs p w q z. (refl, p, (a, b, w, q, z))) (λ u ts x. x) t h f)
      (λ f.
      items_stood levels (only levels) plan room depth st next r d l T.Set (a_set s st) val.set (λ a to q. set_seen depth st r (omega arith) a to q) (λ a bs rest w i q. set_gave s cut lim ok depth st r (omega arith) a.0 a.1 bs rest w i q) (λ u ts. refl) (λ u ts a b bs p w q z. (refl, p, (a, b, w, q, z))) (λ u ts x. x) t h f)
      (λ f. map_stood levels (only levels) plan room depth st next r d l t h f)
      (λ f. struct_stood levels (only levels) plan room depth st next r d l t h f) ty e

  -- a value that the calls read, nested no deeper than there is room: well formed, and the reader stands behind its bytes
  pub record Read (room : ℕ) (plan : Plan) (ty : TType) (t : Tree) (st next : State) : Type 0 where
    pub formed : Formed s lim room ty st.place.0 next.place.0
    pub before : next.place.0 ≤ cut
    pub same : formed.tree ≡ t
    pub texts : Texts plan t

  pub was_formed : (plan : Plan) (ty : TType) (room depth : ℕ) (st next : State) (t : Tree) → Ready s cut lim depth st → depth + room ≤ lim.depth → read_of s ty plan st ≡ took t next → nesting t ≤ room → Read room plan ty t st next
  unfolding read_of
  was_formed plan ty room depth st next t r d e h =
      let at = st.place.0 in
      let n = length-take cut s in
      let w = only (suc (length s)) plan ty room depth st next t r d (omega arith) e h in
      let a = after_value (suc (length s)) plan ty room depth st next t r d (omega arith) w e in
      let i : at + w.size ≤ length near = w.inside in
      record {
        formed =
            record {
              tree = t;
              start = omega (arith, a.there);
              inside = omega (arith, a.there);
              spelt = subst (Spells t lim room ty) (take_drop at w.size near ∙ ap (drop at) (take-take (at + w.size) cut s (omega arith)) ∙ ap (λ (m : ℕ). drop at (take m s)) (sym a.there)) w.spelt;
            };
        before = omega (arith, a.there);
        same = refl;
        texts = w.texts;
      }

  -- a whole message that the calls read: its header stood at the place, and its struct behind it well formed
  pub record ReadWhole (room : ℕ) (plan : Plan) (m : Message) (t : Tree) (st next : State) : Type 0 where
    pub behind : State
    pub header : Seen (message lim) m st
    pub there : behind.place.0 ≡ st.place.0 + header.size
    pub struct : Read room plan T.Struct t behind next

  pub whole_was_formed : (plan : Plan) (room depth : ℕ) (st next : State) (m : Message) (t : Tree) → sound (length s) st ≡ true → Ready s cut lim depth (begun_here st) → depth + room ≤ lim.depth → read_whole s plan st ≡ took (m.0, m.1, m.2, t) next → nesting t ≤ room → ReadWhole room plan m t st next
  unfolding read_whole
  whole_was_formed plan room depth st next m t ok-st r d e h =
      parts (a_message s st) _ (m.0, m.1, m.2, t) next
      (λ a mid f.
      unmade (λ (y : TMessageType × ℤ × List ℕ × Tree). nesting y.3 ≤ room → ReadWhole room plan (y.0, y.1, y.2) y.3 st next) (λ x. (a.0, a.1, a.2, x)) (read_of s T.Struct plan mid) (m.0, m.1, m.2, t) next
      (λ x g n. whole_step mid a x f g n))
      e h
    where
      whole_step : (mid : State) (a : Message) (x : Tree) → a_message s st ≡ took a mid → read_of s T.Struct plan mid ≡ took x next → nesting x ≤ room → ReadWhole room plan a x st next
      whole_step mid a x f g n =
          let at = st.place.0 in
          let w = message_seen depth st ok-st r a mid f in
          let v = subst (λ (k : ℕ). Gave (a_message s st) a (begun_here st) k (id_of (pos 0))) (part_long at w.size w.inside) (message_gave s cut lim ok depth st ok-st r (omega arith) a (take w.size (drop at near)) (drop w.size (drop at near)) w.whole (part at w.size)) in
          let q = settled (a_message s st) a (begun_here st) mid w.size (id_of (pos 0)) v f in
          let rm = subst (λ (y : State). Ready s cut lim depth y) (sym q) (ready_on s cut lim ok depth w.size (begun_here st) v.next r v.kept v.free w.inside) in
          record {
            behind = mid;
            header = w;
            there = ap (λ (y : State). y.place.0) q ∙ v.kept.there;
            struct = was_formed plan T.Struct room depth mid next x rm d g n;
          }
