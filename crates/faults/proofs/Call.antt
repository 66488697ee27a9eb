-- The calls over the reader's state: what the code knows at each return. Assumes nothing.
use mathlib.Core.Path.{◌≡◌, sym, ap, ap₂, subst, ◌∙◌}
use mathlib.Core.Bool.{Bool}
use mathlib.Core.List.{List, [], ◌++◌}
use Prim.Native.Nat.{ℕ, ◌+◌, ◌-◌, ◌*◌, ◌≤◌, ◌<◌, min}
use native.Mathlib.Nat.{min-eq_left, min-eq_right}
use native.Mathlib.Omega.{arith}
use borrow.Author.Tests.{eq-eqb, ne_eqb, le-leb, lt-leb, le-ltb}
use lib.Dec.{ltb}
use lib.IntN.{ℤ}
use lib.ListN.{length, take, drop}
use lib.Seq.{take_all, length-take-le}
use mir.Syntax.{w64}
use mir.Val.{Fits}
use Rattle.types.specs.Refusals.{NO_ROOM}
use Rattle.types.specs.declared.Place.{Place}
use Rattle.types.specs.declared.TType.TheVariants as T
use Rattle.types.specs.declared.SeqNo.{SeqNo}
use Rattle.types.specs.declared.TMessageType.{TMessageType}
use Rattle.types.specs.Value.{Tree}
use Rattle.numbers.specs.Varint.{Found, got, refused}
use Rattle.numbers.proofs.Found.{by_lt}
use Rattle.heads.specs.Reader.{read_at, missing}
use Rattle.heads.specs.Heads as h
use Rattle.heads.specs.Heads.{Message}
use Rattle.heads.proofs.Steps.{lost_at}
use Rattle.heads.specs.Answers.{to_message, message_at}
use Rattle.heads.specs.declared.MessageHead.{MessageHead}
use Rattle.heads.specs.declared.MessageHead.TheVariants as H
use Rattle.input.specs.State.{State, gate, cut_of}
use Rattle.input.specs.Outcome.{cut_here}
use Rattle.input.proofs.Gate.{passes, top}
use Rattle.input.proofs.Cases.{cut_inside, cut_counts}
use Rattle.skip.specs.Skip.{skip_of, room_of}
use Rattle.skip.specs.declared.Skipped.{Skipped}
use Rattle.skip.specs.declared.Skipped.TheVariants.{Done, Refused}
use Rattle.faults.specs.Tracked.{Step, Tried, Tracked, found, broke, reach}
use Rattle.faults.specs.Heads.{message}
use Rattle.faults.specs.Value.{tracked}
use Rattle.faults.specs.Fault.{accepted, fault, fault_of, cut_short, fault_to, struct_fault, faults, header_fault, message_faults, numbered, verdict, why_call, why_message, told_in, why_row}
use Rattle.faults.specs.Trace.{lost_of, trace, up_to, Way, Tells}
use Rattle.faults.specs.declared.Traced.{Traced}
use Rattle.faults.specs.declared.Verdict.{Verdict}
use Rattle.faults.specs.declared.Verdict.TheVariants as D
use Rattle.faults.proofs.Rule.{message_r}
use Rattle.faults.proofs.Finds.{forget, Finds, finds}
use Rattle.faults.proofs.Paths.{steps, Near, near}
use Rattle.faults.proofs.Inner.{was_whole, was_broke}
use Rattle.faults.proofs.Upto.{lost_so, found_there}

-- a cut behind the end is one at the end
pub cut_fault : {A : Type 0} (p : Tracked A) (s : List ℕ) (c at end : ℕ) → end ≡ min c (length s) → fault_to p s c at ≡ cut_short (ltb end (length s)) (fault_of at (p (drop at (take end s))))
unfolding fault_to
cut_fault p s c at end o =
    by_lt c (length s)
    (λ k. let e : c ≡ end = sym (o ∙ min-eq_left (omega arith)) in ap (λ (n : ℕ). cut_short (ltb n (length s)) (fault_of at (p (drop at (take n s))))) e)
    (λ k.
    let e : end ≡ length s = o ∙ min-eq_right k in
    let a : take c s ≡ take end s = take_all c s k ∙ sym (take_all end s (omega arith)) in
    ap₂ (λ (b : Bool) (l : List ℕ). cut_short b (fault_of at (p (drop at l)))) (le-ltb c (length s) k ∙ sym (le-ltb end (length s) (omega arith))) a)

-- why_on
module _ (s : List ℕ) (st : State) (end : ℕ) (o : end ≡ min (cut_of st) (length s)) (r : Skipped) (f : r ≡ skip_of (take end s) st.limits (room_of st) T.Struct st.place.0) where
  abbrev at : ℕ
  at = st.place.0

  abbrev m : Bool
  m = ltb end (length s)

  the_fault : (x : Tried Tree) → tracked st.limits (room_of st) T.Struct (drop at (take end s)) ≡ x → struct_fault s st ≡ cut_short m (fault_of at x)
  unfolding struct_fault
  the_fault x e = cut_fault (tracked st.limits (room_of st) T.Struct) s (cut_of st) at end o ∙ ap (λ (y : Tried Tree). cut_short m (fault_of at y)) e

  module _ (e : Place) (g : r ≡ Done e) where
    is_accepted : struct_fault s st ≡ accepted e.0
    is_accepted =
        let v = was_whole (take end s) st.limits (room_of st) T.Struct at e (sym f ∙ g) in
        the_fault (found v.what v.took) v.is ∙ ap accepted v.end

    pub yes_answer : (n : ℕ) → D.Accepted e ≡ verdict n at (struct_fault s st)
    yes_answer n = sym (ap (verdict n at) is_accepted)

    pub yes_row : (row : List ℤ) → row ≡ told_in row (struct_fault s st)
    yes_row row = sym (ap (told_in row) is_accepted)

  module _ (why : ℕ) (g : r ≡ Refused why) (t : Traced) (q : Tells t (trace (tracked st.limits (room_of st) T.Struct) (take end s) at)) where
    pub record Told : Type 0 where
      pub path : List Step
      pub took : ℕ
      pub way : Way t t.number (at + took) path
      pub is : struct_fault s st ≡ fault (missing m t.number) (at + (took - 1)) path

    told : Told
    unfolding trace Tells
    told =
        let v = was_broke (take end s) st.limits (room_of st) T.Struct at why (sym f ∙ g) in
        let w : Way t v.why (at + v.took) v.path = subst (Tells t) (ap (lost_of at) v.is) q in
        record {
          path = v.path;
          took = v.took;
          way = subst (λ (n : ℕ). Way t n (at + v.took) v.path) (sym w.number) w;
          is = the_fault (broke v.why v.took v.path) v.is ∙ ap (λ (n : ℕ). fault (missing m n) (at + (v.took - 1)) v.path) (sym w.number);
        }

    pub told_few : t.count ≤ 64
    told_few = omega (arith, told.way.count, told.way.few)

    pub told_twice : Fits w64 (2 * t.count)
    told_twice = record { fits = omega (arith, told_few) }

    pub told_rows : 2 * t.count ≤ 128
    told_rows = omega (arith, told_few)

    pub told_later : at ≤ t.reach
    told_later = omega (arith, told.way.reached)

    count_is : length told.path ≡ t.count
    count_is = sym told.way.count

    pub short_answer : (n : ℕ) → n < 2 * t.count → D.Refused NO_ROOM at 0 ≡ verdict n at (struct_fault s st)
    short_answer n l = sym (ap (verdict n at) told.is ∙ rw (lt-leb (2 * length told.path) n (omega (arith, count_is))))

    pub short_row : (row : List ℤ) → length row < 2 * t.count → row ≡ told_in row (struct_fault s st)
    short_row row l = sym (ap (told_in row) told.is ∙ rw (lt-leb (2 * length told.path) (length row) (omega (arith, count_is))))

    pub long_answer : (n num off : ℕ) → 2 * t.count ≤ n → num ≡ missing m t.number → off ≡ at + (t.reach - at - 1) → D.Refused num off t.count ≡ verdict n at (struct_fault s st)
    long_answer n num off l a b =
        let z : off ≡ at + (told.took - 1) = omega (arith, b, told.way.reached) in
        ap₂ (λ (x y : ℕ). D.Refused x y t.count) a z
        ∙ ap (D.Refused (missing m t.number) (at + (told.took - 1))) (sym count_is)
        ∙ sym (ap (verdict n at) told.is ∙ rw (le-leb (2 * length told.path) n (omega (arith, count_is))))

    pub long_row : (row row₁ : List ℤ) → 2 * t.count ≤ length row → row₁ ≡ take (2 * t.count) t.rows ++ drop (2 * t.count) row → row₁ ≡ told_in row (struct_fault s st)
    long_row row row₁ l e =
        e
        ∙ ap (λ (k : ℕ). take (2 * k) t.rows ++ drop (2 * k) row) (sym count_is)
        ∙ ap (λ (x : List ℤ). x ++ drop (2 * length told.path) row) told.way.rows
        ∙ sym (ap (told_in row) told.is ∙ rw (le-leb (2 * length told.path) (length row) (omega (arith, count_is))))

-- the place lies before the cut
pub on_inside : (s : List ℕ) (c end p : ℕ) → end ≡ min c (length s) → p ≤ length s → p ≤ c → p ≤ length (take end s)
on_inside s c end p o a b = let z : length (take end s) ≡ end = length-take-le end s (omega arith) in omega (arith, o, z)

pub on_room : (a b : ℕ) → a ≤ 64 → a - b ≤ 64
on_room a b h = omega arith

pub ruleset on_cases = (cut_inside, cut_counts, on_inside, on_room, yes_answer, yes_row, told_few, told_twice, told_rows, told_later, short_answer, short_row, long_answer, long_row)

-- why
module _ (s : List ℕ) (st : State) (num : ℕ) (e : num ≡ gate (length s) st) where
  pub why_stopped : (n : ℕ) → (num ≡ 0 → ⊥) → D.Refused num st.place.0 0 ≡ why_call n s st
  unfolding why_call faults
  why_stopped n z = rw (← e, ne_eqb num 0 z, le-leb 0 n (omega arith))

  pub row_stopped : (row : List ℤ) → (num ≡ 0 → ⊥) → row ≡ why_row s st row
  unfolding why_row faults numbered
  row_stopped row z = rw (← e, ne_eqb num 0 z, le-leb 0 (length row) (omega arith))

  pub why_went : (n : ℕ) (v : Verdict) → num ≡ 0 → v ≡ verdict n st.place.0 (struct_fault s st) → v ≡ why_call n s st
  unfolding why_call faults
  why_went n v z q = rw (← e, eq-eqb num 0 z) q

  pub row_went : (row row₁ : List ℤ) → num ≡ 0 → row₁ ≡ told_in row (struct_fault s st) → row₁ ≡ why_row s st row
  unfolding why_row faults
  row_went row row₁ z q = rw (← e, eq-eqb num 0 z) q

  pub sound_deep : num ≡ 0 → st.depth ≤ st.limits.depth
  sound_deep z = (passes (length s) st num e z).deep

  pub sound_top : num ≡ 0 → st.limits.depth ≤ 64
  sound_top z = top (length s) st (passes (length s) st num e z)

  pub sound_here : num ≡ 0 → st.place.0 ≤ length s
  sound_here z = (passes (length s) st num e z).here

  pub sound_before : num ≡ 0 → st.place.0 ≤ cut_of st
  sound_before z = (passes (length s) st num e z).before

  -- why_message
  pub header_stopped : (num ≡ 0 → ⊥) → D.Refused num st.place.0 0 ≡ why_message s st
  unfolding why_message message_faults
  header_stopped z = rw (← e, ne_eqb num 0 z)

  module _ (z : num ≡ 0) (end : ℕ) (o : end ≡ min (st.place.0 + st.limits.message) (length s)) (hd : MessageHead) (k : hd ≡ message_at (take end s) st.limits st.place.0) where
    header_is : (x : Tried Message) → message st.limits (drop st.place.0 (take end s)) ≡ x → message_faults s st ≡ cut_short (ltb end (length s)) (fault_of st.place.0 x)
    unfolding message_faults header_fault
    header_is x g =
        rw (← e, eq-eqb num 0 z)
        (cut_fault (message st.limits) s (cut_here st) st.place.0 end o ∙ ap (λ (y : Tried Message). cut_short (ltb end (length s)) (fault_of st.place.0 y)) g)

    message_is : (bs : List ℕ) → forget (message st.limits bs) ≡ h.message st.limits bs
    unfolding Finds
    message_is bs = message_r Finds finds 0 st.limits bs

    message_near : (bs : List ℕ) → steps (message st.limits bs) ≤ 0
    unfolding Near
    message_near bs = message_r Near near 0 st.limits bs

    got_head : (x : Found Message) (a : TMessageType) (i : SeqNo) (b c : Place) → to_message x ≡ H.Got a i b c → (y : Message) × (x ≡ got y c.0)
    got_head (got y j) a i b c g = let w : record { 0 = j } ≡ c = cc in (y, ap (λ (p : Place). got y p.0) w)
    got_head (refused why) a i b c g = let w : ◌≡◌ {A = ℕ} 0 1 = cc in absurd (omega arith)

    no_head : (x : Found Message) (why : ℕ) → to_message x ≡ H.Refused why → x ≡ refused why
    no_head (got y j) why g = let w : ◌≡◌ {A = ℕ} 0 1 = cc in absurd (omega arith)
    no_head (refused u) why g = let w : u ≡ why = cc in ap refused w

    pub header_yes : (a : TMessageType) (i : SeqNo) (b c : Place) → hd ≡ H.Got a i b c → D.Accepted c ≡ why_message s st
    unfolding why_message message_at
    header_yes a i b c g =
        let x = got_head _ a i b c (sym k ∙ g) in
        let v = found_there (message st.limits) (h.message st.limits) message_is (take end s) st.place.0 x.0 c.0 x.1 in
        sym (ap (verdict 0 st.place.0) (header_is (found x.0 v.0) v.1) ∙ ap (λ (j : ℕ). D.Accepted (record { 0 = j })) v.2)

    pub header_no : (why n off far : ℕ) → hd ≡ H.Refused why → far ≡ up_to (message st.limits) (take end s) st.place.0 → n ≡ missing (ltb end (length s)) why → off ≡ st.place.0 + (far - st.place.0 - 1) → D.Refused n off 0 ≡ why_message s st
    unfolding why_message message_at read_at up_to
    header_no why n off far g u a b =
        let bs = drop st.place.0 (take end s) in
        let y = lost_so (message st.limits bs) why (message_near bs) (message_is bs ∙ lost_at st.place.0 (h.message st.limits bs) why (no_head _ why (sym k ∙ g))) in
        let w : off ≡ st.place.0 + (y.0 - 1) = omega (arith, b, u, ap reach y.1) in
        ap₂ (λ (i j : ℕ). D.Refused i j 0) a w ∙ sym (ap (verdict 0 st.place.0) (header_is (broke why y.0 []) y.1))

    pub header_later : (far : ℕ) → far ≡ up_to (message st.limits) (take end s) st.place.0 → st.place.0 ≤ far
    unfolding up_to
    header_later far u = omega (arith, u)

    pub header_inside : st.place.0 ≤ length (take end s)
    header_inside = on_inside s (st.place.0 + st.limits.message) end st.place.0 o (passes (length s) st num e z).here (omega arith)

pub ruleset why_cases = (why_stopped, row_stopped, why_went, row_went, sound_deep, sound_top, sound_here, sound_before)

pub ruleset header_cases = (cut_inside, cut_counts, header_stopped, header_yes, header_no, header_later, header_inside)
