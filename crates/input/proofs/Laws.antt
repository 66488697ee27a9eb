-- The laws of every call, shown once: a refused call hands back the state as given; the bytes behind what was read have no say; the next
-- place lies in the input, not before the last; a sound state stays sound; BAD STATE and OUT OF TURN are given exactly when the scope paper says. Assumes nothing.
use mathlib.Core.Path.{◌≡◌, refl, sym, ap, subst, ◌∙◌}
use mathlib.Core.List.{List}
use mathlib.Core.Bool.{Bool, true, false, cond, ◌||◌}
use Prim.Native.Nat.{ℕ, ◌≤◌, ◌<◌}
use native.Mathlib.Omega.{arith}
use borrow.Author.Tests.{eq-eqb, ne_eqb, leb-false}
use lib.Dec.{leb, ltb, eqb}
use lib.ListN.{length, take, drop}
use Rattle.types.specs.Refusals.{DEPTH, OUT_OF_TURN, BAD_STATE}
use Rattle.types.specs.Limits.{in_range}
use Rattle.types.specs.declared.TConfiguration.{TConfiguration}
use Rattle.numbers.specs.Varint.{Found, got, refused, placed}
use Rattle.numbers.proofs.Found.{as_long}
use Rattle.heads.specs.Reader.{Reader, read_at, read_to}
use Rattle.heads.specs.Heads.{truth}
use Rattle.heads.specs.Answers.{place}
use Rattle.heads.proofs.Lawful.{Lawful}
use Rattle.heads.proofs.Ahead.{Fair, lawful_fair}
use Rattle.heads.proofs.Cut.{Cut, was_cut, cut_same, cut_longer, missed_no}
use Rattle.heads.proofs.Steps.{lost_at}
use Rattle.heads.proofs.Readers.{truth_lawful}
use Rattle.input.specs.State.{State, sound, cut_of, waits, gate, moved_to, with_pending, entered, left}
use Rattle.input.specs.Outcome.{Said, says, refuses, Outcome, answers, declines, guarded, from, calls_to, calls, stays, element, bools, begins, ends}
use Rattle.input.specs.declared.Awaited.{Awaited}
use Rattle.input.specs.declared.Awaited.TheVariants as W
use Rattle.input.proofs.Gate.{Sound, is_sound, sound_is, Gated, bad, turn, through, gated}
use Rattle.input.proofs.Refusals.{Shown, shown, can_give, plain_given, shown_missing, Told, truth_told}

pub not_true : {X : Type 0} {b : Bool} → b ≡ false → b ≡ true → X
not_true f g = let z : ◌≡◌ {A = Bool} false true = sym f ∙ g in let o : ◌≡◌ {A = ℕ} 0 1 = cc in absurd (omega arith)

-- the other inputs that a call's answer holds for, of those that agree with its own up to its end: all; or, where bytes ahead are asked for, one that is no shorter
abbrev pub any : List ℕ → List ℕ → Type 0
any s t = Unit {0}

abbrev pub no_shorter : List ℕ → List ℕ → Type 0
no_shorter s t = length s ≤ length t

-- what is promised of a call; `late` says which states it is out of turn in
pub record CallLaws (far : List ℕ → List ℕ → Type 0) {R : Type 0} (call : List ℕ → State → R) (number : R → ℕ) (state : R → State) (late : State → Bool) : Type 0 where
  -- "A refusal returns its number and the state as given"
  pub kept : (s : List ℕ) (st : State) → (number (call s st) ≡ 0 → ⊥) → state (call s st) ≡ st
  -- "two inputs that agree up to its end give .. every read the same answer"
  pub behind : (s t : List ℕ) (st : State) → number (call s st) ≡ 0 → take (state (call s st)).place.0 t ≡ take (state (call s st)).place.0 s → far s t → call t st ≡ call s st
  -- what was read lies in the input
  pub onward : (s : List ℕ) (st : State) → number (call s st) ≡ 0 → st.place.0 ≤ (state (call s st)).place.0
  pub inside : (s : List ℕ) (st : State) → number (call s st) ≡ 0 → (state (call s st)).place.0 ≤ length s
  -- a sound state stays sound, whatever the call answers
  pub still_sound : (s : List ℕ) (st : State) → sound (length s) st ≡ true → sound (length s) (state (call s st)) ≡ true
  -- "BAD STATE": given exactly when the state is not sound
  pub bad_state_lem : (s : List ℕ) (st : State) → number (call s st) ≡ BAD_STATE → sound (length s) st ≡ false
  pub state_bad : (s : List ℕ) (st : State) → sound (length s) st ≡ false → number (call s st) ≡ BAD_STATE
  -- "OUT OF TURN": given exactly when the state is sound and the call not its turn
  pub out_of_turn : (s : List ℕ) (st : State) → number (call s st) ≡ OUT_OF_TURN → (sound (length s) st ≡ true) × (late st ≡ true)
  pub turn_out : (s : List ℕ) (st : State) → sound (length s) st ≡ true → late st ≡ true → number (call s st) ≡ OUT_OF_TURN
  -- which numbers there are: "Number 13 stays unused"
  pub which : (s : List ℕ) (st : State) → can_give (number (call s st)) ≡ true

-- the ways that a call may go
pub data Way (far : List ℕ → List ℕ → Type 0) {A : Type 0} (call : List ℕ → State → Outcome A) (late : State → Bool) (s : List ℕ) (st : State) : Type 0 where
  unsound : sound (length s) st ≡ false → call s st ≡ declines BAD_STATE st → Way far call late s st
  early : sound (length s) st ≡ true → late st ≡ true → call s st ≡ declines OUT_OF_TURN st → Way far call late s st
  lost : sound (length s) st ≡ true → late st ≡ false → (why : ℕ) → Shown why → call s st ≡ declines why st → Way far call late s st
  well : sound (length s) st ≡ true → late st ≡ false → (a : A) (next : State) → st.place.0 ≤ next.place.0 → sound (length s) next ≡ true → call s st ≡ answers a next → ((t : List ℕ) → take next.place.0 t ≡ take next.place.0 s → far s t → call t st ≡ answers a next) → Way far call late s st

abbrev pub number_of : {A : Type 0} → Said A → ℕ
number_of (says a) = 0
number_of (refuses why) = why

-- each way keeps the promises, in the words `out` of any declared answer
module _ (far : List ℕ → List ℕ → Type 0) {A R : Type 0} (call : List ℕ → State → Outcome A) (late : State → Bool) (ways : (s : List ℕ) (st : State) → Way far call late s st) (out : Outcome A → R) (number : R → ℕ) (state : R → State) (fit : (o : Outcome A) → number (out o) ≡ number_of o.said) (same-state : (o : Outcome A) → state (out o) ≡ o.state) where
  num : (s : List ℕ) (st : State) (o : Outcome A) → call s st ≡ o → number (out (call s st)) ≡ number_of o.said
  num s st o e = fit (call s st) ∙ ap (λ (x : Outcome A). number_of x.said) e

  next_is : (s : List ℕ) (st : State) (o : Outcome A) → call s st ≡ o → state (out (call s st)) ≡ o.state
  next_is s st o e = same-state (call s st) ∙ ap (λ (x : Outcome A). x.state) e

  module _ (s : List ℕ) (st : State) where
    law_kept : (number (out (call s st)) ≡ 0 → ⊥) → state (out (call s st)) ≡ st
    law_kept h = go (ways s st)
      where
        go : Way far call late s st → state (out (call s st)) ≡ st
        go (unsound f e) = next_is s st _ e
        go (early f l e) = next_is s st _ e
        go (lost f l why w e) = next_is s st _ e
        go (well f l a next lo hi e b) = absurd (h (num s st _ e))

    -- an answer comes from a call that went well
    answered : {X : Type 0} → number (out (call s st)) ≡ 0 → ((a : A) (next : State) → st.place.0 ≤ next.place.0 → sound (length s) next ≡ true → call s st ≡ answers a next → ((t : List ℕ) → take next.place.0 t ≡ take next.place.0 s → far s t → call t st ≡ answers a next) → X) → X
    answered {X} z k = go (ways s st)
      where
        go : Way far call late s st → X
        go (unsound f e) = let n = num s st _ e in absurd (omega arith)
        go (early f l e) = let n = num s st _ e in absurd (omega arith)
        go (lost f l why w e) = let n = num s st _ e in absurd (omega (arith, w.some))
        go (well f l a next lo hi e b) = k a next lo hi e b

    law_behind : (t : List ℕ) → number (out (call s st)) ≡ 0 → take (state (out (call s st))).place.0 t ≡ take (state (out (call s st))).place.0 s → far s t → out (call t st) ≡ out (call s st)
    law_behind t z g w =
        answered z
        (λ a next lo hi q b.
        let e : state (out (call s st)) ≡ next = next_is s st _ q in
        ap out (b t (rw e at g) w ∙ sym q))

    law_onward : number (out (call s st)) ≡ 0 → st.place.0 ≤ (state (out (call s st))).place.0
    law_onward z = answered z (λ a next lo hi q b. let e : state (out (call s st)) ≡ next = next_is s st _ q in rw e lo)

    law_inside : number (out (call s st)) ≡ 0 → (state (out (call s st))).place.0 ≤ length s
    law_inside z = answered z (λ a next lo hi q b. let e : state (out (call s st)) ≡ next = next_is s st _ q in rw e (is_sound (length s) next hi).here)

    law_sound : sound (length s) st ≡ true → sound (length s) (state (out (call s st))) ≡ true
    law_sound g = go (ways s st)
      where
        after : (o : Outcome A) → call s st ≡ o → sound (length s) o.state ≡ true → sound (length s) (state (out (call s st))) ≡ true
        after o e h = ap (sound (length s)) (next_is s st o e) ∙ h

        go : Way far call late s st → sound (length s) (state (out (call s st))) ≡ true
        go (unsound f e) = after _ e g
        go (early f l e) = after _ e g
        go (lost f l why w e) = after _ e g
        go (well f l a next lo hi e b) = after _ e hi

    law_bad : number (out (call s st)) ≡ BAD_STATE → sound (length s) st ≡ false
    law_bad z = go (ways s st)
      where
        go : Way far call late s st → sound (length s) st ≡ false
        go (unsound f e) = f
        go (early f l e) = let n = num s st _ e in absurd (omega arith)
        go (lost f l why w e) = absurd (w.stateless (sym (num s st _ e) ∙ z))
        go (well f l a next lo hi e b) = let n = num s st _ e in absurd (omega arith)

    law_bad_back : sound (length s) st ≡ false → number (out (call s st)) ≡ BAD_STATE
    law_bad_back z = go (ways s st)
      where
        go : Way far call late s st → number (out (call s st)) ≡ BAD_STATE
        go (unsound f e) = num s st _ e
        go (early f l e) = not_true z f
        go (lost f l why w e) = not_true z f
        go (well f l a next lo hi e b) = not_true z f

    law_turn : number (out (call s st)) ≡ OUT_OF_TURN → (sound (length s) st ≡ true) × (late st ≡ true)
    law_turn z = go (ways s st)
      where
        go : Way far call late s st → (sound (length s) st ≡ true) × (late st ≡ true)
        go (unsound f e) = let n = num s st _ e in absurd (omega arith)
        go (early f l e) = (f, l)
        go (lost f l why w e) = absurd (w.turnless (sym (num s st _ e) ∙ z))
        go (well f l a next lo hi e b) = let n = num s st _ e in absurd (omega arith)

    law_turn_back : sound (length s) st ≡ true → late st ≡ true → number (out (call s st)) ≡ OUT_OF_TURN
    law_turn_back g z = go (ways s st)
      where
        go : Way far call late s st → number (out (call s st)) ≡ OUT_OF_TURN
        go (unsound f e) = not_true f g
        go (early f l e) = num s st _ e
        go (lost f l why w e) = not_true l z
        go (well f l a next lo hi e b) = not_true l z

    law_which : can_give (number (out (call s st))) ≡ true
    law_which = go (ways s st)
      where
        go : Way far call late s st → can_give (number (out (call s st))) ≡ true
        go (unsound f e) = ap can_give (num s st _ e)
        go (early f l e) = ap can_give (num s st _ e)
        go (lost f l why w e) = ap can_give (num s st _ e) ∙ plain_given why w.one
        go (well f l a next lo hi e b) = ap can_give (num s st _ e)

  pub laws : CallLaws far (λ s st. out (call s st)) number state late
  laws =
      record {
        kept = law_kept;
        behind = λ s t st. law_behind s st t;
        onward = law_onward;
        inside = law_inside;
        still_sound = law_sound;
        bad_state_lem = law_bad;
        state_bad = law_bad_back;
        out_of_turn = law_turn;
        turn_out = law_turn_back;
        which = law_which;
      }

-- an input that agrees with a state's up to a place behind its own is one that the state is sound for
pub agree : (s t : List ℕ) (st : State) (e : ℕ) → sound (length s) st ≡ true → st.place.0 ≤ e → e ≤ length s → take e t ≡ take e s → sound (length t) st ≡ true
agree s t st e f lo hi g =
    let q = is_sound (length s) st f in
    sound_is (length t) st (record { limits = q.limits; here = omega (arith, as_long e s t hi g); deep = q.deep; after = q.after; before = q.before })

-- a bool is pending: the states that a call other than the bool call is out of turn in
abbrev pub busy : State → Bool
busy st = waits st.pending.0

pub gate_free : (len : ℕ) (st : State) → sound len st ≡ true → busy st ≡ false → gate len st ≡ 0
unfolding gate
gate_free len st f w = rw (f, w)

-- a call that begins at the gate, by what it does behind it
module _ {A : Type 0} (behind : List ℕ → State → Outcome A) where
  abbrev gatedly : List ℕ → State → Outcome A
  gatedly s st = guarded s st (behind s st)

  past_gate : (s : List ℕ) (st : State) → gate (length s) st ≡ 0 → gatedly s st ≡ behind s st
  past_gate s st g = rw (eq-eqb (gate (length s) st) 0 g)

  at_gate : (s : List ℕ) (st : State) (n : ℕ) → gate (length s) st ≡ n → 0 < n → gatedly s st ≡ declines n st
  at_gate s st n g h = rw (g, ne_eqb n 0 (λ z. omega arith))

-- a state that is sound stays so at another place of the input that its cut lets it have, with the same limits and depth
sound_at : (len : ℕ) (st next : State) → sound len st ≡ true → next.limits ≡ st.limits → next.depth ≡ st.depth → next.place.0 ≤ len → next.begin.0 ≤ next.place.0 → next.place.0 ≤ cut_of next → sound len next ≡ true
sound_at len st next f l d h a b =
    let q = is_sound len st f in
    let e : next.limits.depth ≡ st.limits.depth = ap (λ (x : TConfiguration). x.depth) l in
    sound_is len next (record { limits = ap in_range l ∙ q.limits; here = h; deep = omega (arith, q.deep); after = a; before = b })

-- what a move leaves: limits and depth; and the cut that its call reads up to is the next state's
pub record Keeps {A : Type 0} (cut : State → ℕ) (move : State → A → State) : Type 0 where
  pub limits : (st : State) (a : A) → (move st a).limits ≡ st.limits
  pub depth : (st : State) (a : A) → (move st a).depth ≡ st.depth
  pub begins : (st : State) (a : A) → st.begin.0 ≤ st.place.0 → (move st a).begin.0 ≤ st.place.0
  pub cuts : (st : State) (a : A) → cut_of (move st a) ≡ cut st
  pub room : (st : State) → st.place.0 ≤ cut_of st → st.place.0 ≤ cut st

-- what a reader owes: no more is taken than there is, and the same is found in other inputs, up to any cut
pub record Owes {A : Type 0} (far : List ℕ → List ℕ → Type 0) (p : Reader A) : Type 0 where
  pub fair : Fair p
  pub holds : (s : List ℕ) (c at : ℕ) (a : A) (e : ℕ) → Cut p s c at a e → (t : List ℕ) → take e t ≡ take e s → far s t → read_to p t c at ≡ got a e

pub lawful_reading : {A : Type 0} (p : Reader A) → Lawful p → Owes any p
lawful_reading p l = record { fair = lawful_fair p l; holds = λ s c at a e k t q f. cut_same p s c at a e l k t q }

pub fair_reading : {A : Type 0} (p : Reader A) → Fair p → Owes no_shorter p
fair_reading p l = record { fair = l; holds = λ s c at a e k t q f. cut_longer p s c at a e l k t q f }

-- what is missed or refused up to a cut is shown by the input
pub cut_told : {A : Type 0} (p : Reader A) → Told p → (s : List ℕ) (c at why : ℕ) → read_to p s c at ≡ refused why → Shown why
unfolding read_to read_at
cut_told p told s c at why e =
    let m = missed_no (ltb c (length s)) (placed at (p (drop at (take c s)))) why e in
    subst Shown m.2 (shown_missing (ltb c (length s)) m.0 (told (drop at (take c s)) m.0 (lost_at at _ m.0 m.1)))

-- what a reader finds at a state's place, for a call that comes to its reader
module _ (far : List ℕ → List ℕ → Type 0) (cut : State → ℕ) {A : Type 0} (call : List ℕ → State → Outcome A) (late : State → Bool) (move : State → A → State) (keeps : Keeps cut move) (s : List ℕ) (st : State) (p : Reader A) (owes : Owes far p) (told : Told p) (f : sound (length s) st ≡ true) (l : late st ≡ false) (passed : (t : List ℕ) → sound (length t) st ≡ true → call t st ≡ from move st (read_to p t (cut st) st.place.0)) where
  found : (x : Found A) → read_to p s (cut st) st.place.0 ≡ x → Way far call late s st
  found (refused why) e = lost f l why (cut_told p told s (cut st) st.place.0 why e) (passed s f ∙ ap (from move st) e)
  found (got a e) r =
      let at = st.place.0 in
      let q = is_sound (length s) st f in
      let k = was_cut p s (cut st) at a e owes.fair (keeps.room st q.before) q.here r in
      let lo : at ≤ e = omega (arith, k.all) in
      let next = moved_to (move st a) (place e) in
      well f l a next lo
      (sound_at (length s) st next f (keeps.limits st a) (keeps.depth st a) k.inside (omega (arith, keeps.begins st a q.after)) (omega (arith, keeps.cuts st a, k.before)))
      (passed s f ∙ ap (from move st) r)
      (λ t h w. passed t (agree s t st e f lo k.inside h) ∙ ap (from move st) (owes.holds s (cut st) at a e k t h w))

-- behind the gate
abbrev reading : {A : Type 0} → (State → ℕ) → (State → Reader A) → (State → A → State) → List ℕ → State → Outcome A
reading cut p move s st = from move st (read_to (p st) s (cut st) st.place.0)

-- a call that reads
module _ (far : List ℕ → List ℕ → Type 0) (cut : State → ℕ) {A : Type 0} (p : State → Reader A) (move : State → A → State) (keeps : Keeps cut move) (lawful : (st : State) → Owes far (p st)) (told : (st : State) → Told (p st)) where
  pub reads_by : (s : List ℕ) (st : State) → Way far (calls_to cut p move) busy s st
  unfolding calls_to
  reads_by s st = go (gated (length s) st)
    where
      go : Gated (length s) st → Way far (calls_to cut p move) busy s st
      go (bad f g) = unsound f (at_gate (reading cut p move) s st BAD_STATE g (omega arith))
      go (turn f w g) = early f w (at_gate (reading cut p move) s st OUT_OF_TURN g (omega arith))
      go (through f w g) =
          found far cut (calls_to cut p move) busy move keeps s st (p st) (lawful st) (told st) f w
          (λ t h. past_gate (reading cut p move) t st (gate_free (length t) st h w))
          (read_to (p st) s (cut st) st.place.0)
          refl

-- bytes behind have no say; or, of a header, only their number
pub reads : {A : Type 0} (cut : State → ℕ) (p : State → Reader A) (move : State → A → State) → Keeps cut move → ((st : State) → Lawful (p st)) → ((st : State) → Told (p st)) → (s : List ℕ) (st : State) → Way any (calls_to cut p move) busy s st
reads cut p move keeps lawful told = reads_by any cut p move keeps (λ st. lawful_reading (p st) (lawful st)) told

pub heads : {A : Type 0} (p : State → Reader A) (move : State → A → State) → Keeps cut_of move → ((st : State) → Fair (p st)) → ((st : State) → Told (p st)) → (s : List ℕ) (st : State) → Way no_shorter (calls p move) busy s st
heads p move keeps fair told = reads_by no_shorter cut_of p move keeps (λ st. fair_reading (p st) (fair st)) told

pub stays_keeps : {A : Type 0} → Keeps cut_of (stays {A = A})
stays_keeps = record { limits = λ st a. refl; depth = λ st a. refl; begins = λ st a h. h; cuts = λ st a. refl; room = λ st h. h }

-- what a call that reads answers, in full: from what stands at the state's place, and back
module _ {A : Type 0} (cut : State → ℕ) (p : State → Reader A) (move : State → A → State) (s : List ℕ) (st : State) where
  pub read_well : sound (length s) st ≡ true → busy st ≡ false → (a : A) (e : ℕ) → read_to (p st) s (cut st) st.place.0 ≡ got a e → calls_to cut p move s st ≡ answers a (moved_to (move st a) (place e))
  unfolding calls_to
  read_well f w a e r = past_gate (reading cut p move) s st (gate_free (length s) st f w) ∙ ap (from move st) r

  pub read_lost : sound (length s) st ≡ true → busy st ≡ false → (why : ℕ) → read_to (p st) s (cut st) st.place.0 ≡ refused why → calls_to cut p move s st ≡ declines why st
  unfolding calls_to
  read_lost f w why r = past_gate (reading cut p move) s st (gate_free (length s) st f w) ∙ ap (from move st) r

  pub record Landed : Type 0 where
    pub is_sound : sound (length s) st ≡ true
    pub free : busy st ≡ false
    pub value : A
    pub end : ℕ
    pub stood : read_to (p st) s (cut st) st.place.0 ≡ got value end
    pub is : calls_to cut p move s st ≡ answers value (moved_to (move st value) (place end))

  pub landed : Told (p st) → number_of (calls_to cut p move s st).said ≡ 0 → Landed
  unfolding calls_to
  landed told z = go (gated (length s) st)
    where
      told_no : (o : Outcome A) → calls_to cut p move s st ≡ o → 0 < number_of o.said → Landed
      told_no o e h = let n : number_of (calls_to cut p move s st).said ≡ number_of o.said = ap (λ (x : Outcome A). number_of x.said) e in absurd (omega arith)

      stands : sound (length s) st ≡ true → busy st ≡ false → (x : Found A) → read_to (p st) s (cut st) st.place.0 ≡ x → Landed
      stands f w (got a e) r = record { is_sound = f; free = w; value = a; end = e; stood = r; is = read_well f w a e r }
      stands f w (refused why) r =
          told_no (declines why st) (past_gate (reading cut p move) s st (gate_free (length s) st f w) ∙ ap (from move st) r) (cut_told (p st) told s (cut st) st.place.0 why r).some

      go : Gated (length s) st → Landed
      go (bad f g) = told_no (declines BAD_STATE st) (at_gate (reading cut p move) s st BAD_STATE g (omega arith)) (omega arith)
      go (turn f w g) = told_no (declines OUT_OF_TURN st) (at_gate (reading cut p move) s st OUT_OF_TURN g (omega arith)) (omega arith)
      go (through f w g) = stands f w (read_to (p st) s (cut st) st.place.0) refl

-- the bool call is never out of turn
abbrev pub never : State → Bool
never st = false

pub bool_ways : (s : List ℕ) (st : State) → Way any bools never s st
unfolding bools element
bool_ways s st = go (sound (length s) st) refl st.pending.0 refl
  where
    go : (b : Bool) → sound (length s) st ≡ b → (w : Awaited) → st.pending.0 ≡ w → Way any bools never s st
    go false f w g = unsound f (rw f)
    go true f W.Nothing g =
        found any cut_of bools never stays stays_keeps s st truth (lawful_reading truth truth_lawful) truth_told f refl (λ t h. rw (h, g)) (read_to truth s (cut_of st) st.place.0) refl
    go true f (W.Truth b) g =
        let q = is_sound (length s) st f in
        well f refl b (with_pending st W.Nothing) (omega arith) (sound_at (length s) st (with_pending st W.Nothing) f refl refl q.here q.after q.before)
        (rw (f, g))
        (λ t h w. let k = agree s t st st.place.0 f (omega arith) q.here h in rw (k, g))

-- a call that reads no byte: it stays where it is
module _ (behind : State → Outcome (Unit {0})) (late : State → Bool) (s : List ℕ) (st : State) (f : sound (length s) st ≡ true) (w : busy st ≡ false) where
  abbrev resting : List ℕ → State → Outcome (Unit {0})
  resting s st = behind st

  rests : late st ≡ false → (next : State) → behind st ≡ answers tt next → next.place.0 ≡ st.place.0 → sound (length s) next ≡ true → Way any (gatedly resting) late s st
  rests l next e z g =
      let q = is_sound (length s) st f in
      well f l tt next (omega arith) g
      (past_gate resting s st (gate_free (length s) st f w) ∙ e)
      (λ t h u.
      let k : sound (length t) st ≡ true = agree s t st st.place.0 f (omega arith) q.here (rw z at h) in
      past_gate resting t st (gate_free (length t) st k w) ∙ e)

  rests_no : late st ≡ false → (why : ℕ) → Shown why → behind st ≡ declines why st → Way any (gatedly resting) late s st
  rests_no l why h e = lost f l why h (past_gate resting s st (gate_free (length s) st f w) ∙ e)

abbrev entering : State → Outcome (Unit {0})
entering st = cond (leb st.limits.depth st.depth) (declines DEPTH st) (answers tt (entered st))

pub begin_ways : (s : List ℕ) (st : State) → Way any begins busy s st
unfolding begins
begin_ways s st = go (gated (length s) st)
  where
    inner : Sound (length s) st → st.depth < st.limits.depth → sound (length s) (entered st) ≡ true
    inner q d = sound_is (length s) (entered st) (record { limits = q.limits; here = q.here; deep = omega arith; after = q.after; before = q.before })

    deep : sound (length s) st ≡ true → busy st ≡ false → (b : Bool) → leb st.limits.depth st.depth ≡ b → Way any begins busy s st
    deep f w true d = rests_no entering busy s st f w w DEPTH (shown DEPTH refl) (rw d)
    deep f w false d = rests entering busy s st f w w (entered st) (rw d) refl (inner (is_sound (length s) st f) (leb-false _ _ d))

    go : Gated (length s) st → Way any begins busy s st
    go (bad f g) = unsound f (at_gate (λ s st. entering st) s st BAD_STATE g (omega arith))
    go (turn f w g) = early f w (at_gate (λ s st. entering st) s st OUT_OF_TURN g (omega arith))
    go (through f w g) = deep f w (leb st.limits.depth st.depth) refl

abbrev leaving : State → Outcome (Unit {0})
leaving st = cond (eqb st.depth 0) (declines OUT_OF_TURN st) (answers tt (left st))

-- "or a struct is ended at depth 0"
abbrev pub busy_or_out : State → Bool
busy_or_out st = busy st || eqb st.depth 0

pub end_ways : (s : List ℕ) (st : State) → Way any ends busy_or_out s st
unfolding ends
end_ways s st = go (gated (length s) st)
  where
    outer : Sound (length s) st → sound (length s) (left st) ≡ true
    outer q = sound_is (length s) (left st) (record { limits = q.limits; here = q.here; deep = omega (arith, q.deep); after = q.after; before = q.before })

    out : sound (length s) st ≡ true → busy st ≡ false → (b : Bool) → eqb st.depth 0 ≡ b → Way any ends busy_or_out s st
    out f w true d = early f (rw (w, d)) (past_gate (λ s st. leaving st) s st (gate_free (length s) st f w) ∙ rw d)
    out f w false d = rests leaving busy_or_out s st f w (rw (w, d)) (left st) (rw d) refl (outer (is_sound (length s) st f))

    go : Gated (length s) st → Way any ends busy_or_out s st
    go (bad f g) = unsound f (at_gate (λ s st. leaving st) s st BAD_STATE g (omega arith))
    go (turn f w g) = early f (rw w) (at_gate (λ s st. leaving st) s st OUT_OF_TURN g (omega arith))
    go (through f w g) = out f w (eqb st.depth 0) refl
