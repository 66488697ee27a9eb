-- What the answers over the reader's state say, of structs and of messages' headers. Assumes nothing.
use mathlib.Core.Path.{◌≡◌, refl, sym, ap, ap₂, subst, ◌∙◌}
use mathlib.Core.Bool.{Bool, true, false}
use mathlib.Core.Logic.{◌⊎◌, inl, inr}
use mathlib.Core.List.{List, [], ◌∷◌}
use Prim.Native.Nat.{ℕ, zero, suc, ◌+◌, ◌-◌, ◌*◌, ◌≤◌, ◌<◌}
use native.Mathlib.Omega.{arith}
use borrow.Author.Tests.{eq-eqb, ne_eqb, eqb-true, le-leb}
use lib.Dec.{eqb, ltb}
use lib.ListN.{length, take, drop, length-take, length-drop}
use lib.Seq.{take-take}
use Rattle.types.specs.Refusals.{END, OUT_OF_TURN, MESSAGE_SIZE}
use Rattle.types.specs.Codes.{type_code}
use Rattle.types.specs.declared.TType.TheVariants as T
use Rattle.types.specs.Value.{Tree}
use Rattle.numbers.specs.Varint.{Found, refused, placed}
use Rattle.numbers.proofs.Found.{take_drop}
use Rattle.heads.specs.Reader.{read_at, read_to, missing, missed}
use Rattle.heads.specs.Heads as h
use Rattle.heads.specs.Heads.{Message}
use Rattle.heads.specs.Answers.{place}
use Rattle.heads.specs.Spells.{Formed}
use Rattle.input.specs.State.{State, gate, cut_of, waits, moved_to}
use Rattle.input.specs.Outcome.{Outcome, answers, declines, cut_here, calls_to, from, anew}
use Rattle.input.specs.declared.Awaited.{Awaited}
use Rattle.input.specs.declared.Awaited.TheVariants as W
use Rattle.input.proofs.Gate.{Gated, bad, turn, through, gated, passes, top}
use Rattle.skip.specs.Skip.{passed, skip_of, skip_to, over, room_of, awaited, skips}
use Rattle.skip.specs.declared.Skipped.TheVariants.{Refused}
use Rattle.skip.proofs.Call.{nothing_waits}
use Rattle.skip.proofs.Theorems.{formed_behind}
use Rattle.faults.specs.Tracked.{Step, Tried, Tracked, found, broke, reach}
use Rattle.faults.specs.Heads.{message}
use Rattle.faults.specs.Value.{tracked}
use Rattle.faults.specs.Fault.{Fault, accepted, fault, fault_of, fault_at, cut_short, fault_to, guarded_fault, struct_fault, faults, header_fault, message_faults, verdict, why_call}
use Rattle.faults.specs.Breaks.{Breaks}
use Rattle.faults.specs.declared.Verdict.TheVariants as D
use Rattle.faults.proofs.Rule.{message_r}
use Rattle.faults.proofs.Finds.{forget, Finds, finds}
use Rattle.faults.proofs.Steady.{Steady, steady, in_rest}
use Rattle.faults.proofs.Paths.{steps, Near, near}
use Rattle.faults.proofs.First.{Ended, ended_end, Fits, FirstAt, First, first}
use Rattle.faults.proofs.Theorems.{tracked_value, tracked_steady, tracked_near, tracked_first, skip_ended, none_formed, none_formed_so_long}
use Rattle.faults.proofs.Reason.{breaks}
use Rattle.faults.proofs.Only.{only}

-- bytes that agree so far agree so far before a cut
swap : (a b : ℕ) (l : List ℕ) → take a (take b l) ≡ take b (take a l)
swap zero zero l = refl
swap zero (suc b) l = refl
swap (suc a) zero l = refl
swap (suc a) (suc b) [] = refl
swap (suc a) (suc b) (x ∷ l) = ap (λ (k : List ℕ). x ∷ k) (swap a b l)

pub cut_agree : (a c : ℕ) (s t : List ℕ) → take a t ≡ take a s → take a (take c t) ≡ take a (take c s)
cut_agree a c s t e = swap a c t ∙ ap (take c) e ∙ swap c a s

-- a fault up to a cut is a refusal, n bytes in
pub record BrokeTo {A : Type 0} (p : Tracked A) (s : List ℕ) (c at why off : ℕ) (path : List Step) : Type 0 where
  pub number : ℕ
  pub read : ℕ
  pub is : p (drop at (take c s)) ≡ broke number read path
  pub told : missing (ltb c (length s)) number ≡ why
  pub offset : off ≡ at + (read - 1)

not_one : {X : Type 0} {e why off : ℕ} {path : List Step} → accepted e ≡ fault why off path → X
not_one e = let z : ◌≡◌ {A = ℕ} 0 1 = cc in absurd (omega arith)

module _ {A : Type 0} (p : Tracked A) (s : List ℕ) (c at why off : ℕ) (path : List Step) (e : fault_to p s c at ≡ fault why off path) where
  pub broke_to : BrokeTo p s c at why off path
  unfolding fault_to
  broke_to = by (p (drop at (take c s))) refl e
    where
      by : (x : Tried A) → p (drop at (take c s)) ≡ x → cut_short (ltb c (length s)) (fault_of at x) ≡ fault why off path → BrokeTo p s c at why off path
      by (found a n) f g = not_one g
      by (broke w n q) f g =
          let x : missing (ltb c (length s)) w ≡ why = cc in
          let y : q ≡ path = cc in
          let z : at + (n - 1) ≡ off = cc in
          record { number = w; read = n; is = f ∙ ap (broke w n) y; told = x; offset = sym z }

  -- "other bytes behind the offset, with the length kept, change neither number, offset nor path"
  pub behind_to : ((bs cs : List ℕ) → length cs ≡ length bs → take (reach (p bs)) cs ≡ take (reach (p bs)) bs → p cs ≡ p bs) → (t : List ℕ) → take (suc off) t ≡ take (suc off) s → length t ≡ length s → fault_to p t c at ≡ fault why off path
  unfolding fault_to
  behind_to same t q l =
      let b = broke_to in
      let bs = drop at (take c s) in
      let cs = drop at (take c t) in
      let long : length cs ≡ length bs = omega (arith, l, length-drop at (take c s), length-drop at (take c t), length-take c s, length-take c t) in
      let agree : take (reach (p bs)) cs ≡ take (reach (p bs)) bs = subst (λ (x : Tried A). take (reach x) cs ≡ take (reach x) bs) (sym b.is) (so_far b.read b.offset) in
      ap₂ (λ (m : ℕ) (x : Tried A). cut_short (ltb c m) (fault_of at x)) l (same bs cs long agree) ∙ e
    where
      so_far : (n : ℕ) → off ≡ at + (n - 1) → take n (drop at (take c t)) ≡ take n (drop at (take c s))
      so_far zero f = refl
      so_far (suc n) f =
          let g : suc off ≡ at + suc n = omega (arith, f) in
          in_rest at (suc n) (take c s) (take c t) (subst (λ (z : ℕ). take z (take c t) ≡ take z (take c s)) g (cut_agree (suc off) c s t q))

  -- start ≤ offset ≤ length, or the cut where that comes first
  pub inside_to : ((bs : List ℕ) → FirstAt p bs) → at ≤ length (take c s) → (at ≤ off) × (off ≤ length (take c s))
  inside_to f k =
      let b = broke_to in
      by b (subst (Fits (length (drop at (take c s)))) b.is (f (drop at (take c s))).fits)
    where
      by : (b : BrokeTo p s c at why off path) → (b.read ≤ length (drop at (take c s))) ⊎ ((b.number ≡ END) × (b.read ≡ suc (length (drop at (take c s))))) → (at ≤ off) × (off ≤ length (take c s))
      by b (inl g) = (omega (arith, b.offset), omega (arith, b.offset, g, length-drop at (take c s)))
      by b (inr g) = (omega (arith, b.offset), omega (arith, b.offset, g.1, length-drop at (take c s)))

  -- cut before the offset, there is nothing wrong but the cut
  pub first_to : ((bs : List ℕ) → FirstAt p bs) → (j : ℕ) → at ≤ j → j < off → Ended (p (drop at (take j (take c s))))
  first_to f j k l =
      let b = broke_to in
      let bs = drop at (take c s) in
      let u : Ended (p (take (j - at) bs)) = (f bs).cut (j - at) (subst (λ (x : Tried A). j - at < reach x) (sym b.is) (omega (arith, b.offset, k, l))) in
      let g : at + (j - at) ≡ j = omega (arith, k) in
      subst (λ (cs : List ℕ). Ended (p cs)) (take_drop at (j - at) (take c s) ∙ ap (λ (z : ℕ). drop at (take z (take c s))) g) u

-- over the state: what is refused there is the state's, or the bytes'
pub data Whence (s : List ℕ) (st : State) (f : Fault) (why off : ℕ) (path : List Step) : Type 0 where
  state : (gate (length s) st ≡ 0 → ⊥) → why ≡ gate (length s) st → off ≡ st.place.0 → path ≡ [] → Whence s st f why off path
  bytes : gate (length s) st ≡ 0 → f ≡ fault why off path → Whence s st f why off path

whence : (s : List ℕ) (st : State) (f : Fault) (why off : ℕ) (path : List Step) → guarded_fault s st f ≡ fault why off path → Whence s st f why off path
whence s st f why off path e = by (eqb (gate (length s) st) 0) refl
  where
    by : (b : Bool) → eqb (gate (length s) st) 0 ≡ b → Whence s st f why off path
    by true g = bytes (eqb-true (gate (length s) st) 0 g) (rw g at e)
    by false g =
        let q : fault (gate (length s) st) st.place.0 [] ≡ fault why off path = rw g at e in
        let x : gate (length s) st ≡ why = cc in
        let y : st.place.0 ≡ off = cc in
        let z : [] ≡ path = cc in
        state (λ k. not_zero (gate (length s) st) g k) (sym x) (sym y) (sym z)
      where
        not_zero : (n : ℕ) → eqb n 0 ≡ false → n ≡ 0 → ⊥
        not_zero n u v = let w : eqb n 0 ≡ true = eq-eqb n 0 v in let o : true ≡ false = sym w ∙ u in let i : ◌≡◌ {A = ℕ} 0 1 = cc in omega arith

-- a struct
module _ (s : List ℕ) (st : State) where
  abbrev p : Tracked Tree
  p = tracked st.limits (room_of st) T.Struct

  abbrev at : ℕ
  at = st.place.0

  -- what a fault says of skip's call
  abbrev pub over_of : Fault → Outcome (Unit {0})
  over_of (accepted e) = answers tt (moved_to st (place e))
  over_of (fault why off path) = declines why st

  over_of_lem : (m : Bool) (x : Tried Tree) → over_of (cut_short m (fault_of at x)) ≡ over st (passed (missed m (placed at (forget x))))
  over_of_lem m (found a n) = refl
  over_of_lem m (broke why n path) = refl

  waiting : (w : Awaited) → waits w ≡ true → awaited s st T.Struct w ≡ declines OUT_OF_TURN st
  unfolding type_code
  waiting W.Nothing e = let z : ◌≡◌ {A = ℕ} 0 1 = cc in absurd (omega arith)
  waiting (W.Truth b) e = refl

  -- "the number is skip's"; "On a struct that skip accepts it says so", with the place behind it: one equation for both, in every state
  pub faults_skip : over_of (faults s st) ≡ skips T.Struct s st
  unfolding faults struct_fault fault_to skips skip_to read_to read_at
  faults_skip = by (gated (length s) st)
    where
      by : Gated (length s) st → over_of (faults s st) ≡ skips T.Struct s st
      by (bad f g) = rw (f, g)
      by (turn f w g) = rw (f, g) (sym (waiting st.pending.0 w))
      by (through f w g) =
          rw (f, g)
          (over_of_lem (ltb (cut_of st) (length s)) (p (drop at (take (cut_of st) s)))
          ∙ ap (λ (x : Found Tree). over st (passed (missed (ltb (cut_of st) (length s)) (placed at x)))) (tracked_value st.limits (room_of st) T.Struct (drop at (take (cut_of st) s)))
          ∙ sym (ap (awaited s st T.Struct) (nothing_waits st.pending.0 w)))

  -- the path has at most 64 steps
  pub faults_few : (why off : ℕ) (path : List Step) → faults s st ≡ fault why off path → length path ≤ 64
  unfolding faults struct_fault
  faults_few why off path e = by (whence s st (struct_fault s st) why off path e)
    where
      by : Whence s st (struct_fault s st) why off path → length path ≤ 64
      by (state n a b c) = rw c (omega arith)
      by (bytes g f) =
          let b = broke_to p s (cut_of st) at why off path f in
          let k : length path ≤ room_of st = subst (λ (x : Tried Tree). steps x ≤ room_of st) b.is (tracked_near st.limits (room_of st) T.Struct (drop at (take (cut_of st) s))) in
          omega (arith, k, top (length s) st (passes (length s) st (gate (length s) st) refl g))

  module _ (why off : ℕ) (path : List Step) (e : faults s st ≡ fault why off path) where
    -- "other bytes behind the offset, with the length kept, change neither number, offset nor path"
    pub faults_behind : (t : List ℕ) → take (suc off) t ≡ take (suc off) s → length t ≡ length s → faults t st ≡ fault why off path
    unfolding faults struct_fault
    faults_behind t q l = by (whence s st (struct_fault s st) why off path e)
      where
        by : Whence s st (struct_fault s st) why off path → faults t st ≡ fault why off path
        by (state n a b c) = rw (l, ne_eqb (gate (length s) st) 0 n, a, b, c)
        by (bytes g f) =
            rw (l, eq-eqb (gate (length s) st) 0 g)
            (behind_to p s (cut_of st) at why off path f (tracked_steady st.limits (room_of st) T.Struct) t q l)

    -- where the state is sound and no bool waits, the offset lies between the start and the input's end, or the cut where that comes first
    module _ (g : gate (length s) st ≡ 0) where
      struct_is : struct_fault s st ≡ fault why off path
      unfolding faults
      struct_is = rw (eq-eqb (gate (length s) st) 0 g) at e

      before_cut : at ≤ length (take (cut_of st) s)
      before_cut = let o = passes (length s) st (gate (length s) st) refl g in omega (arith, o.here, o.before, length-take (cut_of st) s)

      pub faults_inside : (at ≤ off) × (off ≤ length s) × (off ≤ cut_of st)
      unfolding struct_fault
      faults_inside =
          let i = inside_to p s (cut_of st) at why off path struct_is (tracked_first st.limits (room_of st) T.Struct) before_cut in
          (i.0, omega (arith, i.1, length-take (cut_of st) s), omega (arith, i.1, length-take (cut_of st) s))

      -- cut anywhere before the offset, skip's answer is END and no other
      pub faults_first : (j : ℕ) → at ≤ j → j < off → skip_of (take j s) st.limits (room_of st) T.Struct at ≡ Refused END
      unfolding struct_fault
      faults_first j k l =
          let u = first_to p s (cut_of st) at why off path struct_is (tracked_first st.limits (room_of st) T.Struct) j k l in
          skip_ended s st.limits (room_of st) T.Struct at (take j s)
          (subst (λ (cs : List ℕ). Ended (p (drop at cs))) (take-take j (cut_of st) s (omega (arith, l, faults_inside.2))) u)

      -- the fault of the bytes before the cut
      pub record Within : Type 0 where
        pub number : ℕ
        pub is : fault_at (take (cut_of st) s) st.limits (room_of st) T.Struct at ≡ fault number off path
        pub told : missing (ltb (cut_of st) (length s)) number ≡ why

      pub within_cut : Within
      unfolding struct_fault fault_at
      within_cut =
          let b = broke_to p s (cut_of st) at why off path struct_is in
          record { number = b.number; is = ap (fault_of at) b.is ∙ ap (λ (o : ℕ). fault b.number o path) (sym b.offset); told = b.told }

      -- "the true reason": no well-formed value that ends by the cut agrees with the input up to the offset; where bytes are wanting, none in an input of its length
      module _ (t : List ℕ) (q : take (suc off) t ≡ take (suc off) s) where
        before_too : (d : ℕ) → d ≤ cut_of st → Formed t st.limits (room_of st) T.Struct at d → Formed (take (cut_of st) t) st.limits (room_of st) T.Struct at d
        before_too d k f = formed_behind t (take (cut_of st) t) st.limits (room_of st) T.Struct at d (take-take d (cut_of st) t k) f

        pub faults_none : (why ≡ END → ⊥) → (why ≡ MESSAGE_SIZE → ⊥) → (d : ℕ) → d ≤ cut_of st → Formed t st.limits (room_of st) T.Struct at d → ⊥
        faults_none n m d k f =
            let w = within_cut in
            none_formed (take (cut_of st) s) (take (cut_of st) t) st.limits (room_of st) T.Struct at w.number off path w.is (cut_agree (suc off) (cut_of st) s t q)
            (λ z. by (ltb (cut_of st) (length s)) (ap (missing (ltb (cut_of st) (length s))) (sym z) ∙ w.told)) d (before_too d k f)
          where
            by : (b : Bool) → missing b END ≡ why → ⊥
            by true z = m (sym z)
            by false z = n (sym z)

        pub faults_none_so_long : length t ≡ length s → (d : ℕ) → d ≤ cut_of st → Formed t st.limits (room_of st) T.Struct at d → ⊥
        faults_none_so_long l d k f =
            let w = within_cut in
            none_formed_so_long (take (cut_of st) s) (take (cut_of st) t) st.limits (room_of st) T.Struct at w.number off path w.is (cut_agree (suc off) (cut_of st) s t q)
            (omega (arith, l, length-take (cut_of st) s, length-take (cut_of st) t)) d (before_too d k f)

      -- the path leads to where the value first breaks, n bytes in, the last of them at the offset
      pub record Leads : Type 0 where
        pub number : ℕ
        pub read : ℕ
        pub way : Breaks path st.limits (room_of st) T.Struct (drop at (take (cut_of st) s)) number read
        pub told : missing (ltb (cut_of st) (length s)) number ≡ why
        pub offset : off ≡ at + (read - 1)

      pub faults_breaks : Leads
      unfolding struct_fault
      faults_breaks =
          let b = broke_to p s (cut_of st) at why off path struct_is in
          record {
            number = b.number;
            read = b.read;
            way = breaks path st.limits (room_of st) T.Struct (drop at (take (cut_of st) s)) b.number b.read b.is;
            told = b.told;
            offset = b.offset;
          }

    -- a row of 128 numbers is always enough
    pub row_enough : (n : ℕ) → 128 ≤ n → why_call n s st ≡ D.Refused why off (length path)
    unfolding why_call
    row_enough n h = ap (verdict n at) e ∙ rw (le-leb (2 * length path) n (omega (arith, faults_few why off path e)))

  -- and nothing else does: what breaks so, in a sound state where no bool waits, is told so
  pub faults_only : gate (length s) st ≡ 0 → (path : List Step) (why n : ℕ) → Breaks path st.limits (room_of st) T.Struct (drop at (take (cut_of st) s)) why n → (off : ℕ) × (faults s st ≡ fault (missing (ltb (cut_of st) (length s)) why) off path)
  unfolding faults struct_fault fault_to
  faults_only g path why n b =
      let x = only path st.limits (room_of st) T.Struct (drop at (take (cut_of st) s)) why n b in
      (at + (x.read - 1), rw (eq-eqb (gate (length s) st) 0 g) (ap (λ (y : Tried Tree). cut_short (ltb (cut_of st) (length s)) (fault_of at y)) x.is))

-- a message's header: the number is the header reader's, and the same holds of its offset
module _ (s : List ℕ) (st : State) where
  abbrev header : Tracked Message
  header = message st.limits

  -- what a fault says of the call that reads the header: its number, or the place behind the header
  abbrev pub end_of : Outcome Message → Fault → Type 0
  end_of o (accepted e) = o.state.place.0 ≡ e
  end_of o (fault why off path) = (o ≡ declines why st) × (path ≡ [])

  header_of_lem : (m : Bool) (x : Tried Message) → steps x ≤ 0 → end_of (from anew st (missed m (placed st.place.0 (forget x)))) (cut_short m (fault_of st.place.0 x))
  header_of_lem m (found a n) l = refl
  header_of_lem m (broke why n []) l = (refl, refl)
  header_of_lem m (broke why n (i ∷ path)) l = absurd (omega arith)

  pub header_number : end_of (calls_to cut_here (λ u. h.message u.limits) anew s st) (message_faults s st)
  unfolding message_faults header_fault fault_to calls_to read_to read_at Finds Near
  header_number = by (eqb (gate (length s) st) 0) refl
    where
      by : (b : Bool) → eqb (gate (length s) st) 0 ≡ b → end_of (calls_to cut_here (λ u. h.message u.limits) anew s st) (message_faults s st)
      by true g =
          rw g
          (subst (λ (y : Found Message). end_of (from anew st (missed (ltb (cut_here st) (length s)) (placed st.place.0 y))) (cut_short (ltb (cut_here st) (length s)) (fault_of st.place.0 (header (drop st.place.0 (take (cut_here st) s))))))
          (message_r Finds finds 0 st.limits (drop st.place.0 (take (cut_here st) s)))
          (header_of_lem (ltb (cut_here st) (length s)) (header (drop st.place.0 (take (cut_here st) s))) (message_r Near near 0 st.limits (drop st.place.0 (take (cut_here st) s)))))
      by false g = rw g (refl, refl)

  module _ (why off : ℕ) (path : List Step) (e : message_faults s st ≡ fault why off path) where
    pub header_behind : (t : List ℕ) → take (suc off) t ≡ take (suc off) s → length t ≡ length s → message_faults t st ≡ fault why off path
    unfolding message_faults header_fault Steady
    header_behind t q l = by (whence s st (header_fault s st) why off path e)
      where
        by : Whence s st (header_fault s st) why off path → message_faults t st ≡ fault why off path
        by (state n a b c) = rw (l, ne_eqb (gate (length s) st) 0 n, a, b, c)
        by (bytes g f) =
            rw (l, eq-eqb (gate (length s) st) 0 g)
            (behind_to header s (cut_here st) st.place.0 why off path f (message_r Steady steady 0 st.limits) t q l)

    module _ (g : gate (length s) st ≡ 0) where
      header_is : header_fault s st ≡ fault why off path
      unfolding message_faults
      header_is = rw (eq-eqb (gate (length s) st) 0 g) at e

      pub header_inside : (st.place.0 ≤ off) × (off ≤ length s) × (off ≤ cut_here st)
      unfolding header_fault First
      header_inside =
          let o = passes (length s) st (gate (length s) st) refl g in
          let i = inside_to header s (cut_here st) st.place.0 why off path header_is (message_r First first 0 st.limits) (omega (arith, o.here, length-take (cut_here st) s)) in
          (i.0, omega (arith, i.1, length-take (cut_here st) s), omega (arith, i.1, length-take (cut_here st) s))

      -- cut anywhere before the offset, there is nothing wrong but the cut
      pub header_first : (j : ℕ) → st.place.0 ≤ j → j < off → read_at (h.message st.limits) (take j s) st.place.0 ≡ refused END
      unfolding header_fault First Finds read_at
      header_first j k l =
          let u = first_to header s (cut_here st) st.place.0 why off path header_is (message_r First first 0 st.limits) j k l in
          let v = subst (λ (cs : List ℕ). Ended (header (drop st.place.0 cs))) (take-take j (cut_here st) s (omega (arith, l, header_inside.2))) u in
          ap (placed st.place.0) (sym (message_r Finds finds 0 st.limits (drop st.place.0 (take j s))) ∙ ended_end (header (drop st.place.0 (take j s))) v)
