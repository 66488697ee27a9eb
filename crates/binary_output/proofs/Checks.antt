-- What is refused before a byte is written: a state, a struct at its depth. Assumes nothing.
use mathlib.Core.Path.{◌≡◌, refl, ap, ◌∙◌}
use mathlib.Core.Bool.{Bool, true, false, cond, ◌&&◌}
use Prim.Native.Nat.{ℕ, zero, suc, ◌+◌, ◌-◌, ◌≤◌, ◌<◌}
use native.Mathlib.Omega.{arith}
use borrow.Author.Tests.{eq-eqb, ne_eqb, le-leb, lt-leb, leb-true, leb-false, eqb-false}
use lib.Dec.{leb, eqb}
use Rattle.types.specs.Refusals.{DEPTH, OUT_OF_TURN, BAD_STATE, MESSAGE_SIZE}
use Rattle.types.specs.Limits.{in_range}
use Rattle.types.proofs.Limits.{Ranged, ranged, in_range_lem}
use Rattle.binary_output.specs.State.{State, unsound, cut_of, left_of}
use Rattle.puts.specs.Wrong.{or_else}
use Rattle.binary_output.specs.Calls.{size_wrong, begin_wrong, end_wrong}

-- the state
pub record Sound (len : ℕ) (st : State) : Type 0 where
  pub limits : Ranged st.limits
  pub here : st.place.0 ≤ len
  pub deep : st.depth ≤ st.limits.depth
  pub after : st.begin.0 ≤ st.place.0
  pub before : st.place.0 ≤ cut_of st

each : (a b c d f : Bool) → cond (a && b && c && d && f) 0 BAD_STATE ≡ 0 → (a ≡ true) × (b ≡ true) × (c ≡ true) × (d ≡ true) × (f ≡ true)
each true true true true true e = (refl, refl, refl, refl, refl)
each true true true true false e = absurd (omega arith)
each true true true false f e = absurd (omega arith)
each true true false d f e = absurd (omega arith)
each true false c d f e = absurd (omega arith)
each false b c d f e = absurd (omega arith)

pub sound : (len : ℕ) (st : State) → unsound len st ≡ 0 → Sound len st
unfolding unsound
sound len st e =
    let b = each (in_range st.limits) (leb st.place.0 len) (leb st.depth st.limits.depth) (leb st.begin.0 st.place.0) (leb st.place.0 (cut_of st)) e in
    record { limits = ranged st.limits b.0; here = leb-true _ _ b.1; deep = leb-true _ _ b.2; after = leb-true _ _ b.3; before = leb-true _ _ b.4 }

pub sound_is : (len : ℕ) (st : State) → Sound len st → unsound len st ≡ 0
unfolding unsound
sound_is len st s = rw (in_range_lem st.limits s.limits, le-leb _ len s.here, le-leb st.depth _ s.deep, le-leb st.begin.0 _ s.after, le-leb _ (cut_of st) s.before)

module _ (len : ℕ) (st : State) (ok : Bool) (e : ok ≡ in_range st.limits) where
  pub state_limits : ok ≡ false → BAD_STATE ≡ unsound len st
  unfolding unsound
  state_limits f = rw (← e, f)

  module _ (t : ok ≡ true) where
    pub state_place : len < st.place.0 → BAD_STATE ≡ unsound len st
    unfolding unsound
    state_place h = rw (← e, t, lt-leb _ _ h)

    module _ (h : st.place.0 ≤ len) where
      pub state_depth : st.limits.depth < st.depth → BAD_STATE ≡ unsound len st
      unfolding unsound
      state_depth k = rw (← e, t, le-leb _ _ h, lt-leb _ _ k)

      module _ (k : st.depth ≤ st.limits.depth) where
        pub state_early : st.place.0 < st.begin.0 → BAD_STATE ≡ unsound len st
        unfolding unsound
        state_early i = rw (← e, t, le-leb _ _ h, le-leb _ _ k, lt-leb st.begin.0 _ i)

        module _ (i : st.begin.0 ≤ st.place.0) where
          pub state_over : st.limits.message < st.place.0 - st.begin.0 → BAD_STATE ≡ unsound len st
          unfolding unsound
          state_over j = rw (← e, t, le-leb _ _ h, le-leb _ _ k, le-leb st.begin.0 _ i, lt-leb st.place.0 (cut_of st) (omega arith))

          pub state_sound : st.place.0 - st.begin.0 ≤ st.limits.message → 0 ≡ unsound len st
          unfolding unsound
          state_sound j = rw (← e, t, le-leb _ _ h, le-leb _ _ k, le-leb st.begin.0 _ i, le-leb st.place.0 (cut_of st) (omega arith))

pub ruleset unsound_cases = (state_limits, state_place, state_depth, state_early, state_over, state_sound)

-- left, over
module _ (st : State) where
  pub left_early : st.place.0 < st.begin.0 → st.limits.message ≡ left_of st
  left_early h = omega arith

  pub left_none : st.begin.0 ≤ st.place.0 → st.limits.message < st.place.0 - st.begin.0 → 0 ≡ left_of st
  left_none h k = omega arith

  pub left_some : st.begin.0 ≤ st.place.0 → st.place.0 - st.begin.0 ≤ st.limits.message → st.limits.message - (st.place.0 - st.begin.0) ≡ left_of st
  left_some h k = refl

  module _ (wrong head body : ℕ) where
    pub over_wrong : (wrong ≡ 0 → ⊥) → wrong ≡ or_else wrong (size_wrong st (head + body))
    unfolding or_else
    over_wrong h = rw (ne_eqb wrong 0 h)

    module _ (h : wrong ≡ 0) (l : ℕ) (e : l ≡ left_of st) where
      pub over_head : l < head → MESSAGE_SIZE ≡ or_else wrong (size_wrong st (head + body))
      unfolding or_else size_wrong
      over_head k = rw (eq-eqb wrong 0 h, lt-leb (head + body) (left_of st) (omega arith))

      pub over_body : head ≤ l → l - head < body → MESSAGE_SIZE ≡ or_else wrong (size_wrong st (head + body))
      unfolding or_else size_wrong
      over_body i k = rw (eq-eqb wrong 0 h, lt-leb (head + body) (left_of st) (omega arith))

      pub over_none : head ≤ l → body ≤ l - head → 0 ≡ or_else wrong (size_wrong st (head + body))
      unfolding or_else size_wrong
      over_none i k = rw (eq-eqb wrong 0 h, le-leb (head + body) (left_of st) (omega arith))

pub ruleset left_cases = (left_early, left_none, left_some)

pub ruleset over_cases = (over_wrong, over_head, over_body, over_none)

-- what the ceiling lets through ends no later than the place where the message must have ended
pub within_cut : (st : State) → st.begin.0 ≤ st.place.0 → st.place.0 ≤ cut_of st → (n : ℕ) → size_wrong st n ≡ 0 → st.place.0 + n ≤ cut_of st
unfolding size_wrong
within_cut st a b n e = go (leb n (left_of st)) refl e
  where
    go : (x : Bool) → leb n (left_of st) ≡ x → cond x 0 MESSAGE_SIZE ≡ 0 → st.place.0 + n ≤ cut_of st
    go true f g = omega (arith, leb-true n (left_of st) f)
    go false f g = absurd (omega arith)

-- and back: what ends no later is let through
pub cut_lets : (st : State) → st.begin.0 ≤ st.place.0 → (n : ℕ) → st.place.0 + n ≤ cut_of st → size_wrong st n ≡ 0
unfolding size_wrong
cut_lets st a n h = rw (le-leb n (left_of st) (omega arith))

-- what stops a call
module _ (len : ℕ) (st : State) (wrong n : ℕ) (e : n ≡ unsound len st) where
  pub stop_state : (n ≡ 0 → ⊥) → n ≡ or_else (unsound len st) wrong
  unfolding or_else
  stop_state h = rw (← e, ne_eqb n 0 h)

  pub stop_wrong : n ≡ 0 → wrong ≡ or_else (unsound len st) wrong
  unfolding or_else
  stop_wrong h = rw (← e, eq-eqb n 0 h)

pub ruleset stop_cases = (stop_state, stop_wrong)

-- nothing is always let through
pub size_none : (st : State) → size_wrong st 0 ≡ 0
unfolding size_wrong
size_none st = rw (le-leb 0 (left_of st) (omega arith))

or_none : (a : ℕ) → or_else a 0 ≡ a
unfolding or_else
or_none zero = refl
or_none (suc a) = rw (ne_eqb (suc a) 0 (λ q. omega arith))

pub unsized : (st : State) (wrong : ℕ) → or_else wrong (size_wrong st 0) ≡ wrong
unsized st wrong = ap (or_else wrong) (size_none st) ∙ or_none wrong

-- structs
module _ (st : State) where
  pub begin_deep : st.limits.depth ≤ st.depth → DEPTH ≡ begin_wrong st
  unfolding begin_wrong
  begin_deep h = rw (le-leb _ _ h)

  pub begin_well : st.depth < st.limits.depth → 0 ≡ begin_wrong st
  unfolding begin_wrong
  begin_well h = rw (lt-leb _ _ h)

  pub end_out : st.depth ≡ 0 → OUT_OF_TURN ≡ end_wrong st
  unfolding end_wrong
  end_out h = rw (eq-eqb _ 0 h)

  pub end_well : (st.depth ≡ 0 → ⊥) → 0 ≡ end_wrong st
  unfolding end_wrong
  end_well h = rw (ne_eqb _ 0 h)

pub ruleset begin_cases = (begin_deep, begin_well)

pub ruleset end_cases = (end_out, end_well)

-- what a begin or an end that passes tells of the depth
deeper : (b : Bool) → cond b DEPTH 0 ≡ 0 → b ≡ false
deeper true e = absurd (omega arith)
deeper false e = refl

above_zero : (b : Bool) → cond b OUT_OF_TURN 0 ≡ 0 → b ≡ false
above_zero true e = absurd (omega arith)
above_zero false e = refl

pub begin_fits : (st : State) → begin_wrong st ≡ 0 → st.depth < st.limits.depth
unfolding begin_wrong
begin_fits st e = leb-false _ _ (deeper (leb st.limits.depth st.depth) e)

pub end_fits : (st : State) → end_wrong st ≡ 0 → 1 ≤ st.depth
unfolding end_wrong
end_fits st e = let z = eqb-false st.depth 0 (above_zero (eqb st.depth 0) e) in omega arith
