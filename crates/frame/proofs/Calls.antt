-- The calls: how a frame begins and closes, and that what they answer is what the frame tells, however its bytes were cut. Assumes nothing.
use mathlib.Core.Path.{◌≡◌, refl, sym, ap, subst, ◌∙◌}
use mathlib.Core.Bool.{Bool, true, false}
use mathlib.Core.List.{List}
use Prim.Native.Nat.{ℕ, ◌+◌, ◌-◌, ◌≤◌, ◌<◌, min}
use native.Mathlib.Nat.{min-eq_left, min-eq_right}
use native.Mathlib.Omega.{arith}
use native.Mathlib.Decide.{dec_lt}
use borrow.Author.Tests.{lt-ltb, le-ltb}
use lib.Dec.{ltb}
use Rattle.types.specs.Refusals.{END}
use Rattle.types.specs.Limits.{in_range}
use Rattle.types.proofs.Limits.{ranged}
use Rattle.types.specs.declared.TConfiguration.{TConfiguration}
use Rattle.types.specs.declared.TType.TheVariants as T
use Rattle.frame.specs.declared.Level.{Level}
use Rattle.frame.specs.declared.Stand.{Stand}
use Rattle.frame.specs.declared.FrameSkip.{FrameSkip}
use Rattle.frame.specs.declared.FrameAnswer.{FrameAnswer}
use Rattle.frame.specs.declared.FrameAnswer.TheVariants as A
use Rattle.frame.specs.Frame.{cut_of}
use Rattle.frame.specs.Machine.{entered, running, start}
use Rattle.frame.specs.State.{held, rest_of, Stands, run_of, sound_of, answer_of, bad_state, stops_at, shut_of, close_of, Begins, Sound, Deep}
use Rattle.frame.proofs.Runs.{start_sound}
use Rattle.frame.proofs.Deep.{start_deep}

-- the cut: no later than the ceiling, and at it where announced bytes lie behind
pub cut_most : (lim : TConfiguration) (n : ℕ) → cut_of lim n ≤ lim.message
cut_most lim n = go (dec_lt n lim.message)
  where
    go : Dec (n < lim.message) → min lim.message n ≤ lim.message
    go (yes h) = let e : min lim.message n ≡ n = min-eq_right (omega arith) in omega arith
    go (no h) = let e : min lim.message n ≡ lim.message = min-eq_left (omega arith) in omega arith

pub cut_behind : (lim : TConfiguration) (n : ℕ) → (n - cut_of lim n ≡ 0 → ⊥) → cut_of lim n ≡ lim.message
cut_behind lim n z = go (dec_lt n lim.message)
  where
    go : Dec (n < lim.message) → cut_of lim n ≡ lim.message
    go (yes h) = let e : min lim.message n ≡ n = min-eq_right (omega arith) in absurd (z (omega arith))
    go (no h) = min-eq_left (omega arith)

pub more_behind : (lim : TConfiguration) (n : ℕ) → ltb 0 (n - cut_of lim n) ≡ ltb lim.message n
more_behind lim n = go (dec_lt lim.message n)
  where
    go : Dec (lim.message < n) → ltb 0 (n - cut_of lim n) ≡ ltb lim.message n
    go (yes h) = let e : min lim.message n ≡ lim.message = min-eq_left (omega arith) in lt-ltb 0 (n - cut_of lim n) (omega arith) ∙ sym (lt-ltb lim.message n h)
    go (no h) = let e : min lim.message n ≡ n = min-eq_right (omega arith) in le-ltb 0 (n - cut_of lim n) (omega arith) ∙ sym (le-ltb lim.message n (omega arith))

-- announce
module _ (lim : TConfiguration) (announced : ℕ) (ok : Bool) (e : ok ≡ in_range lim) where
  module _ (g : ok ≡ true) (c : ℕ) (k : c ≡ min (0 + lim.message) announced) (levels : List Level) (o : Stand) (s : Stands lim (entered lim c (held levels 0) T.Struct) o) where
    cut_is : c ≡ cut_of lim announced
    cut_is = let z : 0 + lim.message ≡ lim.message = omega arith in k ∙ ap (λ (m : ℕ). min m announced) z

    starts : rest_of o ≡ start lim c
    unfolding held
    starts = s.is

    pub begins_well : Begins lim announced (record { limits = lim; left = c; taken = 0; behind = announced - c; stand = o })
    unfolding run_of
    begins_well =
        record {
          limits = refl;
          behind = λ h. ap (λ (n : ℕ). announced - n) cut_is;
          run = λ h. ap (running c 0) starts ∙ ap (λ (n : ℕ). running n 0 (start lim n)) cut_is;
          stands =
              λ h.
              record {
                most = (ranged lim (sym e ∙ g)).deep;
                rows = s.rows;
                sum = let q = cut_is in omega arith;
                fits = let m = cut_most lim announced in let h = (ranged lim (sym e ∙ g)).heavy in omega arith;
                sound = subst (Sound c) (sym starts) (start_sound c lim);
                deep = subst (Deep lim) (sym starts) (start_deep lim c);
              };
        }

  pub announce_depth : ok ≡ true → lim.depth ≤ 64
  announce_depth g = (ranged lim (sym e ∙ g)).deep

  pub begins_not_lem : (f : FrameSkip) → f.limits ≡ lim → ok ≡ false → Begins lim announced f
  begins_not_lem f l g =
      record {
        limits = l;
        behind = λ h. let z : ◌≡◌ {A = ℕ} 0 1 = cc in absurd (omega arith);
        run = λ h. let z : ◌≡◌ {A = ℕ} 0 1 = cc in absurd (omega arith);
        stands = λ h. let z : ◌≡◌ {A = ℕ} 0 1 = cc in absurd (omega arith);
      }

pub ruleset announce_cases = (begins_well, begins_not_lem)

-- shut, close
pub shut_is : (f : FrameSkip) (o : Stand) → o ≡ stops_at f.stand.levels f.stand.depth f.stand.body END → record { limits = f.limits; left = f.left; taken = f.taken; behind = 0; stand = o } ≡ shut_of f
shut_is f o e = rw e

module _ (f : FrameSkip) (ok : Bool) (e : ok ≡ sound_of f) where
  pub close_bad : ok ≡ false → bad_state f ≡ close_of f
  unfolding close_of
  close_bad g = rw (← e, g)

  module _ (g : ok ≡ true) (a : FrameAnswer) (h : a ≡ answer_of f) where
    pub close_more : (q : FrameSkip) → a ≡ A.More → q ≡ shut_of f → record { answer = A.Refused END; state = q } ≡ close_of f
    unfolding close_of
    close_more q k i = rw (← e, g, ← h, k, i)

    pub close_done : (n : ℕ) → a ≡ A.Done n → record { answer = A.Done n; state = f } ≡ close_of f
    unfolding close_of
    close_done n k = rw (← e, g, ← h, k)

    pub close_refused : (why : ℕ) → a ≡ A.Refused why → record { answer = A.Refused why; state = f } ≡ close_of f
    unfolding close_of
    close_refused why k = rw (← e, g, ← h, k)

pub ruleset close_cases = (close_bad, close_more, close_done, close_refused)
