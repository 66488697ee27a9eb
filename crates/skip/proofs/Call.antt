-- Skip over the reader's state: what the call knows at each return, and that it succeeds exactly on a well-formed value. Assumes nothing.
use mathlib.Core.Path.{◌≡◌, refl, sym, ap, ◌∙◌}
use mathlib.Core.Logic.{◌↔◌}
use mathlib.Core.Bool.{Bool, true, false, cond}
use mathlib.Core.List.{List}
use Prim.Native.Nat.{ℕ, ◌≤◌, min}
use native.Mathlib.Omega.{arith}
use borrow.Author.Rules.{sfits_of}
use borrow.Author.Tests.{eq-eqb, ne_eqb}
use lib.ListN.{length, take}
use lib.Dec.{eqb, ltb}
use mir.Facts.{to_z-of_z}
use Rattle.types.specs.Refusals.{OUT_OF_TURN, BAD_STATE}
use Rattle.types.specs.Codes.{type_code}
use Rattle.types.specs.declared.Place.{Place}
use Rattle.types.specs.declared.TType.{TType}
use Rattle.heads.specs.Answers.{place}
use Rattle.heads.specs.Spells.{Formed}
use Rattle.input.specs.State.{State, sound, cut_of, waits, moved_to, with_pending}
use Rattle.input.specs.Outcome.{answers, declines}
use Rattle.input.specs.Answers.{as_done}
use Rattle.input.specs.declared.Awaited.{Awaited}
use Rattle.input.specs.declared.Awaited.TheVariants as W
use Rattle.input.specs.declared.ReadDone.{ReadDone}
use Rattle.input.specs.declared.DoneAnswer.TheVariants as N
use Rattle.skip.specs.Skip.{skip_of, skip_to, over, room_of, awaited, skips, skip_call, skipped_to}
use Rattle.skip.specs.declared.Skipped.{Skipped}
use Rattle.skip.specs.declared.Skipped.TheVariants.{Done, Refused}
use Rattle.skip.proofs.Cut.{skip_cut, cut_exact}
use Rattle.heads.specs.Reader.{missing}
use Rattle.input.proofs.Gate.{is_sound}
use Rattle.input.proofs.Cases.{cut_inside, cut_counts}

-- skip_on
module _ (s : List ℕ) (st : State) (kind : TType) (end : ℕ) (o : end ≡ min (cut_of st) (length s)) (r : Skipped) (f : r ≡ skip_of (take end s) st.limits (room_of st) kind st.place.0) where
  pub on_done : (e : Place) → r ≡ Done e → as_done (answers tt (moved_to st e)) ≡ as_done (over st (skip_to s (cut_of st) st.limits (room_of st) kind st.place.0))
  on_done e g = ap (λ (x : Skipped). as_done (over st x)) (skip_cut s (cut_of st) st.limits (room_of st) kind st.place.0 end o r (Done e) f g)

  pub on_refused : (why n : ℕ) → r ≡ Refused why → n ≡ missing (ltb end (length s)) why → as_done (declines n st) ≡ as_done (over st (skip_to s (cut_of st) st.limits (room_of st) kind st.place.0))
  on_refused why n g k = ap (λ (i : ℕ). as_done (declines i st)) k ∙ ap (λ (x : Skipped). as_done (over st x)) (skip_cut s (cut_of st) st.limits (room_of st) kind st.place.0 end o r (Refused why) f g)

pub ruleset on_cases = (on_done, on_refused, cut_inside, cut_counts, to_z-of_z, sfits_of)

-- skip_waiting
module _ (st : State) (kind : TType) (r : ℕ) (f : r ≡ type_code kind) where
  pub waiting_bool : r ≡ 1 → as_done (answers tt (with_pending st W.Nothing)) ≡ as_done (cond (eqb (type_code kind) 1) (answers tt (with_pending st W.Nothing)) (declines OUT_OF_TURN st))
  waiting_bool g = rw (eq-eqb (type_code kind) 1 (sym f ∙ g))

  pub waiting_other : (r ≡ 1 → ⊥) → as_done (declines OUT_OF_TURN st) ≡ as_done (cond (eqb (type_code kind) 1) (answers tt (with_pending st W.Nothing)) (declines OUT_OF_TURN st))
  waiting_other g = rw (ne_eqb (type_code kind) 1 (λ q. g (f ∙ q)))

pub ruleset waiting_cases = (waiting_bool, waiting_other, to_z-of_z, sfits_of)

-- skip_call
module _ (s : List ℕ) (st : State) (kind : TType) (b : Bool) (f : b ≡ sound (length s) st) where
  pub call_bad : b ≡ false → as_done (declines BAD_STATE st) ≡ skip_call s st kind
  unfolding skip_call skips
  call_bad g = rw (← f, g)

  module _ (g : b ≡ true) (w : Awaited) (e : st.pending.0 ≡ w) where
    by_waiting : as_done (awaited s st kind w) ≡ skip_call s st kind
    unfolding skip_call skips
    by_waiting = rw (← f, g, e)

pub call_on : (s : List ℕ) (st : State) (kind : TType) (b : Bool) (r : ReadDone) → b ≡ sound (length s) st → b ≡ true → st.pending.0 ≡ W.Nothing → r ≡ as_done (over st (skip_to s (cut_of st) st.limits (room_of st) kind st.place.0)) → r ≡ skip_call s st kind
call_on s st kind b r f g e q = q ∙ by_waiting s st kind b f g W.Nothing e

pub call_waiting : (s : List ℕ) (st : State) (kind : TType) (b : Bool) (v : Bool) (r : ReadDone) → b ≡ sound (length s) st → b ≡ true → st.pending.0 ≡ W.Truth v → r ≡ as_done (cond (eqb (type_code kind) 1) (answers tt (with_pending st W.Nothing)) (declines OUT_OF_TURN st)) → r ≡ skip_call s st kind
call_waiting s st kind b v r f g e q = q ∙ by_waiting s st kind b f g (W.Truth v) e

-- a sound state's depth is within its limit
pub within_depth : (len : ℕ) (st : State) (b : Bool) → b ≡ sound len st → b ≡ true → st.depth ≤ st.limits.depth
within_depth len st b f g = (is_sound len st (sym f ∙ g)).deep

pub ruleset call_cases = (call_bad, call_on, call_waiting, within_depth, to_z-of_z, sfits_of)

-- the call succeeds with the end e exactly where the bytes up to e are a well-formed value
to_end : (st : State) (x : Skipped) (e : ℕ) → as_done (over st x) ≡ skipped_to st e → x ≡ Done (place e)
to_end st (Done q) e f = let p : q ≡ place e = ap (λ (r : ReadDone). r.state.place) f in ap Done p
to_end st (Refused why) e f = let a : N.Refused why ≡ N.Done = ap (λ (r : ReadDone). r.answer) f in let z : ◌≡◌ {A = ℕ} 0 1 = cc in absurd (omega arith)

pub nothing_waits : (w : Awaited) → waits w ≡ false → w ≡ W.Nothing
nothing_waits W.Nothing e = refl
nothing_waits (W.Truth b) e = let z : ◌≡◌ {A = ℕ} 0 1 = cc in absurd (omega arith)

module _ (s : List ℕ) (st : State) (kind : TType) (r : ReadDone) (f : r ≡ skip_call s st kind) where
  pub call_exact : sound (length s) st ≡ true → waits st.pending.0 ≡ false → (e : ℕ) → (r ≡ skipped_to st e) ↔ (Formed s st.limits (room_of st) kind st.place.0 e × (e ≤ cut_of st))
  call_exact o w e =
      let b = is_sound (length s) st o in
      let c : as_done (over st (skip_to s (cut_of st) st.limits (room_of st) kind st.place.0)) ≡ skip_call s st kind = by_waiting s st kind true (sym o) refl W.Nothing (nothing_waits st.pending.0 w) in
      let x = cut_exact s (cut_of st) st.limits (room_of st) kind st.place.0 b.before b.here e in
      ((λ q. x.0 (to_end st _ e (c ∙ sym f ∙ q))), λ g. f ∙ sym c ∙ ap (λ (y : Skipped). as_done (over st y)) (x.1 g))
