-- The laws of every call, for skip: a refused skip hands back the state as given; the bytes behind the end have no say; the next place lies in
-- the input; BAD STATE and OUT OF TURN are given exactly when the scope paper says. Assumes nothing.
use mathlib.Core.Path.{◌≡◌, refl, ap, ◌∙◌}
use mathlib.Core.Bool.{Bool, true, false, ◌&&◌, not}
use mathlib.Core.List.{List}
use Prim.Native.Nat.{ℕ, ◌≤◌}
use native.Mathlib.Omega.{arith}
use lib.ListN.{length, take}
use lib.Dec.{eqb}
use Rattle.types.specs.Codes.{type_code}
use Rattle.types.specs.declared.TType.{TType}
use Rattle.numbers.proofs.Found.{as_long}
use Rattle.input.specs.State.{State, sound, cut_of, waits, moved_to, with_pending}
use Rattle.input.specs.Answers.{as_done, number_done}
use Rattle.input.specs.declared.Awaited.{Awaited}
use Rattle.input.specs.declared.Awaited.TheVariants as W
use Rattle.input.proofs.Gate.{is_sound, sound_is}
use Rattle.input.proofs.Laws.{CallLaws, any, Way, unsound, early, lost, well, laws}
use Rattle.skip.specs.Skip.{skip_to, over, room_of, awaited, skips, skip_call}
use Rattle.skip.specs.declared.Skipped.{Skipped}
use Rattle.skip.specs.declared.Skipped.TheVariants.{Done, Refused}
use Rattle.skip.proofs.Cut.{to_whole, from_whole, cut_shown}
use Rattle.skip.proofs.Theorems.{skip_later, skip_inside, skip_behind}
use Rattle.input.proofs.Each.{num_done}

-- a bool waits, and the skip is not one of Bool
abbrev pub late : TType → State → Bool
late kind st = waits st.pending.0 && not (eqb (type_code kind) 1)

module _ (kind : TType) (s : List ℕ) (st : State) (o : sound (length s) st ≡ true) where
  -- another input that has the state's place
  sound_there : (t : List ℕ) → st.place.0 ≤ length t → sound (length t) st ≡ true
  sound_there t h = let g = is_sound (length s) st o in sound_is (length t) st (record { limits = g.limits; here = h; deep = g.deep; after = g.after; before = g.before })

  sound_next : (next : State) → next.limits ≡ st.limits → next.depth ≡ st.depth → next.place.0 ≤ length s → next.begin.0 ≤ next.place.0 → next.place.0 ≤ cut_of next → sound (length s) next ≡ true
  sound_next next l d h i j =
      let g = is_sound (length s) st o in
      sound_is (length s) next (record { limits = rw l g.limits; here = h; deep = rw (l, d) g.deep; after = i; before = j })

  goes : (t : List ℕ) (w : Awaited) → st.place.0 ≤ length t → st.pending.0 ≡ w → skips kind t st ≡ awaited t st kind w
  unfolding skips
  goes t w h e = rw (sound_there t h, e)

  at_place : st.place.0 ≤ length s
  at_place = (is_sound (length s) st o).here

  agree : (p : ℕ) (t : List ℕ) → st.place.0 ≤ p → p ≤ length s → take p t ≡ take p s → st.place.0 ≤ length t
  agree p t h i q = omega (arith, as_long p s t i q)

  taken_way : (b : Bool) → st.pending.0 ≡ W.Truth b → (k : Bool) → eqb (type_code kind) 1 ≡ k → Way any (skips kind) (late kind) s st
  taken_way b e true k =
      well o (rw (e, k)) tt (with_pending st W.Nothing) (omega arith) (sound_next (with_pending st W.Nothing) refl refl at_place (is_sound (length s) st o).after (is_sound (length s) st o).before)
      (goes s (W.Truth b) at_place e ∙ rw k)
      (λ t q u. goes t (W.Truth b) (agree st.place.0 t (omega arith) at_place q) e ∙ rw k)
  taken_way b e false k = early o (rw (e, k)) (goes s (W.Truth b) at_place e ∙ rw k)

  over_way : st.pending.0 ≡ W.Nothing → (x : Skipped) → skip_to s (cut_of st) st.limits (room_of st) kind st.place.0 ≡ x → Way any (skips kind) (late kind) s st
  over_way e (Done p) f =
      let g = is_sound (length s) st o in
      let w = to_whole s (cut_of st) st.limits (room_of st) kind st.place.0 g.before g.here p.0 f in
      let lo = skip_later s st.limits (room_of st) kind st.place.0 p w.0 in
      let hi = skip_inside s st.limits (room_of st) kind st.place.0 p w.0 in
      well o (rw e) tt (moved_to st p) (omega arith) (sound_next (moved_to st p) refl refl hi (omega (arith, g.after)) w.1)
      (goes s W.Nothing at_place e ∙ ap (over st) f)
      (λ t q u.
      let there = agree p.0 t (omega arith) hi q in
      goes t W.Nothing there e
      ∙ ap (over st) (from_whole t (cut_of st) st.limits (room_of st) kind st.place.0 g.before there p.0 (skip_behind s t st.limits (room_of st) kind st.place.0 p.0 q w.0) w.1))
  over_way e (Refused why) f = lost o (rw e) why (cut_shown s (cut_of st) st.limits (room_of st) kind st.place.0 why f) (goes s W.Nothing at_place e ∙ ap (over st) f)

  sound_way : (w : Awaited) → st.pending.0 ≡ w → Way any (skips kind) (late kind) s st
  sound_way W.Nothing e = over_way e _ refl
  sound_way (W.Truth b) e = taken_way b e _ refl

skip_ways : (kind : TType) (s : List ℕ) (st : State) → Way any (skips kind) (late kind) s st
unfolding skips
skip_ways kind s st = go (sound (length s) st) refl
  where
    go : (b : Bool) → sound (length s) st ≡ b → Way any (skips kind) (late kind) s st
    go true o = sound_way kind s st o st.pending.0 refl
    go false o = unsound o (rw o)

pub skip_laws : (kind : TType) → CallLaws any (λ s st. skip_call s st kind) (λ r. number_done r.answer) (λ r. r.state) (late kind)
unfolding skip_call
skip_laws kind = laws any (skips kind) (late kind) (skip_ways kind) as_done _ _ (λ o. num_done o.said) (λ o. refl)
