-- What a state that passes the first check is known to be. Assumes nothing.
use mathlib.Core.Path.{◌≡◌, refl}
use mathlib.Core.Bool.{Bool, true, false, ◌&&◌}
use Prim.Native.Nat.{ℕ, ◌≤◌}
use native.Mathlib.Omega.{arith}
use borrow.Author.Tests.{leb-true, le-leb}
use lib.Dec.{leb}
use Rattle.types.specs.Refusals.{BAD_STATE}
use Rattle.types.specs.Limits.{in_range}
use Rattle.types.specs.declared.TConfiguration.{TConfiguration}
use Rattle.types.specs.declared.Place.{Place}
use Rattle.types.proofs.Limits.{both}
use Rattle.heads.specs.Answers.{place}
use Rattle.binary_input.specs.State.{State, fresh, fresh_at, sound, cut_of, gate}

pub record Sound (len : ℕ) (st : State) : Type 0 where
  pub limits : in_range st.limits ≡ true
  pub here : st.place.0 ≤ len
  pub deep : st.depth ≤ st.limits.depth
  pub after : st.begin.0 ≤ st.place.0
  pub before : st.place.0 ≤ cut_of st

pub is_sound : (len : ℕ) (st : State) → sound len st ≡ true → Sound len st
unfolding sound
is_sound len st e =
    let y = both (in_range st.limits && leb st.place.0 len && leb st.depth st.limits.depth && leb st.begin.0 st.place.0) (leb st.place.0 (cut_of st)) e in
    let x = both (in_range st.limits && leb st.place.0 len && leb st.depth st.limits.depth) (leb st.begin.0 st.place.0) y.0 in
    let r = both (in_range st.limits && leb st.place.0 len) (leb st.depth st.limits.depth) x.0 in
    let q = both (in_range st.limits) (leb st.place.0 len) r.0 in
    record { limits = q.0; here = leb-true _ _ q.1; deep = leb-true _ _ r.1; after = leb-true _ _ x.1; before = leb-true _ _ y.1 }

pub sound_is : (len : ℕ) (st : State) → Sound len st → sound len st ≡ true
unfolding sound
sound_is len st g = rw (g.limits, le-leb _ len g.here, le-leb st.depth _ g.deep, le-leb st.begin.0 _ g.after, le-leb _ (cut_of st) g.before)

-- the two ways through the gate
pub data Gated (len : ℕ) (st : State) : Type 0 where
  bad : sound len st ≡ false → gate len st ≡ BAD_STATE → Gated len st
  through : sound len st ≡ true → gate len st ≡ 0 → Gated len st

pub gated : (len : ℕ) (st : State) → Gated len st
unfolding gate
gated len st = go (sound len st) refl
  where
    go : (b : Bool) → sound len st ≡ b → Gated len st
    go true f = through f (rw f)
    go false f = bad f (rw f)

pub gate_free : (len : ℕ) (st : State) → sound len st ≡ true → gate len st ≡ 0
unfolding gate
gate_free len st f = rw f

pub passes : (len : ℕ) (st : State) (num : ℕ) → num ≡ gate len st → num ≡ 0 → Sound len st
passes len st num e z = go (gated len st)
  where
    go : Gated len st → Sound len st
    go (bad f g) = absurd (omega arith)
    go (through f g) = is_sound len st f

-- a new reader is sound for every input that has its place, where its limits are in range
pub made_sound : (len : ℕ) (at : Place) (lim : TConfiguration) → in_range lim ≡ true → at.0 ≤ len → sound len (fresh_at at lim) ≡ true
made_sound len at lim h k = sound_is len (fresh_at at lim) (record { limits = h; here = k; deep = omega arith; after = omega arith; before = omega arith })

pub fresh_sound : (len : ℕ) (lim : TConfiguration) → in_range lim ≡ true → sound len (fresh lim) ≡ true
unfolding fresh
fresh_sound len lim h = made_sound len (place 0) lim h (omega arith)
