-- Passing over what a reader reads. Assumes nothing.
use mathlib.Core.Path.{◌≡◌, refl, sym, ap, ◌∙◌}
use mathlib.Core.Bool.{Bool, true, false}
use mathlib.Core.List.{List}
use Prim.Native.Nat.{ℕ, suc, ◌-◌, ◌<◌}
use native.Mathlib.Omega.{arith}
use Rattle.types.specs.declared.Place.{Place}
use Rattle.numbers.specs.Varint.{Found, got, refused}
use Rattle.heads.specs.Reader.{Reader, done, refuse, and_then, provided, read_at}
use Rattle.heads.specs.Answers.{place}
use Rattle.heads.proofs.Steps.{step, stop_at, done_at, refuse_at, provided_yes, provided_no}
use Rattle.skip.specs.Skip.{passed, past}
use Rattle.skip.specs.declared.Skipped.{Skipped}
use Rattle.skip.specs.declared.Skipped.TheVariants.{Done, Refused}

-- two answers are never one
pub done_refused : {X : Type 0} {p : Place} {why : ℕ} → Done p ≡ Refused why → X
done_refused e = let z : ◌≡◌ {A = ℕ} 0 1 = cc in absurd (omega arith)

-- what was passed over was read
pub was_read : {A : Type 0} (x : Found A) (p : Place) → passed x ≡ Done p → (a : A) × (x ≡ got a p.0)
was_read (got a e) p f = let q : place e ≡ p = cc in (a, ap (got a) (ap (λ (y : Place). y.0) q))
was_read (refused why) p f = done_refused (sym f)

pub was_refused : {A : Type 0} (x : Found A) (why : ℕ) → passed x ≡ Refused why → x ≡ refused why
was_refused (got a e) why f = done_refused f
was_refused (refused y) why f = let q : y ≡ why = cc in ap refused q

module _ {A : Type 0} (p : Reader A) (s : List ℕ) (at : ℕ) where
  pub read_past : (e : Place) → past p s at ≡ Done e → (a : A) × (read_at p s at ≡ got a e.0)
  unfolding past
  read_past e f = was_read (read_at p s at) e f

  pub refused_past : (why : ℕ) → past p s at ≡ Refused why → read_at p s at ≡ refused why
  unfolding past
  refused_past why f = was_refused (read_at p s at) why f

  pub past_got : (a : A) (e : ℕ) → read_at p s at ≡ got a e → past p s at ≡ Done (place e)
  unfolding past
  past_got a e f = ap passed f

  pub past_no : (why : ℕ) → read_at p s at ≡ refused why → past p s at ≡ Refused why
  unfolding past
  past_no why f = ap passed f

module _ {A B : Type 0} (p : Reader A) (k : A → Reader B) (s : List ℕ) (at : ℕ) where
  -- on, where the first was passed over; or its refusal
  pub past_step : (a : A) (e : ℕ) → read_at p s at ≡ got a e → past (and_then p k) s at ≡ past (k a) s e
  unfolding past
  past_step a e f = ap passed (step p k s at a e f)

  pub past_stop : (why : ℕ) → read_at p s at ≡ refused why → past (and_then p k) s at ≡ Refused why
  unfolding past
  past_stop why f = ap passed (stop_at p k s at why f)

-- what is made of a value moves no end
pub past_made : {A B : Type 0} (p : Reader A) (g : A → B) (s : List ℕ) (at : ℕ) → past (and_then p (λ a. done (g a))) s at ≡ past p s at
past_made {A} {B} p g s at = go (past p s at) refl
  where
    go : (x : Skipped) → past p s at ≡ x → past (and_then p (λ a. done (g a))) s at ≡ past p s at
    go (Done e) f =
        let r = read_past p s at e f in
        past_step p (λ a. done (g a)) s at r.0 e.0 r.1 ∙ past_got (done (g r.0)) s e.0 (g r.0) e.0 (done_at s e.0 (g r.0)) ∙ sym f
    go (Refused why) f = past_stop p (λ a. done (g a)) s at why (refused_past p s at why f) ∙ sym f

pub past_yes : {A : Type 0} (ok : Bool) (why : ℕ) (p : Reader A) (s : List ℕ) (at : ℕ) → ok ≡ true → past (provided ok why p) s at ≡ past p s at
unfolding past
past_yes ok why p s at e = ap passed (provided_yes s at ok why p e)

pub past_not : {A : Type 0} (ok : Bool) (why : ℕ) (p : Reader A) (s : List ℕ) (at : ℕ) → ok ≡ false → past (provided ok why p) s at ≡ Refused why
unfolding past
past_not ok why p s at e = ap passed (provided_no s at ok why p e)

pub past_refuse : (A : Type 0) (why : ℕ) (s : List ℕ) (at : ℕ) → past (refuse {A = A} why) s at ≡ Refused why
unfolding past
past_refuse A why s at = ap passed (refuse_at s at why)

pub past_done : {A : Type 0} (a : A) (s : List ℕ) (at : ℕ) → past (done a) s at ≡ Done (place at)
unfolding past
past_done a s at = ap passed (done_at s at a)

pub pos_suc : {k : ℕ} → 0 < k → k ≡ suc (k - 1)
pos_suc h = omega arith
