-- A reader at a place of the input, step by step: what stands at a place is found by going on from where the reader before it ended.
-- Assumes nothing.
use mathlib.Core.Path.{◌≡◌, refl, sym, ap, ap₂, ◌∙◌}
use mathlib.Core.Bool.{Bool, true, false}
use mathlib.Core.List.{List}
use Prim.Native.Nat.{ℕ, ◌+◌, ◌≤◌, ◌<◌}
use native.Mathlib.Nat.{add-zero}
use native.Mathlib.Omega.{arith}
use lib.ListN.{length, get_or, drop, drop_of_length-le}
use lib.Seq.{drop-cons, drop-drop}
use Rattle.types.specs.Refusals.{END}
use Rattle.numbers.specs.Varint.{Found, got, refused, placed}
use Rattle.heads.specs.Reader.{Reader, done, refuse, onward, and_then, provided, byte, read_at}
use Rattle.heads.proofs.Lawful.{not_both}

-- what is found at a place was found in the bytes left there
pub found_at : {A : Type 0} (at : ℕ) (x : Found A) (a : A) (e : ℕ) → placed at x ≡ got a e → (n : ℕ) × (x ≡ got a n) × (at + n ≡ e)
found_at at (got b n) a e f = (n, cc, cc)
found_at at (refused why) a e f = not_both f

pub lost_at : {A : Type 0} (at : ℕ) (x : Found A) (why : ℕ) → placed at x ≡ refused why → x ≡ refused why
lost_at at (got b n) why f = not_both (sym f)
lost_at at (refused why') why f = f

pub placed_placed : {A : Type 0} (m n : ℕ) (x : Found A) → placed m (placed n x) ≡ placed (m + n) x
placed_placed m n (got a k) = ap (got a) (omega arith)
placed_placed m n (refused why) = refl

module _ {A B : Type 0} (p : Reader A) (k : A → Reader B) (s : List ℕ) (at : ℕ) where
  -- go on where p ended
  pub step : (a : A) (e : ℕ) → read_at p s at ≡ got a e → read_at (and_then p k) s at ≡ read_at (k a) s e
  unfolding read_at and_then
  step a e f =
      let g = found_at at (p (drop at s)) a e f in
      let n = g.0 in
      ap (placed at) (ap (onward k (drop at s)) g.1)
      ∙ placed_placed at n (k a (drop n (drop at s)))
      ∙ ap₂ (λ (m : ℕ) (l : List ℕ). placed m (k a l)) g.2 (drop-drop n at s ∙ ap (λ (m : ℕ). drop m s) g.2)

  -- or give its refusal
  pub stop_at : (why : ℕ) → read_at p s at ≡ refused why → read_at (and_then p k) s at ≡ refused why
  unfolding read_at and_then
  stop_at why f = ap (placed at) (ap (onward k (drop at s)) (lost_at at (p (drop at s)) why f))

module _ (s : List ℕ) (at : ℕ) where
  pub done_at : {A : Type 0} (a : A) → read_at (done a) s at ≡ got a at
  unfolding read_at done
  done_at a = ap (got a) (add-zero at)

  pub byte_at : at < length s → read_at byte s at ≡ got (get_or s at 0) (at + 1)
  unfolding read_at byte
  byte_at h = rw (drop-cons s at 0 h)

  pub byte_out : length s ≤ at → read_at byte s at ≡ refused END
  unfolding read_at byte
  byte_out h = rw (drop_of_length-le s h)

  pub refuse_at : {A : Type 0} (why : ℕ) → read_at (refuse {A = A} why) s at ≡ refused why
  unfolding read_at refuse
  refuse_at why = refl

  module _ {A : Type 0} (ok : Bool) (why : ℕ) (p : Reader A) where
    pub provided_yes : ok ≡ true → read_at (provided ok why p) s at ≡ read_at p s at
    unfolding read_at provided
    provided_yes e = rw e

    pub provided_no : ok ≡ false → read_at (provided ok why p) s at ≡ refused why
    unfolding read_at provided
    provided_no e = rw e

-- what was read by two readers was read by the one and then by the other
module _ {A B : Type 0} (p : Reader A) (k : A → Reader B) (s : List ℕ) (at : ℕ) where
  pub split : (b : B) (e : ℕ) → read_at (and_then p k) s at ≡ got b e → (a : A) × (m : ℕ) × (read_at p s at ≡ got a m) × (read_at (k a) s m ≡ got b e)
  unfolding read_at
  split b e f = go (p (drop at s)) refl
    where
      go : (x : Found A) → p (drop at s) ≡ x → (a : A) × (m : ℕ) × (read_at p s at ≡ got a m) × (read_at (k a) s m ≡ got b e)
      go (got a n) g = (a, at + n, ap (placed at) g, sym (step p k s at a (at + n) (ap (placed at) g)) ∙ f)
      go (refused why) g = not_both (sym (stop_at p k s at why (ap (placed at) g)) ∙ f)
