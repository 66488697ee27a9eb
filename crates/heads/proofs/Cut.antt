-- Reading up to a cut: what is found there stands in the input and ends no later than the cut, and back. Assumes nothing.
use mathlib.Core.Path.{◌≡◌, refl, sym, ap, ap₂, ◌∙◌}
use mathlib.Core.Bool.{Bool}
use mathlib.Core.List.{List}
use Prim.Native.Nat.{ℕ, ◌+◌, ◌≤◌, min}
use native.Mathlib.Nat.{min-eq_left, min-eq_right}
use native.Mathlib.Omega.{arith}
use borrow.Author.Tests.{le-ltb}
use lib.Dec.{ltb}
use lib.ListN.{length, take, drop, length-take, length-drop}
use lib.Seq.{take-take, take_all}
use Rattle.numbers.specs.Varint.{Found, got, refused, placed}
use Rattle.numbers.proofs.Found.{by_lt, same_part}
use Rattle.heads.specs.Reader.{Reader, read_at, missing, missed, read_to}
use Rattle.heads.proofs.Lawful.{Lawful, same, not_both}
use Rattle.heads.proofs.Ahead.{Fair}
use Rattle.heads.proofs.Steps.{found_at}

-- a cut behind the end is one at the end
pub cut_is : {A : Type 0} (p : Reader A) (s : List ℕ) (c at end : ℕ) → end ≡ min c (length s) → read_to p s c at ≡ missed (ltb end (length s)) (read_at p (take end s) at)
unfolding read_to
cut_is p s c at end o =
    by_lt c (length s)
    (λ h. let e : c ≡ end = sym (o ∙ min-eq_left (omega arith)) in ap (λ (n : ℕ). missed (ltb n (length s)) (read_at p (take n s) at)) e)
    (λ h.
    let e : end ≡ length s = o ∙ min-eq_right h in
    let a : take c s ≡ take end s = take_all c s h ∙ sym (take_all end s (omega arith)) in
    ap₂ (λ (b : Bool) (l : List ℕ). missed b (read_at p l at)) (le-ltb c (length s) h ∙ sym (le-ltb end (length s) (omega arith))) a)

pub missed_got : {A : Type 0} (b : Bool) (x : Found A) (a : A) (e : ℕ) → missed b x ≡ got a e → x ≡ got a e
missed_got b (got y n) a e f = f
missed_got b (refused why) a e f = not_both f

pub missed_no : {A : Type 0} (b : Bool) (x : Found A) (why : ℕ) → missed b x ≡ refused why → (u : ℕ) × (x ≡ refused u) × (missing b u ≡ why)
missed_no b (got y n) why f = not_both (sym f)
missed_no b (refused u) why f = (u, refl, cc)

-- what was found up to a cut
pub record Cut {A : Type 0} (p : Reader A) (s : List ℕ) (c at : ℕ) (a : A) (e : ℕ) : Type 0 where
  pub used : ℕ
  pub read : p (drop at (take c s)) ≡ got a used
  pub all : at + used ≡ e
  pub before : e ≤ c
  pub inside : e ≤ length s

module _ {A : Type 0} (p : Reader A) (s : List ℕ) (c at : ℕ) (a : A) (e : ℕ) where
  pub was_cut : Fair p → at ≤ c → at ≤ length s → read_to p s c at ≡ got a e → Cut p s c at a e
  unfolding read_to read_at
  was_cut l h k f =
      let g = found_at at (p (drop at (take c s))) a e (missed_got (ltb c (length s)) _ a e f) in
      let i = l.ends (drop at (take c s)) a g.0 g.1 in
      let d = length-drop at (take c s) in
      let m = length-take c s in
      record { used = g.0; read = g.1; all = g.2; before = omega (arith, g.2); inside = omega (arith, g.2) }

  is_cut : (n : ℕ) → p (drop at (take c s)) ≡ got a n → at + n ≡ e → read_to p s c at ≡ got a e
  unfolding read_to read_at
  is_cut n f g = ap (λ (x : Found A). missed (ltb c (length s)) (placed at x)) f ∙ ap (got a) g

  -- it stands in the input
  pub cut_whole : Fair p → Cut p s c at a e → read_at p s at ≡ got a e
  unfolding read_at
  cut_whole l k =
      ap (placed at)
      (l.longer (drop at (take c s)) (drop at s) a k.used k.read (same_part at k.used e (take c s) s k.all (sym (take-take e c s k.before))) (omega (arith, length-drop at s, length-drop at (take c s), length-take c s)))
      ∙ ap (got a) k.all

  -- and what stands there and ends no later than the cut is found, unless bytes ahead are asked for
  pub whole_cut : Lawful p → e ≤ c → read_at p s at ≡ got a e → read_to p s c at ≡ got a e
  unfolding read_at
  whole_cut l h f =
      let g = found_at at (p (drop at s)) a e f in
      is_cut g.0 (same p l (drop at s) (drop at (take c s)) a g.0 g.1 (same_part at g.0 e s (take c s) g.2 (take-take e c s h))) g.2

  -- another input that agrees up to the end, and is no shorter
  pub cut_longer : Fair p → Cut p s c at a e → (t : List ℕ) → take e t ≡ take e s → length s ≤ length t → read_to p t c at ≡ got a e
  unfolding read_to read_at
  cut_longer l k t q h =
      let agree : take e (take c t) ≡ take e (take c s) = take-take e c t k.before ∙ q ∙ sym (take-take e c s k.before) in
      let again : p (drop at (take c t)) ≡ got a k.used = l.longer (drop at (take c s)) (drop at (take c t)) a k.used k.read (same_part at k.used e (take c s) (take c t) k.all agree) (omega (arith, length-drop at (take c t), length-drop at (take c s), length-take c s, length-take c t)) in
      ap (λ (x : Found A). missed (ltb c (length t)) (placed at x)) again ∙ ap (got a) k.all

  pub cut_same : Lawful p → Cut p s c at a e → (t : List ℕ) → take e t ≡ take e s → read_to p t c at ≡ got a e
  unfolding read_to read_at
  cut_same l k t q =
      let agree : take e (take c t) ≡ take e (take c s) = take-take e c t k.before ∙ q ∙ sym (take-take e c s k.before) in
      let again : p (drop at (take c t)) ≡ got a k.used = same p l (drop at (take c s)) (drop at (take c t)) a k.used k.read (same_part at k.used e (take c s) (take c t) k.all agree) in
      ap (λ (x : Found A). missed (ltb c (length t)) (placed at x)) again ∙ ap (got a) k.all
