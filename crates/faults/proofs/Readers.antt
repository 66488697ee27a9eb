-- Readers put together: when two are one. Assumes nothing.
use mathlib.Core.Path.{◌≡◌, refl, sym, ap, ◌∙◌}
use mathlib.Core.Bool.{Bool, true, false, cond}
use mathlib.Core.List.{List, [], ◌∷◌}
use Prim.Native.Nat.{ℕ, suc, ◌+◌, ◌*◌, ◌%◌, ◌^◌}
use native.Mathlib.Omega.{arith}
use lib.Dec.{ltb}
use lib.ListN.{drop}
use lib.Seq.{drop-drop}
use Rattle.numbers.specs.Varint.{Found, got, refused, placed, more, groups, keep, varint}
use Rattle.heads.specs.Reader.{Reader, done, refuse, onward, and_then, byte}
use Rattle.heads.proofs.Steps.{placed_placed}
use Rattle.skip.specs.Walk.{with_size, sizing}

placed_none : {A : Type 0} (x : Found A) → placed 0 x ≡ x
placed_none (got a n) = ap (got a) (omega arith)
placed_none (refused why) = refl

pub done_then : {A B : Type 0} (a : A) (k : A → Reader B) (bs : List ℕ) → and_then (done a) k bs ≡ k a bs
unfolding and_then done
done_then a k bs = placed_none (k a bs)

pub then_then : {A B C : Type 0} (p : Reader A) (k : A → Reader B) (l : B → Reader C) (bs : List ℕ) → and_then (and_then p k) l bs ≡ and_then p (λ a. and_then (k a) l) bs
unfolding and_then
then_then {A} {B} {C} p k l bs = go (p bs)
  where
    inside : (n : ℕ) (y : Found B) → onward l bs (placed n y) ≡ placed n (onward l (drop n bs) y)
    inside n (got b m) =
        ap (λ (cs : List ℕ). placed (n + m) (l b cs)) (sym (drop-drop m n bs)) ∙ sym (placed_placed n m (l b (drop m (drop n bs))))
    inside n (refused why) = refl

    go : (x : Found A) → onward l bs (onward k bs x) ≡ onward (λ a. and_then (k a) l) bs x
    go (got a n) = inside n (k a (drop n bs))
    go (refused why) = refl

pub then_alike : {A B : Type 0} (p : Reader A) (k l : A → Reader B) → ((a : A) (bs : List ℕ) → k a bs ≡ l a bs) → (bs : List ℕ) → and_then p k bs ≡ and_then p l bs
unfolding and_then
then_alike {A} p k l h bs = go (p bs)
  where
    go : (x : Found A) → onward k bs x ≡ onward l bs x
    go (got a n) = ap (placed n) (h a (drop n bs))
    go (refused why) = refl

pub made_then : {A B C : Type 0} (p : Reader A) (g : A → B) (k : B → Reader C) (bs : List ℕ) → and_then (and_then p (λ a. done (g a))) k bs ≡ and_then p (λ a. k (g a)) bs
made_then p g k bs = then_then p (λ a. done (g a)) k bs ∙ then_alike p _ _ (λ a cs. done_then (g a) k cs) bs

pub sizing_then : {A B : Type 0} (p : Reader A) (k : A × ℕ → Reader B) (l : A → Reader B) → ((a : A) (n : ℕ) (bs : List ℕ) → k (a, n) bs ≡ l a bs) → (bs : List ℕ) → and_then (sizing p) k bs ≡ and_then p l bs
unfolding and_then sizing
sizing_then {A} p k l h bs = go (p bs)
  where
    go : (x : Found A) → onward k bs (with_size x) ≡ onward l bs x
    go (got a n) = ap (placed n) (h a n (drop n bs))
    go (refused why) = refl

-- a varint in these words
pub long_is : (k : ℕ) (why : ℕ) (bs : List ℕ) → refuse {A = ℕ} why bs ≡ refused why
unfolding refuse
long_is k why bs = refl

pub group_is : (k : ℕ) (bs : List ℕ) → and_then byte (λ b. cond (ltb b 128) (done b) (and_then (groups k) (λ v. done (b % 128 + 128 * v)))) bs ≡ groups (suc k) bs
unfolding and_then byte done
group_is k [] = refl
group_is k (b ∷ bs) = go (ltb b 128)
  where
    rest : (x : Found ℕ) → placed 1 (onward (λ v. done (b % 128 + 128 * v)) bs x) ≡ more (b % 128) x
    rest (got v n) = ap (got (b % 128 + 128 * v)) (omega arith)
    rest (refused why) = refl

    go : (c : Bool) → placed 1 (cond c (done b) (and_then (groups k) (λ v. done (b % 128 + 128 * v))) (drop 1 (b ∷ bs))) ≡ cond c (got b 1) (more (b % 128) (groups k bs))
    go true = refl
    go false = rest (groups k bs)

pub varint_is : (w k : ℕ) (bs : List ℕ) → and_then (groups k) (λ v. done (v % 2 ^ w)) bs ≡ varint w k bs
unfolding and_then done
varint_is w k bs = go (groups k bs)
  where
    go : (x : Found ℕ) → onward (λ v. done (v % 2 ^ w)) bs x ≡ keep w x
    go (got v n) = ap (got (v % 2 ^ w)) (omega arith)
    go (refused why) = refl
