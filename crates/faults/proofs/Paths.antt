-- A path is no longer than the room. Assumes nothing.
use mathlib.Core.Path.{◌≡◌, refl}
use mathlib.Core.Bool.{Bool, true, false, cond}
use mathlib.Core.List.{List, [], ◌∷◌}
use Prim.Native.Nat.{ℕ, suc, ◌≤◌}
use native.Mathlib.Omega.{arith}
use lib.Dec.{leb}
use lib.ListN.{length, take, drop}
use Rattle.types.specs.Refusals.{END}
use Rattle.heads.specs.Reader.{Reader}
use Rattle.faults.specs.Tracked as t
use Rattle.faults.specs.Tracked.{Step, Tried, Tracked, found, broke}
use Rattle.faults.proofs.Rule.{Rule}

abbrev pub steps : {A : Type 0} → Tried A → ℕ
steps (found a n) = 0
steps (broke why n path) = length path

unfoldable pub Near : ℕ → (A : Type 0) → Tracked A → Reader A → Type 0
Near m A p q = (bs : List ℕ) → steps (p bs) ≤ m

steps_after : {A : Type 0} (n : ℕ) (x : Tried A) → steps (t.after n x) ≡ steps x
steps_after n (found a m) = refl
steps_after n (broke why m path) = refl

then_near : {A B : Type 0} (k : A → Tracked B) (m : ℕ) (bs : List ℕ) (x : Tried A) → steps x ≤ m → ((a : A) (cs : List ℕ) → steps (k a cs) ≤ m) → steps (t.onward k bs x) ≤ m
then_near k m bs (found a n) h g = omega (arith, steps_after n (k a (drop n bs)), g a (drop n bs))
then_near k m bs (broke why n path) h g = h

cond_near : {A : Type 0} (m : ℕ) (c : Bool) (x : Tried A) (why : ℕ) → steps x ≤ m → steps (cond c x (broke why 0 [])) ≤ m
cond_near m true x why h = h
cond_near m false x why h = omega arith

under_near : {A : Type 0} (m : ℕ) (i : Step) (x : Tried A) → steps x ≤ m → steps (t.under i x) ≤ suc m
under_near m i (found a n) h = omega arith
under_near m i (broke why n path) h = omega arith

byte_near : (m : ℕ) (bs : List ℕ) → steps (t.byte bs) ≤ m
unfolding t.byte
byte_near m [] = omega arith
byte_near m (b ∷ bs) = omega arith

pub near : Rule Near
unfolding Near t.done t.refuse t.missing t.and_then t.provided t.some t.ahead t.labelled
near =
    record {
      done = λ m a bs. omega arith;
      refuse = λ m why bs. omega arith;
      missing = λ m bs. omega arith;
      then = λ m p q k l a b bs. then_near k m bs (p bs) (a bs) b;
      provided = λ m ok why p q a bs. cond_near m ok (p bs) why (a bs);
      byte = λ m bs. byte_near m bs;
      some = λ m n bs. cond_near m (leb n (length bs)) (found (take n bs) n) END (omega arith);
      ahead = λ m n a bs. cond_near m (leb n (length bs)) (found a 0) END (omega arith);
      labelled = λ m i p q a bs. under_near m i (p bs) (a bs);
      left = λ m f g e a bs. a (length bs) bs;
      same = λ m p q q' a e. a;
    }
