-- The trace forgotten, a tracked reader is the reader that it follows. Assumes nothing.
use mathlib.Core.Path.{◌≡◌, refl, ap, ◌∙◌}
use mathlib.Core.Bool.{Bool, true, false, cond}
use mathlib.Core.List.{List, [], ◌∷◌}
use Prim.Native.Nat.{ℕ}
use lib.Dec.{leb}
use lib.ListN.{length, take, drop}
use Rattle.types.specs.Refusals.{END}
use Rattle.numbers.specs.Varint.{Found, got, refused, placed}
use Rattle.heads.specs.Reader as r
use Rattle.heads.specs.Reader.{Reader}
use Rattle.faults.specs.Tracked as t
use Rattle.faults.specs.Tracked.{Step, Tried, Tracked, found, broke}
use Rattle.faults.proofs.Rule.{Rule}

abbrev pub forget : {A : Type 0} → Tried A → Found A
forget (found a n) = got a n
forget (broke why n path) = refused why

unfoldable pub Finds : ℕ → (A : Type 0) → Tracked A → Reader A → Type 0
Finds m A p q = (bs : List ℕ) → forget (p bs) ≡ q bs

module _ {A B : Type 0} (k : A → Tracked B) (l : A → Reader B) (h : (a : A) (bs : List ℕ) → forget (k a bs) ≡ l a bs) (bs : List ℕ) where
  forget_after : (n : ℕ) (x : Tried B) → forget (t.after n x) ≡ placed n (forget x)
  forget_after n (found b m) = refl
  forget_after n (broke why m path) = refl

  forget_onward : (x : Tried A) → forget (t.onward k bs x) ≡ r.onward l bs (forget x)
  forget_onward (found a n) = forget_after n (k a (drop n bs)) ∙ ap (placed n) (h a (drop n bs))
  forget_onward (broke why n path) = refl

forget_some : (c : Bool) (n : ℕ) (bs : List ℕ) → forget (cond c (found (take n bs) n) (broke END 0 [])) ≡ cond c (got (take n bs) n) (refused END)
forget_some true n bs = refl
forget_some false n bs = refl

forget_ahead : {A : Type 0} (c : Bool) (a : A) → forget (cond c (found a 0) (broke END 0 [])) ≡ cond c (got a 0) (refused END)
forget_ahead true a = refl
forget_ahead false a = refl

forget_provided : {A : Type 0} (c : Bool) (why : ℕ) (x : Tried A) (y : Found A) → forget x ≡ y → forget (cond c x (broke why 0 [])) ≡ cond c y (refused why)
forget_provided true why x y e = e
forget_provided false why x y e = refl

forget_under : {A : Type 0} (i : Step) (x : Tried A) → forget (t.under i x) ≡ forget x
forget_under i (found a n) = refl
forget_under i (broke why n path) = refl

forget_byte : (bs : List ℕ) → forget (t.byte bs) ≡ r.byte bs
unfolding t.byte r.byte
forget_byte [] = refl
forget_byte (b ∷ bs) = refl

pub finds : Rule Finds
unfolding Finds t.done r.done t.refuse r.refuse t.missing t.and_then r.and_then t.provided r.provided t.some r.some t.ahead r.ahead t.labelled
finds =
    record {
      done = λ m a bs. refl;
      refuse = λ m why bs. refl;
      missing = λ m bs. refl;
      then = λ m p q k l a b bs. forget_onward k l b bs (p bs) ∙ ap (r.onward l bs) (a bs);
      provided = λ m ok why p q a bs. forget_provided ok why (p bs) (q bs) (a bs);
      byte = λ m bs. forget_byte bs;
      some = λ m n bs. forget_some (leb n (length bs)) n bs;
      ahead = λ m n a bs. forget_ahead (leb n (length bs)) a;
      labelled = λ m i p q a bs. forget_under i (p bs) ∙ a bs;
      left = λ m f g e a bs. a (length bs) bs;
      same = λ m p q q' a e bs. a bs ∙ e bs;
    }
