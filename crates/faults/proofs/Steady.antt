-- What no byte behind the reach of a tracked reader can change. Assumes nothing.
use mathlib.Core.Path.{◌≡◌, refl, sym, ap, subst, ◌∙◌}
use mathlib.Core.Bool.{Bool, true, false, cond}
use mathlib.Core.List.{List, [], ◌∷◌}
use Prim.Native.Nat.{ℕ, suc, ◌+◌}
use native.Mathlib.Omega.{arith}
use lib.Dec.{leb}
use lib.ListN.{length, take, drop, length-drop}
use lib.Seq.{take-take}
use Rattle.types.specs.Refusals.{END}
use Rattle.numbers.proofs.Found.{take_drop}
use Rattle.heads.specs.Reader.{Reader}
use Rattle.faults.specs.Tracked as t
use Rattle.faults.specs.Tracked.{Step, Tried, Tracked, found, broke, reach}
use Rattle.faults.proofs.Rule.{Rule}

-- "other bytes behind the offset, with the length kept, change neither number, offset nor path"
unfoldable pub Steady : ℕ → (A : Type 0) → Tracked A → Reader A → Type 0
Steady m A p q = (bs cs : List ℕ) → length cs ≡ length bs → take (reach (p bs)) cs ≡ take (reach (p bs)) bs → p cs ≡ p bs

-- bytes that agree so far agree in front, and behind
pub in_front : (n m : ℕ) (bs cs : List ℕ) → take (n + m) cs ≡ take (n + m) bs → take n cs ≡ take n bs
in_front n m bs cs e = sym (front cs) ∙ ap (take n) e ∙ front bs
  where
    front : (l : List ℕ) → take n (take (n + m) l) ≡ take n l
    front l = take-take n (n + m) l (omega arith)

pub in_rest : (n m : ℕ) (bs cs : List ℕ) → take (n + m) cs ≡ take (n + m) bs → take m (drop n cs) ≡ take m (drop n bs)
in_rest n m bs cs e = take_drop n m cs ∙ ap (drop n) e ∙ sym (take_drop n m bs)

pub reach_after : {A : Type 0} (n : ℕ) (x : Tried A) → reach (t.after n x) ≡ n + reach x
reach_after n (found a m) = refl
reach_after n (broke why m path) = refl

pub reach_under : {A : Type 0} (i : Step) (x : Tried A) → reach (t.under i x) ≡ reach x
reach_under i (found a m) = refl
reach_under i (broke why m path) = refl

module _ {A B : Type 0} (p : Tracked A) (k : A → Tracked B) (bs cs : List ℕ) (l : length cs ≡ length bs) where
  then_steady : (x : Tried A) → p bs ≡ x → (take (reach x) cs ≡ take (reach x) bs → p cs ≡ x) → ((a : A) (n : ℕ) → x ≡ found a n → take (reach (k a (drop n bs))) (drop n cs) ≡ take (reach (k a (drop n bs))) (drop n bs) → k a (drop n cs) ≡ k a (drop n bs)) → take (reach (t.onward k bs x)) cs ≡ take (reach (t.onward k bs x)) bs → t.onward k cs (p cs) ≡ t.onward k bs x
  then_steady (found a n) e h g q =
      let y = k a (drop n bs) in
      let q' : take (n + reach y) cs ≡ take (n + reach y) bs = subst (λ (z : ℕ). take z cs ≡ take z bs) (reach_after n y) q in
      ap (t.onward k cs) (h (in_front n (reach y) bs cs q')) ∙ ap (t.after n) (g a n refl (in_rest n (reach y) bs cs q'))
  then_steady (broke why n path) e h g q = ap (t.onward k cs) (h q)

byte_steady : (bs cs : List ℕ) → length cs ≡ length bs → take (reach (t.byte bs)) cs ≡ take (reach (t.byte bs)) bs → t.byte cs ≡ t.byte bs
unfolding t.byte
byte_steady [] [] l e = refl
byte_steady [] (c ∷ cs) l e = absurd (omega arith)
byte_steady (b ∷ bs) [] l e = absurd (omega arith)
byte_steady (b ∷ bs) (c ∷ cs) l e = let z : c ≡ b = cc in ap (λ (x : ℕ). found x 1) z

some_steady : (n : ℕ) (bs cs : List ℕ) (c : Bool) → take (reach (cond c (found (take n bs) n) (broke END 0 []))) cs ≡ take (reach (cond c (found (take n bs) n) (broke END 0 []))) bs → cond c (found (take n cs) n) (broke END 0 []) ≡ cond c (found (take n bs) n) (broke END 0 [])
some_steady n bs cs true e = ap (λ (x : List ℕ). found x n) e
some_steady n bs cs false e = refl

provided_steady : {A : Type 0} (c : Bool) (why : ℕ) (x y : Tried A) (bs cs : List ℕ) → (take (reach x) cs ≡ take (reach x) bs → y ≡ x) → take (reach (cond c x (broke why 0 []))) cs ≡ take (reach (cond c x (broke why 0 []))) bs → cond c y (broke why 0 []) ≡ cond c x (broke why 0 [])
provided_steady true why x y bs cs h e = h e
provided_steady false why x y bs cs h e = refl

pub steady : Rule Steady
unfolding Steady t.done t.refuse t.missing t.and_then t.provided t.some t.ahead t.labelled
steady =
    record {
      done = λ m a bs cs l e. refl;
      refuse = λ m why bs cs l e. refl;
      missing = λ m bs cs l e. ap (λ (z : ℕ). broke END (suc z) []) l;
      then = λ m p q k j a b bs cs l e. then_steady p k bs cs l (p bs) refl (a bs cs l) (λ x n f. b x (drop n bs) (drop n cs) (omega (arith, length-drop n bs, length-drop n cs))) e;
      provided = λ m ok why p q a bs cs l e. provided_steady ok why (p bs) (p cs) bs cs (a bs cs l) e;
      byte = λ m bs cs l e. byte_steady bs cs l e;
      some = λ m n bs cs l e. ap (λ (z : ℕ). cond (leb n z) (found (take n cs) n) (broke END 0 [])) l ∙ some_steady n bs cs (leb n (length bs)) e;
      ahead = λ m n a bs cs l e. ap (λ (z : ℕ). cond (leb n z) (found a 0) (broke END 0 [])) l;
      labelled = λ m i p q a bs cs l e. ap (t.under i) (a bs cs l (subst (λ (z : ℕ). take z cs ≡ take z bs) (reach_under i (p bs)) e));
      left = λ m f g x a bs cs l e. ap (λ (z : ℕ). f z cs) l ∙ a (length bs) bs cs l e;
      same = λ m p q q' a e. a;
    }
