-- Where reading first breaks: with fewer bytes than its reach there is only END; with those and whatever behind them there is the same refusal, or END where the
-- input is shorter. Assumes nothing.
use mathlib.Core.Path.{◌≡◌, refl, sym, ap, subst, ◌∙◌}
use mathlib.Core.Bool.{Bool, true, false, cond}
use mathlib.Core.Logic.{◌⊎◌, inl, inr}
use mathlib.Core.List.{List, [], ◌∷◌}
use Prim.Native.Nat.{ℕ, zero, suc, ◌+◌, ◌-◌, ◌≤◌, ◌<◌}
use native.Mathlib.Omega.{arith}
use borrow.Author.Tests.{leb-true, leb-false, le-leb, lt-leb}
use lib.Dec.{leb}
use lib.ListN.{length, take, drop, length-drop, length-take}
use lib.Seq.{take-take, take-nil}
use Rattle.types.specs.Refusals.{END}
use Rattle.numbers.proofs.Found.{take_drop, as_long}
use Rattle.numbers.specs.Varint.{refused}
use Rattle.heads.specs.Reader.{Reader}
use Rattle.faults.specs.Tracked as t
use Rattle.faults.specs.Tracked.{Step, Tried, Tracked, found, broke, reach}
use Rattle.faults.proofs.Rule.{Rule, Enough}
use Rattle.faults.proofs.Finds.{forget}
use Rattle.faults.proofs.Steady.{in_front, in_rest, reach_after, reach_under}

-- refused for want of bytes
abbrev pub Ended : {A : Type 0} → Tried A → Type 0
Ended (found a n) = ⊥
Ended (broke why n path) = why ≡ END

-- the reader that it follows says END
pub ended_end : {A : Type 0} (x : Tried A) → Ended x → forget x ≡ refused END
ended_end (found a n) u = absurd u
ended_end (broke why n path) u = ap refused u

-- no further than the bytes there are, but for the one that is missing
abbrev pub Fits : {A : Type 0} → ℕ → Tried A → Type 0
Fits l (found a n) = n ≤ l
Fits l (broke why n path) = (n ≤ l) ⊎ ((why ≡ END) × (n ≡ suc l))

-- the same again; or, to a shorter input, refused for want of bytes
abbrev pub Again : {A : Type 0} → Tried A → Tried A → ℕ → ℕ → Type 0
Again x y l m = (x ≡ y) ⊎ (Ended x × (l < m))

pub record FirstAt {A : Type 0} (p : Tracked A) (bs : List ℕ) : Type 0 where
  pub fits : Fits (length bs) (p bs)
  pub firm : (cs : List ℕ) → (Ended (p bs) → ⊥) → take (reach (p bs)) cs ≡ take (reach (p bs)) bs → Again (p cs) (p bs) (length cs) (length bs)
  pub cut : (j : ℕ) → j < reach (p bs) → Ended (p (take j bs))

unfoldable pub First : ℕ → (A : Type 0) → Tracked A → Reader A → Type 0
First m A p q = (bs : List ℕ) → FirstAt p bs

-- behind n bytes
after_fits : {A : Type 0} (n l : ℕ) (x : Tried A) → n ≤ l → Fits (l - n) x → Fits l (t.after n x)
after_fits n l (found a m) h f = omega arith
after_fits n l (broke why m path) h (inl f) = inl (omega arith)
after_fits n l (broke why m path) h (inr f) = inr (f.0, omega (arith, f.1))

after_ended : {A : Type 0} (n : ℕ) (x : Tried A) → Ended x → Ended (t.after n x)
after_ended n (found a m) e = e
after_ended n (broke why m path) e = e

onward_ended : {A B : Type 0} (k : A → Tracked B) (bs : List ℕ) (x : Tried A) → Ended x → Ended (t.onward k bs x)
onward_ended k bs (found a m) e = absurd e
onward_ended k bs (broke why m path) e = e

-- one behind the other, again
both_again : {A B : Type 0} (k : A → Tracked B) (bs cs : List ℕ) (x : Tried A) (a : A) (n : ℕ) → Again x (found a n) (length cs) (length bs) → Again (k a (drop n cs)) (k a (drop n bs)) (length (drop n cs)) (length (drop n bs)) → Again (t.onward k cs x) (t.after n (k a (drop n bs))) (length cs) (length bs)
both_again k bs cs x a n (inl e) (inl f) = inl (ap (t.onward k cs) e ∙ ap (t.after n) f)
both_again k bs cs x a n (inl e) (inr f) =
    inr (subst Ended (sym (ap (t.onward k cs) e)) (after_ended n (k a (drop n cs)) f.0), omega (arith, f.1, length-drop n cs, length-drop n bs))
both_again k bs cs x a n (inr e) f = inr (onward_ended k cs x e.0, e.1)

none_again : {A B : Type 0} (k : A → Tracked B) (bs cs : List ℕ) (x : Tried A) (why n : ℕ) (path : List Step) → Again x (broke why n path) (length cs) (length bs) → Again (t.onward k cs x) (broke why n path) (length cs) (length bs)
none_again k bs cs x why n path (inl e) = inl (ap (t.onward k cs) e)
none_again k bs cs x why n path (inr e) = inr (onward_ended k cs x e.0, e.1)

-- cut behind the first
cut_later : {A B : Type 0} (k : A → Tracked B) (cs : List ℕ) (x : Tried A) (a : A) (n l m : ℕ) → Again x (found a n) l m → Ended (k a (drop n cs)) → Ended (t.onward k cs x)
cut_later k cs x a n l m (inl e) f = subst Ended (sym (ap (t.onward k cs) e)) (after_ended n (k a (drop n cs)) f)
cut_later k cs x a n l m (inr e) f = onward_ended k cs x e.0

module _ {A B : Type 0} (p : Tracked A) (k : A → Tracked B) (hk : (a : A) (cs : List ℕ) → FirstAt (k a) cs) (bs : List ℕ) where
  go : (x : Tried A) → p bs ≡ x → FirstAt p bs → FirstAt (t.and_then p k) bs
  unfolding t.and_then
  go (found a n) e h =
      let y = k a (drop n bs) in
      let i = hk a (drop n bs) in
      let z : t.onward k bs (p bs) ≡ t.after n y = ap (t.onward k bs) e in
      let fit : n ≤ length bs = subst (Fits (length bs)) e h.fits in
      let again : (cs : List ℕ) → take n cs ≡ take n bs → Again (p cs) (found a n) (length cs) (length bs) =
      λ cs q. subst (λ (u : Tried A). Again (p cs) u (length cs) (length bs)) e
      (h.firm cs (subst (λ (u : Tried A). Ended u → ⊥) (sym e) (λ u. u)) (subst (λ (u : Tried A). take (reach u) cs ≡ take (reach u) bs) (sym e) q)) in
      record {
        fits = subst (Fits (length bs)) (sym z) (after_fits n (length bs) y fit (subst (λ (u : ℕ). Fits u y) (length-drop n bs) i.fits));
        firm = λ cs f q.
            let q' : take (n + reach y) cs ≡ take (n + reach y) bs = subst (λ (u : ℕ). take u cs ≡ take u bs) (ap reach z ∙ reach_after n y) q in
            subst (λ (u : Tried B). Again (t.onward k cs (p cs)) u (length cs) (length bs)) (sym z)
            (both_again k bs cs (p cs) a n (again cs (in_front n (reach y) bs cs q'))
            (i.firm (drop n cs) (λ u. f (subst Ended (sym z) (after_ended n y u))) (in_rest n (reach y) bs cs q')));
        cut = λ j l. shorter j (subst (λ (u : ℕ). j < u) (ap reach z ∙ reach_after n y) l) again;
      }
    where
      shorter : (j : ℕ) → j < n + reach (k a (drop n bs)) → ((cs : List ℕ) → take n cs ≡ take n bs → Again (p cs) (found a n) (length cs) (length bs)) → Ended (t.onward k (take j bs) (p (take j bs)))
      shorter j l again = by (leb n j) refl
        where
          by : (c : Bool) → leb n j ≡ c → Ended (t.onward k (take j bs) (p (take j bs)))
          by true f =
              let m : n ≤ j = leb-true n j f in
              let g : j ≡ n + (j - n) = omega (arith, m) in
              let d : drop n (take j bs) ≡ take (j - n) (drop n bs) = ap (λ (u : ℕ). drop n (take u bs)) g ∙ sym (take_drop n (j - n) bs) in
              cut_later k (take j bs) (p (take j bs)) a n _ _ (again (take j bs) (take-take n j bs m))
              (subst (λ (cs : List ℕ). Ended (k a cs)) (sym d) ((hk a (drop n bs)).cut (j - n) (omega (arith, l, m))))
          by false f =
              onward_ended k (take j bs) (p (take j bs)) (h.cut j (subst (λ (u : Tried A). j < reach u) (sym e) (omega (arith, leb-false n j f))))
  go (broke why n path) e h =
      let z : t.onward k bs (p bs) ≡ broke why n path = ap (t.onward k bs) e in
      record {
        fits = subst (Fits (length bs)) (sym z) (subst (Fits (length bs)) e h.fits);
        firm = λ cs f q.
            subst (λ (u : Tried B). Again (t.onward k cs (p cs)) u (length cs) (length bs)) (sym z)
            (none_again k bs cs (p cs) why n path
            (subst (λ (u : Tried A). Again (p cs) u (length cs) (length bs)) e
            (h.firm cs (λ u. f (subst Ended (sym z) (subst Ended e u))) (subst (λ (u : ℕ). take u cs ≡ take u bs) (ap reach z ∙ sym (ap reach e)) q))));
        cut = λ j l. onward_ended k (take j bs) (p (take j bs)) (h.cut j (subst (λ (u : ℕ). j < u) (ap reach z ∙ sym (ap reach e)) l));
      }

byte_first : (bs : List ℕ) → FirstAt t.byte bs
unfolding t.byte
byte_first [] = record { fits = inr (refl, refl); firm = λ cs f q. absurd (f refl); cut = λ j l. rw (take-nil j) refl }
byte_first (b ∷ bs) =
    record {
      fits = omega arith;
      firm = λ cs f q. inl (again cs q);
      cut = λ j l. none j (omega arith);
    }
  where
    again : (cs : List ℕ) → take 1 cs ≡ take 1 (b ∷ bs) → t.byte cs ≡ found b 1
    again [] q = absurd (omega (arith, ap length q))
    again (c ∷ cs) q = let z : c ≡ b = cc in ap (λ (x : ℕ). found x 1) z

    none : (j : ℕ) → j ≡ 0 → Ended (t.byte (take j (b ∷ bs)))
    none zero e = refl
    none (suc j) e = absurd (omega arith)

some_first : (n : ℕ) (bs : List ℕ) → FirstAt (t.some n) bs
unfolding t.some
some_first n bs = by (leb n (length bs)) refl
  where
    by : (c : Bool) → leb n (length bs) ≡ c → FirstAt (t.some n) bs
    by true e =
        let h : n ≤ length bs = leb-true n (length bs) e in
        record {
          fits = rw e h;
          firm = λ cs f q.
              let q' : take n cs ≡ take n bs = rw e at q in
              inl (rw (e, le-leb n (length cs) (as_long n bs cs h q'), q'));
          cut = λ j l. let l' : j < n = rw e at l in rw (lt-leb n (length (take j bs)) (omega (arith, l', length-take j bs))) refl;
        }
    by false e =
        record {
          fits = rw e (inl (omega arith));
          firm = λ cs f q. absurd (rw e at f refl);
          cut = λ j l. let l' : j < 0 = rw e at l in absurd (omega arith);
        }

ahead_first : {A : Type 0} (n : ℕ) (a : A) (bs : List ℕ) → FirstAt (t.ahead n a) bs
unfolding t.ahead
ahead_first {A} n a bs = by (leb n (length bs)) refl
  where
    other : (cs : List ℕ) (c : Bool) → n ≤ length bs → leb n (length cs) ≡ c → Again (cond (leb n (length cs)) (found a 0) (broke END 0 [])) (found a 0) (length cs) (length bs)
    other cs true h f = inl (rw f)
    other cs false h f = inr (rw f refl, omega (arith, leb-false n (length cs) f))

    by : (c : Bool) → leb n (length bs) ≡ c → FirstAt (t.ahead n a) bs
    by true e =
        record {
          fits = rw e (omega arith);
          firm = λ cs f q. rw e (other cs (leb n (length cs)) (leb-true n (length bs) e) refl);
          cut = λ j l. let l' : j < 0 = rw e at l in absurd (omega arith);
        }
    by false e =
        record {
          fits = rw e (inl (omega arith));
          firm = λ cs f q. absurd (rw e at f refl);
          cut = λ j l. let l' : j < 0 = rw e at l in absurd (omega arith);
        }

provided_first : {A : Type 0} (ok : Bool) (why : ℕ) (p : Tracked A) (bs : List ℕ) → FirstAt p bs → FirstAt (t.provided ok why p) bs
unfolding t.provided
provided_first true why p bs h = record { fits = h.fits; firm = h.firm; cut = h.cut }
provided_first false why p bs h = record { fits = inl (omega arith); firm = λ cs f q. inl refl; cut = λ j l. absurd (omega arith) }

under_fits : {A : Type 0} (i : Step) (l : ℕ) (x : Tried A) → Fits l x → Fits l (t.under i x)
under_fits i l (found a n) f = f
under_fits i l (broke why n path) f = f

under_ended : {A : Type 0} (i : Step) (x : Tried A) → Ended x → Ended (t.under i x)
under_ended i (found a n) f = f
under_ended i (broke why n path) f = f

under_again : {A : Type 0} (i : Step) (x y : Tried A) (l m : ℕ) → Again x y l m → Again (t.under i x) (t.under i y) l m
under_again i x y l m (inl e) = inl (ap (t.under i) e)
under_again i x y l m (inr e) = inr (under_ended i x e.0, e.1)

labelled_first : {A : Type 0} (i : Step) (p : Tracked A) (bs : List ℕ) → FirstAt p bs → FirstAt (t.labelled i p) bs
unfolding t.labelled
labelled_first i p bs h =
    record {
      fits = under_fits i (length bs) (p bs) h.fits;
      firm = λ cs f q. under_again i (p cs) (p bs) _ _ (h.firm cs (λ u. f (under_ended i (p bs) u)) (subst (λ (u : ℕ). take u cs ≡ take u bs) (reach_under i (p bs)) q));
      cut = λ j l. under_ended i (p (take j bs)) (h.cut j (subst (λ (u : ℕ). j < u) (reach_under i (p bs)) l));
    }

left_first : {A : Type 0} (f : ℕ → Tracked A) → Enough f → ((n : ℕ) (bs : List ℕ) → FirstAt (f n) bs) → (bs : List ℕ) → FirstAt (λ cs. f (length cs) cs) bs
left_first {A} f e h bs =
    record {
      fits = (h (length bs) bs).fits;
      firm = λ cs u q.
          let far : ℕ = length bs + length cs in
          let same : f (length bs) bs ≡ f far bs = e (length bs) far bs (omega arith) (omega arith) in
          subst (λ (x : Tried A). Again x (f (length bs) bs) (length cs) (length bs)) (sym (e (length cs) far cs (omega arith) (omega arith)))
          (subst (λ (x : Tried A). Again (f far cs) x (length cs) (length bs)) (sym same)
          ((h far bs).firm cs (λ v. u (subst Ended (sym same) v)) (subst (λ (x : Tried A). take (reach x) cs ≡ take (reach x) bs) same q)));
      cut = λ j l. subst Ended (e (length bs) (length (take j bs)) (take j bs) (omega (arith, length-take j bs)) (omega arith)) ((h (length bs) bs).cut j l);
    }

pub first : Rule First
unfolding First t.done t.refuse t.missing
first =
    record {
      done = λ m a bs. record { fits = omega arith; firm = λ cs f q. inl refl; cut = λ j l. absurd (omega arith) };
      refuse = λ m why bs. record { fits = inl (omega arith); firm = λ cs f q. inl refl; cut = λ j l. absurd (omega arith) };
      missing = λ m bs. record { fits = inr (refl, refl); firm = λ cs f q. absurd (f refl); cut = λ j l. refl };
      then = λ m p q k l a b bs. go p k b bs (p bs) refl (a bs);
      provided = λ m ok why p q a bs. provided_first ok why p bs (a bs);
      byte = λ m bs. byte_first bs;
      some = λ m n bs. some_first n bs;
      ahead = λ m n a bs. ahead_first n a bs;
      labelled = λ m i p q a bs. labelled_first i p bs (a bs);
      left = λ m f g e a bs. left_first f e a bs;
      same = λ m p q q' a e. a;
    }
