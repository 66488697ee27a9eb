-- Plans, one behind the other: the forms that the machine's steps need. Assumes nothing.
use mathlib.Core.Path.{◌≡◌, refl, sym, ap, fun_ext, ◌∙◌}
use mathlib.Core.Bool.{Bool, true, false, cond}
use Prim.Native.Nat.{ℕ, zero, suc, ◌+◌, ◌-◌, ◌/◌, ◌%◌, ◌≤◌, ◌<◌}
use native.Mathlib.Omega.{arith}
use native.Mathlib.Decide.{dec_le}
use borrow.Author.Tests.{le-leb, lt-leb}
use lib.Dec.{leb}
use lib.IntN.{ℤ}
use Rattle.types.specs.Refusals.{END}
use Rattle.types.specs.Codes.{field_type}
use Rattle.types.specs.declared.TType.{TType}
use Rattle.heads.specs.Heads.{Field, stop, bool, value}
use Rattle.frame.specs.Ask.{Ask, got, refused, look, pass, passing, Plan, done, refuse, onward, and_then, provided, byte, some, ahead, backed}
use Rattle.frame.specs.Plans.{field, of_type, Passed, after, walk, fields}

pub passing_passing : {A : Type 0} (n m : ℕ) (q : Ask A) → passing n (passing m q) ≡ passing (n + m) q
passing_passing zero m q = let e : m ≡ 0 + m = omega arith in ap (λ (k : ℕ). passing k q) e
passing_passing (suc n) zero q = let e : suc n ≡ suc n + 0 = omega arith in ap (λ (k : ℕ). passing k q) e
passing_passing (suc n) (suc m) (got a) = let e : suc n + suc m ≡ suc (n + suc m) = omega arith in rw e
passing_passing (suc n) (suc m) (refused why) = let e : suc n + suc m ≡ suc (n + suc m) = omega arith in rw e
passing_passing (suc n) (suc m) (look f) = let e : suc n + suc m ≡ suc (n + suc m) = omega arith in rw e
passing_passing (suc n) (suc m) (pass k q) =
    let e : suc n + suc m ≡ suc (n + suc m) = omega arith in
    let g : suc n + (suc m + k) ≡ suc (n + suc m) + k = omega arith in
    ap (λ (i : ℕ). pass i q) g ∙ ap (λ (i : ℕ). passing i (pass k q)) (sym e)

pub passing_refused : {A : Type 0} (n why : ℕ) → passing {A = A} n (refused why) ≡ refused why
passing_refused zero why = refl
passing_refused (suc n) why = refl

module _ {A B : Type 0} (k : A → Plan B) where
  pub onward_passing : (left n : ℕ) (q : Ask A) → onward k left (passing n q) ≡ passing n (onward k (left - n) q)
  onward_passing left zero q = let e : left ≡ left - 0 = omega arith in ap (λ (l : ℕ). onward k l q) e
  onward_passing left (suc n) (got a) = refl
  onward_passing left (suc n) (refused why) = refl
  onward_passing left (suc n) (look f) = refl
  onward_passing left (suc n) (pass m q) =
      let e : left - (suc n + m) ≡ left - suc n - m = omega arith in
      ap (λ (l : ℕ). passing (suc n + m) (onward k l q)) e ∙ sym (passing_passing (suc n) m (onward k (left - suc n - m) q))

pub onward_assoc : {A B C : Type 0} (k : A → Plan B) (k' : B → Plan C) (left : ℕ) (q : Ask A) → onward k' left (onward k left q) ≡ onward (λ a. and_then (k a) k') left q
unfolding and_then
onward_assoc k k' left (got a) = refl
onward_assoc k k' left (refused why) = refl
onward_assoc k k' left (look f) = ap look (fun_ext (λ b. onward_assoc k k' (left - 1) (f b)))
onward_assoc k k' left (pass n q) = onward_passing k' left n (onward k (left - n) q) ∙ ap (passing n) (onward_assoc k k' (left - n) q)

pub assoc : {A B C : Type 0} (p : Plan A) (k : A → Plan B) (k' : B → Plan C) → and_then (and_then p k) k' ≡ and_then p (λ a. and_then (k a) k')
unfolding and_then
assoc p k k' = fun_ext (λ left. onward_assoc k k' left (p left))

pub done_then : {A B : Type 0} (a : A) (k : A → Plan B) → and_then (done a) k ≡ k a
unfolding and_then done
done_then a k = refl

pub refuse_then : {A B : Type 0} (why : ℕ) (k : A → Plan B) → and_then (refuse why) k ≡ refuse why
unfolding and_then refuse
refuse_then why k = refl

pub cond_then : {A B : Type 0} (ok : Bool) (p q : Plan A) (k : A → Plan B) → and_then (cond ok p q) k ≡ cond ok (and_then p k) (and_then q k)
cond_then true p q k = refl
cond_then false p q k = refl

pub provided_then : {A B : Type 0} (ok : Bool) (why : ℕ) (p : Plan A) (k : A → Plan B) → and_then (provided ok why p) k ≡ provided ok why (and_then p k)
unfolding and_then provided
provided_then true why p k = refl
provided_then false why p k = refl

pub then_byte : {A : Type 0} (k : ℕ → Plan A) (left : ℕ) → and_then byte k (suc left) ≡ look (λ b. k b left)
unfolding and_then byte
then_byte k left = let e : suc left - 1 ≡ left = omega arith in rw e

pub then_none : {A : Type 0} (k : ℕ → Plan A) → and_then byte k 0 ≡ refused END
unfolding and_then byte
then_none k = refl

pub then_some : {A : Type 0} (n : ℕ) (k : Passed → Plan A) (left : ℕ) → and_then (some n) k left ≡ cond (leb n left) (passing n (k tt (left - n))) (refused END)
unfolding and_then some
then_some n k left = go (leb n left)
  where
    go : (ok : Bool) → onward k left (cond ok (passing n (got tt)) (refused END)) ≡ cond ok (passing n (k tt (left - n))) (refused END)
    go true = onward_passing k left n (got tt)
    go false = refl

pub then_ahead : {A B : Type 0} (n : ℕ) (a : A) (k : A → Plan B) (left : ℕ) → and_then (ahead n a) k left ≡ cond (leb n left) (k a left) (refused END)
unfolding and_then ahead
then_ahead n a k left = go (leb n left)
  where
    go : (ok : Bool) → onward k left (cond ok (got a) (refused END)) ≡ cond ok (k a left) (refused END)
    go true = refl
    go false = refl

pub then_backed : {A B : Type 0} (need : A → ℕ) (p : Plan A) (k : A → Plan B) → and_then (backed need p) k ≡ and_then p (λ a. and_then (ahead (need a) a) k)
unfolding backed
then_backed need p k = assoc p _ k

-- plans that agree on no more bytes than are left
pub onward_same : {A B : Type 0} (k k' : A → Plan B) (left : ℕ) (q : Ask A) → ((a : A) (l : ℕ) → l ≤ left → k a l ≡ k' a l) → onward k left q ≡ onward k' left q
onward_same k k' left (got a) e = e a left (omega arith)
onward_same k k' left (refused why) e = refl
onward_same k k' left (look f) e = ap look (fun_ext (λ b. onward_same k k' (left - 1) (f b) (λ a l h. e a l (omega arith))))
onward_same k k' left (pass n q) e = ap (passing n) (onward_same k k' (left - n) q (λ a l h. e a l (omega arith)))

module _ (f : TType → Plan Passed) where
  after_same : (go go' : ℤ → Plan Passed) (x : Field) (left : ℕ) → ((id : ℤ) (l : ℕ) → l ≤ left → go id l ≡ go' id l) → after f go x left ≡ after f go' x left
  unfolding and_then
  after_same go go' stop left e = refl
  after_same go go' (bool b id) left e = e id left (omega arith)
  after_same go go' (value t id) left e = onward_same _ _ left (f t left) (λ u l h. e id l h)

  head_same : (go go' : ℤ → Plan Passed) (last : ℤ) (left : ℕ) → ((id : ℤ) (l : ℕ) → l < left → go id l ≡ go' id l) → and_then (field last) (after f go) left ≡ and_then (field last) (after f go') left
  unfolding field and_then byte
  head_same go go' last zero e = refl
  head_same go go' last (suc left) e =
      ap look (fun_ext (λ b. onward_same (after f go) (after f go') (suc left - 1) (of_type last (b / 16) (field_type (b % 16)) (suc left - 1)) (λ x l h. after_same go go' x l (λ id m g. e id m (omega arith)))))

  no_head : (go : ℤ → Plan Passed) (last : ℤ) → and_then (field last) (after f go) 0 ≡ refused END
  unfolding field and_then byte
  no_head go last = refl

  fuel : (k j : ℕ) (last : ℤ) (left : ℕ) → left ≤ k → left ≤ j → walk f k last left ≡ walk f j last left
  unfolding walk refuse
  fuel zero zero last left hk hj = refl
  fuel zero (suc j) last zero hk hj = sym (no_head _ last)
  fuel zero (suc j) last (suc left) hk hj = absurd (omega arith)
  fuel (suc k) zero last zero hk hj = no_head _ last
  fuel (suc k) zero last (suc left) hk hj = absurd (omega arith)
  fuel (suc k) (suc j) last left hk hj = head_same (walk f k) (walk f j) last left (λ id l h. fuel k j id l (omega arith) (omega arith))

  step_at : (last : ℤ) (left : ℕ) → fields f last left ≡ and_then (field last) (after f (fields f)) left
  unfolding fields walk refuse
  step_at last zero = sym (no_head _ last)
  step_at last (suc left) = head_same (walk f left) (fields f) last (suc left) (λ id l h. fuel left l id l (omega arith) (omega arith))

  -- the step: a header, and what it says to do; then on in the same way
  pub fields_step : (last : ℤ) → fields f last ≡ and_then (field last) (after f (fields f))
  fields_step last = fun_ext (step_at last)

-- so many that nobody looks at, at once
pub some_zero : {A : Type 0} (k : Passed → Plan A) (left : ℕ) → and_then (some 0) k left ≡ k tt left
some_zero k left = then_some 0 k left ∙ rw (le-leb 0 left (omega arith)) (ap (k tt) (omega arith))

pub some_some : {A : Type 0} (n m : ℕ) (k : Passed → Plan A) (left : ℕ) → and_then (some n) (λ u. and_then (some m) k) left ≡ and_then (some (n + m)) k left
some_some n m k left = then_some n (λ u. and_then (some m) k) left ∙ go (dec_le n left) ∙ sym (then_some (n + m) k left)
  where
    go : Dec (n ≤ left) → cond (leb n left) (passing n (and_then (some m) k (left - n))) (refused END) ≡ cond (leb (n + m) left) (passing (n + m) (k tt (left - (n + m)))) (refused END)
    go (no h) = rw (lt-leb n left (omega arith), lt-leb (n + m) left (omega arith))
    go (yes h) = rw (le-leb n left h) (ap (passing n) (then_some m k (left - n)) ∙ on (dec_le m (left - n)))
      where
        on : Dec (m ≤ left - n) → passing n (cond (leb m (left - n)) (passing m (k tt (left - n - m))) (refused END)) ≡ cond (leb (n + m) left) (passing (n + m) (k tt (left - (n + m)))) (refused END)
        on (yes g) =
            rw (le-leb m (left - n) g, le-leb (n + m) left (omega arith))
            (passing_passing n m (k tt (left - n - m)) ∙ ap (λ (l : ℕ). passing (n + m) (k tt l)) (omega arith))
        on (no g) = rw (lt-leb m (left - n) (omega arith), lt-leb (n + m) left (omega arith)) (passing_refused n END)
