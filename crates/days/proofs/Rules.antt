-- The test is the rules: a file is accepted exactly where they hold. Assumes nothing.
use mathlib.Core.Path.{◌≡◌, refl, subst}
use mathlib.Core.Bool.{Bool, true, false, ◌&&◌}
use mathlib.Core.List.{List}
use mathlib.Core.Logic.{◌↔◌}
use Prim.Native.Nat.{ℕ, zero, suc, ◌+◌, ◌-◌, ◌*◌, ◌≤◌, ◌<◌}
use native.Mathlib.Omega.{arith}
use native.Mathlib.Nat.{add-zero}
use borrow.Author.Tests.{lt-ltb, le-leb, eq-eqb, ltb-true, leb-true, eqb-true}
use lib.Dec.{eqb, leb, ltb}
use lib.ListN.{length}
use Rattle.days.specs.Day.{number, Day, rises, accepted}

pub no_true : {X : Type 0} → false ≡ true → X
no_true {X} e = absurd (subst F e tt)
  where
    F : Bool → Type 0
    F false = Unit {0}
    F true = ⊥

pub by_bool : {X : Type 0} (b : Bool) → (b ≡ true → X) → (b ≡ false → X) → X
by_bool true f g = f refl
by_bool false f g = g refl

-- a test and another
pub and_none : (a b : Bool) → b ≡ false → (a && b) ≡ false
and_none true b e = e
and_none false b e = refl

pub and_both : (a b : Bool) → a ≡ true → b ≡ true → (a && b) ≡ true
and_both a b e f = rw (e, f)

pub and_left : (a b : Bool) → (a && b) ≡ true → a ≡ true
and_left true b e = refl
and_left false b e = e

pub and_right : (a b : Bool) → (a && b) ≡ true → b ≡ true
and_right true b e = e
and_right false b e = no_true e

-- the numbers rise one by one
pub rises_all : (file : List ℕ) (n k : ℕ) → rises file n k ≡ true → (j : ℕ) → j < n → number file (k + j) < number file (k + j + 1)
rises_all file zero k e j h = absurd (omega arith)
rises_all file (suc n) k e zero h = rw add-zero (ltb-true _ _ (and_left (ltb (number file k) (number file (k + 1))) _ e))
rises_all file (suc n) k e (suc j) h =
    let q : k + suc j ≡ k + 1 + j = omega arith in
    rw q (rises_all file n (k + 1) (and_right (ltb (number file k) (number file (k + 1))) _ e) j (omega arith))

pub all_rises : (file : List ℕ) (n k : ℕ) → ((j : ℕ) → j < n → number file (k + j) < number file (k + j + 1)) → rises file n k ≡ true
all_rises file zero k h = refl
all_rises file (suc n) k h =
    let one : number file k < number file (k + 1) = rw add-zero at (h 0 (omega arith)) in
    and_both (ltb (number file k) (number file (k + 1))) _ (lt-ltb _ _ one)
    (all_rises file n (k + 1) (λ j l. let q : k + suc j ≡ k + 1 + j = omega arith in rw q at (h (suc j) (omega arith))))

pub is_day : (file : List ℕ) → accepted file ≡ true → Day file
unfolding accepted
is_day file e =
    let f = and_right (leb (4 * number file 0 + 8) (length file)) _ e in
    let g = and_right (leb (number file 0) 4096) _ f in
    let h = and_right (eqb (number file 1) (4 * number file 0 + 8)) _ g in
    let up = and_left (rises file (number file 0) 1) _ h in
    record {
      there = leb-true _ _ (and_left (leb (4 * number file 0 + 8) (length file)) _ e);
      few = leb-true _ _ (and_left (leb (number file 0) 4096) _ f);
      first = eqb-true _ _ (and_left (eqb (number file 1) (4 * number file 0 + 8)) _ g);
      rising = λ k l. let p : 1 + k ≡ k + 1 = omega arith in let q : k + 1 + 1 ≡ k + 2 = omega arith in rw (p, q) at (rises_all file (number file 0) 1 up k l);
      last = eqb-true _ _ (and_right (rises file (number file 0) 1) _ h);
    }

pub day_is : (file : List ℕ) → Day file → accepted file ≡ true
unfolding accepted
day_is file d =
    and_both (leb (4 * number file 0 + 8) (length file)) _ (le-leb _ _ d.there)
    (and_both (leb (number file 0) 4096) _ (le-leb _ _ d.few)
    (and_both (eqb (number file 1) (4 * number file 0 + 8)) _ (eq-eqb _ _ d.first)
    (and_both (rises file (number file 0) 1) _
    (all_rises file (number file 0) 1 (λ k l. let p : 1 + k ≡ k + 1 = omega arith in let q : k + 1 + 1 ≡ k + 2 = omega arith in rw (p, q) (d.rising k l)))
    (eq-eqb _ _ d.last))))

-- "A file is accepted exactly if these rules hold"
pub accepted_exactly : (file : List ℕ) → (accepted file ≡ true) ↔ Day file
accepted_exactly file = (is_day file, day_is file)

-- a later offset is not smaller, and none is past the file's end
pub rises_to : (file : List ℕ) → Day file → (n k : ℕ) → k + n ≤ number file 0 → number file (k + 1) + n ≤ number file (k + n + 1)
rises_to file d zero k h = let q : k + 0 + 1 ≡ k + 1 = omega arith in rw q (omega arith)
rises_to file d (suc n) k h =
    let p : k + 1 + 1 ≡ k + 2 = omega arith in
    let q : k + 1 + n + 1 ≡ k + suc n + 1 = omega arith in
    omega (arith, d.rising k (omega arith), rw (p, q) at (rises_to file d n (k + 1) (omega arith)))

pub within : (file : List ℕ) → Day file → (k : ℕ) → k ≤ number file 0 → number file (k + 1) ≤ length file
within file d k h =
    let q : k + (number file 0 - k) + 1 ≡ number file 0 + 1 = omega arith in
    omega (arith, rw q at (rises_to file d (number file 0 - k) k (omega arith)), d.last)
