-- Tracked reading taken apart: in which of two readers a refusal came, and the bytes that were taken before it. Assumes nothing.
use mathlib.Core.Path.{◌≡◌, refl, sym, ap, ap₂, ◌∙◌}
use mathlib.Core.Bool.{Bool, true, false}
use mathlib.Core.Logic.{◌⊎◌, inl, inr}
use mathlib.Core.List.{List, [], ◌∷◌, ◌++◌, append_assoc}
use Prim.Native.Nat.{ℕ, suc, ◌+◌, ◌≤◌}
use native.Mathlib.Omega.{arith}
use lib.ListN.{length, take, drop, take-append-drop}
use lib.Seq.{length-take-le}
use Rattle.numbers.specs.Varint.{got}
use Rattle.heads.specs.Reader.{Reader, Whole}
use Rattle.heads.proofs.Lawful.{Lawful, whole_of}
use Rattle.faults.specs.Tracked.{Step, Tried, Tracked, found, broke, done, and_then, provided, onward, after, under}
use Rattle.faults.proofs.Finds.{forget}
use Rattle.faults.proofs.Paths.{steps}

-- a value is not a refusal
pub never : {A X : Type 0} {a : A} {n m why : ℕ} {path : List Step} → ◌≡◌ {A = Tried A} (found a n) (broke why m path) → X
never e = let z : ◌≡◌ {A = ℕ} 0 1 = cc in absurd (omega arith)

-- one behind the other, refused: in the first or in the second
pub record Later {A B : Type 0} (x : Tried A) (k : A → Tracked B) (bs : List ℕ) (why n : ℕ) (path : List Step) : Type 0 where
  pub one : A
  pub used : ℕ
  pub more : ℕ
  pub first : x ≡ found one used
  pub second : k one (drop used bs) ≡ broke why more path
  pub all : n ≡ used + more

pub later : {B : Type 0} (m : ℕ) (y : Tried B) (why n : ℕ) (path : List Step) → after m y ≡ broke why n path → (j : ℕ) × (y ≡ broke why j path) × (n ≡ m + j)
later m (found b j) why n path e = never e
later m (broke w j p) why n path e =
    let a : w ≡ why = cc in
    let b : p ≡ path = cc in
    let c : m + j ≡ n = cc in
    (j, ap₂ (λ (u : ℕ) (v : List Step). broke u j v) a b, sym c)

pub split : {A B : Type 0} (x : Tried A) (k : A → Tracked B) (bs : List ℕ) (why n : ℕ) (path : List Step) → onward k bs x ≡ broke why n path → (x ≡ broke why n path) ⊎ Later x k bs why n path
split (found a m) k bs why n path e =
    let f = later m (k a (drop m bs)) why n path e in
    inr (record { one = a; used = m; more = f.0; first = refl; second = f.1; all = f.2 })
split (broke w m p) k bs why n path e =
    let a : w ≡ why = cc in
    let b : p ≡ path = cc in
    let c : m ≡ n = cc in
    inl (ap₂ (λ (u : ℕ) (v : List Step). broke u m v) a b ∙ ap (λ (z : ℕ). broke why z path) c)

pub parted : {A B : Type 0} (p : Tracked A) (k : A → Tracked B) (bs : List ℕ) (why n : ℕ) (path : List Step) → and_then p k bs ≡ broke why n path → (p bs ≡ broke why n path) ⊎ Later (p bs) k bs why n path
unfolding and_then
parted p k bs why n path e = split (p bs) k bs why n path e

pub unmade : {A B : Type 0} (p : Tracked A) (g : A → B) (bs : List ℕ) (why n : ℕ) (path : List Step) → and_then p (λ a. done (g a)) bs ≡ broke why n path → p bs ≡ broke why n path
unfolding done
unmade p g bs why n path e = by (parted p (λ a. done (g a)) bs why n path e)
  where
    by : (p bs ≡ broke why n path) ⊎ Later (p bs) (λ a. done (g a)) bs why n path → p bs ≡ broke why n path
    by (inl f) = f
    by (inr f) = never f.second

-- inside a step
pub inside : {A : Type 0} (i : Step) (x : Tried A) (why n : ℕ) (s : Step) (path : List Step) → under i x ≡ broke why n (s ∷ path) → (s ≡ i) × (x ≡ broke why n path)
inside i (found a m) why n s path e = never e
inside i (broke w m p) why n s path e =
    let a : w ≡ why = cc in
    let b : i ≡ s = cc in
    let c : m ≡ n = cc in
    let d : p ≡ path = cc in
    (sym b, ap₂ (λ (u : ℕ) (v : List Step). broke u m v) a d ∙ ap (λ (z : ℕ). broke why z path) c)

pub unlabelled : {A : Type 0} (i : Step) (x : Tried A) (a : A) (n : ℕ) → under i x ≡ found a n → x ≡ found a n
unlabelled i (found b m) a n e = e
unlabelled i (broke w m p) a n e = never (sym e)

-- a header has no path
pub no_step : {A X : Type 0} (x : Tried A) (why n : ℕ) (s : Step) (path : List Step) → steps x ≤ 0 → x ≡ broke why n (s ∷ path) → X
no_step x why n s path l e = let z : steps x ≡ suc (length path) = ap steps e in absurd (omega (arith, l, z))

pub test_held : {A : Type 0} (ok : Bool) (w : ℕ) (p : Tracked A) (bs : List ℕ) (why n : ℕ) (s : Step) (path : List Step) → provided ok w p bs ≡ broke why n (s ∷ path) → ok ≡ true
unfolding provided
test_held true w p bs why n s path e = refl
test_held false w p bs why n s path e = no_step (broke w 0 []) why n s path (omega arith) e

pub test_passed : {A : Type 0} (ok : Bool) (w : ℕ) (p : Tracked A) (bs : List ℕ) (why n : ℕ) (s : Step) (path : List Step) → provided ok w p bs ≡ broke why n (s ∷ path) → p bs ≡ broke why n (s ∷ path)
unfolding provided
test_passed true w p bs why n s path e = e
test_passed false w p bs why n s path e = no_step (broke w 0 []) why n s path (omega arith) e

-- what is found, the reader got
pub was_got : {A : Type 0} (p : Tracked A) (q : Reader A) → ((bs : List ℕ) → forget (p bs) ≡ q bs) → (bs : List ℕ) (a : A) (n : ℕ) → p bs ≡ found a n → q bs ≡ got a n
was_got p q f bs a n e = sym (f bs) ∙ ap forget e

-- bytes taken, and those left
module _ {A : Type 0} (q : Reader A) (l : Lawful q) (bs : List ℕ) (a : A) (n : ℕ) (e : q bs ≡ got a n) where
  pub front_long : length (take n bs) ≡ n
  front_long = length-take-le n bs (l.ends bs a n e)

  pub front_whole : Whole q a (take n bs)
  front_whole = whole_of q l bs a n e

pub halves : (n : ℕ) (bs : List ℕ) → bs ≡ take n bs ++ drop n bs
halves n bs = sym (take-append-drop n bs)

pub joined : (n : ℕ) (bs body rest : List ℕ) → drop n bs ≡ body ++ rest → bs ≡ (take n bs ++ body) ++ rest
joined n bs body rest e = halves n bs ∙ ap (λ (l : List ℕ). take n bs ++ l) e ∙ sym (append_assoc (take n bs) body rest)
