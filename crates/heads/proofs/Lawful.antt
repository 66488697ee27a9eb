-- A reader is lawful when it takes no more bytes than there are and the bytes behind those that it took have no say. Every reader made of
-- lawful ones is. Assumes nothing.
use mathlib.Core.Path.{◌≡◌, refl, sym, ap, ◌∙◌}
use mathlib.Core.Bool.{Bool, true, false, cond}
use mathlib.Core.List.{List, [], ◌∷◌, ◌++◌, append_assoc, append-nil}
use Prim.Native.Nat.{ℕ, ◌+◌, ◌≤◌, ◌<◌}
use native.Mathlib.Omega.{arith}
use borrow.Author.Tests.{leb-true, le-leb}
use lib.Dec.{leb}
use lib.ListN.{length, take, drop, length-append, length-drop, take-append-drop}
use lib.Seq.{take_at, drop_at, take-add, take-length, length-take-le}
use Rattle.numbers.specs.Varint.{Found, got, refused, placed}
use Rattle.heads.specs.Reader.{Reader, done, refuse, onward, and_then, provided, byte, some, Whole}

pub record Lawful {A : Type 0} (p : Reader A) : Type 0 where
  pub ends : (bs : List ℕ) (a : A) (n : ℕ) → p bs ≡ got a n → n ≤ length bs
  pub front : (bs : List ℕ) (a : A) (n : ℕ) → p bs ≡ got a n → (rest : List ℕ) → p (take n bs ++ rest) ≡ got a n

-- the same for some bytes alone
pub record LawfulAt {A : Type 0} (p : Reader A) (bs : List ℕ) : Type 0 where
  pub ends : (a : A) (n : ℕ) → p bs ≡ got a n → n ≤ length bs
  pub front : (a : A) (n : ℕ) → p bs ≡ got a n → (rest : List ℕ) → p (take n bs ++ rest) ≡ got a n

-- a value and a refusal are never one
pub not_both : {A X : Type 0} {a : A} {n why : ℕ} → ◌≡◌ {A = Found A} (refused why) (got a n) → X
not_both e = let z : ◌≡◌ {A = ℕ} 0 1 = cc in absurd (omega arith)

-- what is found behind something found: both, one behind the other
pub record Both {A B : Type 0} (x : Found A) (k : A → Reader B) (bs : List ℕ) (b : B) (t : ℕ) : Type 0 where
  pub one : A
  pub used : ℕ
  pub more : ℕ
  pub first : x ≡ got one used
  pub second : k one (drop used bs) ≡ got b more
  pub all : t ≡ used + more

more_of : {B : Type 0} (n : ℕ) (y : Found B) (b : B) (t : ℕ) → placed n y ≡ got b t → (m : ℕ) × (y ≡ got b m) × (t ≡ n + m)
more_of n (got c m) b t e = (m, cc, cc)
more_of n (refused why) b t e = not_both e

pub both : {A B : Type 0} (x : Found A) (k : A → Reader B) (bs : List ℕ) (b : B) (t : ℕ) → onward k bs x ≡ got b t → Both x k bs b t
both (got a n) k bs b t e =
    let m = more_of n (k a (drop n bs)) b t e in
    record { one = a; used = n; more = m.0; first = refl; second = m.1; all = m.2 }
both (refused why) k bs b t e = not_both e

-- and back
pub then_got : {A B : Type 0} (p : Reader A) (k : A → Reader B) (bs : List ℕ) (a : A) (n : ℕ) (b : B) (m : ℕ) → p bs ≡ got a n → k a (drop n bs) ≡ got b m → and_then p k bs ≡ got b (n + m)
unfolding and_then
then_got p k bs a n b m e f = ap (onward k bs) e ∙ ap (placed n) f

pub done_lawful : {A : Type 0} (a : A) → Lawful (done a)
unfolding done
done_lawful a = record { ends = λ bs b n e. let z : n ≡ 0 = cc in omega arith; front = λ bs b n e rest. e }

pub refuse_lawful : {A : Type 0} (why : ℕ) → Lawful (refuse {A = A} why)
unfolding refuse
refuse_lawful why = record { ends = λ bs b n e. not_both e; front = λ bs b n e rest. e }

-- one behind the other: so far as these bytes go, the first on them and the second on those behind what the first took
module _ {A B : Type 0} (p : Reader A) (k : A → Reader B) (bs : List ℕ) (lp : LawfulAt p bs) (lk : (a : A) (n : ℕ) → p bs ≡ got a n → LawfulAt (k a) (drop n bs)) where
  then_ends : (b : B) (t : ℕ) → and_then p k bs ≡ got b t → t ≤ length bs
  unfolding and_then
  then_ends b t e =
      let f = both (p bs) k bs b t e in
      omega (arith, f.all, lp.ends f.one f.used f.first, (lk f.one f.used f.first).ends b f.more f.second, length-drop f.used bs)

  then_front : (b : B) (t : ℕ) → and_then p k bs ≡ got b t → (rest : List ℕ) → and_then p k (take t bs ++ rest) ≡ got b t
  unfolding and_then
  then_front b t e rest =
      let f = both (p bs) k bs b t e in
      let n = f.used in
      let m = f.more in
      let cs : List ℕ = take m (drop n bs) ++ rest in
      let split : take t bs ++ rest ≡ take n bs ++ cs = ap (λ (l : List ℕ). l ++ rest) (ap (λ (x : ℕ). take x bs) f.all ∙ take-add n m bs) ∙ append_assoc (take n bs) (take m (drop n bs)) rest in
      let fit : length (take n bs) ≡ n = length-take-le n bs (lp.ends f.one n f.first) in
      let here : p (take n bs ++ cs) ≡ got f.one n = lp.front f.one n f.first cs in
      let there : k f.one (drop n (take n bs ++ cs)) ≡ got b m = ap (k f.one) (drop_at (take n bs) cs n fit) ∙ (lk f.one n f.first).front b m f.second rest in
      ap (and_then p k) split ∙ then_got p k (take n bs ++ cs) f.one n b m here there ∙ ap (got b) (sym f.all)

  pub then_lawful_at : LawfulAt (and_then p k) bs
  then_lawful_at = record { ends = then_ends; front = then_front }

pub lawful_at : {A : Type 0} (p : Reader A) → Lawful p → (bs : List ℕ) → LawfulAt p bs
lawful_at p lp bs = record { ends = lp.ends bs; front = lp.front bs }

pub at_lawful : {A : Type 0} (p : Reader A) → ((bs : List ℕ) → LawfulAt p bs) → Lawful p
at_lawful p l = record { ends = λ bs. (l bs).ends; front = λ bs. (l bs).front }

pub then_lawful : {A B : Type 0} (p : Reader A) (k : A → Reader B) → Lawful p → ((a : A) → Lawful (k a)) → Lawful (and_then p k)
then_lawful p k lp lk =
    at_lawful (and_then p k) (λ bs. then_lawful_at p k bs (lawful_at p lp bs) (λ a n e. lawful_at (k a) (lk a) (drop n bs)))

pub cond_lawful : {A : Type 0} (t : Bool) (p q : Reader A) → Lawful p → Lawful q → Lawful (λ bs. cond t (p bs) (q bs))
cond_lawful true p q lp lq = lp
cond_lawful false p q lp lq = lq

pub provided_lawful : {A : Type 0} (ok : Bool) (why : ℕ) (p : Reader A) → Lawful p → Lawful (provided ok why p)
unfolding provided refuse
provided_lawful ok why p lp = cond_lawful ok p (refuse why) lp (refuse_lawful why)

byte_ends : (bs : List ℕ) (b n : ℕ) → byte bs ≡ got b n → n ≤ length bs
unfolding byte
byte_ends [] b n e = not_both e
byte_ends (x ∷ bs) b n e = let z : n ≡ 1 = cc in omega arith

byte_front : (bs : List ℕ) (b n : ℕ) → byte bs ≡ got b n → (rest : List ℕ) → byte (take n bs ++ rest) ≡ got b n
unfolding byte
byte_front [] b n e rest = not_both e
byte_front (x ∷ bs) b n e rest = let z : n ≡ 1 = cc in rw z (rw z at e)

pub byte_lawful : Lawful byte
byte_lawful = record { ends = byte_ends; front = byte_front }

some_ends : (k : ℕ) (bs cs : List ℕ) (n : ℕ) → some k bs ≡ got cs n → n ≤ length bs
unfolding some
some_ends k bs cs n e = go (leb k (length bs)) refl
  where
    go : (t : Bool) → leb k (length bs) ≡ t → n ≤ length bs
    go true f = let g : got (take k bs) k ≡ got cs n = rw f at e in let z : n ≡ k = cc in omega (arith, leb-true k (length bs) f)
    go false f = not_both (rw f at e)

some_front : (k : ℕ) (bs cs : List ℕ) (n : ℕ) → some k bs ≡ got cs n → (rest : List ℕ) → some k (take n bs ++ rest) ≡ got cs n
unfolding some
some_front k bs cs n e rest = go (leb k (length bs)) refl
  where
    go : (t : Bool) → leb k (length bs) ≡ t → some k (take n bs ++ rest) ≡ got cs n
    go true f =
        let g : got (take k bs) k ≡ got cs n = rw f at e in
        let z : n ≡ k = cc in
        let fit : length (take k bs) ≡ k = length-take-le k bs (leb-true k (length bs) f) in
        rw (z, le-leb k (length (take k bs ++ rest)) (omega (arith, length-append (take k bs) rest)), take_at (take k bs) rest k fit) (g ∙ ap (got cs) z)
    go false f = not_both (rw f at e)

pub some_lawful : (k : ℕ) → Lawful (some k)
some_lawful k = record { ends = some_ends k; front = some_front k }

-- what lawful readers have in common
module _ {A : Type 0} (p : Reader A) (lp : Lawful p) where
  -- two inputs that agree up to the end of what was read give the same
  pub same : (bs cs : List ℕ) (a : A) (n : ℕ) → p bs ≡ got a n → take n cs ≡ take n bs → p cs ≡ got a n
  same bs cs a n e f = ap p (sym (take-append-drop n cs) ∙ ap (λ (l : List ℕ). l ++ drop n cs) f) ∙ lp.front bs a n e (drop n cs)

  -- the bytes that were read are read whole
  pub whole_of : (bs : List ℕ) (a : A) (n : ℕ) → p bs ≡ got a n → Whole p a (take n bs)
  whole_of bs a n e =
      ap p (sym (append-nil (take n bs))) ∙ lp.front bs a n e [] ∙ ap (got a) (sym (length-take-le n bs (lp.ends bs a n e)))

  -- and bytes that are read whole are read so whatever stands behind them
  pub whole_front : (h : List ℕ) (a : A) → Whole p a h → (rest : List ℕ) → p (h ++ rest) ≡ got a (length h)
  whole_front h a e rest = ap (λ (l : List ℕ). p (l ++ rest)) (sym (take-length h)) ∙ lp.front h a (length h) e rest

-- a reader that takes at least a byte
abbrev pub Takes : {A : Type 0} → Reader A → Type 0
Takes {A} p = (bs : List ℕ) (a : A) (n : ℕ) → p bs ≡ got a n → 0 < n

pub byte_takes : Takes byte
unfolding byte
byte_takes [] b n e = not_both e
byte_takes (x ∷ bs) b n e = let z : n ≡ 1 = cc in omega arith

-- so does what begins with one
pub then_takes : {A B : Type 0} (p : Reader A) (k : A → Reader B) → Takes p → Takes (and_then p k)
unfolding and_then
then_takes p k h bs b t e = let f = both (p bs) k bs b t e in omega (arith, f.all, h bs f.one f.used f.first)
