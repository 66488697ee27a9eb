-- How far tracked readers read at a place of the input. Assumes nothing.
use mathlib.Core.Path.{◌≡◌, refl, sym, ap, ap₂, ◌∙◌}
use mathlib.Core.Bool.{Bool, true, false, cond}
use mathlib.Core.List.{List, [], ◌∷◌}
use Prim.Native.Nat.{ℕ, ◌+◌, ◌≤◌}
use native.Mathlib.Omega.{arith}
use lib.Dec.{leb}
use lib.ListN.{length, drop}
use lib.Seq.{drop-drop}
use Rattle.types.specs.Refusals.{END}
use Rattle.numbers.specs.Varint.{got, refused}
use Rattle.heads.specs.Reader.{Reader, read_at}
use Rattle.heads.proofs.Steps.{found_at, lost_at}
use Rattle.faults.specs.Tracked.{Step, Tried, Tracked, found, broke, done, refuse, and_then, provided, byte, ahead, backed, onward, reach}
use Rattle.faults.specs.Trace.{up_to}
use Rattle.faults.proofs.Finds.{forget}
use Rattle.faults.proofs.Steady.{reach_after}
use Rattle.faults.proofs.Paths.{steps}

-- what is tried, from what the reader found
pub forgot : {A : Type 0} (x : Tried A) (a : A) (n : ℕ) → forget x ≡ got a n → x ≡ found a n
forgot (found b m) a n e = let z : b ≡ a = cc in let y : m ≡ n = cc in ap₂ found z y
forgot (broke why m path) a n e = let z : ◌≡◌ {A = ℕ} 0 1 = cc in absurd (omega arith)

pub lost_path : {A : Type 0} (x : Tried A) (why : ℕ) → forget x ≡ refused why → (n : ℕ) × (path : List Step) × (x ≡ broke why n path)
lost_path (found b m) why e = let z : ◌≡◌ {A = ℕ} 0 1 = cc in absurd (omega arith)
lost_path (broke w m path) why e = let z : w ≡ why = cc in (m, path, ap (λ (u : ℕ). broke u m path) z)

-- a header has no path
pub lost_so : {A : Type 0} (x : Tried A) (why : ℕ) → steps x ≤ 0 → forget x ≡ refused why → (n : ℕ) × (x ≡ broke why n [])
lost_so (found b m) why l e = let z : ◌≡◌ {A = ℕ} 0 1 = cc in absurd (omega arith)
lost_so (broke w m []) why l e = let z : w ≡ why = cc in (m, ap (λ (u : ℕ). broke u m []) z)
lost_so (broke w m (i ∷ path)) why l e = absurd (omega arith)

-- one word at a time
-- what reads nothing more behind
pub then_reach : {A B : Type 0} (p : Tracked A) (k : A → Tracked B) (bs : List ℕ) → ((a : A) (cs : List ℕ) → reach (k a cs) ≡ 0) → reach (and_then p k bs) ≡ reach (p bs)
unfolding and_then
then_reach {A} p k bs z = by (p bs)
  where
    by : (x : Tried A) → reach (onward k bs x) ≡ reach x
    by (found a n) = omega (arith, reach_after n (k a (drop n bs)), z a (drop n bs))
    by (broke why n path) = refl

pub done_reach : {A : Type 0} (a : A) (bs : List ℕ) → reach (done a bs) ≡ 0
unfolding done
done_reach a bs = refl

pub made_reach : {A B : Type 0} (p : Tracked A) (g : A → B) (bs : List ℕ) → reach (and_then p (λ a. done (g a)) bs) ≡ reach (p bs)
made_reach p g bs = then_reach p (λ a. done (g a)) bs (λ a cs. done_reach (g a) cs)

pub test_reach : {A : Type 0} (ok : Bool) (why : ℕ) (p : Tracked A) (bs : List ℕ) → reach (p bs) ≡ 0 → reach (provided ok why p bs) ≡ 0
unfolding provided
test_reach true why p bs e = e
test_reach false why p bs e = refl

pub ahead_reach : {A : Type 0} (n : ℕ) (a : A) (bs : List ℕ) → reach (ahead n a bs) ≡ 0
unfolding ahead
ahead_reach {A} n a bs = by (leb n (length bs))
  where
    by : (c : Bool) → reach (cond c (found a 0) (broke END 0 [])) ≡ 0
    by true = refl
    by false = refl

pub backed_reach : {A : Type 0} (need : A → ℕ) (p : Tracked A) (bs : List ℕ) → reach (backed need p bs) ≡ reach (p bs)
unfolding backed
backed_reach need p bs = then_reach p _ bs (λ a cs. ahead_reach (need a) a cs)

pub byte_reach : (bs : List ℕ) → reach (byte bs) ≡ 1
unfolding byte
byte_reach [] = refl
byte_reach (b ∷ bs) = refl

-- at a place: behind what a reader found, and where it was refused
module _ {A : Type 0} (p : Tracked A) (q : Reader A) (is : (bs : List ℕ) → forget (p bs) ≡ q bs) (s : List ℕ) (at : ℕ) where
  pub found_there : (a : A) (e : ℕ) → read_at q s at ≡ got a e → (n : ℕ) × (p (drop at s) ≡ found a n) × (at + n ≡ e)
  unfolding read_at
  found_there a e f =
      let g = found_at at (q (drop at s)) a e f in
      (g.0, forgot (p (drop at s)) a g.0 (is (drop at s) ∙ g.1), g.2)

  pub lost_there : (why : ℕ) → read_at q s at ≡ refused why → (n : ℕ) × (path : List Step) × (p (drop at s) ≡ broke why n path)
  unfolding read_at
  lost_there why f = lost_path (p (drop at s)) why (is (drop at s) ∙ lost_at at (q (drop at s)) why f)

  pub upto_end : (a : A) (e : ℕ) → read_at q s at ≡ got a e → up_to p s at ≡ e
  unfolding up_to
  upto_end a e f = let g = found_there a e f in ap (λ (x : Tried A). at + reach x) g.1 ∙ g.2

  module _ {B : Type 0} (k : A → Tracked B) where
    pub upto_step : (a : A) (e : ℕ) → read_at q s at ≡ got a e → up_to (and_then p k) s at ≡ up_to (k a) s e
    unfolding up_to and_then
    upto_step a e f =
        let g = found_there a e f in
        let y = k a (drop g.0 (drop at s)) in
        let z : y ≡ k a (drop e s) = ap (k a) (drop-drop g.0 at s ∙ ap (λ (j : ℕ). drop j s) g.2) in
        ap (λ (x : Tried A). at + reach (onward k (drop at s) x)) g.1 ∙ omega (arith, reach_after g.0 y, ap reach z, g.2)

    pub upto_stop : (why : ℕ) → read_at q s at ≡ refused why → up_to (and_then p k) s at ≡ up_to p s at
    unfolding up_to and_then
    upto_stop why f =
        let g = lost_there why f in
        ap (λ (x : Tried A). at + reach (onward k (drop at s) x)) g.2 ∙ sym (ap (λ (x : Tried A). at + reach x) g.2)

-- the same for what needs no reader
module _ {A : Type 0} (s : List ℕ) (at : ℕ) where
  pub upto_then : {B : Type 0} (p : Tracked A) (k : A → Tracked B) → ((a : A) (cs : List ℕ) → reach (k a cs) ≡ 0) → up_to (and_then p k) s at ≡ up_to p s at
  unfolding up_to
  upto_then p k z = ap (λ (n : ℕ). at + n) (then_reach p k (drop at s) z)

  pub upto_none : (p : Tracked A) → reach (p (drop at s)) ≡ 0 → up_to p s at ≡ at
  unfolding up_to
  upto_none p z = omega (arith, z)

  pub upto_backed : (need : A → ℕ) (p : Tracked A) → up_to (backed need p) s at ≡ up_to p s at
  unfolding up_to
  upto_backed need p = ap (λ (n : ℕ). at + n) (backed_reach need p (drop at s))

  pub upto_yes : (ok : Bool) (why : ℕ) (p : Tracked A) → ok ≡ true → up_to (provided ok why p) s at ≡ up_to p s at
  unfolding up_to provided
  upto_yes ok why p e = rw e

  pub upto_no : (ok : Bool) (why : ℕ) (p : Tracked A) → ok ≡ false → up_to (provided ok why p) s at ≡ at
  unfolding up_to provided
  upto_no ok why p e = rw e (omega arith)

  pub upto_done_then : {B : Type 0} (a : A) (k : A → Tracked B) → up_to (and_then (done a) k) s at ≡ up_to (k a) s at
  unfolding up_to and_then done
  upto_done_then a k = omega (arith, reach_after 0 (k a (drop at s)))

  pub upto_refuse_then : {B : Type 0} (why : ℕ) (k : A → Tracked B) → up_to (and_then (refuse why) k) s at ≡ at
  unfolding up_to and_then refuse
  upto_refuse_then why k = omega arith

pub upto_byte : (s : List ℕ) (at : ℕ) → up_to byte s at ≡ at + 1
unfolding up_to
upto_byte s at = ap (λ (n : ℕ). at + n) (byte_reach (drop at s))
