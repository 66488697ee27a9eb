-- The walk over fields: how many it may take at most has no say, and its one step. Assumes nothing.
use mathlib.Core.Path.{◌≡◌, refl, sym, ap, ap₂}
use mathlib.Core.Bool.{Bool}
use mathlib.Core.List.{List, [], ◌∷◌}
use Prim.Native.Nat.{ℕ, zero, suc, ◌≤◌, ◌<◌}
use native.Mathlib.Omega.{arith}
use lib.ListN.{length, drop, length-drop}
use lib.IntN.{ℤ}
use Rattle.types.specs.Refusals.{END}
use Rattle.types.specs.declared.TType.{TType}
use Rattle.numbers.specs.Varint.{Found, got, refused, placed}
use Rattle.heads.specs.Reader.{Reader, refuse, onward, and_then, byte}
use Rattle.heads.specs.Heads.{Field, stop, bool, value, field}
use Rattle.heads.proofs.Lawful.{not_both}
use Rattle.heads.proofs.Readers.{field_takes, field_lawful}
use Rattle.skip.specs.Walk.{Entry, with_size, sizing, behind, walk, fields}

-- two readers that agree on the bytes behind what was found
onward_same : {A B : Type 0} (k k' : A → Reader B) (bs : List ℕ) (x : Found A) → ((a : A) (n : ℕ) → x ≡ got a n → k a (drop n bs) ≡ k' a (drop n bs)) → onward k bs x ≡ onward k' bs x
onward_same k k' bs (got a n) h = ap (placed n) (h a n refl)
onward_same k k' bs (refused why) h = refl

pub then_same : {A B : Type 0} (p : Reader A) (k k' : A → Reader B) (bs : List ℕ) → ((a : A) (n : ℕ) → p bs ≡ got a n → k a (drop n bs) ≡ k' a (drop n bs)) → and_then p k bs ≡ and_then p k' bs
unfolding and_then
then_same p k k' bs h = onward_same k k' bs (p bs) h

-- the same where the first readers agree
pub first_same : {A B : Type 0} (p q : Reader A) (k : A → Reader B) (bs : List ℕ) → p bs ≡ q bs → and_then p k bs ≡ and_then q k bs
unfolding and_then
first_same p q k bs e = ap (onward k bs) e

pub shorter : (n : ℕ) (bs : List ℕ) → length (drop n bs) ≤ length bs
shorter n bs = omega (arith, length-drop n bs)

pub sized : {A : Type 0} (x : Found A) (v : A × ℕ) (n : ℕ) → with_size x ≡ got v n → x ≡ got v.0 n
sized {A} (got a m) v n e =
    let q : (a, m) ≡ v = cc in
    let r : m ≡ n = cc in
    ap₂ got (ap (λ (w : A × ℕ). w.0) q) r
sized (refused why) v n e = not_both e

-- no byte, no header
no_head : {A : Type 0} (last : ℤ) (k : Field × ℕ → Reader A) → and_then (sizing (field last)) k [] ≡ refused END
unfolding and_then sizing field byte
no_head last k = refl

module _ {A : Type 0} (truth : Bool → A) (f : TType → Reader A) where
  none : (go : ℤ → Reader (List (Entry A))) (last : ℤ) → refuse END [] ≡ and_then (sizing (field last)) (λ h. behind truth f go h.0 h.1) []
  unfolding refuse
  none go last = sym (no_head last _)

  -- two ways to walk on that agree on all bytes no more than these
  behind_same : (go go' : ℤ → Reader (List (Entry A))) (x : Field) (h : ℕ) (bs : List ℕ) → ((id : ℤ) (cs : List ℕ) → length cs ≤ length bs → go id cs ≡ go' id cs) → behind truth f go x h bs ≡ behind truth f go' x h bs
  behind_same go go' stop h bs e = refl
  behind_same go go' (bool b id) h bs e = first_same (go id) (go' id) _ bs (e id bs (omega arith))
  behind_same go go' (value t id) h bs e =
      then_same (sizing (f t)) _ _ bs (λ v n q. first_same (go id) (go' id) _ (drop n bs) (e id (drop n bs) (shorter n bs)))

  -- behind a header
  after_head : (go go' : ℤ → Reader (List (Entry A))) (last : ℤ) (bs : List ℕ) → ((id : ℤ) (cs : List ℕ) → length cs < length bs → go id cs ≡ go' id cs) → and_then (sizing (field last)) (λ h. behind truth f go h.0 h.1) bs ≡ and_then (sizing (field last)) (λ h. behind truth f go' h.0 h.1) bs
  unfolding sizing
  after_head go go' last bs e =
      then_same (sizing (field last)) _ _ bs
      (λ v n q. behind_same go go' v.0 v.1 (drop n bs) (λ id cs l. e id cs (fewer v n q cs l)))
    where
      fewer : (v : Field × ℕ) (n : ℕ) → sizing (field last) bs ≡ got v n → (cs : List ℕ) → length cs ≤ length (drop n bs) → length cs < length bs
      fewer v n q cs l = let s = sized (field last bs) v n q in omega (arith, l, length-drop n bs, field_takes last bs v.0 n s, (field_lawful last).ends bs v.0 n s)

  -- how many there may be has no say where it is enough
  fuel : (k j : ℕ) (last : ℤ) (bs : List ℕ) → length bs ≤ k → length bs ≤ j → walk truth f k last bs ≡ walk truth f j last bs
  unfolding walk
  fuel zero zero last bs hk hj = refl
  fuel zero (suc j) last [] hk hj = none _ last
  fuel zero (suc j) last (b ∷ bs) hk hj = absurd (omega arith)
  fuel (suc k) zero last [] hk hj = sym (none _ last)
  fuel (suc k) zero last (b ∷ bs) hk hj = absurd (omega arith)
  fuel (suc k) (suc j) last bs hk hj =
      after_head (walk truth f k) (walk truth f j) last bs (λ id cs l. fuel k j id cs (omega arith) (omega arith))

  -- the step: a header, and what it says to do; then on in the same way
  pub fields_step : (last : ℤ) (bs : List ℕ) → fields truth f last bs ≡ and_then (sizing (field last)) (λ h. behind truth f (fields truth f) h.0 h.1) bs
  unfolding fields walk
  fields_step last [] = none _ last
  fields_step last (b ∷ bs) =
      after_head (walk truth f (length bs)) (fields truth f) last (b ∷ bs) (λ id cs l. fuel (length bs) (length cs) id cs (omega arith) (omega arith))
