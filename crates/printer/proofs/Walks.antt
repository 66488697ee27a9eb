-- The walk over a struct's fields, told: how many there may be has no say, so it goes on from a header in the same way. Assumes nothing.
use mathlib.Core.Path.{◌≡◌, refl, sym, ap}
use mathlib.Core.List.{List, [], ◌∷◌, ◌++◌}
use Prim.Native.Nat.{ℕ, zero, suc, ◌≤◌, ◌<◌}
use native.Mathlib.Omega.{arith}
use lib.ListN.{length, drop, length-drop}
use lib.IntN.{ℤ}
use Rattle.types.specs.Refusals.{END}
use Rattle.types.specs.declared.TType.{TType}
use Rattle.types.specs.Value.{Tree, Fields}
use Rattle.numbers.specs.Varint.{Found, got, refused, placed}
use Rattle.heads.specs.Reader.{refuse, byte, and_then}
use Rattle.heads.specs.Heads.{Field, stop, bool, value, field}
use Rattle.heads.proofs.Readers.{field_lawful, field_takes}
use Rattle.lines.specs.Lines.{Item}
use Rattle.printer.specs.Telling.{Told, Teller, quiet, aloud, onward_t, then_tell}
use Rattle.printer.specs.Value.{behind_told, walk_told, fields_told}
use Rattle.skip.proofs.Walks.{shorter}

-- two ways to go on that agree behind what was found
onward_same : {A B : Type 0} (k l : A → Teller B) (bs : List ℕ) (is : List Item) (x : Found A) → ((a : A) (n : ℕ) → x ≡ got a n → k a (drop n bs) ≡ l a (drop n bs)) → onward_t k bs is x ≡ onward_t l bs is x
onward_same {A} {B} k l bs is (got a n) h = ap (λ (t : Told B). record { items = is ++ t.items; found = placed n t.found }) (h a n refl)
onward_same k l bs is (refused why) h = refl

pub then_same : {A B : Type 0} (t : Teller A) (k l : A → Teller B) (bs : List ℕ) → ((a : A) (n : ℕ) → (t bs).found ≡ got a n → k a (drop n bs) ≡ l a (drop n bs)) → then_tell t k bs ≡ then_tell t l bs
unfolding then_tell
then_same t k l bs h = onward_same k l bs (t bs).items (t bs).found h

-- the same where the first tellings agree
pub first_same : {A B : Type 0} (t u : Teller A) (k : A → Teller B) (bs : List ℕ) → t bs ≡ u bs → then_tell t k bs ≡ then_tell u k bs
unfolding then_tell
first_same {A} t u k bs e = ap (λ (x : Told A). onward_t k bs x.items x.found) e

pub aloud_same : {A : Type 0} (i : Item) (t u : Teller A) (bs : List ℕ) → t bs ≡ u bs → aloud i t bs ≡ aloud i u bs
unfolding aloud
aloud_same {A} i t u bs e = ap (λ (x : Told A). record { items = i ∷ x.items; found = x.found }) e

module _ (inner : TType → Teller Tree) where
  -- no byte, no header
  none : (go : ℤ → Teller Fields) (last : ℤ) → quiet (refuse END) [] ≡ then_tell (quiet (field last)) (behind_told inner go) []
  unfolding quiet refuse then_tell field byte and_then
  none go last = refl

  -- two ways to walk on that agree on all bytes no more than these
  behind_same : (go go' : ℤ → Teller Fields) (x : Field) (bs : List ℕ) → ((id : ℤ) (cs : List ℕ) → length cs ≤ length bs → go id cs ≡ go' id cs) → behind_told inner go x bs ≡ behind_told inner go' x bs
  behind_same go go' stop bs e = refl
  behind_same go go' (bool b id) bs e = aloud_same _ _ _ bs (aloud_same _ _ _ bs (first_same (go id) (go' id) _ bs (e id bs (omega arith))))
  behind_same go go' (value t id) bs e =
      aloud_same _ _ _ bs (then_same (inner t) _ _ bs (λ v n q. first_same (go id) (go' id) _ (drop n bs) (e id (drop n bs) (shorter n bs))))

  -- behind a header
  after_head : (go go' : ℤ → Teller Fields) (last : ℤ) (bs : List ℕ) → ((id : ℤ) (cs : List ℕ) → length cs < length bs → go id cs ≡ go' id cs) → then_tell (quiet (field last)) (behind_told inner go) bs ≡ then_tell (quiet (field last)) (behind_told inner go') bs
  unfolding quiet
  after_head go go' last bs e =
      then_same (quiet (field last)) _ _ bs (λ v n q. behind_same go go' v (drop n bs) (λ id cs l. e id cs (fewer v n q cs l)))
    where
      fewer : (v : Field) (n : ℕ) → field last bs ≡ got v n → (cs : List ℕ) → length cs ≤ length (drop n bs) → length cs < length bs
      fewer v n q cs l = omega (arith, l, length-drop n bs, field_takes last bs v n q, (field_lawful last).ends bs v n q)

  -- how many there may be has no say where it is enough
  fuel : (k j : ℕ) (last : ℤ) (bs : List ℕ) → length bs ≤ k → length bs ≤ j → walk_told inner k last bs ≡ walk_told inner j last bs
  unfolding walk_told
  fuel zero zero last bs hk hj = refl
  fuel zero (suc j) last [] hk hj = none _ last
  fuel zero (suc j) last (b ∷ bs) hk hj = absurd (omega arith)
  fuel (suc k) zero last [] hk hj = sym (none _ last)
  fuel (suc k) zero last (b ∷ bs) hk hj = absurd (omega arith)
  fuel (suc k) (suc j) last bs hk hj =
      after_head (walk_told inner k) (walk_told inner j) last bs (λ id cs l. fuel k j id cs (omega arith) (omega arith))

  -- the step: a header, and what it says to do; then on in the same way
  pub fields_step : (last : ℤ) (bs : List ℕ) → fields_told inner last bs ≡ then_tell (quiet (field last)) (behind_told inner (fields_told inner)) bs
  unfolding fields_told walk_told
  fields_step last [] = none _ last
  fields_step last (b ∷ bs) =
      after_head (walk_told inner (length bs)) (fields_told inner) last (b ∷ bs) (λ id cs l. fuel (length bs) (length cs) id cs (omega arith) (omega arith))
