-- The walk over fields, tracked: how many it may take at most has no say where it is enough. Assumes nothing.
use mathlib.Core.Path.{◌≡◌, refl, sym, ap, ◌∙◌}
use mathlib.Core.List.{List, [], ◌∷◌}
use Prim.Native.Nat.{ℕ, zero, suc, ◌≤◌, ◌<◌}
use native.Mathlib.Omega.{arith}
use lib.ListN.{length, drop, length-drop}
use lib.IntN.{ℤ}
use Rattle.types.specs.declared.TType.{TType}
use Rattle.types.specs.Value.{Tree, Fields}
use Rattle.numbers.specs.Varint.{got}
use Rattle.heads.specs.Heads as h
use Rattle.heads.specs.Heads.{Field}
use Rattle.heads.proofs.Readers.{field_takes, field_lawful}
use Rattle.faults.specs.Tracked as t
use Rattle.faults.specs.Tracked.{Tried, Tracked, found, broke, missing, and_then, byte}
use Rattle.faults.specs.Heads.{field}
use Rattle.faults.specs.Value.{behind, walk, fields}
use Rattle.faults.proofs.Rule.{Enough, field_r}
use Rattle.faults.proofs.Finds.{forget, Finds, finds}

onward_same : {A B : Type 0} (k k' : A → Tracked B) (bs : List ℕ) (x : Tried A) → ((a : A) (n : ℕ) → x ≡ found a n → k a (drop n bs) ≡ k' a (drop n bs)) → t.onward k bs x ≡ t.onward k' bs x
onward_same k k' bs (found a n) h = ap (t.after n) (h a n refl)
onward_same k k' bs (broke why n path) h = refl

then_same : {A B : Type 0} (p : Tracked A) (k k' : A → Tracked B) (bs : List ℕ) → ((a : A) (n : ℕ) → p bs ≡ found a n → k a (drop n bs) ≡ k' a (drop n bs)) → and_then p k bs ≡ and_then p k' bs
unfolding and_then
then_same p k k' bs h = onward_same k k' bs (p bs) h

first_same : {A B : Type 0} (p q : Tracked A) (k : A → Tracked B) (bs : List ℕ) → p bs ≡ q bs → and_then p k bs ≡ and_then q k bs
unfolding and_then
first_same p q k bs e = ap (t.onward k bs) e

pub field_found : (last : ℤ) (bs : List ℕ) (x : Field) (n : ℕ) → field last bs ≡ found x n → h.field last bs ≡ got x n
unfolding Finds
field_found last bs x n e = sym (field_r Finds finds 0 last bs) ∙ ap forget e

module _ (f : TType → Tracked Tree) where
  none : (go : ℤ → Tracked Fields) (last : ℤ) → missing [] ≡ and_then (field last) (behind f go) []
  unfolding missing and_then field byte
  none go last = refl

  behind_same : (go go' : ℤ → Tracked Fields) (x : Field) (bs : List ℕ) → ((id : ℤ) (cs : List ℕ) → length cs ≤ length bs → go id cs ≡ go' id cs) → behind f go x bs ≡ behind f go' x bs
  behind_same go go' h.stop bs e = refl
  behind_same go go' (h.bool b id) bs e = first_same (go id) (go' id) _ bs (e id bs (omega arith))
  behind_same go go' (h.value ty id) bs e =
      then_same _ _ _ bs (λ v n q. first_same (go id) (go' id) _ (drop n bs) (e id (drop n bs) (omega (arith, length-drop n bs))))

  walk_fuel : (k j : ℕ) (last : ℤ) (bs : List ℕ) → length bs ≤ k → length bs ≤ j → walk f k last bs ≡ walk f j last bs
  unfolding walk
  walk_fuel zero zero last bs hk hj = refl
  walk_fuel zero (suc j) last [] hk hj = none _ last
  walk_fuel zero (suc j) last (b ∷ bs) hk hj = absurd (omega arith)
  walk_fuel (suc k) zero last [] hk hj = sym (none _ last)
  walk_fuel (suc k) zero last (b ∷ bs) hk hj = absurd (omega arith)
  walk_fuel (suc k) (suc j) last bs hk hj =
      then_same (field last) _ _ bs
      (λ x n q. behind_same (walk f k) (walk f j) x (drop n bs)
      (λ id cs l. let g = field_found last bs x n q in
      let c : length cs < length bs = omega (arith, l, length-drop n bs, field_takes last bs x n g, (field_lawful last).ends bs x n g) in
      walk_fuel k j id cs (omega arith) (omega arith)))

  pub walk_enough : (last : ℤ) → Enough (λ k. walk f k last)
  walk_enough last j k bs hj hk = walk_fuel j k last bs hj hk

  -- the step: a header, and what it says to do; then on in the same way
  pub fields_step : (last : ℤ) (bs : List ℕ) → fields f last bs ≡ and_then (field last) (behind f (fields f)) bs
  unfolding fields walk
  fields_step last bs =
      walk_fuel (length bs) (suc (length bs)) last bs (omega arith) (omega arith)
      ∙ then_same (field last) (behind f (walk f (length bs))) (behind f (fields f)) bs
      (λ x n q. behind_same (walk f (length bs)) (fields f) x (drop n bs) (λ id cs l. walk_fuel (length bs) (length cs) id cs (omega (arith, l, length-drop n bs)) (omega arith)))
