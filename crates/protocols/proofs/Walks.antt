-- The walk over fields by the words of a protocol: how many it may take at most has no say, and its one step. Assumes nothing.
use mathlib.Core.Path.{◌≡◌, refl, sym, ap}
use mathlib.Core.Bool.{Bool}
use mathlib.Core.List.{List, [], ◌∷◌}
use Prim.Native.Nat.{ℕ, zero, suc, ◌≤◌, ◌<◌}
use native.Mathlib.Omega.{arith}
use lib.ListN.{length, drop, length-drop}
use lib.IntN.{ℤ}
use Rattle.types.specs.Refusals.{END}
use Rattle.types.specs.declared.TType.{TType}
use Rattle.numbers.specs.Varint.{Found, got, refused}
use Rattle.heads.specs.Reader.{Reader, refuse, onward, and_then}
use Rattle.heads.specs.Heads.{Field, stop, bool, value}
use Rattle.skip.specs.Walk.{Entry, with_size, sizing, behind}
use Rattle.skip.proofs.Walks.{then_same, first_same, shorter, sized}
use Rattle.protocols.specs.Words.{Words}
use Rattle.protocols.specs.Value.{walk_by, fields_by}
use Rattle.protocols.proofs.Owes.{Owes}

module _ (w : Words) (o : Owes w) where
  -- no byte, no header
  no_head : {A : Type 0} (last : ℤ) (k : Field × ℕ → Reader A) → and_then (sizing (w.field last)) k [] ≡ refused END
  unfolding and_then sizing
  no_head last k = ap (λ (x : Found Field). onward k [] (with_size x)) (o.none last)

  module _ {A : Type 0} (truth : Bool → A) (f : TType → Reader A) where
    none : (go : ℤ → Reader (List (Entry A))) (last : ℤ) → refuse END [] ≡ and_then (sizing (w.field last)) (λ h. behind truth f go h.0 h.1) []
    unfolding refuse
    none go last = sym (no_head last _)

    -- two ways to walk on that agree on all bytes no more than these
    behind_same : (go go' : ℤ → Reader (List (Entry A))) (x : Field) (h : ℕ) (bs : List ℕ) → ((id : ℤ) (cs : List ℕ) → length cs ≤ length bs → go id cs ≡ go' id cs) → behind truth f go x h bs ≡ behind truth f go' x h bs
    behind_same go go' stop h bs e = refl
    behind_same go go' (bool b id) h bs e = first_same (go id) (go' id) _ bs (e id bs (omega arith))
    behind_same go go' (value t id) h bs e =
        then_same (sizing (f t)) _ _ bs (λ v n q. first_same (go id) (go' id) _ (drop n bs) (e id (drop n bs) (shorter n bs)))

    -- behind a header
    after_head : (go go' : ℤ → Reader (List (Entry A))) (last : ℤ) (bs : List ℕ) → ((id : ℤ) (cs : List ℕ) → length cs < length bs → go id cs ≡ go' id cs) → and_then (sizing (w.field last)) (λ h. behind truth f go h.0 h.1) bs ≡ and_then (sizing (w.field last)) (λ h. behind truth f go' h.0 h.1) bs
    unfolding sizing
    after_head go go' last bs e =
        then_same (sizing (w.field last)) _ _ bs
        (λ v n q. behind_same go go' v.0 v.1 (drop n bs) (λ id cs l. e id cs (fewer v n q cs l)))
      where
        fewer : (v : Field × ℕ) (n : ℕ) → sizing (w.field last) bs ≡ got v n → (cs : List ℕ) → length cs ≤ length (drop n bs) → length cs < length bs
        fewer v n q cs l = let s = sized (w.field last bs) v n q in omega (arith, l, length-drop n bs, (o.field last).enough bs v.0 n s, (o.field last).lawful.ends bs v.0 n s)

    -- how many there may be has no say where it is enough
    fuel : (k j : ℕ) (last : ℤ) (bs : List ℕ) → length bs ≤ k → length bs ≤ j → walk_by w truth f k last bs ≡ walk_by w truth f j last bs
    unfolding walk_by
    fuel zero zero last bs hk hj = refl
    fuel zero (suc j) last [] hk hj = none _ last
    fuel zero (suc j) last (b ∷ bs) hk hj = absurd (omega arith)
    fuel (suc k) zero last [] hk hj = sym (none _ last)
    fuel (suc k) zero last (b ∷ bs) hk hj = absurd (omega arith)
    fuel (suc k) (suc j) last bs hk hj =
        after_head (walk_by w truth f k) (walk_by w truth f j) last bs (λ id cs l. fuel k j id cs (omega arith) (omega arith))

    -- the step: a header, and what it says to do; then on in the same way
    pub fields_step : (last : ℤ) (bs : List ℕ) → fields_by w truth f last bs ≡ and_then (sizing (w.field last)) (λ h. behind truth f (fields_by w truth f) h.0 h.1) bs
    unfolding fields_by walk_by
    fields_step last [] = none _ last
    fields_step last (b ∷ bs) =
        after_head (walk_by w truth f (length bs)) (fields_by w truth f) last (b ∷ bs) (λ id cs l. fuel (length bs) (length cs) id cs (omega arith) (omega arith))
