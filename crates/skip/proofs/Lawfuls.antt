-- The reader of a whole value is lawful and takes at least a byte. Assumes nothing.
use mathlib.Core.Path.{◌≡◌, sym, ap, ◌∙◌}
use mathlib.Core.Bool.{Bool}
use mathlib.Core.List.{List, [], ◌++◌}
use Prim.Native.Nat.{ℕ, zero, suc, ◌≤◌}
use native.Mathlib.Omega.{arith}
use lib.ListN.{length, take, drop, length-drop, length-take, take-append-drop}
use lib.IntN.{ℤ, pos}
use Rattle.types.specs.Refusals.{BAD_TYPE, DEPTH}
use Rattle.types.specs.declared.TType.{TType}
use Rattle.types.specs.declared.TType.TheVariants as T
use Rattle.types.specs.declared.TConfiguration.{TConfiguration}
use Rattle.types.specs.Value as val
use Rattle.types.specs.Value.{Tree}
use Rattle.numbers.specs.Varint.{Found, got}
use Rattle.heads.specs.Reader.{Reader, refuse, and_then}
use Rattle.heads.specs.Heads.{Field, stop, bool, value, field}
use Rattle.heads.proofs.Lawful.{Lawful, LawfulAt, Takes, not_both, done_lawful, then_lawful_at, lawful_at, at_lawful, then_takes}
use Rattle.heads.proofs.Ahead.{items_head_takes, pairs_head_takes}
use Rattle.heads.proofs.Readers.{field_lawful, int8_takes, int16_takes, int32_takes, int64_takes, double_takes, uuid_takes, truth_takes, binary_takes, field_takes}
use Rattle.skip.specs.Walk.{Entry, with_size, sizing, behind, fields}
use Rattle.skip.specs.Value.{value_of}
use Rattle.skip.proofs.Walks.{sized, fields_step}
use Rattle.skip.proofs.Sound.{sound}
use Rattle.skip.proofs.Complete.{complete}

-- with its size
sized_is : {A : Type 0} (x : Found A) (a : A) (n : ℕ) → x ≡ got a n → with_size x ≡ got (a, n) n
sized_is x a n e = ap with_size e

size_of : {A : Type 0} (x : Found A) (v : A × ℕ) (n : ℕ) → with_size x ≡ got v n → got (v.0, n) n ≡ got v n
size_of x v n e = sym (sized_is x v.0 n (sized x v n e)) ∙ e

pub sizing_lawful : {A : Type 0} (p : Reader A) → Lawful p → Lawful (sizing p)
unfolding sizing
sizing_lawful p lp =
    record {
      ends = λ bs v n e. lp.ends bs v.0 n (sized (p bs) v n e);
      front = λ bs v n e rest. sized_is (p (take n bs ++ rest)) v.0 n (lp.front bs v.0 n (sized (p bs) v n e) rest) ∙ size_of (p bs) v n e;
    }

pub sizing_takes : {A : Type 0} (p : Reader A) → Takes p → Takes (sizing p)
unfolding sizing
sizing_takes p tp bs v n e = tp bs v.0 n (sized (p bs) v n e)

-- the walk: so far as some bytes go, from how it goes on fewer
module _ {A : Type 0} (truth : Bool → A) (f : TType → Reader A) (lf : (t : TType) → Lawful (f t)) where
  shorter : (n : ℕ) (bs : List ℕ) → length (drop n bs) ≤ length bs
  shorter n bs = omega (arith, length-drop n bs)

  behind_at : (go : ℤ → Reader (List (Entry A))) (x : Field) (h : ℕ) (bs : List ℕ) → ((id : ℤ) (cs : List ℕ) → length cs ≤ length bs → LawfulAt (go id) cs) → LawfulAt (behind truth f go x h) bs
  behind_at go stop h bs l = lawful_at _ (done_lawful []) bs
  behind_at go (bool b id) h bs l = then_lawful_at (go id) _ bs (l id bs (omega arith)) (λ fs n e. lawful_at _ (done_lawful _) (drop n bs))
  behind_at go (value t id) h bs l =
      then_lawful_at (sizing (f t)) _ bs (lawful_at _ (sizing_lawful (f t) (lf t)) bs)
      (λ v n e. then_lawful_at (go id) _ (drop n bs) (l id (drop n bs) (shorter n bs)) (λ fs m q. lawful_at _ (done_lawful _) (drop m (drop n bs))))

  stepped : (last : ℤ) (bs : List ℕ) → LawfulAt (and_then (sizing (field last)) (λ h. behind truth f (fields truth f) h.0 h.1)) bs → LawfulAt (fields truth f last) bs
  stepped last bs l =
      record {
        ends = λ a n e. l.ends a n (sym (fields_step truth f last bs) ∙ e);
        front = λ a n e rest. fields_step truth f last (take n bs ++ rest) ∙ l.front a n (sym (fields_step truth f last bs) ∙ e) rest;
      }

  fewer : (k : ℕ) (last : ℤ) (bs : List ℕ) → length bs ≤ suc k → (v : Field × ℕ) (n : ℕ) → sizing (field last) bs ≡ got v n → (cs : List ℕ) → length cs ≤ length (drop n bs) → length cs ≤ k
  fewer k last bs h v n e cs l = omega (arith, length-drop n bs, sizing_takes (field last) (field_takes last) bs v n e)

  fields_at : (k : ℕ) (last : ℤ) (bs : List ℕ) → length bs ≤ k → LawfulAt (fields truth f last) bs
  fields_at zero last bs h = stepped last bs (then_lawful_at (sizing (field last)) _ bs (lawful_at _ (sizing_lawful (field last) (field_lawful last)) bs) (λ v n e. absurd (none v n e)))
    where
      none : (v : Field × ℕ) (n : ℕ) → sizing (field last) bs ≡ got v n → ⊥
      none v n e =
          let t = sizing_takes (field last) (field_takes last) bs v n e in
          let i = (sizing_lawful (field last) (field_lawful last)).ends bs v n e in
          omega arith
  fields_at (suc k) last bs h =
      stepped last bs
      (then_lawful_at (sizing (field last)) _ bs (lawful_at _ (sizing_lawful (field last) (field_lawful last)) bs)
      (λ v n e. behind_at (fields truth f) v.0 v.1 (drop n bs) (λ id cs l. fields_at k id cs (fewer k last bs h v n e cs l))))

  pub fields_lawful : (last : ℤ) → Lawful (fields truth f last)
  fields_lawful last = at_lawful (fields truth f last) (λ bs. fields_at (length bs) last bs (omega arith))

  pub fields_takes : (last : ℤ) → Takes (fields truth f last)
  fields_takes last bs a n e = then_takes (sizing (field last)) _ (sizing_takes (field last) (field_takes last)) bs a n (sym (fields_step truth f last bs) ∙ e)

-- What is read is spelt by the bytes that it took, and spelt bytes are read so whatever stands behind them: so a value's reader is lawful, though the
-- headers in it ask for bytes ahead.
module _ (lim : TConfiguration) where
  module _ (room : ℕ) (ty : TType) (bs : List ℕ) (t : Tree) (n : ℕ) (e : value_of lim room ty bs ≡ got t n) where
    value_again : (rest : List ℕ) → value_of lim room ty (take n bs ++ rest) ≡ got t (length (take n bs))
    value_again rest = complete t lim room ty (take n bs) (sound lim room ty bs t n e) rest

    value_size : length (take n bs) ≡ n
    value_size = let f : got t (length (take n bs)) ≡ got t n = sym (value_again (drop n bs)) ∙ ap (value_of lim room ty) (take-append-drop n bs) ∙ e in cc

    value_ends : n ≤ length bs
    value_ends = omega (arith, sym (length-take n bs) ∙ value_size)

    value_front : (rest : List ℕ) → value_of lim room ty (take n bs ++ rest) ≡ got t n
    value_front rest = value_again rest ∙ ap (got t) value_size

  pub value_lawful : (room : ℕ) (t : TType) → Lawful (value_of lim room t)
  value_lawful room t = record { ends = value_ends room t; front = value_front room t }

  -- at least a byte
  refuse_takes : (why : ℕ) → Takes (refuse {A = Tree} why)
  unfolding refuse
  refuse_takes why bs a n e = not_both e

  pub value_takes : (room : ℕ) (t : TType) → Takes (value_of lim room t)
  unfolding value_of
  value_takes zero T.List = refuse_takes DEPTH
  value_takes zero T.Set = refuse_takes DEPTH
  value_takes zero T.Map = refuse_takes DEPTH
  value_takes zero T.Struct = refuse_takes DEPTH
  value_takes (suc room) T.List = then_takes _ _ (items_head_takes lim)
  value_takes (suc room) T.Set = then_takes _ _ (items_head_takes lim)
  value_takes (suc room) T.Map = then_takes _ _ (pairs_head_takes lim)
  value_takes (suc room) T.Struct = then_takes _ _ (fields_takes val.truth (value_of lim room) (value_lawful room) (pos 0))
  value_takes zero T.Stop = refuse_takes BAD_TYPE
  value_takes (suc room) T.Stop = refuse_takes BAD_TYPE
  value_takes zero T.Bool = then_takes _ _ truth_takes
  value_takes (suc room) T.Bool = then_takes _ _ truth_takes
  value_takes zero T.I08 = then_takes _ _ int8_takes
  value_takes (suc room) T.I08 = then_takes _ _ int8_takes
  value_takes zero T.I16 = then_takes _ _ int16_takes
  value_takes (suc room) T.I16 = then_takes _ _ int16_takes
  value_takes zero T.I32 = then_takes _ _ int32_takes
  value_takes (suc room) T.I32 = then_takes _ _ int32_takes
  value_takes zero T.I64 = then_takes _ _ int64_takes
  value_takes (suc room) T.I64 = then_takes _ _ int64_takes
  value_takes zero T.Double = then_takes _ _ double_takes
  value_takes (suc room) T.Double = then_takes _ _ double_takes
  value_takes zero T.String = then_takes _ _ (binary_takes lim)
  value_takes (suc room) T.String = then_takes _ _ (binary_takes lim)
  value_takes zero T.Uuid = then_takes _ _ uuid_takes
  value_takes (suc room) T.Uuid = then_takes _ _ uuid_takes
