-- The reader of a whole value by the words of a protocol is lawful and takes at least a byte. Assumes nothing.
use mathlib.Core.Path.{◌≡◌, sym, ap, ◌∙◌}
use mathlib.Core.Bool.{Bool}
use mathlib.Core.List.{List, [], ◌++◌}
use Prim.Native.Nat.{ℕ, zero, suc, ◌≤◌}
use native.Mathlib.Omega.{arith}
use lib.ListN.{length, take, drop, length-drop, length-take, take-append-drop}
use lib.IntN.{ℤ, pos}
use Rattle.types.specs.Refusals.{BAD_TYPE, DEPTH}
use Rattle.types.specs.declared.TType.{TType}
use Rattle.types.specs.declared.TType.TheVariants as T
use Rattle.types.specs.declared.TConfiguration.{TConfiguration}
use Rattle.types.specs.Value as val
use Rattle.types.specs.Value.{Tree}
use Rattle.numbers.specs.Varint.{got}
use Rattle.heads.specs.Reader.{Reader, refuse, and_then}
use Rattle.heads.specs.Heads.{Field, stop, bool, value}
use Rattle.heads.proofs.Lawful.{Lawful, LawfulAt, Takes, not_both, done_lawful, then_lawful_at, lawful_at, at_lawful, then_takes}
use Rattle.heads.proofs.Ahead.{backed_takes}
use Rattle.skip.specs.Walk.{Entry, sizing, behind}
use Rattle.skip.proofs.Lawfuls.{sizing_lawful, sizing_takes}
use Rattle.protocols.specs.Words.{Words}
use Rattle.protocols.specs.Value.{fields_by, value_by}
use Rattle.protocols.proofs.Owes.{Owes, takes}
use Rattle.protocols.proofs.Walks.{fields_step}
use Rattle.protocols.proofs.Sound.{sound}
use Rattle.protocols.proofs.Complete.{complete}

module _ (w : Words) (o : Owes w) where
  -- the walk: so far as some bytes go, from how it goes on fewer
  module _ {A : Type 0} (truth : Bool → A) (f : TType → Reader A) (lf : (t : TType) → Lawful (f t)) where
    shorter : (n : ℕ) (bs : List ℕ) → length (drop n bs) ≤ length bs
    shorter n bs = omega (arith, length-drop n bs)

    behind_at : (go : ℤ → Reader (List (Entry A))) (x : Field) (h : ℕ) (bs : List ℕ) → ((id : ℤ) (cs : List ℕ) → length cs ≤ length bs → LawfulAt (go id) cs) → LawfulAt (behind truth f go x h) bs
    behind_at go stop h bs l = lawful_at _ (done_lawful []) bs
    behind_at go (bool b id) h bs l = then_lawful_at (go id) _ bs (l id bs (omega arith)) (λ fs n e. lawful_at _ (done_lawful _) (drop n bs))
    behind_at go (value t id) h bs l =
        then_lawful_at (sizing (f t)) _ bs (lawful_at _ (sizing_lawful (f t) (lf t)) bs)
        (λ v n e. then_lawful_at (go id) _ (drop n bs) (l id (drop n bs) (shorter n bs)) (λ fs m q. lawful_at _ (done_lawful _) (drop m (drop n bs))))

    stepped : (last : ℤ) (bs : List ℕ) → LawfulAt (and_then (sizing (w.field last)) (λ h. behind truth f (fields_by w truth f) h.0 h.1)) bs → LawfulAt (fields_by w truth f last) bs
    stepped last bs l =
        record {
          ends = λ a n e. l.ends a n (sym (fields_step w o truth f last bs) ∙ e);
          front = λ a n e rest. fields_step w o truth f last (take n bs ++ rest) ∙ l.front a n (sym (fields_step w o truth f last bs) ∙ e) rest;
        }

    fewer : (k : ℕ) (last : ℤ) (bs : List ℕ) → length bs ≤ suc k → (v : Field × ℕ) (n : ℕ) → sizing (w.field last) bs ≡ got v n → (cs : List ℕ) → length cs ≤ length (drop n bs) → length cs ≤ k
    fewer k last bs h v n e cs l = omega (arith, length-drop n bs, sizing_takes (w.field last) (takes (w.field last) 1 (omega arith) (o.field last)) bs v n e)

    fields_at : (k : ℕ) (last : ℤ) (bs : List ℕ) → length bs ≤ k → LawfulAt (fields_by w truth f last) bs
    fields_at zero last bs h = stepped last bs (then_lawful_at (sizing (w.field last)) _ bs (lawful_at _ (sizing_lawful (w.field last) (o.field last).lawful) bs) (λ v n e. absurd (none v n e)))
      where
        none : (v : Field × ℕ) (n : ℕ) → sizing (w.field last) bs ≡ got v n → ⊥
        none v n e =
            let t = sizing_takes (w.field last) (takes (w.field last) 1 (omega arith) (o.field last)) bs v n e in
            let i = (sizing_lawful (w.field last) (o.field last).lawful).ends bs v n e in
            omega arith
    fields_at (suc k) last bs h =
        stepped last bs
        (then_lawful_at (sizing (w.field last)) _ bs (lawful_at _ (sizing_lawful (w.field last) (o.field last).lawful) bs)
        (λ v n e. behind_at (fields_by w truth f) v.0 v.1 (drop n bs) (λ id cs l. fields_at k id cs (fewer k last bs h v n e cs l))))

    pub fields_lawful : (last : ℤ) → Lawful (fields_by w truth f last)
    fields_lawful last = at_lawful (fields_by w truth f last) (λ bs. fields_at (length bs) last bs (omega arith))

    pub fields_takes : (last : ℤ) → Takes (fields_by w truth f last)
    fields_takes last bs a n e = then_takes (sizing (w.field last)) _ (sizing_takes (w.field last) (takes (w.field last) 1 (omega arith) (o.field last))) bs a n (sym (fields_step w o truth f last bs) ∙ e)

  -- What is read is spelt by the bytes that it took, and spelt bytes are read so whatever stands behind them: so a value's reader is lawful, though the
  -- headers in it ask for bytes ahead.
  module _ (lim : TConfiguration) where
    module _ (room : ℕ) (ty : TType) (bs : List ℕ) (t : Tree) (n : ℕ) (e : value_by w lim room ty bs ≡ got t n) where
      value_again : (rest : List ℕ) → value_by w lim room ty (take n bs ++ rest) ≡ got t (length (take n bs))
      value_again rest = complete w o t lim room ty (take n bs) (sound w o lim room ty bs t n e) rest

      value_size : length (take n bs) ≡ n
      value_size = let f : got t (length (take n bs)) ≡ got t n = sym (value_again (drop n bs)) ∙ ap (value_by w lim room ty) (take-append-drop n bs) ∙ e in cc

      value_ends : n ≤ length bs
      value_ends = omega (arith, sym (length-take n bs) ∙ value_size)

      value_front : (rest : List ℕ) → value_by w lim room ty (take n bs ++ rest) ≡ got t n
      value_front rest = value_again rest ∙ ap (got t) value_size

    pub value_lawful : (room : ℕ) (t : TType) → Lawful (value_by w lim room t)
    value_lawful room t = record { ends = value_ends room t; front = value_front room t }

    -- at least a byte
    refuse_takes : (why : ℕ) → Takes (refuse {A = Tree} why)
    unfolding refuse
    refuse_takes why bs a n e = not_both e

    pub value_takes : (room : ℕ) (t : TType) → Takes (value_by w lim room t)
    unfolding value_by
    value_takes zero T.List = refuse_takes DEPTH
    value_takes zero T.Set = refuse_takes DEPTH
    value_takes zero T.Map = refuse_takes DEPTH
    value_takes zero T.Struct = refuse_takes DEPTH
    value_takes (suc room) T.List = then_takes _ _ (backed_takes _ _ (takes _ _ (o.some T.List) (o.list lim)))
    value_takes (suc room) T.Set = then_takes _ _ (backed_takes _ _ (takes _ _ (o.some T.Set) (o.set lim)))
    value_takes (suc room) T.Map = then_takes _ _ (backed_takes _ _ (takes _ _ (o.some T.Map) (o.map lim)))
    value_takes (suc room) T.Struct = then_takes _ _ (fields_takes val.truth (value_by w lim room) (value_lawful room) (pos 0))
    value_takes zero T.Stop = refuse_takes BAD_TYPE
    value_takes (suc room) T.Stop = refuse_takes BAD_TYPE
    value_takes zero T.Bool = then_takes _ _ (takes _ _ (o.some T.Bool) o.truth)
    value_takes (suc room) T.Bool = then_takes _ _ (takes _ _ (o.some T.Bool) o.truth)
    value_takes zero T.I08 = then_takes _ _ (takes _ _ (o.some T.I08) o.int8)
    value_takes (suc room) T.I08 = then_takes _ _ (takes _ _ (o.some T.I08) o.int8)
    value_takes zero T.I16 = then_takes _ _ (takes _ _ (o.some T.I16) o.int16)
    value_takes (suc room) T.I16 = then_takes _ _ (takes _ _ (o.some T.I16) o.int16)
    value_takes zero T.I32 = then_takes _ _ (takes _ _ (o.some T.I32) o.int32)
    value_takes (suc room) T.I32 = then_takes _ _ (takes _ _ (o.some T.I32) o.int32)
    value_takes zero T.I64 = then_takes _ _ (takes _ _ (o.some T.I64) o.int64)
    value_takes (suc room) T.I64 = then_takes _ _ (takes _ _ (o.some T.I64) o.int64)
    value_takes zero T.Double = then_takes _ _ (takes _ _ (o.some T.Double) o.double)
    value_takes (suc room) T.Double = then_takes _ _ (takes _ _ (o.some T.Double) o.double)
    value_takes zero T.String = then_takes _ _ (takes _ _ (o.some T.String) (o.binary lim))
    value_takes (suc room) T.String = then_takes _ _ (takes _ _ (o.some T.String) (o.binary lim))
    value_takes zero T.Uuid = then_takes _ _ (takes _ _ (o.some T.Uuid) o.uuid)
    value_takes (suc room) T.Uuid = then_takes _ _ (takes _ _ (o.some T.Uuid) o.uuid)
