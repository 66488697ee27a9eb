-- The binary writer's bytes are well formed: those of a value within the limits spell it by the binary protocol's words. Assumes nothing.
use mathlib.Core.Path.{◌≡◌, refl, ap, subst}
use mathlib.Core.Logic.{inr}
use mathlib.Core.List.{[], ◌++◌}
use Prim.Native.Nat.{ℕ, suc, ◌-◌, ◌≤◌, ◌<◌}
use native.Mathlib.Omega.{arith}
use lib.IntN.{ℤ, pos}
use Rattle.types.specs.declared.TType.{TType}
use Rattle.types.specs.declared.TType.TheVariants as T
use Rattle.types.specs.declared.TConfiguration.{TConfiguration}
use Rattle.types.specs.Value as val
use Rattle.types.specs.Value.{Tree, Trees, no_trees, tree, Pairs, no_pairs, pair, Fields, no_fields, type_of, size, size_p, nesting, nesting_all, nesting_pairs, nesting_fields, Sized, SizedAll, SizedPairs, SizedFields, Typed, TypedAll, TypedPairs, TypedFields}
use Rattle.types.proofs.Limits.{Ranged}
use Rattle.heads.specs.Reader.{Whole}
use Rattle.heads.specs.Heads.{int8, uuid, stop, value}
use Rattle.output.proofs.Back.{whole, i8_reads, uuid_reads}
use Rattle.laws.specs.Written.{map_of, readable, readable_all, readable_pairs, readable_fields}
use Rattle.protocols.specs.Spells.{SpellsBy, SpellsAllBy, SpellsPairsBy, SpellsFieldsBy}
use Rattle.binary_codes.specs.Codes.{binary_code}
use Rattle.binary_heads.specs.Heads as own
use Rattle.binary_heads.specs.Words.{binary}
use Rattle.binary_puts.specs.Bytes.{field_bytes, items_bytes, pairs_bytes}
use Rattle.binary_laws.specs.Written.{bytes_of, bytes_of_all, bytes_of_pairs, bytes_of_fields}
use Rattle.binary_laws.proofs.Back.{i16_reads, i32_reads, i64_reads, double_reads, truth_reads, bytes_reads, items_reads, pairs_reads, no_pairs_reads, stop_reads, value_reads}

-- as many elements
same_size : (ts : Trees) → size (readable_all ts) ≡ size ts
unfolding size readable_all
same_size no_trees = refl
same_size (tree t ts) = ap suc (same_size ts)

same_pairs : (ps : Pairs) → size_p (readable_pairs ps) ≡ size_p ps
unfolding size_p readable_pairs
same_pairs no_pairs = refl
same_pairs (pair t u ps) = ap suc (same_pairs ps)

-- no value has the type Stop, whose code is 0
pub typed_code : (t : Tree) → 0 < binary_code (type_of t)
unfolding type_of binary_code
typed_code (val.truth b) = omega arith
typed_code (val.i8 z) = omega arith
typed_code (val.i16 z) = omega arith
typed_code (val.i32 z) = omega arith
typed_code (val.i64 z) = omega arith
typed_code (val.double n) = omega arith
typed_code (val.uuid u) = omega arith
typed_code (val.bytes cs) = omega arith
typed_code (val.list t ts) = omega arith
typed_code (val.set t ts) = omega arith
typed_code (val.map k v ps) = omega arith
typed_code (val.struct fs) = omega arith

module _ (lim : TConfiguration) (ok : Ranged lim) where
  -- headers, read whole
  items_whole : (t : TType) (ts : Trees) → size ts ≤ lim.container → Whole (own.items lim) (t, size (readable_all ts)) (items_bytes t (size ts))
  items_whole t ts h = rw (same_size ts) (whole (own.items lim) (t, size ts) _ (items_reads lim (size ts) h ok t))

  pairs_whole : (k v : TType) (t u : Tree) (ps : Pairs) → size_p (pair t u ps) ≤ lim.container → Whole (own.pairs lim) (k, v, size_p (pair (readable t) (readable u) (readable_pairs ps))) (pairs_bytes k v (size_p (pair t u ps)))
  unfolding size_p
  pairs_whole k v t u ps h = rw (same_pairs ps) (whole (own.pairs lim) (k, v, suc (size_p ps)) _ (pairs_reads lim (suc (size_p ps)) h ok k v (omega arith)))

  map_spelt : (k v : TType) (ps : Pairs) (room : ℕ) → 0 < room → size_p ps ≤ lim.container → SpellsPairsBy binary (readable_pairs ps) lim (room - 1) k v (bytes_of_pairs ps) → SpellsBy binary (map_of k v (readable_pairs ps)) lim room T.Map (pairs_bytes k v (size_p ps) ++ bytes_of_pairs ps)
  unfolding SpellsBy SpellsPairsBy size_p bytes_of_pairs readable_pairs
  map_spelt k v no_pairs room h c s = (refl, h, (pairs_bytes k v 0, [], whole (own.pairs lim) (T.Stop, T.Stop, 0) _ (no_pairs_reads lim ok k v), refl, refl))
  map_spelt k v (pair t u ps) room h c s = (refl, h, (pairs_bytes k v (suc (size_p ps)), bytes_of_pairs (pair t u ps), pairs_whole k v t u ps c, s, refl))

  mutual
    unfolding SpellsBy SpellsAllBy SpellsPairsBy SpellsFieldsBy nesting nesting_all nesting_pairs nesting_fields Sized SizedAll SizedPairs SizedFields Typed TypedAll TypedPairs TypedFields type_of size size_p bytes_of bytes_of_all bytes_of_pairs bytes_of_fields readable readable_all readable_pairs readable_fields

    pub spelt : (t : Tree) (room : ℕ) → nesting t ≤ room → Sized lim t → Typed t → SpellsBy binary (readable t) lim room (type_of t) (bytes_of t)
    spelt (val.truth b) room n s y = (refl, whole own.truth b _ (truth_reads b))
    spelt (val.i8 z) room n s y = (refl, whole int8 z _ (i8_reads z y))
    spelt (val.i16 z) room n s y = (refl, whole own.int16 z _ (i16_reads z y))
    spelt (val.i32 z) room n s y = (refl, whole own.int32 z _ (i32_reads z y))
    spelt (val.i64 z) room n s y = (refl, whole own.int64 z _ (i64_reads z y))
    spelt (val.double d) room n s y = (refl, whole own.double d _ (double_reads d y))
    spelt (val.uuid u) room n s y = (refl, whole uuid u _ (uuid_reads u y.0))
    spelt (val.bytes cs) room n s y = (refl, whole (own.binary lim) cs _ (bytes_reads lim cs s ok))
    spelt (val.list t ts) room n s y = (refl, omega arith, (items_bytes t (size ts), bytes_of_all ts, items_whole t ts s.0, spelt_all t ts (room - 1) (omega arith) s.1 y, refl))
    spelt (val.set t ts) room n s y = (refl, omega arith, (items_bytes t (size ts), bytes_of_all ts, items_whole t ts s.0, spelt_all t ts (room - 1) (omega arith) s.1 y, refl))
    spelt (val.map k v ps) room n s y = map_spelt k v ps room (omega arith) s.0 (spelt_pairs k v ps (room - 1) (omega arith) s.1 y)
    spelt (val.struct fs) room n s y = (refl, omega arith, spelt_fields fs (room - 1) (pos 0) (omega arith) s y)

    spelt_all : (ty : TType) (ts : Trees) (room : ℕ) → nesting_all ts ≤ room → SizedAll lim ts → TypedAll ty ts → SpellsAllBy binary (readable_all ts) lim room ty (bytes_of_all ts)
    spelt_all ty no_trees room n s y = refl
    spelt_all ty (tree t ts) room n s y =
        (bytes_of t, bytes_of_all ts, subst (λ (u : TType). SpellsBy binary (readable t) lim room u (bytes_of t)) y.0 (spelt t room (omega arith) s.0 y.1), spelt_all ty ts room (omega arith) s.1 y.2, refl)

    spelt_pairs : (k v : TType) (ps : Pairs) (room : ℕ) → nesting_pairs ps ≤ room → SizedPairs lim ps → TypedPairs k v ps → SpellsPairsBy binary (readable_pairs ps) lim room k v (bytes_of_pairs ps)
    spelt_pairs k v no_pairs room n s y = refl
    spelt_pairs k v (pair t u ps) room n s y = (
      bytes_of t,
      bytes_of u,
      bytes_of_pairs ps,
      subst (λ (x : TType). SpellsBy binary (readable t) lim room x (bytes_of t)) y.0 (spelt t room (omega arith) s.0 y.2),
      subst (λ (x : TType). SpellsBy binary (readable u) lim room x (bytes_of u)) y.1 (spelt u room (omega arith) s.1 y.3),
      spelt_pairs k v ps room (omega arith) s.2 y.4,
      refl,
    )

    spelt_fields : (fs : Fields) (room : ℕ) (last : ℤ) → nesting_fields fs ≤ room → SizedFields lim fs → TypedFields fs → SpellsFieldsBy binary (readable_fields fs) lim room last (bytes_of_fields fs)
    spelt_fields no_fields room last n s y = whole own.field stop _ stop_reads
    spelt_fields (val.field id t fs) room last n s y = (
      field_bytes (type_of t) id,
      bytes_of t,
      bytes_of_fields fs,
      inr (type_of t, whole own.field (value (type_of t) id) _ (value_reads (type_of t) id (typed_code t) y.0), spelt t room (omega arith) s.0 y.1),
      spelt_fields fs room id (omega arith) s.1 y.2,
      refl,
    )
