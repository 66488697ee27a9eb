-- Spelt bytes are no fewer than the least size of their type, so a well-formed container's elements are ahead of its header. Assumes nothing.
use mathlib.Core.Path.{◌≡◌, sym, ap, subst}
use mathlib.Core.List.{List}
use Prim.Native.Nat.{ℕ, ◌+◌, ◌-◌, ◌*◌, ◌≤◌}
use native.Mathlib.Nat.{suc-mul, zero-mul}
use native.Mathlib.Omega.{arith}
use lib.ListN.{length, length-append}
use lib.IntN.{ℤ, pos}
use Rattle.types.specs.declared.TType.{TType}
use Rattle.types.specs.declared.TType.TheVariants as T
use Rattle.types.specs.declared.TConfiguration.{TConfiguration}
use Rattle.types.specs.Value as val
use Rattle.types.specs.Value.{Tree, Trees, no_trees, tree, Pairs, no_pairs, pair, Fields, no_fields, size, size_p}
use Rattle.heads.specs.Heads.{stop}
use Rattle.protocols.specs.Words.{Words}
use Rattle.protocols.specs.Spells.{SpellsBy, SpellsAllBy, SpellsPairsBy, SpellsFieldsBy}
use Rattle.protocols.proofs.Owes.{Owes}

module _ (w : Words) (o : Owes w) where
  -- a type by another name
  by_type_lem : (ty t : TType) (n : ℕ) → ty ≡ t → w.least t ≤ n → w.least ty ≤ n
  by_type_lem ty t n e h = subst (λ (u : TType). w.least u ≤ n) (sym e) h

  fields_some : (fs : Fields) (lim : TConfiguration) (room : ℕ) (last : ℤ) (bs : List ℕ) → SpellsFieldsBy w fs lim room last bs → 1 ≤ length bs
  unfolding SpellsFieldsBy
  fields_some no_fields lim room last bs s = (o.field last).enough bs stop (length bs) s
  fields_some (val.field id t fs) lim room last bs s = omega (arith, simp length-append at (ap length s.5), fields_some fs lim room id s.2 s.4)

  pub spelt_least : (t : Tree) (lim : TConfiguration) (room : ℕ) (ty : TType) (bs : List ℕ) → SpellsBy w t lim room ty bs → w.least ty ≤ length bs
  unfolding SpellsBy
  spelt_least (val.truth b) lim room ty bs s = by_type_lem ty T.Bool _ s.0 (o.truth.enough bs b (length bs) s.1)
  spelt_least (val.i8 z) lim room ty bs s = by_type_lem ty T.I08 _ s.0 (o.int8.enough bs z (length bs) s.1)
  spelt_least (val.i16 z) lim room ty bs s = by_type_lem ty T.I16 _ s.0 (o.int16.enough bs z (length bs) s.1)
  spelt_least (val.i32 z) lim room ty bs s = by_type_lem ty T.I32 _ s.0 (o.int32.enough bs z (length bs) s.1)
  spelt_least (val.i64 z) lim room ty bs s = by_type_lem ty T.I64 _ s.0 (o.int64.enough bs z (length bs) s.1)
  spelt_least (val.double n) lim room ty bs s = by_type_lem ty T.Double _ s.0 (o.double.enough bs n (length bs) s.1)
  spelt_least (val.uuid u) lim room ty bs s = by_type_lem ty T.Uuid _ s.0 (o.uuid.enough bs u (length bs) s.1)
  spelt_least (val.bytes cs) lim room ty bs s = by_type_lem ty T.String _ s.0 ((o.binary lim).enough bs cs (length bs) s.1)
  spelt_least (val.list t ts) lim room ty bs s =
      by_type_lem ty T.List _ s.0 (omega (arith, simp length-append at (ap length s.2.4), (o.list lim).enough s.2.0 (t, size ts) (length s.2.0) s.2.2))
  spelt_least (val.set t ts) lim room ty bs s =
      by_type_lem ty T.Set _ s.0 (omega (arith, simp length-append at (ap length s.2.4), (o.set lim).enough s.2.0 (t, size ts) (length s.2.0) s.2.2))
  spelt_least (val.map k v ps) lim room ty bs s =
      by_type_lem ty T.Map _ s.0 (omega (arith, simp length-append at (ap length s.2.4), (o.map lim).enough s.2.0 (k, v, size_p ps) (length s.2.0) s.2.2))
  spelt_least (val.struct fs) lim room ty bs s = by_type_lem ty T.Struct _ s.0 (omega (arith, o.struct, fields_some fs lim (room - 1) (pos 0) bs s.2))

  -- so many times
  pub all_least : (ts : Trees) (lim : TConfiguration) (room : ℕ) (ty : TType) (bs : List ℕ) → SpellsAllBy w ts lim room ty bs → size ts * w.least ty ≤ length bs
  unfolding SpellsAllBy size
  all_least no_trees lim room ty bs s = omega (arith, zero-mul (w.least ty))
  all_least (tree t ts) lim room ty bs s =
      omega (arith, suc-mul (size ts) (w.least ty), simp length-append at (ap length s.4), spelt_least t lim room ty s.0 s.2, all_least ts lim room ty s.1 s.3)

  pub pairs_least : (ps : Pairs) (lim : TConfiguration) (room : ℕ) (k v : TType) (bs : List ℕ) → SpellsPairsBy w ps lim room k v bs → size_p ps * w.least k + size_p ps * w.least v ≤ length bs
  unfolding SpellsPairsBy size_p
  pairs_least no_pairs lim room k v bs s = omega (arith, zero-mul (w.least k), zero-mul (w.least v))
  pairs_least (pair t u ps) lim room k v bs s =
      omega (arith, suc-mul (size_p ps) (w.least k), suc-mul (size_p ps) (w.least v), simp length-append at (ap length s.6), spelt_least t lim room k s.0 s.3, spelt_least u lim room v s.1 s.4, pairs_least ps lim room k v s.2 s.5)
