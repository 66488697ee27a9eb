-- Spelt bytes are no fewer than the least size of their type, so a well-formed container's elements are ahead of its header. Assumes nothing.
use mathlib.Core.Path.{◌≡◌, refl, sym, ap, subst}
use mathlib.Core.Bool.{Bool, true, false, cond}
use mathlib.Core.List.{List}
use Prim.Native.Nat.{ℕ, ◌+◌, ◌-◌, ◌*◌, ◌≤◌}
use native.Mathlib.Nat.{suc-mul, zero-mul}
use native.Mathlib.Omega.{arith}
use lib.ListN.{length, take, length-append}
use lib.Dec.{leb}
use lib.IntN.{ℤ, pos}
use Rattle.types.specs.Refusals.{END}
use Rattle.types.specs.declared.TType.{TType}
use Rattle.types.specs.declared.TType.TheVariants as T
use Rattle.types.specs.declared.TConfiguration.{TConfiguration}
use Rattle.types.specs.Value as val
use Rattle.types.specs.Value.{Tree, Trees, no_trees, tree, Pairs, no_pairs, pair, Fields, no_fields, size, size_p}
use Rattle.numbers.specs.Varint.{got, refused}
use Rattle.heads.specs.Reader.{some}
use Rattle.heads.specs.Heads.{double, uuid, least_size, stop}
use Rattle.heads.specs.Spells.{Spells, SpellsAll, SpellsPairs, SpellsFields}
use Rattle.heads.proofs.Lawful.{not_both}
use Rattle.heads.proofs.Readers.{int8_takes, int16_takes, int32_takes, int64_takes, truth_takes, binary_takes, items_takes, pairs_takes, field_takes}
use Rattle.skip.proofs.Sound.{unmade}

-- n bytes are n
some_used : (k : ℕ) (bs cs : List ℕ) (n : ℕ) → some k bs ≡ got cs n → n ≡ k
unfolding some
some_used k bs cs n e = go (leb k (length bs)) refl e
  where
    go : (t : Bool) → leb k (length bs) ≡ t → cond t (got (take k bs) k) (refused END) ≡ got cs n → n ≡ k
    go true f g = cc
    go false f g = not_both g

double_used : (bs : List ℕ) (v n : ℕ) → double bs ≡ got v n → n ≡ 8
unfolding double
double_used bs v n e = let u = unmade (some 8) _ bs v n e in some_used 8 bs u.0 n u.1

uuid_used : (bs u : List ℕ) (n : ℕ) → uuid bs ≡ got u n → n ≡ 16
unfolding uuid
uuid_used bs u n e = some_used 16 bs u n e

-- a type by another name
by_type_lem : (ty t : TType) (n : ℕ) → ty ≡ t → least_size t ≤ n → least_size ty ≤ n
by_type_lem ty t n e h = subst (λ (u : TType). least_size u ≤ n) (sym e) h

fields_some : (fs : Fields) (lim : TConfiguration) (room : ℕ) (last : ℤ) (bs : List ℕ) → SpellsFields fs lim room last bs → 1 ≤ length bs
unfolding SpellsFields
fields_some no_fields lim room last bs s = field_takes last bs stop (length bs) s
fields_some (val.field id t fs) lim room last bs s = omega (arith, simp length-append at (ap length s.5), fields_some fs lim room id s.2 s.4)

pub spelt_least : (t : Tree) (lim : TConfiguration) (room : ℕ) (ty : TType) (bs : List ℕ) → Spells t lim room ty bs → least_size ty ≤ length bs
unfolding Spells
spelt_least (val.truth b) lim room ty bs s = by_type_lem ty T.Bool _ s.0 (truth_takes bs b (length bs) s.1)
spelt_least (val.i8 z) lim room ty bs s = by_type_lem ty T.I08 _ s.0 (int8_takes bs z (length bs) s.1)
spelt_least (val.i16 z) lim room ty bs s = by_type_lem ty T.I16 _ s.0 (int16_takes bs z (length bs) s.1)
spelt_least (val.i32 z) lim room ty bs s = by_type_lem ty T.I32 _ s.0 (int32_takes bs z (length bs) s.1)
spelt_least (val.i64 z) lim room ty bs s = by_type_lem ty T.I64 _ s.0 (int64_takes bs z (length bs) s.1)
spelt_least (val.double n) lim room ty bs s = by_type_lem ty T.Double _ s.0 (omega (arith, double_used bs n (length bs) s.1))
spelt_least (val.uuid u) lim room ty bs s = by_type_lem ty T.Uuid _ s.0 (omega (arith, uuid_used bs u (length bs) s.1))
spelt_least (val.bytes cs) lim room ty bs s = by_type_lem ty T.String _ s.0 (binary_takes lim bs cs (length bs) s.1)
spelt_least (val.list t ts) lim room ty bs s =
    by_type_lem ty T.List _ s.0 (omega (arith, simp length-append at (ap length s.2.4), items_takes lim s.2.0 (t, size ts) (length s.2.0) s.2.2))
spelt_least (val.set t ts) lim room ty bs s =
    by_type_lem ty T.Set _ s.0 (omega (arith, simp length-append at (ap length s.2.4), items_takes lim s.2.0 (t, size ts) (length s.2.0) s.2.2))
spelt_least (val.map k v ps) lim room ty bs s =
    by_type_lem ty T.Map _ s.0 (omega (arith, simp length-append at (ap length s.2.4), pairs_takes lim s.2.0 (k, v, size_p ps) (length s.2.0) s.2.2))
spelt_least (val.struct fs) lim room ty bs s = by_type_lem ty T.Struct _ s.0 (fields_some fs lim (room - 1) (pos 0) bs s.2)

-- so many times
pub all_least : (ts : Trees) (lim : TConfiguration) (room : ℕ) (ty : TType) (bs : List ℕ) → SpellsAll ts lim room ty bs → size ts * least_size ty ≤ length bs
unfolding SpellsAll size
all_least no_trees lim room ty bs s = omega (arith, zero-mul (least_size ty))
all_least (tree t ts) lim room ty bs s =
    omega (arith, suc-mul (size ts) (least_size ty), simp length-append at (ap length s.4), spelt_least t lim room ty s.0 s.2, all_least ts lim room ty s.1 s.3)

pub pairs_least : (ps : Pairs) (lim : TConfiguration) (room : ℕ) (k v : TType) (bs : List ℕ) → SpellsPairs ps lim room k v bs → size_p ps * least_size k + size_p ps * least_size v ≤ length bs
unfolding SpellsPairs size_p
pairs_least no_pairs lim room k v bs s = omega (arith, zero-mul (least_size k), zero-mul (least_size v))
pairs_least (pair t u ps) lim room k v bs s =
    omega (arith, suc-mul (size_p ps) (least_size k), suc-mul (size_p ps) (least_size v), simp length-append at (ap length s.6), spelt_least t lim room k s.0 s.3, spelt_least u lim room v s.1 s.4, pairs_least ps lim room k v s.2 s.5)
