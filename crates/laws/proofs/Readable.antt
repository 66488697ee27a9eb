-- Reading back loses the types of empty maps and nothing else. Assumes nothing.
use mathlib.Core.Path.{◌≡◌, refl, ap, ap₂}
use Prim.Native.Nat.{◌<◌}
use native.Mathlib.Omega.{arith}
use Rattle.types.specs.declared.TType.{TType}
use Rattle.types.specs.Value as val
use Rattle.types.specs.Value.{Tree, Trees, no_trees, tree, Pairs, no_pairs, pair, Fields, no_fields, size_p}
use Rattle.laws.specs.Written.{map_of, readable, readable_all, readable_pairs, readable_fields}

-- no map is empty
unfoldable mutual
  pub Full : Tree → Type 0
  Full (val.truth b) = Unit {0}
  Full (val.i8 z) = Unit {0}
  Full (val.i16 z) = Unit {0}
  Full (val.i32 z) = Unit {0}
  Full (val.i64 z) = Unit {0}
  Full (val.double n) = Unit {0}
  Full (val.uuid u) = Unit {0}
  Full (val.bytes cs) = Unit {0}
  Full (val.list t ts) = FullAll ts
  Full (val.set t ts) = FullAll ts
  Full (val.map k v ps) = (0 < size_p ps) × FullPairs ps
  Full (val.struct fs) = FullFields fs

  pub FullAll : Trees → Type 0
  FullAll no_trees = Unit {0}
  FullAll (tree t ts) = Full t × FullAll ts

  pub FullPairs : Pairs → Type 0
  FullPairs no_pairs = Unit {0}
  FullPairs (pair t u ps) = Full t × Full u × FullPairs ps

  pub FullFields : Fields → Type 0
  FullFields no_fields = Unit {0}
  FullFields (val.field id t fs) = Full t × FullFields fs

map_same : (k v : TType) (ps : Pairs) → 0 < size_p ps → readable_pairs ps ≡ ps → map_of k v (readable_pairs ps) ≡ val.map k v ps
unfolding size_p readable_pairs
map_same k v no_pairs h e = absurd (omega arith)
map_same k v (pair t u ps) h e = ap (val.map k v) e

-- where none is, the value read back is the value written
mutual
  unfolding Full FullAll FullPairs FullFields readable readable_all readable_pairs readable_fields

  pub same : (t : Tree) → Full t → readable t ≡ t
  same (val.truth b) f = refl
  same (val.i8 z) f = refl
  same (val.i16 z) f = refl
  same (val.i32 z) f = refl
  same (val.i64 z) f = refl
  same (val.double n) f = refl
  same (val.uuid u) f = refl
  same (val.bytes cs) f = refl
  same (val.list t ts) f = ap (val.list t) (same_all ts f)
  same (val.set t ts) f = ap (val.set t) (same_all ts f)
  same (val.map k v ps) f = map_same k v ps f.0 (same_pairs ps f.1)
  same (val.struct fs) f = ap val.struct (same_fields fs f)

  same_all : (ts : Trees) → FullAll ts → readable_all ts ≡ ts
  same_all no_trees f = refl
  same_all (tree t ts) f = ap₂ tree (same t f.0) (same_all ts f.1)

  same_pairs : (ps : Pairs) → FullPairs ps → readable_pairs ps ≡ ps
  same_pairs no_pairs f = refl
  same_pairs (pair t u ps) f = ap₂ (λ (x : Tree × Tree) (xs : Pairs). pair x.0 x.1 xs) (ap₂ (λ (a b : Tree). (a, b)) (same t f.0) (same u f.1)) (same_pairs ps f.2)

  same_fields : (fs : Fields) → FullFields fs → readable_fields fs ≡ fs
  same_fields no_fields f = refl
  same_fields (val.field id t fs) f = ap₂ (val.field id) (same t f.0) (same_fields fs f.1)
