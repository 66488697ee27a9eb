-- A value as it can be read back is one that is read back as itself, and is within the limits where the value is. Assumes nothing.
use mathlib.Core.Path.{◌≡◌, refl, ap, ap₂, ◌∙◌}
use Prim.Native.Nat.{ℕ, suc, ◌≤◌, max}
use native.Mathlib.Omega.{arith}
use Rattle.types.specs.declared.TType.{TType}
use Rattle.types.specs.declared.TType.TheVariants as T
use Rattle.types.specs.declared.TConfiguration.{TConfiguration}
use Rattle.types.specs.Value as val
use Rattle.types.specs.Value.{Tree, Trees, no_trees, tree, Pairs, no_pairs, pair, Fields, no_fields, type_of, size, size_p, nesting, nesting_all, nesting_pairs, nesting_fields, Sized, SizedAll, SizedPairs, SizedFields, Typed, TypedAll, TypedPairs, TypedFields, Within}
use Rattle.laws.specs.Written.{map_of, readable, readable_all, readable_pairs, readable_fields}

pub same_size : (ts : Trees) → size (readable_all ts) ≡ size ts
unfolding size readable_all
same_size no_trees = refl
same_size (tree t ts) = ap suc (same_size ts)

pub same_pairs : (ps : Pairs) → size_p (readable_pairs ps) ≡ size_p ps
unfolding size_p readable_pairs
same_pairs no_pairs = refl
same_pairs (pair t u ps) = ap suc (same_pairs ps)

-- what a map is read back as
map_type : (k v : TType) (ps : Pairs) → type_of (map_of k v ps) ≡ T.Map
unfolding type_of
map_type k v no_pairs = refl
map_type k v (pair t u ps) = refl

pub same_type : (t : Tree) → type_of (readable t) ≡ type_of t
unfolding type_of readable
same_type (val.truth b) = refl
same_type (val.i8 z) = refl
same_type (val.i16 z) = refl
same_type (val.i32 z) = refl
same_type (val.i64 z) = refl
same_type (val.double n) = refl
same_type (val.uuid u) = refl
same_type (val.bytes cs) = refl
same_type (val.list t ts) = refl
same_type (val.set t ts) = refl
same_type (val.map k v ps) = map_type k v (readable_pairs ps)
same_type (val.struct fs) = refl

map_twice : (k v : TType) (ps : Pairs) → readable_pairs (readable_pairs ps) ≡ readable_pairs ps → readable (map_of k v (readable_pairs ps)) ≡ map_of k v (readable_pairs ps)
unfolding readable readable_pairs
map_twice k v no_pairs e = refl
map_twice k v (pair t u ps) e = ap (val.map k v) e

mutual
  unfolding readable readable_all readable_pairs readable_fields

  pub twice : (t : Tree) → readable (readable t) ≡ readable t
  twice (val.truth b) = refl
  twice (val.i8 z) = refl
  twice (val.i16 z) = refl
  twice (val.i32 z) = refl
  twice (val.i64 z) = refl
  twice (val.double n) = refl
  twice (val.uuid u) = refl
  twice (val.bytes cs) = refl
  twice (val.list t ts) = ap (val.list t) (twice_all ts)
  twice (val.set t ts) = ap (val.set t) (twice_all ts)
  twice (val.map k v ps) = map_twice k v ps (twice_pairs ps)
  twice (val.struct fs) = ap val.struct (twice_fields fs)

  twice_all : (ts : Trees) → readable_all (readable_all ts) ≡ readable_all ts
  twice_all no_trees = refl
  twice_all (tree t ts) = ap₂ tree (twice t) (twice_all ts)

  twice_pairs : (ps : Pairs) → readable_pairs (readable_pairs ps) ≡ readable_pairs ps
  twice_pairs no_pairs = refl
  twice_pairs (pair t u ps) = ap₂ (λ (x : Tree × Tree) (xs : Pairs). pair x.0 x.1 xs) (ap₂ (λ (a b : Tree). (a, b)) (twice t) (twice u)) (twice_pairs ps)

  twice_fields : (fs : Fields) → readable_fields (readable_fields fs) ≡ readable_fields fs
  twice_fields no_fields = refl
  twice_fields (val.field id t fs) = ap₂ (val.field id) (twice t) (twice_fields fs)

-- nested as deep
map_nesting : (k v : TType) (ps : Pairs) → nesting_pairs (readable_pairs ps) ≡ nesting_pairs ps → nesting (map_of k v (readable_pairs ps)) ≡ suc (nesting_pairs ps)
unfolding nesting nesting_pairs readable_pairs
map_nesting k v no_pairs e = refl
map_nesting k v (pair t u ps) e = ap suc e

mutual
  unfolding readable readable_all readable_pairs readable_fields nesting nesting_all nesting_pairs nesting_fields

  pub same_nesting : (t : Tree) → nesting (readable t) ≡ nesting t
  same_nesting (val.truth b) = refl
  same_nesting (val.i8 z) = refl
  same_nesting (val.i16 z) = refl
  same_nesting (val.i32 z) = refl
  same_nesting (val.i64 z) = refl
  same_nesting (val.double n) = refl
  same_nesting (val.uuid u) = refl
  same_nesting (val.bytes cs) = refl
  same_nesting (val.list t ts) = ap suc (nesting_all_lem ts)
  same_nesting (val.set t ts) = ap suc (nesting_all_lem ts)
  same_nesting (val.map k v ps) = map_nesting k v ps (nesting_pairs_lem ps)
  same_nesting (val.struct fs) = ap suc (nesting_fields_lem fs)

  nesting_all_lem : (ts : Trees) → nesting_all (readable_all ts) ≡ nesting_all ts
  nesting_all_lem no_trees = refl
  nesting_all_lem (tree t ts) = ap₂ max (same_nesting t) (nesting_all_lem ts)

  nesting_pairs_lem : (ps : Pairs) → nesting_pairs (readable_pairs ps) ≡ nesting_pairs ps
  nesting_pairs_lem no_pairs = refl
  nesting_pairs_lem (pair t u ps) = ap₂ max (same_nesting t) (ap₂ max (same_nesting u) (nesting_pairs_lem ps))

  nesting_fields_lem : (fs : Fields) → nesting_fields (readable_fields fs) ≡ nesting_fields fs
  nesting_fields_lem no_fields = refl
  nesting_fields_lem (val.field id t fs) = ap₂ max (same_nesting t) (nesting_fields_lem fs)

-- as long, with as many
map_sized : (lim : TConfiguration) (k v : TType) (ps : Pairs) → size_p ps ≤ lim.container → SizedPairs lim (readable_pairs ps) → Sized lim (map_of k v (readable_pairs ps))
unfolding Sized SizedPairs size_p readable_pairs
map_sized lim k v no_pairs h s = (omega arith, tt)
map_sized lim k v (pair t u ps) h s = (omega (arith, same_pairs ps), s)

module _ (lim : TConfiguration) where
  mutual
    unfolding readable readable_all readable_pairs readable_fields Sized SizedAll SizedPairs SizedFields

    pub still_sized : (t : Tree) → Sized lim t → Sized lim (readable t)
    still_sized (val.truth b) s = tt
    still_sized (val.i8 z) s = tt
    still_sized (val.i16 z) s = tt
    still_sized (val.i32 z) s = tt
    still_sized (val.i64 z) s = tt
    still_sized (val.double n) s = tt
    still_sized (val.uuid u) s = tt
    still_sized (val.bytes cs) s = s
    still_sized (val.list t ts) s = (omega (arith, s.0, same_size ts), sized_all ts s.1)
    still_sized (val.set t ts) s = (omega (arith, s.0, same_size ts), sized_all ts s.1)
    still_sized (val.map k v ps) s = map_sized lim k v ps s.0 (sized_pairs ps s.1)
    still_sized (val.struct fs) s = sized_fields fs s

    sized_all : (ts : Trees) → SizedAll lim ts → SizedAll lim (readable_all ts)
    sized_all no_trees s = tt
    sized_all (tree t ts) s = (still_sized t s.0, sized_all ts s.1)

    sized_pairs : (ps : Pairs) → SizedPairs lim ps → SizedPairs lim (readable_pairs ps)
    sized_pairs no_pairs s = tt
    sized_pairs (pair t u ps) s = (still_sized t s.0, still_sized u s.1, sized_pairs ps s.2)

    sized_fields : (fs : Fields) → SizedFields lim fs → SizedFields lim (readable_fields fs)
    sized_fields no_fields s = tt
    sized_fields (val.field id t fs) s = (still_sized t s.0, sized_fields fs s.1)

-- of its types
map_typed : (k v : TType) (ps : Pairs) → TypedPairs k v (readable_pairs ps) → Typed (map_of k v (readable_pairs ps))
unfolding Typed TypedPairs readable_pairs
map_typed k v no_pairs y = tt
map_typed k v (pair t u ps) y = y

mutual
  unfolding readable readable_all readable_pairs readable_fields Typed TypedAll TypedPairs TypedFields

  pub still_typed : (t : Tree) → Typed t → Typed (readable t)
  still_typed (val.truth b) y = tt
  still_typed (val.i8 z) y = y
  still_typed (val.i16 z) y = y
  still_typed (val.i32 z) y = y
  still_typed (val.i64 z) y = y
  still_typed (val.double n) y = y
  still_typed (val.uuid u) y = y
  still_typed (val.bytes cs) y = y
  still_typed (val.list t ts) y = typed_all t ts y
  still_typed (val.set t ts) y = typed_all t ts y
  still_typed (val.map k v ps) y = map_typed k v ps (typed_pairs k v ps y)
  still_typed (val.struct fs) y = typed_fields fs y

  typed_all : (ty : TType) (ts : Trees) → TypedAll ty ts → TypedAll ty (readable_all ts)
  typed_all ty no_trees y = tt
  typed_all ty (tree t ts) y = (same_type t ∙ y.0, still_typed t y.1, typed_all ty ts y.2)

  typed_pairs : (k v : TType) (ps : Pairs) → TypedPairs k v ps → TypedPairs k v (readable_pairs ps)
  typed_pairs k v no_pairs y = tt
  typed_pairs k v (pair t u ps) y = (same_type t ∙ y.0, same_type u ∙ y.1, still_typed t y.2, still_typed u y.3, typed_pairs k v ps y.4)

  typed_fields : (fs : Fields) → TypedFields fs → TypedFields (readable_fields fs)
  typed_fields no_fields y = tt
  typed_fields (val.field id t fs) y = (y.0, still_typed t y.1, typed_fields fs y.2)

pub still_within : (lim : TConfiguration) (depth : ℕ) (t : Tree) → Within lim depth t → Within lim depth (readable t)
still_within lim depth t w =
    record { nested = omega (arith, w.nested, same_nesting t); sized = still_sized lim t w.sized; typed = still_typed t w.typed }
