-- The value tree: what a value is, whatever bytes a protocol writes for it. Assumes nothing: these are definitions.
use Rattle.std.specs.Prelude.{ℕ, suc, ◌+◌, ◌^◌, ◌≤◌, ◌<◌, max, ◌≡◌, Bool, List, [], ◌∷◌, length, ℤ}
use Rattle.std.specs.Int.{w8, w16, w32, w64}
use Rattle.std.proofs.Common.{SFits}
use Rattle.types.specs.declared.TType.{TType}
use Rattle.types.specs.declared.TType.TheVariants as T
use Rattle.types.specs.declared.TConfiguration.{TConfiguration}

mutual
  -- a value: a double is its 64 bits, so that any bits are kept; a string and a binary are their bytes
  pub data Tree : Type 0 where
    truth : Bool → Tree
    i8 : ℤ → Tree
    i16 : ℤ → Tree
    i32 : ℤ → Tree
    i64 : ℤ → Tree
    double : ℕ → Tree
    uuid : List ℕ → Tree
    bytes : List ℕ → Tree
    list : TType → Trees → Tree
    set : TType → Trees → Tree
    map : TType → TType → Pairs → Tree
    struct : Fields → Tree

  -- the elements of a list or a set
  pub data Trees : Type 0 where
    no_trees : Trees
    tree : Tree → Trees → Trees

  -- the keys of a map with their values
  pub data Pairs : Type 0 where
    no_pairs : Pairs
    pair : Tree → Tree → Pairs → Pairs

  -- the fields of a struct in their order, each with its id
  pub data Fields : Type 0 where
    no_fields : Fields
    field : ℤ → Tree → Fields → Fields

-- the type of a value
unfoldable pub type_of : Tree → TType
type_of (truth b) = T.Bool
type_of (i8 z) = T.I08
type_of (i16 z) = T.I16
type_of (i32 z) = T.I32
type_of (i64 z) = T.I64
type_of (double n) = T.Double
type_of (uuid bs) = T.Uuid
type_of (bytes bs) = T.String
type_of (list t ts) = T.List
type_of (set t ts) = T.Set
type_of (map k v ps) = T.Map
type_of (struct fs) = T.Struct

-- how many there are
unfoldable pub size : Trees → ℕ
size no_trees = 0
size (tree t ts) = suc (size ts)

unfoldable pub size_p : Pairs → ℕ
size_p no_pairs = 0
size_p (pair k v ps) = suc (size_p ps)

-- "Entering a struct, list, set or map, empty or not, adds one"
unfoldable mutual
  pub nesting : Tree → ℕ
  nesting (truth b) = 0
  nesting (i8 z) = 0
  nesting (i16 z) = 0
  nesting (i32 z) = 0
  nesting (i64 z) = 0
  nesting (double n) = 0
  nesting (uuid bs) = 0
  nesting (bytes bs) = 0
  nesting (list t ts) = suc (nesting_all ts)
  nesting (set t ts) = suc (nesting_all ts)
  nesting (map k v ps) = suc (nesting_pairs ps)
  nesting (struct fs) = suc (nesting_fields fs)

  pub nesting_all : Trees → ℕ
  nesting_all no_trees = 0
  nesting_all (tree t ts) = max (nesting t) (nesting_all ts)

  pub nesting_pairs : Pairs → ℕ
  nesting_pairs no_pairs = 0
  nesting_pairs (pair k v ps) = max (nesting k) (max (nesting v) (nesting_pairs ps))

  pub nesting_fields : Fields → ℕ
  nesting_fields no_fields = 0
  nesting_fields (field id t fs) = max (nesting t) (nesting_fields fs)

-- "lengths and counts within" the limits
unfoldable mutual
  pub Sized : TConfiguration → Tree → Type 0
  Sized lim (truth b) = Unit {0}
  Sized lim (i8 z) = Unit {0}
  Sized lim (i16 z) = Unit {0}
  Sized lim (i32 z) = Unit {0}
  Sized lim (i64 z) = Unit {0}
  Sized lim (double n) = Unit {0}
  Sized lim (uuid bs) = Unit {0}
  Sized lim (bytes bs) = length bs ≤ lim.string
  Sized lim (list t ts) = (size ts ≤ lim.container) × SizedAll lim ts
  Sized lim (set t ts) = (size ts ≤ lim.container) × SizedAll lim ts
  Sized lim (map k v ps) = (size_p ps ≤ lim.container) × SizedPairs lim ps
  Sized lim (struct fs) = SizedFields lim fs

  pub SizedAll : TConfiguration → Trees → Type 0
  SizedAll lim no_trees = Unit {0}
  SizedAll lim (tree t ts) = Sized lim t × SizedAll lim ts

  pub SizedPairs : TConfiguration → Pairs → Type 0
  SizedPairs lim no_pairs = Unit {0}
  SizedPairs lim (pair k v ps) = Sized lim k × Sized lim v × SizedPairs lim ps

  pub SizedFields : TConfiguration → Fields → Type 0
  SizedFields lim no_fields = Unit {0}
  SizedFields lim (field id t fs) = Sized lim t × SizedFields lim fs

-- every number of the list is a byte
unfoldable pub Bytes : List ℕ → Type 0
Bytes [] = Unit {0}
Bytes (b ∷ bs) = (b < 256) × Bytes bs

-- "each value of the type its header declares", and each number in its type's range. An element of type Stop there is none of.
unfoldable mutual
  pub Typed : Tree → Type 0
  Typed (truth b) = Unit {0}
  Typed (i8 z) = SFits w8 z
  Typed (i16 z) = SFits w16 z
  Typed (i32 z) = SFits w32 z
  Typed (i64 z) = SFits w64 z
  Typed (double n) = n < 2 ^ 64
  Typed (uuid bs) = (length bs ≡ 16) × Bytes bs
  Typed (bytes bs) = Bytes bs
  Typed (list t ts) = TypedAll t ts
  Typed (set t ts) = TypedAll t ts
  Typed (map k v ps) = TypedPairs k v ps
  Typed (struct fs) = TypedFields fs

  pub TypedAll : TType → Trees → Type 0
  TypedAll ty no_trees = Unit {0}
  TypedAll ty (tree t ts) = (type_of t ≡ ty) × Typed t × TypedAll ty ts

  pub TypedPairs : TType → TType → Pairs → Type 0
  TypedPairs k v no_pairs = Unit {0}
  TypedPairs k v (pair t u ps) = (type_of t ≡ k) × (type_of u ≡ v) × Typed t × Typed u × TypedPairs k v ps

  pub TypedFields : Fields → Type 0
  TypedFields no_fields = Unit {0}
  TypedFields (field id t fs) = SFits w16 id × Typed t × TypedFields fs

-- "A value tree 'within the limits'", for a state that stands in `depth` structs: "skip's nesting, lengths and counts within them,
-- each value of the type its header declares". (A container has as many elements as it declares: its count is the tree's own.)
pub record Within (lim : TConfiguration) (depth : ℕ) (t : Tree) : Type 0 where
  pub nested : depth + nesting t ≤ lim.depth
  pub sized : Sized lim t
  pub typed : Typed t
