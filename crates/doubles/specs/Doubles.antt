-- "the doubles found by walking the value tree, map keys and nested structs among them", in the tree's order. Assumes nothing: these are definitions.
use Rattle.std.specs.Prelude.{ℕ, List, [], ◌∷◌, ◌++◌}
use Rattle.types.specs.Value.{Tree, truth, i8, i16, i32, i64, double, uuid, bytes, list, set, map, struct, Trees, no_trees, tree, Pairs, no_pairs, pair, Fields, no_fields, field}

-- a double is its 64 bits
unfoldable mutual
  pub doubles_of : Tree → List ℕ
  doubles_of (truth b) = []
  doubles_of (i8 z) = []
  doubles_of (i16 z) = []
  doubles_of (i32 z) = []
  doubles_of (i64 z) = []
  doubles_of (double n) = n ∷ []
  doubles_of (uuid bs) = []
  doubles_of (bytes bs) = []
  doubles_of (list t ts) = doubles_all ts
  doubles_of (set t ts) = doubles_all ts
  doubles_of (map k v ps) = doubles_pairs ps
  doubles_of (struct fs) = doubles_fields fs

  pub doubles_all : Trees → List ℕ
  doubles_all no_trees = []
  doubles_all (tree t ts) = doubles_of t ++ doubles_all ts

  -- a key's, then its value's
  pub doubles_pairs : Pairs → List ℕ
  doubles_pairs no_pairs = []
  doubles_pairs (pair k v ps) = doubles_of k ++ (doubles_of v ++ doubles_pairs ps)

  -- every field's, whatever its id: an id that comes twice has both
  pub doubles_fields : Fields → List ℕ
  doubles_fields no_fields = []
  doubles_fields (field id t fs) = doubles_of t ++ doubles_fields fs
