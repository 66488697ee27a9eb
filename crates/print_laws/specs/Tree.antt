-- The items of a value, from its tree: what the printing program's lines are of, whatever bytes spelt it. Assumes nothing: these are definitions.
use Rattle.std.specs.Prelude.{List, [], ◌∷◌, ◌++◌}
use Rattle.types.specs.declared.TType.TheVariants as T
use Rattle.types.specs.Value as val
use Rattle.types.specs.Value.{Tree, Trees, no_trees, tree, Pairs, no_pairs, pair, Fields, no_fields, type_of, size, size_p}
use Rattle.scalars.specs.Scalars.{scalar_of}
use Rattle.scalars.specs.declared.Scalar.TheVariants as S
use Rattle.lines.specs.Lines as row
use Rattle.lines.specs.Lines.{Item}

unfoldable mutual
  -- "One line an item: headers and values"
  pub items_of : Tree → List Item
  items_of (val.truth b) = row.scalar (S.Bool b) ∷ []
  items_of (val.i8 z) = row.scalar (S.Int z) ∷ []
  items_of (val.i16 z) = row.scalar (S.Int z) ∷ []
  items_of (val.i32 z) = row.scalar (S.Int z) ∷ []
  items_of (val.i64 z) = row.scalar (S.Int z) ∷ []
  items_of (val.double n) = row.scalar (scalar_of n) ∷ []
  items_of (val.uuid bs) = row.part bs ∷ []
  items_of (val.bytes bs) = row.part bs ∷ []
  items_of (val.list t ts) = row.items T.List t (size ts) ∷ items_all ts
  items_of (val.set t ts) = row.items T.Set t (size ts) ∷ items_all ts
  items_of (val.map k v ps) = row.map k v (size_p ps) ∷ items_pairs ps
  items_of (val.struct fs) = row.struct ∷ items_fields fs

  pub items_all : Trees → List Item
  items_all no_trees = []
  items_all (tree t ts) = items_of t ++ items_all ts

  pub items_pairs : Pairs → List Item
  items_pairs no_pairs = []
  items_pairs (pair k v ps) = items_of k ++ (items_of v ++ items_pairs ps)

  pub items_fields : Fields → List Item
  items_fields no_fields = row.stop ∷ []
  items_fields (val.field id t fs) = row.field id (type_of t) ∷ (items_of t ++ items_fields fs)
