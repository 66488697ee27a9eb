-- The strings of a value that are written as such: the value that can be read back has the same, and there are none where all go as bytes. Assumes nothing.
use Prim.Native.Nat.{ℕ, suc}
use lib.IntN.{pos}
use Rattle.types.specs.declared.TType.{TType}
use Rattle.types.specs.Value as val
use Rattle.types.specs.Value.{Tree, Trees, no_trees, tree, Pairs, no_pairs, pair, Fields, no_fields}
use Rattle.laws.specs.Written.{map_of, readable, readable_all, readable_pairs, readable_fields}
use Rattle.laws.specs.Text.{Plan, binaries, under, key_under, value_under, Texts, TextsAll, TextsPairs, TextsFields}

texts_map : (plan : Plan) (k v : TType) (ps : Pairs) → TextsPairs plan 0 ps → Texts plan (map_of k v ps)
unfolding Texts TextsPairs
texts_map plan k v no_pairs x = x
texts_map plan k v (pair t u ps) x = x

mutual
  unfolding Texts TextsAll TextsPairs TextsFields readable readable_all readable_pairs readable_fields

  pub texts_readable : (plan : Plan) (t : Tree) → Texts plan t → Texts plan (readable t)
  texts_readable plan (val.truth b) x = x
  texts_readable plan (val.i8 z) x = x
  texts_readable plan (val.i16 z) x = x
  texts_readable plan (val.i32 z) x = x
  texts_readable plan (val.i64 z) x = x
  texts_readable plan (val.double n) x = x
  texts_readable plan (val.uuid u) x = x
  texts_readable plan (val.bytes cs) x = x
  texts_readable plan (val.list t ts) x = texts_all plan 0 ts x
  texts_readable plan (val.set t ts) x = texts_all plan 0 ts x
  texts_readable plan (val.map k v ps) x = texts_map plan k v (readable_pairs ps) (texts_pairs plan 0 ps x)
  texts_readable plan (val.struct fs) x = texts_fields plan fs x

  texts_all : (plan : Plan) (i : ℕ) (ts : Trees) → TextsAll plan i ts → TextsAll plan i (readable_all ts)
  texts_all plan i no_trees x = x
  texts_all plan i (tree t ts) x = (texts_readable (under plan (pos i)) t x.0, texts_all plan (suc i) ts x.1)

  texts_pairs : (plan : Plan) (i : ℕ) (ps : Pairs) → TextsPairs plan i ps → TextsPairs plan i (readable_pairs ps)
  texts_pairs plan i no_pairs x = x
  texts_pairs plan i (pair t u ps) x =
      (texts_readable (key_under plan i) t x.0, texts_readable (value_under plan i) u x.1, texts_pairs plan (suc i) ps x.2)

  texts_fields : (plan : Plan) (fs : Fields) → TextsFields plan fs → TextsFields plan (readable_fields fs)
  texts_fields plan no_fields x = x
  texts_fields plan (val.field id t fs) x = (texts_readable (under plan id) t x.0, texts_fields plan fs x.1)

-- every string by the calls for bytes
abbrev pub as_bytes : Plan
as_bytes = λ path. binaries

mutual
  unfolding Texts TextsAll TextsPairs TextsFields

  pub no_texts : (t : Tree) → Texts as_bytes t
  no_texts (val.truth b) = tt
  no_texts (val.i8 z) = tt
  no_texts (val.i16 z) = tt
  no_texts (val.i32 z) = tt
  no_texts (val.i64 z) = tt
  no_texts (val.double n) = tt
  no_texts (val.uuid u) = tt
  no_texts (val.bytes cs) = tt
  no_texts (val.list t ts) = no_texts_all 0 ts
  no_texts (val.set t ts) = no_texts_all 0 ts
  no_texts (val.map k v ps) = no_texts_pairs 0 ps
  no_texts (val.struct fs) = no_texts_fields fs

  no_texts_all : (i : ℕ) (ts : Trees) → TextsAll as_bytes i ts
  no_texts_all i no_trees = tt
  no_texts_all i (tree t ts) = (no_texts t, no_texts_all (suc i) ts)

  no_texts_pairs : (i : ℕ) (ps : Pairs) → TextsPairs as_bytes i ps
  no_texts_pairs i no_pairs = tt
  no_texts_pairs i (pair t u ps) = (no_texts t, no_texts u, no_texts_pairs (suc i) ps)

  no_texts_fields : (fs : Fields) → TextsFields as_bytes fs
  no_texts_fields no_fields = tt
  no_texts_fields (val.field id t fs) = (no_texts t, no_texts_fields fs)
