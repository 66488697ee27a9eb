-- Which strings of a value are written and read as such, and that those are UTF-8. Assumes nothing: these are definitions.
use Rattle.std.specs.Prelude.{ℕ, suc, ◌≡◌, true, List, [], ◌∷◌, ℤ, pos}
use Rattle.types.specs.Value as val
use Rattle.types.specs.Value.{Tree, Trees, no_trees, tree, Pairs, no_pairs, pair, Fields, no_fields}
use Rattle.utf8.specs.Utf8.{utf8}

-- a string goes by the calls for bytes, or by the string calls, which check UTF-8
pub data Form : Type 0 where
  binaries : Form
  strings : Form

-- the form of the string at each path: a field goes by its id, an element by its number, a map's keys and values by 0 and 1 behind theirs
abbrev pub Plan : Type 0
Plan = List ℤ → Form

abbrev pub under : Plan → ℤ → Plan
under plan z = λ path. plan (z ∷ path)

abbrev pub key_under : Plan → ℕ → Plan
key_under plan i = under (under plan (pos i)) (pos 0)

abbrev pub value_under : Plan → ℕ → Plan
value_under plan i = under (under plan (pos i)) (pos 1)

-- "strings written as such are UTF-8"
abbrev pub Fits : Form → List ℕ → Type 0
Fits binaries cs = Unit {0}
Fits strings cs = utf8 cs ≡ true

-- those of a tree, of elements from the i-th on, of a struct's fields
unfoldable mutual
  pub Texts : Plan → Tree → Type 0
  Texts plan (val.truth b) = Unit {0}
  Texts plan (val.i8 z) = Unit {0}
  Texts plan (val.i16 z) = Unit {0}
  Texts plan (val.i32 z) = Unit {0}
  Texts plan (val.i64 z) = Unit {0}
  Texts plan (val.double n) = Unit {0}
  Texts plan (val.uuid u) = Unit {0}
  Texts plan (val.bytes cs) = Fits (plan []) cs
  Texts plan (val.list t ts) = TextsAll plan 0 ts
  Texts plan (val.set t ts) = TextsAll plan 0 ts
  Texts plan (val.map k v ps) = TextsPairs plan 0 ps
  Texts plan (val.struct fs) = TextsFields plan fs

  pub TextsAll : Plan → ℕ → Trees → Type 0
  TextsAll plan i no_trees = Unit {0}
  TextsAll plan i (tree t ts) = Texts (under plan (pos i)) t × TextsAll plan (suc i) ts

  pub TextsPairs : Plan → ℕ → Pairs → Type 0
  TextsPairs plan i no_pairs = Unit {0}
  TextsPairs plan i (pair t u ps) = Texts (key_under plan i) t × Texts (value_under plan i) u × TextsPairs plan (suc i) ps

  pub TextsFields : Plan → Fields → Type 0
  TextsFields plan no_fields = Unit {0}
  TextsFields plan (val.field id t fs) = Texts (under plan id) t × TextsFields plan fs
