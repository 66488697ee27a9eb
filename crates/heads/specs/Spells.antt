-- Which bytes are a value: by recursion on the value's tree, and by nothing that skip does. Assumes nothing: these are definitions.
use Rattle.std.specs.Prelude.{ℕ, ◌-◌, ◌≤◌, ◌<◌, ◌≡◌, Bool, ◌⊎◌, List, [], ◌++◌, length, ℤ, pos}
use Rattle.std.proofs.Math.Seq.{slice}
use Rattle.types.specs.declared.TType.{TType}
use Rattle.types.specs.declared.TType.TheVariants as T
use Rattle.types.specs.declared.TConfiguration.{TConfiguration}
use Rattle.types.specs.Value as val
use Rattle.types.specs.Value.{Tree, Trees, Pairs, Fields, size, size_p, no_trees, tree, no_pairs, pair, no_fields}
use Rattle.heads.specs.Reader.{Whole}
use Rattle.heads.specs.Heads.{int8, int16, int32, int64, double, uuid, truth, binary, items, pairs, field, stop, bool, value}

-- `Spells t lim room ty bs`: the rules of Numbers and Headers read the bytes bs whole as the tree t of type ty, nested at most `room` deep.
-- A container: its header, whose count is the tree's, then its elements, with one level of room less.
unfoldable mutual
  pub Spells : Tree → TConfiguration → ℕ → TType → List ℕ → Type 0
  Spells (val.truth b) lim room ty bs = (ty ≡ T.Bool) × Whole truth b bs
  Spells (val.i8 z) lim room ty bs = (ty ≡ T.I08) × Whole int8 z bs
  Spells (val.i16 z) lim room ty bs = (ty ≡ T.I16) × Whole int16 z bs
  Spells (val.i32 z) lim room ty bs = (ty ≡ T.I32) × Whole int32 z bs
  Spells (val.i64 z) lim room ty bs = (ty ≡ T.I64) × Whole int64 z bs
  Spells (val.double n) lim room ty bs = (ty ≡ T.Double) × Whole double n bs
  Spells (val.uuid u) lim room ty bs = (ty ≡ T.Uuid) × Whole uuid u bs
  Spells (val.bytes cs) lim room ty bs = (ty ≡ T.String) × Whole (binary lim) cs bs
  Spells (val.list t ts) lim room ty bs =
      (ty ≡ T.List) × (0 < room)
      × ((h : List ℕ) × (b : List ℕ) × Whole (items lim) (t, size ts) h × SpellsAll ts lim (room - 1) t b × (bs ≡ h ++ b))
  Spells (val.set t ts) lim room ty bs =
      (ty ≡ T.Set) × (0 < room)
      × ((h : List ℕ) × (b : List ℕ) × Whole (items lim) (t, size ts) h × SpellsAll ts lim (room - 1) t b × (bs ≡ h ++ b))
  Spells (val.map k v ps) lim room ty bs =
      (ty ≡ T.Map) × (0 < room)
      × ((h : List ℕ) × (b : List ℕ) × Whole (pairs lim) (k, v, size_p ps) h × SpellsPairs ps lim (room - 1) k v b × (bs ≡ h ++ b))
  Spells (val.struct fs) lim room ty bs = (ty ≡ T.Struct) × (0 < room) × SpellsFields fs lim (room - 1) (pos 0) bs

  -- elements of one type, one behind the other
  pub SpellsAll : Trees → TConfiguration → ℕ → TType → List ℕ → Type 0
  SpellsAll no_trees lim room ty bs = bs ≡ []
  SpellsAll (tree t ts) lim room ty bs =
      (a : List ℕ) × (b : List ℕ) × Spells t lim room ty a × SpellsAll ts lim room ty b × (bs ≡ a ++ b)

  -- keys, each with its value behind it
  pub SpellsPairs : Pairs → TConfiguration → ℕ → TType → TType → List ℕ → Type 0
  SpellsPairs no_pairs lim room k v bs = bs ≡ []
  SpellsPairs (pair t u ps) lim room k v bs =
      (a : List ℕ) × (b : List ℕ) × (c : List ℕ) × Spells t lim room k a × Spells u lim room v b × SpellsPairs ps lim room k v c × (bs ≡ a ++ (b ++ c))

  -- the fields behind the id `last`, then the stop; a bool's value stands in its header, any other's behind it
  pub SpellsFields : Fields → TConfiguration → ℕ → ℤ → List ℕ → Type 0
  SpellsFields no_fields lim room last bs = Whole (field last) stop bs
  SpellsFields (val.field id t fs) lim room last bs =
      (h : List ℕ) × (a : List ℕ) × (b : List ℕ)
      × (((x : Bool) × (t ≡ val.truth x) × Whole (field last) (bool x id) h × (a ≡ []))
      ⊎ ((ty : TType) × Whole (field last) (value ty id) h × Spells t lim room ty a))
      × SpellsFields fs lim room id b
      × (bs ≡ h ++ (a ++ b))

-- "A value is well formed when the rules of Numbers and Headers, with skip's nesting and without UTF-8, read its bytes whole as one tree of its
-- type and refuse nothing": the bytes of s from `at` up to e, with room for `room` levels
pub record Formed (s : List ℕ) (lim : TConfiguration) (room : ℕ) (ty : TType) (at e : ℕ) : Type 0 where
  pub tree : Tree
  pub start : at ≤ e
  pub inside : e ≤ length s
  pub spelt : Spells tree lim room ty (slice at e s)
