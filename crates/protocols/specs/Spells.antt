-- Which bytes are a value by the words of a protocol: by recursion on the value's tree, and by nothing that skip does. Assumes nothing: these are definitions.
use Rattle.std.specs.Prelude.{ℕ, ◌-◌, ◌≤◌, ◌<◌, ◌≡◌, Bool, ◌⊎◌, List, [], ◌++◌, length, ℤ, pos}
use Rattle.std.proofs.Math.Seq.{slice}
use Rattle.types.specs.declared.TType.{TType}
use Rattle.types.specs.declared.TType.TheVariants as T
use Rattle.types.specs.declared.TConfiguration.{TConfiguration}
use Rattle.types.specs.Value as val
use Rattle.types.specs.Value.{Tree, Trees, Pairs, Fields, size, size_p, no_trees, tree, no_pairs, pair, no_fields}
use Rattle.heads.specs.Reader.{Whole}
use Rattle.heads.specs.Heads.{stop, bool, value}
use Rattle.protocols.specs.Words.{Words}

-- `SpellsBy w t lim room ty bs`: the words read the bytes bs whole as the tree t of type ty, nested at most `room` deep.
-- A container: its header, whose count is the tree's, then its elements, with one level of room less.
unfoldable mutual
  pub SpellsBy : Words → Tree → TConfiguration → ℕ → TType → List ℕ → Type 0
  SpellsBy w (val.truth b) lim room ty bs = (ty ≡ T.Bool) × Whole w.truth b bs
  SpellsBy w (val.i8 z) lim room ty bs = (ty ≡ T.I08) × Whole w.int8 z bs
  SpellsBy w (val.i16 z) lim room ty bs = (ty ≡ T.I16) × Whole w.int16 z bs
  SpellsBy w (val.i32 z) lim room ty bs = (ty ≡ T.I32) × Whole w.int32 z bs
  SpellsBy w (val.i64 z) lim room ty bs = (ty ≡ T.I64) × Whole w.int64 z bs
  SpellsBy w (val.double n) lim room ty bs = (ty ≡ T.Double) × Whole w.double n bs
  SpellsBy w (val.uuid u) lim room ty bs = (ty ≡ T.Uuid) × Whole w.uuid u bs
  SpellsBy w (val.bytes cs) lim room ty bs = (ty ≡ T.String) × Whole (w.binary lim) cs bs
  SpellsBy w (val.list t ts) lim room ty bs =
      (ty ≡ T.List) × (0 < room)
      × ((h : List ℕ) × (b : List ℕ) × Whole (w.items lim) (t, size ts) h × SpellsAllBy w ts lim (room - 1) t b × (bs ≡ h ++ b))
  SpellsBy w (val.set t ts) lim room ty bs =
      (ty ≡ T.Set) × (0 < room)
      × ((h : List ℕ) × (b : List ℕ) × Whole (w.items lim) (t, size ts) h × SpellsAllBy w ts lim (room - 1) t b × (bs ≡ h ++ b))
  SpellsBy w (val.map k v ps) lim room ty bs =
      (ty ≡ T.Map) × (0 < room)
      × ((h : List ℕ) × (b : List ℕ) × Whole (w.pairs lim) (k, v, size_p ps) h × SpellsPairsBy w ps lim (room - 1) k v b × (bs ≡ h ++ b))
  SpellsBy w (val.struct fs) lim room ty bs = (ty ≡ T.Struct) × (0 < room) × SpellsFieldsBy w fs lim (room - 1) (pos 0) bs

  -- elements of one type, one behind the other
  pub SpellsAllBy : Words → Trees → TConfiguration → ℕ → TType → List ℕ → Type 0
  SpellsAllBy w no_trees lim room ty bs = bs ≡ []
  SpellsAllBy w (tree t ts) lim room ty bs =
      (a : List ℕ) × (b : List ℕ) × SpellsBy w t lim room ty a × SpellsAllBy w ts lim room ty b × (bs ≡ a ++ b)

  -- keys, each with its value behind it
  pub SpellsPairsBy : Words → Pairs → TConfiguration → ℕ → TType → TType → List ℕ → Type 0
  SpellsPairsBy w no_pairs lim room k v bs = bs ≡ []
  SpellsPairsBy w (pair t u ps) lim room k v bs =
      (a : List ℕ) × (b : List ℕ) × (c : List ℕ) × SpellsBy w t lim room k a × SpellsBy w u lim room v b × SpellsPairsBy w ps lim room k v c × (bs ≡ a ++ (b ++ c))

  -- the fields behind the id `last`, then the stop; a bool's value stands in its header, any other's behind it
  pub SpellsFieldsBy : Words → Fields → TConfiguration → ℕ → ℤ → List ℕ → Type 0
  SpellsFieldsBy w no_fields lim room last bs = Whole (w.field last) stop bs
  SpellsFieldsBy w (val.field id t fs) lim room last bs =
      (h : List ℕ) × (a : List ℕ) × (b : List ℕ)
      × (((x : Bool) × (t ≡ val.truth x) × Whole (w.field last) (bool x id) h × (a ≡ []))
      ⊎ ((ty : TType) × Whole (w.field last) (value ty id) h × SpellsBy w t lim room ty a))
      × SpellsFieldsBy w fs lim room id b
      × (bs ≡ h ++ (a ++ b))

-- "A value is well formed when the rules .. read its bytes whole as one tree of its type and refuse nothing": the bytes of s from `at` up to e, with room for
-- `room` levels
pub record FormedBy (w : Words) (s : List ℕ) (lim : TConfiguration) (room : ℕ) (ty : TType) (at e : ℕ) : Type 0 where
  pub tree : Tree
  pub start : at ≤ e
  pub inside : e ≤ length s
  pub spelt : SpellsBy w tree lim room ty (slice at e s)
