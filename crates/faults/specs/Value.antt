-- The value that stands in the bytes, tracked: crates/skip/specs/Value.antt in the words of tracked reading, with a step of the path where a field's value, an
-- element, a key or a map's value begins. Assumes nothing: these are definitions.
use Rattle.std.specs.Prelude.{ℕ, zero, suc, length, ℤ, pos}
use Rattle.types.specs.Refusals.{BAD_TYPE, DEPTH}
use Rattle.types.specs.declared.TType.{TType}
use Rattle.types.specs.declared.TType.TheVariants as T
use Rattle.types.specs.declared.TConfiguration.{TConfiguration}
use Rattle.types.specs.Value as val
use Rattle.types.specs.Value.{Tree, Trees, no_trees, tree, Pairs, no_pairs, pair, Fields, no_fields}
use Rattle.heads.specs.Heads as heads
use Rattle.heads.specs.Heads.{Field}
use Rattle.skip.specs.Value.{startable}
use Rattle.faults.specs.Tracked as way
use Rattle.faults.specs.Tracked.{Tracked, done, refuse, and_then, provided, missing, labelled}
use Rattle.faults.specs.Heads.{int8, int16, int32, int64, double, uuid, truth, binary, items_head, pairs_head, field}

-- n elements, numbered from i on
unfoldable pub many : Tracked Tree → ℕ → ℕ → Tracked Trees
many p i zero = done no_trees
many p i (suc n) = and_then (labelled (way.element i) p) (λ t. and_then (many p (suc i) n) (λ ts. done (tree t ts)))

-- n pairs, keys and values counted apart
unfoldable pub many_pairs : Tracked Tree → Tracked Tree → ℕ → ℕ → Tracked Pairs
many_pairs p q i zero = done no_pairs
many_pairs p q i (suc n) =
    and_then (labelled (way.key i) p)
    (λ k. and_then (labelled (way.value i) q) (λ v. and_then (many_pairs p q (suc i) n) (λ ps. done (pair k v ps))))

-- behind a field's header: "A field joins the path when its header is whole"
abbrev pub behind : (TType → Tracked Tree) → (ℤ → Tracked Fields) → Field → Tracked Fields
behind f go heads.stop = done no_fields
behind f go (heads.bool b id) = and_then (go id) (λ fs. done (val.field id (val.truth b) fs))
behind f go (heads.value t id) = and_then (labelled (way.field id) (f t)) (λ v. and_then (go id) (λ fs. done (val.field id v fs)))

-- at most k fields behind the id `last`, up to the stop
unfoldable pub walk : (TType → Tracked Tree) → ℕ → ℤ → Tracked Fields
walk f zero last = missing
walk f (suc k) last = and_then (field last) (behind f (walk f k))

unfoldable pub fields : (TType → Tracked Tree) → ℤ → Tracked Fields
fields f last bs = walk f (length bs) last bs

pub record Boxes : Type 0 where
  pub list : Tracked Tree
  pub set : Tracked Tree
  pub map : Tracked Tree
  pub struct : Tracked Tree

abbrev pub shut : Boxes
shut = record { list = refuse DEPTH; set = refuse DEPTH; map = refuse DEPTH; struct = refuse DEPTH }

-- "Stop elements never begin"
unfoldable pub items_of : TConfiguration → (TType → Tracked Tree) → (TType → Trees → Tree) → Tracked Tree
items_of lim inner g =
    and_then (items_head lim) (λ h. provided (startable h.0 h.1) BAD_TYPE (and_then (many (inner h.0) 0 h.1) (λ ts. done (g h.0 ts))))

unfoldable pub map_of : TConfiguration → (TType → Tracked Tree) → Tracked Tree
map_of lim inner =
    and_then (pairs_head lim)
    (λ h. provided (startable h.0 h.2) BAD_TYPE (provided (startable h.1 h.2) BAD_TYPE
    (and_then (many_pairs (inner h.0) (inner h.1) 0 h.2) (λ ps. done (val.map h.0 h.1 ps)))))

unfoldable pub struct_of : (TType → Tracked Tree) → Tracked Tree
struct_of inner = and_then (fields inner (pos 0)) (λ fs. done (val.struct fs))

abbrev pub roomy : TConfiguration → (TType → Tracked Tree) → Boxes
roomy lim inner =
    record { list = items_of lim inner val.list; set = items_of lim inner val.set; map = map_of lim inner; struct = struct_of inner }

abbrev pub shaped : TConfiguration → Boxes → TType → Tracked Tree
shaped lim box T.Stop = refuse BAD_TYPE
shaped lim box T.Bool = and_then truth (λ b. done (val.truth b))
shaped lim box T.I08 = and_then int8 (λ z. done (val.i8 z))
shaped lim box T.I16 = and_then int16 (λ z. done (val.i16 z))
shaped lim box T.I32 = and_then int32 (λ z. done (val.i32 z))
shaped lim box T.I64 = and_then int64 (λ z. done (val.i64 z))
shaped lim box T.Double = and_then double (λ n. done (val.double n))
shaped lim box T.String = and_then (binary lim) (λ bs. done (val.bytes bs))
shaped lim box T.List = box.list
shaped lim box T.Set = box.set
shaped lim box T.Map = box.map
shaped lim box T.Struct = box.struct
shaped lim box T.Uuid = and_then uuid (λ u. done (val.uuid u))

-- with `room` levels left
unfoldable pub tracked : TConfiguration → ℕ → TType → Tracked Tree
tracked lim zero ty = shaped lim shut ty
tracked lim (suc room) ty = shaped lim (roomy lim (tracked lim room)) ty
