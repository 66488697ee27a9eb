-- The items of the value that stands in the bytes: skip's rules, with a line for each header and each value; "a header's line comes once its own checks
-- pass (so `list stop 3`, then `refused 4`); nesting, Stop elements and unchecked strings are as in skip". By recursion on the room left, as
-- crates/skip/specs/Value.antt. Assumes nothing: these are definitions.
use Rattle.std.specs.Prelude.{ℕ, zero, suc, length, ℤ, pos}
use Rattle.types.specs.Refusals.{END, BAD_TYPE, DEPTH}
use Rattle.types.specs.declared.TType.{TType}
use Rattle.types.specs.declared.TType.TheVariants as T
use Rattle.types.specs.declared.TConfiguration.{TConfiguration}
use Rattle.types.specs.Value as val
use Rattle.types.specs.Value.{Tree, Trees, no_trees, tree, Pairs, no_pairs, pair, Fields, no_fields}
use Rattle.heads.specs.Reader.{done, refuse}
use Rattle.heads.specs.Heads as heads
use Rattle.heads.specs.Heads.{int8, int16, int32, int64, double, uuid, truth, binary, items_head, pairs_head, Field}
use Rattle.skip.specs.Value.{startable}
use Rattle.scalars.specs.Scalars.{scalar_of}
use Rattle.scalars.specs.declared.Scalar.TheVariants as S
use Rattle.lines.specs.Lines as row
use Rattle.printer.specs.Telling.{Teller, quiet, aloud, then_tell, making, provided_t, voiced}

-- n of a kind, one behind the other, put together by `add`
unfoldable pub row_told : {A B : Type 0} → Teller A → B → (A → B → B) → ℕ → Teller B
row_told t none add zero = quiet (done none)
row_told t none add (suc n) = then_tell t (λ a. making (row_told t none add n) (add a))

-- n values
abbrev pub many_told : Teller Tree → ℕ → Teller Trees
many_told t n = row_told t no_trees tree n

-- a key, and its value behind it
unfoldable pub pair_told : Teller Tree → Teller Tree → Teller (Tree × Tree)
pair_told t u = then_tell t (λ k. making u (λ v. (k, v)))

abbrev pub add_pair : Tree × Tree → Pairs → Pairs
add_pair e ps = pair e.0 e.1 ps

-- n of them
abbrev pub pairs_told : Teller Tree → Teller Tree → ℕ → Teller Pairs
pairs_told t u n = row_told (pair_told t u) no_pairs add_pair n

-- a list's or a set's header, which `whole` says, and then its elements
unfoldable pub items_told : {B : Type 0} → TConfiguration → (TType → Teller Tree) → TType → (TType → Trees → B) → Teller B
items_told lim inner whole g =
    then_tell (quiet (items_head lim))
    (λ h. aloud (row.items whole h.0 h.1)
    (provided_t (startable h.0 h.1) BAD_TYPE (making (many_told (inner h.0) h.1) (g h.0))))

-- a map's
unfoldable pub map_told : TConfiguration → (TType → Teller Tree) → Teller Tree
map_told lim inner =
    then_tell (quiet (pairs_head lim))
    (λ h. aloud (row.map h.0 h.1 h.2)
    (provided_t (startable h.0 h.2) BAD_TYPE
    (provided_t (startable h.1 h.2) BAD_TYPE
    (making (pairs_told (inner h.0) (inner h.1) h.2) (val.map h.0 h.1)))))

-- behind a field's header: the struct ends; a bool's value stood in the header; any other's stands here. `go` walks on from an id.
abbrev pub behind_told : (TType → Teller Tree) → (ℤ → Teller Fields) → Field → Teller Fields
behind_told inner go heads.stop = aloud row.stop (quiet (done no_fields))
behind_told inner go (heads.bool b id) =
    aloud (row.field id T.Bool) (aloud (row.scalar (S.Bool b)) (making (go id) (val.field id (val.truth b))))
behind_told inner go (heads.value t id) = aloud (row.field id t) (then_tell (inner t) (λ v. making (go id) (val.field id v)))

-- at most k fields behind the id `last`, up to the stop
unfoldable pub walk_told : (TType → Teller Tree) → ℕ → ℤ → Teller Fields
walk_told inner zero last = quiet (refuse END)
walk_told inner (suc k) last = then_tell (quiet (heads.field last)) (behind_told inner (walk_told inner k))

-- the fields behind the id `last`: no more than there are bytes left, since each has a byte of its own
unfoldable pub fields_told : (TType → Teller Tree) → ℤ → Teller Fields
fields_told inner last bs = walk_told inner (length bs) last bs

-- a struct's begin, and its fields: its ids begin anew
unfoldable pub struct_told : (TType → Teller Tree) → Teller Tree
struct_told inner = aloud row.struct (making (fields_told inner (pos 0)) val.struct)

-- how the four that hold other values are told
pub record Boxes : Type 0 where
  pub list : Teller Tree
  pub set : Teller Tree
  pub map : Teller Tree
  pub struct : Teller Tree

-- "Entering a struct, list, set or map, empty or not, adds one, checked before its first byte": no room
abbrev pub shut_told : Boxes
shut_told = record { list = quiet (refuse DEPTH); set = quiet (refuse DEPTH); map = quiet (refuse DEPTH); struct = quiet (refuse DEPTH) }

abbrev pub roomy_told : TConfiguration → (TType → Teller Tree) → Boxes
roomy_told lim inner =
    record {
      list = items_told lim inner T.List val.list;
      set = items_told lim inner T.Set val.set;
      map = map_told lim inner;
      struct = struct_told inner;
    }

-- a value of a type
abbrev pub shaped_told : TConfiguration → Boxes → TType → Teller Tree
shaped_told lim box T.Stop = quiet (refuse BAD_TYPE)
shaped_told lim box T.Bool = voiced truth (λ b. row.scalar (S.Bool b)) val.truth
shaped_told lim box T.I08 = voiced int8 (λ z. row.scalar (S.Int z)) val.i8
shaped_told lim box T.I16 = voiced int16 (λ z. row.scalar (S.Int z)) val.i16
shaped_told lim box T.I32 = voiced int32 (λ z. row.scalar (S.Int z)) val.i32
shaped_told lim box T.I64 = voiced int64 (λ z. row.scalar (S.Int z)) val.i64
shaped_told lim box T.Double = voiced double (λ n. row.scalar (scalar_of n)) val.double
shaped_told lim box T.String = voiced (binary lim) row.part val.bytes
shaped_told lim box T.List = box.list
shaped_told lim box T.Set = box.set
shaped_told lim box T.Map = box.map
shaped_told lim box T.Struct = box.struct
shaped_told lim box T.Uuid = voiced uuid row.part val.uuid

-- with `room` levels left
unfoldable pub value_told : TConfiguration → ℕ → TType → Teller Tree
value_told lim zero ty = shaped_told lim shut_told ty
value_told lim (suc room) ty = shaped_told lim (roomy_told lim (value_told lim room)) ty
