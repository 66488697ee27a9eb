-- The value that stands in the bytes, with the refusals in reading order: the rules of "Skip", by recursion on the room left under the depth limit.
-- Assumes nothing: these are definitions.
use Rattle.std.specs.Prelude.{ℕ, zero, suc, Bool, true, cond, List, [], ◌∷◌, eqb, ltb, pos}
use Rattle.types.specs.Refusals.{BAD_TYPE, DEPTH}
use Rattle.types.specs.Codes.{type_code}
use Rattle.types.specs.declared.TType.{TType}
use Rattle.types.specs.declared.TType.TheVariants as T
use Rattle.types.specs.declared.TConfiguration.{TConfiguration}
use Rattle.types.specs.Value as val
use Rattle.types.specs.Value.{Tree, Trees, no_trees, tree, Pairs, no_pairs, pair, Fields, no_fields}
use Rattle.heads.specs.Reader.{Reader, done, refuse, and_then, provided}
use Rattle.heads.specs.Heads.{int8, int16, int32, int64, double, uuid, truth, binary, items, pairs, items_head, pairs_head}
use Rattle.skip.specs.Walk.{Entry, fields}

-- n values, one behind the other
unfoldable pub many : Reader Tree → ℕ → Reader Trees
many p zero = done no_trees
many p (suc n) = and_then p (λ t. and_then (many p n) (λ ts. done (tree t ts)))

-- n keys, each with its value behind it
unfoldable pub many_pairs : Reader Tree → Reader Tree → ℕ → Reader Pairs
many_pairs p q zero = done no_pairs
many_pairs p q (suc n) = and_then p (λ k. and_then q (λ v. and_then (many_pairs p q n) (λ ps. done (pair k v ps))))

-- the fields that a walk found, as a struct has them
abbrev pub fields_of : List (Entry Tree) → Fields
fields_of [] = no_fields
fields_of (f ∷ fs) = val.field f.id f.what (fields_of fs)

-- "Stop as element type: .. skipped once the header's own checks pass, with a count over 0: BAD TYPE (a zero count is well formed)"
abbrev pub startable : TType → ℕ → Bool
startable t n = cond (eqb n 0) true (ltb 0 (type_code t))

-- how the four that hold other values are read
pub record Boxes : Type 0 where
  pub list : Reader Tree
  pub set : Reader Tree
  pub map : Reader Tree
  pub struct : Reader Tree

-- "Entering a struct, list, set or map, empty or not, adds one, checked before its first byte": no room
abbrev pub shut : Boxes
shut = record { list = refuse DEPTH; set = refuse DEPTH; map = refuse DEPTH; struct = refuse DEPTH }

-- a container's header, which `items` or `pairs` reads, and then its elements, each read by `inner`
abbrev pub boxed : Reader (TType × ℕ) → Reader (TType × TType × ℕ) → (TType → Reader Tree) → Boxes
boxed items pairs inner =
    record {
      list = and_then items (λ h. provided (startable h.0 h.1) BAD_TYPE (and_then (many (inner h.0) h.1) (λ ts. done (val.list h.0 ts))));
      set = and_then items (λ h. provided (startable h.0 h.1) BAD_TYPE (and_then (many (inner h.0) h.1) (λ ts. done (val.set h.0 ts))));
      map =
          and_then pairs
          (λ h. provided (startable h.0 h.2) BAD_TYPE (provided (startable h.1 h.2) BAD_TYPE
          (and_then (many_pairs (inner h.0) (inner h.1) h.2) (λ ps. done (val.map h.0 h.1 ps)))));
      struct = and_then (fields val.truth inner (pos 0)) (λ fs. done (val.struct (fields_of fs)));
    }

-- the headers' counts are held against the bytes left
abbrev pub roomy : TConfiguration → (TType → Reader Tree) → Boxes
roomy lim inner = boxed (items_head lim) (pairs_head lim) inner

-- a value of a type: "Skip of Stop is BAD TYPE"; "Strings are not checked for UTF-8"
abbrev pub shaped : TConfiguration → Boxes → TType → Reader Tree
shaped lim box T.Stop = refuse BAD_TYPE
shaped lim box T.Bool = and_then truth (λ b. done (val.truth b))
shaped lim box T.I08 = and_then int8 (λ z. done (val.i8 z))
shaped lim box T.I16 = and_then int16 (λ z. done (val.i16 z))
shaped lim box T.I32 = and_then int32 (λ z. done (val.i32 z))
shaped lim box T.I64 = and_then int64 (λ z. done (val.i64 z))
shaped lim box T.Double = and_then double (λ n. done (val.double n))
shaped lim box T.String = and_then (binary lim) (λ bs. done (val.bytes bs))
shaped lim box T.List = box.list
shaped lim box T.Set = box.set
shaped lim box T.Map = box.map
shaped lim box T.Struct = box.struct
shaped lim box T.Uuid = and_then uuid (λ u. done (val.uuid u))

-- with `room` levels left: "the two rules call each other, and the room left under the depth limit falls"
unfoldable pub value_of : TConfiguration → ℕ → TType → Reader Tree
value_of lim zero ty = shaped lim shut ty
value_of lim (suc room) ty = shaped lim (roomy lim (value_of lim room)) ty

-- the same without that: any count is taken on trust. No contract cites it; the law `counts-only` says that it accepts the same.
unfoldable pub uncounted : TConfiguration → ℕ → TType → Reader Tree
uncounted lim zero ty = shaped lim shut ty
uncounted lim (suc room) ty = shaped lim (boxed (items lim) (pairs lim) (uncounted lim room)) ty
