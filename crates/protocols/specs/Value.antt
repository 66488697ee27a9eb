-- The value that stands in the bytes, by the words of a protocol, with the refusals in reading order: the rules of "Skip", by recursion on the room left under
-- the depth limit. Assumes nothing: these are definitions.
use Rattle.std.specs.Prelude.{ℕ, zero, suc, Bool, List, length, ℤ, pos}
use Rattle.types.specs.Refusals.{END, BAD_TYPE}
use Rattle.types.specs.declared.TType.{TType}
use Rattle.types.specs.declared.TType.TheVariants as T
use Rattle.types.specs.declared.TConfiguration.{TConfiguration}
use Rattle.types.specs.Value as val
use Rattle.types.specs.Value.{Tree}
use Rattle.heads.specs.Reader.{Reader, done, refuse, and_then, provided}
use Rattle.skip.specs.Walk.{Entry, sizing, behind}
use Rattle.skip.specs.Value.{many, many_pairs, fields_of, startable, Boxes, shut}
use Rattle.protocols.specs.Words.{Words, items_head, pairs_head}

-- at most k fields behind the id `last`, up to the stop
unfoldable pub walk_by : {A : Type 0} → Words → (Bool → A) → (TType → Reader A) → ℕ → ℤ → Reader (List (Entry A))
walk_by w truth f zero last = refuse END
walk_by w truth f (suc k) last = and_then (sizing (w.field last)) (λ h. behind truth f (walk_by w truth f k) h.0 h.1)

-- the fields behind the id `last`: no more than there are bytes left, since each has a byte of its own
unfoldable pub fields_by : {A : Type 0} → Words → (Bool → A) → (TType → Reader A) → ℤ → Reader (List (Entry A))
fields_by w truth f last bs = walk_by w truth f (length bs) last bs

-- the four that hold other values: a container's header, whose count is held against the bytes left, and then its elements, each read by `inner`
abbrev pub roomy_by : Words → TConfiguration → (TType → Reader Tree) → Boxes
roomy_by w lim inner =
    record {
      list = and_then (items_head w lim) (λ h. provided (startable h.0 h.1) BAD_TYPE (and_then (many (inner h.0) h.1) (λ ts. done (val.list h.0 ts))));
      set = and_then (items_head w lim) (λ h. provided (startable h.0 h.1) BAD_TYPE (and_then (many (inner h.0) h.1) (λ ts. done (val.set h.0 ts))));
      map =
          and_then (pairs_head w lim)
          (λ h. provided (startable h.0 h.2) BAD_TYPE (provided (startable h.1 h.2) BAD_TYPE
          (and_then (many_pairs (inner h.0) (inner h.1) h.2) (λ ps. done (val.map h.0 h.1 ps)))));
      struct = and_then (fields_by w val.truth inner (pos 0)) (λ fs. done (val.struct (fields_of fs)));
    }

-- a value of a type: "Skip of Stop is BAD TYPE"; "Strings are not checked for UTF-8"
abbrev pub shaped_by : Words → TConfiguration → Boxes → TType → Reader Tree
shaped_by w lim box T.Stop = refuse BAD_TYPE
shaped_by w lim box T.Bool = and_then w.truth (λ b. done (val.truth b))
shaped_by w lim box T.I08 = and_then w.int8 (λ z. done (val.i8 z))
shaped_by w lim box T.I16 = and_then w.int16 (λ z. done (val.i16 z))
shaped_by w lim box T.I32 = and_then w.int32 (λ z. done (val.i32 z))
shaped_by w lim box T.I64 = and_then w.int64 (λ z. done (val.i64 z))
shaped_by w lim box T.Double = and_then w.double (λ n. done (val.double n))
shaped_by w lim box T.String = and_then (w.binary lim) (λ bs. done (val.bytes bs))
shaped_by w lim box T.List = box.list
shaped_by w lim box T.Set = box.set
shaped_by w lim box T.Map = box.map
shaped_by w lim box T.Struct = box.struct
shaped_by w lim box T.Uuid = and_then w.uuid (λ u. done (val.uuid u))

-- with `room` levels left: "the two rules call each other, and the room left under the depth limit falls"
unfoldable pub value_by : Words → TConfiguration → ℕ → TType → Reader Tree
value_by w lim zero ty = shaped_by w lim shut ty
value_by w lim (suc room) ty = shaped_by w lim (roomy_by w lim (value_by w lim room)) ty
