-- The bytes of a value as the writer's calls write it, call by call in the order of the value's grammar, and the value that can be read back.
-- Assumes nothing: these are definitions.
use Rattle.std.specs.Prelude.{ℕ, ◌≤◌, ◌≡◌, Bool, true, false, cond, List, [], ◌∷◌, ◌++◌, length, ℤ, pos}
use Rattle.std.specs.Int.{w8, w32}
use Rattle.std.proofs.Common.{SFits, of_z}
use Rattle.types.specs.Codes.{type_code, truth_code}
use Rattle.types.specs.declared.TType.{TType}
use Rattle.types.specs.declared.TType.TheVariants as T
use Rattle.types.specs.declared.TMessageType.{TMessageType}
use Rattle.types.specs.declared.TConfiguration.{TConfiguration}
use Rattle.types.specs.declared.SeqNo.{SeqNo}
use Rattle.types.specs.Value as val
use Rattle.types.specs.Value.{Tree, Trees, no_trees, tree, Pairs, no_pairs, pair, Fields, no_fields, size, size_p}
use Rattle.numbers.specs.Fixed.{eight}
use Rattle.utf8.specs.Utf8.{utf8}
use Rattle.puts.specs.Bytes.{int_bytes, field_bytes, items_bytes, pairs_bytes, string_bytes, message_bytes}

-- "1 and 2 are true and false in a field"; any other value's type has its own code
abbrev pub field_code : Tree → ℕ
field_code (val.truth b) = truth_code b
field_code (val.i8 z) = type_code T.I08
field_code (val.i16 z) = type_code T.I16
field_code (val.i32 z) = type_code T.I32
field_code (val.i64 z) = type_code T.I64
field_code (val.double n) = type_code T.Double
field_code (val.uuid u) = type_code T.Uuid
field_code (val.bytes cs) = type_code T.String
field_code (val.list t ts) = type_code T.List
field_code (val.set t ts) = type_code T.Set
field_code (val.map k v ps) = type_code T.Map
field_code (val.struct fs) = type_code T.Struct

-- "the encoding of a boolean field value has no length (0 bytes)"
abbrev pub in_header : Tree → Bool
in_header (val.truth b) = true
in_header (val.i8 z) = false
in_header (val.i16 z) = false
in_header (val.i32 z) = false
in_header (val.i64 z) = false
in_header (val.double n) = false
in_header (val.uuid u) = false
in_header (val.bytes cs) = false
in_header (val.list t ts) = false
in_header (val.set t ts) = false
in_header (val.map k v ps) = false
in_header (val.struct fs) = false

-- the bytes of a value; a container's header, then its elements; a struct's fields, each header leaning on the id before it, then the stop
unfoldable mutual
  pub bytes_of : Tree → List ℕ
  bytes_of (val.truth b) = truth_code b ∷ []
  bytes_of (val.i8 z) = of_z w8 z ∷ []
  bytes_of (val.i16 z) = int_bytes z
  bytes_of (val.i32 z) = int_bytes z
  bytes_of (val.i64 z) = int_bytes z
  bytes_of (val.double n) = eight n
  bytes_of (val.uuid u) = u
  bytes_of (val.bytes cs) = string_bytes cs
  bytes_of (val.list t ts) = items_bytes t (size ts) ++ bytes_of_all ts
  bytes_of (val.set t ts) = items_bytes t (size ts) ++ bytes_of_all ts
  bytes_of (val.map k v ps) = pairs_bytes k v (size_p ps) ++ bytes_of_pairs ps
  bytes_of (val.struct fs) = bytes_of_fields (pos 0) fs

  pub bytes_of_all : Trees → List ℕ
  bytes_of_all no_trees = []
  bytes_of_all (tree t ts) = bytes_of t ++ bytes_of_all ts

  pub bytes_of_pairs : Pairs → List ℕ
  bytes_of_pairs no_pairs = []
  bytes_of_pairs (pair k v ps) = bytes_of k ++ (bytes_of v ++ bytes_of_pairs ps)

  pub bytes_of_fields : ℤ → Fields → List ℕ
  bytes_of_fields last no_fields = 0 ∷ []
  bytes_of_fields last (val.field id t fs) = field_bytes last id (field_code t) ++ (cond (in_header t) [] (bytes_of t) ++ bytes_of_fields id fs)

-- the bytes of a whole message: its header with the name, then its struct
unfoldable pub bytes_of_whole : TMessageType → SeqNo → List ℕ → Fields → List ℕ
bytes_of_whole m z name fs = message_bytes m z.0 name ++ bytes_of (val.struct fs)

-- a message's header within the limits: a 32-bit sequence number, a name that is no longer than the longest string and is UTF-8
pub record HeaderWithin (lim : TConfiguration) (z : SeqNo) (name : List ℕ) : Type 0 where
  pub number : SFits w32 z.0
  pub short : length name ≤ lim.string
  pub text : utf8 name ≡ true

-- an empty map has no types, which is Stop twice
abbrev pub map_of : TType → TType → Pairs → Tree
map_of k v no_pairs = val.map T.Stop T.Stop no_pairs
map_of k v (pair t u ps) = val.map k v (pair t u ps)

-- the value as it can be read back: empty maps have lost their types
unfoldable mutual
  pub readable : Tree → Tree
  readable (val.truth b) = val.truth b
  readable (val.i8 z) = val.i8 z
  readable (val.i16 z) = val.i16 z
  readable (val.i32 z) = val.i32 z
  readable (val.i64 z) = val.i64 z
  readable (val.double n) = val.double n
  readable (val.uuid u) = val.uuid u
  readable (val.bytes cs) = val.bytes cs
  readable (val.list t ts) = val.list t (readable_all ts)
  readable (val.set t ts) = val.set t (readable_all ts)
  readable (val.map k v ps) = map_of k v (readable_pairs ps)
  readable (val.struct fs) = val.struct (readable_fields fs)

  pub readable_all : Trees → Trees
  readable_all no_trees = no_trees
  readable_all (tree t ts) = tree (readable t) (readable_all ts)

  pub readable_pairs : Pairs → Pairs
  readable_pairs no_pairs = no_pairs
  readable_pairs (pair t u ps) = pair (readable t) (readable u) (readable_pairs ps)

  pub readable_fields : Fields → Fields
  readable_fields no_fields = no_fields
  readable_fields (val.field id t fs) = val.field id (readable t) (readable_fields fs)
