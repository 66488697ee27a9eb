-- The bytes of a value as the binary writer's calls write it, call by call in the order of the value's grammar. The value that can be read back is `readable`
-- of crate laws: an empty map is written with Stop for its types. Assumes nothing: these are definitions.
use Rattle.std.specs.Prelude.{ℕ, List, [], ◌∷◌, ◌++◌}
use Rattle.std.specs.Int.{w8}
use Rattle.std.proofs.Common.{of_z}
use Rattle.types.specs.declared.TMessageType.{TMessageType}
use Rattle.types.specs.declared.SeqNo.{SeqNo}
use Rattle.types.specs.Value as val
use Rattle.types.specs.Value.{Tree, Trees, no_trees, tree, Pairs, no_pairs, pair, Fields, no_fields, type_of, size, size_p}
use Rattle.big_endian.specs.Big.{big8}
use Rattle.binary_puts.specs.Bytes.{int16_bytes, int32_bytes, int64_bytes, truth_byte, field_bytes, items_bytes, pairs_bytes, string_bytes, message_bytes}

-- the bytes of a value; a container's header, then its elements; "struct ::= ( field-header field-value )* stop-field"
unfoldable mutual
  pub bytes_of : Tree → List ℕ
  bytes_of (val.truth b) = truth_byte b ∷ []
  bytes_of (val.i8 z) = of_z w8 z ∷ []
  bytes_of (val.i16 z) = int16_bytes z
  bytes_of (val.i32 z) = int32_bytes z
  bytes_of (val.i64 z) = int64_bytes z
  bytes_of (val.double n) = big8 n
  bytes_of (val.uuid u) = u
  bytes_of (val.bytes cs) = string_bytes cs
  bytes_of (val.list t ts) = items_bytes t (size ts) ++ bytes_of_all ts
  bytes_of (val.set t ts) = items_bytes t (size ts) ++ bytes_of_all ts
  bytes_of (val.map k v ps) = pairs_bytes k v (size_p ps) ++ bytes_of_pairs ps
  bytes_of (val.struct fs) = bytes_of_fields fs

  pub bytes_of_all : Trees → List ℕ
  bytes_of_all no_trees = []
  bytes_of_all (tree t ts) = bytes_of t ++ bytes_of_all ts

  pub bytes_of_pairs : Pairs → List ℕ
  bytes_of_pairs no_pairs = []
  bytes_of_pairs (pair k v ps) = bytes_of k ++ (bytes_of v ++ bytes_of_pairs ps)

  pub bytes_of_fields : Fields → List ℕ
  bytes_of_fields no_fields = 0 ∷ []
  bytes_of_fields (val.field id t fs) = field_bytes (type_of t) id ++ (bytes_of t ++ bytes_of_fields fs)

-- the bytes of a whole message: its header with the name, then its struct
unfoldable pub bytes_of_whole : TMessageType → SeqNo → List ℕ → Fields → List ℕ
bytes_of_whole m z name fs = message_bytes m z.0 name ++ bytes_of (val.struct fs)
