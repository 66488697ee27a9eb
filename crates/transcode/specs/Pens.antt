-- How a protocol writes: for the writer what `Words` (crate protocols) is for the reader. The bytes of a value are said over the record, once for every protocol.
-- Assumes nothing: these are definitions.
use Rattle.std.specs.Prelude.{ℕ, Bool, false, cond, List, [], ◌∷◌, ◌++◌, ℤ, pos}
use Rattle.std.specs.Int.{w8}
use Rattle.std.proofs.Common.{of_z}
use Rattle.types.specs.Codes.{truth_code}
use Rattle.types.specs.declared.TType.{TType}
use Rattle.types.specs.declared.TMessageType.{TMessageType}
use Rattle.types.specs.Value as val
use Rattle.types.specs.Value.{Tree, Trees, no_trees, tree, Pairs, no_pairs, pair, Fields, no_fields, type_of, size, size_p}
use Rattle.numbers.specs.Fixed.{eight}
use Rattle.puts.specs.Bytes as compact-bytes
use Rattle.laws.specs.Written.{field_code, in_header}
use Rattle.big_endian.specs.Big.{big8}
use Rattle.binary_puts.specs.Bytes as binary-bytes

pub record Pens : Type 0 where
  -- scalars; a uuid is its bytes
  pub truth : Bool → List ℕ
  pub int8 : ℤ → List ℕ
  pub int16 : ℤ → List ℕ
  pub int32 : ℤ → List ℕ
  pub int64 : ℤ → List ℕ
  pub double : ℕ → List ℕ
  -- headers: a binary's or a string's with its bytes, a list's or a set's, a map's
  pub binary : List ℕ → List ℕ
  pub items : TType → ℕ → List ℕ
  pub pairs : TType → TType → ℕ → List ℕ
  -- a field's, behind the id of the last one, for its value, and whether that stands in the header
  pub field : ℤ → ℤ → Tree → List ℕ
  pub held : Tree → Bool
  pub message : TMessageType → ℤ → List ℕ → List ℕ

-- the bytes of a value; a container's header, then its elements; a struct's fields, then the stop, which is the byte 0
unfoldable mutual
  pub bytes_by : Pens → Tree → List ℕ
  bytes_by p (val.truth b) = p.truth b
  bytes_by p (val.i8 z) = p.int8 z
  bytes_by p (val.i16 z) = p.int16 z
  bytes_by p (val.i32 z) = p.int32 z
  bytes_by p (val.i64 z) = p.int64 z
  bytes_by p (val.double n) = p.double n
  bytes_by p (val.uuid u) = u
  bytes_by p (val.bytes cs) = p.binary cs
  bytes_by p (val.list t ts) = p.items t (size ts) ++ bytes_all_by p ts
  bytes_by p (val.set t ts) = p.items t (size ts) ++ bytes_all_by p ts
  bytes_by p (val.map k v ps) = p.pairs k v (size_p ps) ++ bytes_pairs_by p ps
  bytes_by p (val.struct fs) = bytes_fields_by p (pos 0) fs

  pub bytes_all_by : Pens → Trees → List ℕ
  bytes_all_by p no_trees = []
  bytes_all_by p (tree t ts) = bytes_by p t ++ bytes_all_by p ts

  pub bytes_pairs_by : Pens → Pairs → List ℕ
  bytes_pairs_by p no_pairs = []
  bytes_pairs_by p (pair k v ps) = bytes_by p k ++ (bytes_by p v ++ bytes_pairs_by p ps)

  pub bytes_fields_by : Pens → ℤ → Fields → List ℕ
  bytes_fields_by p last no_fields = 0 ∷ []
  bytes_fields_by p last (val.field id t fs) = p.field last id t ++ (cond (p.held t) [] (bytes_by p t) ++ bytes_fields_by p id fs)

-- the compact protocol's
abbrev pub compact : Pens
compact =
    record {
      truth = λ b. truth_code b ∷ [];
      int8 = λ z. of_z w8 z ∷ [];
      int16 = compact-bytes.int_bytes;
      int32 = compact-bytes.int_bytes;
      int64 = compact-bytes.int_bytes;
      double = eight;
      binary = compact-bytes.string_bytes;
      items = compact-bytes.items_bytes;
      pairs = compact-bytes.pairs_bytes;
      field = λ last id t. compact-bytes.field_bytes last id (field_code t);
      held = in_header;
      message = compact-bytes.message_bytes;
    }

-- and the binary protocol's, where no id but its own has a say in a field's header
abbrev pub binary : Pens
binary =
    record {
      truth = λ b. binary-bytes.truth_byte b ∷ [];
      int8 = λ z. of_z w8 z ∷ [];
      int16 = binary-bytes.int16_bytes;
      int32 = binary-bytes.int32_bytes;
      int64 = binary-bytes.int64_bytes;
      double = big8;
      binary = binary-bytes.string_bytes;
      items = binary-bytes.items_bytes;
      pairs = binary-bytes.pairs_bytes;
      field = λ last id t. binary-bytes.field_bytes (type_of t) id;
      held = λ t. false;
      message = binary-bytes.message_bytes;
    }
