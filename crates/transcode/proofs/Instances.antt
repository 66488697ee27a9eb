-- The compact and the binary protocol's pens suit their words, and write what the two writers' calls write for a value. Assumes nothing.
use mathlib.Core.Path.{◌≡◌, refl, ap, ap₂}
use mathlib.Core.Bool.{Bool, true, false, cond}
use mathlib.Core.List.{List, [], ◌++◌}
use Prim.Native.Nat.{ℕ}
use lib.IntN.{ℤ, pos}
use mir.Syntax.{w16}
use mir.Val.{SFits}
use Rattle.types.specs.declared.TMessageType.{TMessageType}
use Rattle.types.specs.declared.SeqNo.{SeqNo}
use Rattle.types.specs.Value as val
use Rattle.types.specs.Value.{Tree, Trees, no_trees, tree, Pairs, no_pairs, pair, Fields, no_fields, type_of, size, size_p}
use Rattle.numbers.proofs.Found.{zero_one}
use Rattle.heads.specs.Heads.{bool, value, field}
use Rattle.output.proofs.Back as own
use Rattle.output.proofs.Back.{Reads}
use Rattle.output.proofs.Fields as own-fields
use Rattle.laws.specs.Written as compact-written
use Rattle.laws.specs.Written.{field_code, in_header}
use Rattle.laws.proofs.Spelt.{InField, truthful, valued, in_field}
use Rattle.protocols.specs.Words as words
use Rattle.puts.specs.Bytes.{field_bytes}
use Rattle.binary_heads.specs.Words as binary-words
use Rattle.binary_laws.specs.Written as binary-written
use Rattle.binary_laws.proofs.Back as other
use Rattle.binary_laws.proofs.Spelt.{typed_code}
use Rattle.transcode.specs.Pens as pens
use Rattle.transcode.specs.Pens.{bytes_by, bytes_all_by, bytes_pairs_by, bytes_fields_by}
use Rattle.transcode.specs.Letter.{bytes_of_letter}
use Rattle.transcode.proofs.Suits.{Suits}

no_both : {X : Type 0} → ◌≡◌ {A = Bool} true false → X
no_both e = zero_one (cc)

-- a compact field: a bool stands in its header, any other value behind it
compact_held : (last id : ℤ) (t : Tree) → SFits w16 id → in_header t ≡ true → (b : Bool) × (t ≡ val.truth b) × Reads (field last) (bool b id) (field_bytes last id (field_code t))
compact_held last id t f h = go (in_field t)
  where
    go : InField t → (b : Bool) × (t ≡ val.truth b) × Reads (field last) (bool b id) (field_bytes last id (field_code t))
    go (truthful b e) = (b, e, rw e (own-fields.bool_reads last id f b))
    go (valued n c k) = no_both (cc)

compact_field : (last id : ℤ) (t : Tree) → SFits w16 id → in_header t ≡ false → Reads (field last) (value (type_of t) id) (field_bytes last id (field_code t))
compact_field last id t f h = go (in_field t)
  where
    go : InField t → Reads (field last) (value (type_of t) id) (field_bytes last id (field_code t))
    go (truthful b e) = no_both (rw e at h)
    go (valued n c k) = rw c (own-fields.value_reads last id f (type_of t) k)

pub compact_suits : Suits words.compact pens.compact
compact_suits =
    record {
      truth = own.truth_reads;
      int8 = own.i8_reads;
      int16 = own.i16_reads;
      int32 = own.i32_reads;
      int64 = own.i64_reads;
      double = own.double_reads;
      uuid = own.uuid_reads;
      binary = λ lim r bs h. own.bytes_reads lim bs h r;
      items = λ lim r t n h. own.items_reads lim n h r t;
      pairs = λ lim r k v n h s. own.pairs_reads lim n h r k v s;
      no_pairs = λ lim r k v. own.no_pairs_reads lim k v;
      stopped = own-fields.stop_reads;
      held = compact_held;
      field = compact_field;
      message = λ lim r m z name f h u. own.message_reads lim m z name f h r u;
    }

pub binary_suits : Suits binary-words.binary pens.binary
binary_suits =
    record {
      truth = other.truth_reads;
      int8 = own.i8_reads;
      int16 = other.i16_reads;
      int32 = other.i32_reads;
      int64 = other.i64_reads;
      double = other.double_reads;
      uuid = own.uuid_reads;
      binary = λ lim r bs h. other.bytes_reads lim bs h r;
      items = λ lim r t n h. other.items_reads lim n h r t;
      pairs = λ lim r k v n h s. other.pairs_reads lim n h r k v s;
      no_pairs = λ lim r k v. other.no_pairs_reads lim r k v;
      stopped = λ last. other.stop_reads;
      held = λ last id t f e. no_both (cc);
      field = λ last id t f e. other.value_reads (type_of t) id (typed_code t) f;
      message = λ lim r m z name f h u. other.message_reads lim m z name f h r u;
    }

-- what the calls write for a value
mutual
  unfolding bytes_by bytes_all_by bytes_pairs_by bytes_fields_by compact-written.bytes_of compact-written.bytes_of_all compact-written.bytes_of_pairs compact-written.bytes_of_fields

  pub compact_same : (t : Tree) → bytes_by pens.compact t ≡ compact-written.bytes_of t
  compact_same (val.truth b) = refl
  compact_same (val.i8 z) = refl
  compact_same (val.i16 z) = refl
  compact_same (val.i32 z) = refl
  compact_same (val.i64 z) = refl
  compact_same (val.double n) = refl
  compact_same (val.uuid u) = refl
  compact_same (val.bytes cs) = refl
  compact_same (val.list t ts) = ap (λ (bs : List ℕ). (pens.compact).items t (size ts) ++ bs) (compact_all ts)
  compact_same (val.set t ts) = ap (λ (bs : List ℕ). (pens.compact).items t (size ts) ++ bs) (compact_all ts)
  compact_same (val.map k v ps) = ap (λ (bs : List ℕ). (pens.compact).pairs k v (size_p ps) ++ bs) (compact_pairs ps)
  compact_same (val.struct fs) = compact_fields (pos 0) fs

  compact_all : (ts : Trees) → bytes_all_by pens.compact ts ≡ compact-written.bytes_of_all ts
  compact_all no_trees = refl
  compact_all (tree t ts) = ap₂ ◌++◌ (compact_same t) (compact_all ts)

  compact_pairs : (ps : Pairs) → bytes_pairs_by pens.compact ps ≡ compact-written.bytes_of_pairs ps
  compact_pairs no_pairs = refl
  compact_pairs (pair k v ps) = ap₂ ◌++◌ (compact_same k) (ap₂ ◌++◌ (compact_same v) (compact_pairs ps))

  compact_fields : (last : ℤ) (fs : Fields) → bytes_fields_by pens.compact last fs ≡ compact-written.bytes_of_fields last fs
  compact_fields last no_fields = refl
  compact_fields last (val.field id t fs) =
      ap (λ (bs : List ℕ). field_bytes last id (field_code t) ++ bs) (ap₂ ◌++◌ (ap (λ (bs : List ℕ). cond (in_header t) [] bs) (compact_same t)) (compact_fields id fs))

mutual
  unfolding bytes_by bytes_all_by bytes_pairs_by bytes_fields_by binary-written.bytes_of binary-written.bytes_of_all binary-written.bytes_of_pairs binary-written.bytes_of_fields

  pub binary_same : (t : Tree) → bytes_by pens.binary t ≡ binary-written.bytes_of t
  binary_same (val.truth b) = refl
  binary_same (val.i8 z) = refl
  binary_same (val.i16 z) = refl
  binary_same (val.i32 z) = refl
  binary_same (val.i64 z) = refl
  binary_same (val.double n) = refl
  binary_same (val.uuid u) = refl
  binary_same (val.bytes cs) = refl
  binary_same (val.list t ts) = ap (λ (bs : List ℕ). (pens.binary).items t (size ts) ++ bs) (binary_all ts)
  binary_same (val.set t ts) = ap (λ (bs : List ℕ). (pens.binary).items t (size ts) ++ bs) (binary_all ts)
  binary_same (val.map k v ps) = ap (λ (bs : List ℕ). (pens.binary).pairs k v (size_p ps) ++ bs) (binary_pairs ps)
  binary_same (val.struct fs) = binary_fields (pos 0) fs

  binary_all : (ts : Trees) → bytes_all_by pens.binary ts ≡ binary-written.bytes_of_all ts
  binary_all no_trees = refl
  binary_all (tree t ts) = ap₂ ◌++◌ (binary_same t) (binary_all ts)

  binary_pairs : (ps : Pairs) → bytes_pairs_by pens.binary ps ≡ binary-written.bytes_of_pairs ps
  binary_pairs no_pairs = refl
  binary_pairs (pair k v ps) = ap₂ ◌++◌ (binary_same k) (ap₂ ◌++◌ (binary_same v) (binary_pairs ps))

  binary_fields : (last : ℤ) (fs : Fields) → bytes_fields_by pens.binary last fs ≡ binary-written.bytes_of_fields fs
  binary_fields last no_fields = refl
  binary_fields last (val.field id t fs) = ap (λ (bs : List ℕ). (pens.binary).field last id t ++ bs) (ap₂ ◌++◌ (binary_same t) (binary_fields id fs))

-- and for a whole message
module _ (m : TMessageType) (z : SeqNo) (name : List ℕ) (fs : Fields) where
  pub compact_letter : bytes_of_letter pens.compact ((m, z.0, name), val.struct fs) ≡ compact-written.bytes_of_whole m z name fs
  unfolding bytes_of_letter compact-written.bytes_of_whole
  compact_letter = ap (λ (bs : List ℕ). (pens.compact).message m z.0 name ++ bs) (compact_same (val.struct fs))

  pub binary_letter : bytes_of_letter pens.binary ((m, z.0, name), val.struct fs) ≡ binary-written.bytes_of_whole m z name fs
  unfolding bytes_of_letter binary-written.bytes_of_whole
  binary_letter = ap (λ (bs : List ℕ). (pens.binary).message m z.0 name ++ bs) (binary_same (val.struct fs))
