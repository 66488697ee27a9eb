-- What a value within the limits is written as are bytes: so its own bytes spell it, and "within the limits" is exact. Assumes nothing.
use mathlib.Core.Path.{◌≡◌, refl}
use mathlib.Core.Bool.{Bool, true, false, cond}
use mathlib.Core.List.{List, [], ◌∷◌, ◌++◌}
use Prim.Native.Nat.{ℕ, ◌+◌, ◌*◌, ◌<◌}
use native.Mathlib.Omega.{arith}
use borrow.Author.Tests.{ltb-true}
use lib.Dec.{eqb, ltb}
use lib.IntN.{ℤ, pos, ◌-ℤ◌}
use lib.ListN.{length}
use mir.Facts.{Fits-of_z}
use Rattle.types.specs.Codes.{type_code, truth_code}
use Rattle.types.specs.declared.TType.{TType}
use Rattle.types.specs.declared.TType.TheVariants as T
use Rattle.types.specs.Value as val
use Rattle.types.specs.Value.{Tree, Trees, no_trees, tree, Pairs, no_pairs, pair, Fields, no_fields, size, size_p, Bytes, Typed, TypedAll, TypedPairs, TypedFields}
use Rattle.numbers.specs.Varint.{fewest}
use Rattle.numbers.specs.Fixed.{eight}
use Rattle.numbers.proofs.Fewest.{fewest_bytes}
use Rattle.numbers.proofs.Fixed.{bytes_of_lem}
use Rattle.puts.specs.Bytes.{above, short_delta, field_bytes, items_bytes, pairs_bytes, string_bytes}
use Rattle.laws.specs.Written.{field_code, in_header, bytes_of, bytes_of_all, bytes_of_pairs, bytes_of_fields}
use Rattle.promises.proofs.Within.{by_list}

joined : (a b : List ℕ) → Bytes a → Bytes b → Bytes (a ++ b)
unfolding Bytes
joined [] b h k = k
joined (x ∷ a) b h k = (h.0, joined a b h.1 k)

none : Bytes []
unfolding Bytes
none = tt

one : (b : ℕ) → b < 256 → Bytes (b ∷ [])
unfolding Bytes
one b h = (h, tt)

first : (b : ℕ) (bs : List ℕ) → b < 256 → Bytes bs → Bytes (b ∷ bs)
unfolding Bytes
first b bs h k = (h, k)

either : (b : Bool) (x y : List ℕ) → Bytes x → Bytes y → Bytes (cond b x y)
either true x y h k = h
either false x y h k = k

few : (n : ℕ) → Bytes (fewest n)
few n = by_list (fewest n) (fewest_bytes n)

code_small : (t : TType) → type_code t < 16
unfolding type_code
code_small T.Stop = omega arith
code_small T.Bool = omega arith
code_small T.I08 = omega arith
code_small T.I16 = omega arith
code_small T.I32 = omega arith
code_small T.I64 = omega arith
code_small T.Double = omega arith
code_small T.String = omega arith
code_small T.List = omega arith
code_small T.Set = omega arith
code_small T.Map = omega arith
code_small T.Struct = omega arith
code_small T.Uuid = omega arith

truth_small : (b : Bool) → truth_code b < 16
unfolding truth_code
truth_small true = omega arith
truth_small false = omega arith

field_small : (t : Tree) → field_code t < 16
field_small (val.truth b) = truth_small b
field_small (val.i8 z) = code_small T.I08
field_small (val.i16 z) = code_small T.I16
field_small (val.i32 z) = code_small T.I32
field_small (val.i64 z) = code_small T.I64
field_small (val.double n) = code_small T.Double
field_small (val.uuid u) = code_small T.Uuid
field_small (val.bytes cs) = code_small T.String
field_small (val.list t ts) = code_small T.List
field_small (val.set t ts) = code_small T.Set
field_small (val.map k v ps) = code_small T.Map
field_small (val.struct fs) = code_small T.Struct

delta_small : (last id : ℤ) → short_delta last id < 15
unfolding short_delta
delta_small last id = go (ltb (above (id -ℤ last)) 15) refl
  where
    go : (b : Bool) → ltb (above (id -ℤ last)) 15 ≡ b → cond b (above (id -ℤ last)) 0 < 15
    go true e = ltb-true (above (id -ℤ last)) 15 e
    go false e = omega arith

-- headers
header : (last id : ℤ) (code : ℕ) → code < 16 → Bytes (field_bytes last id code)
unfolding field_bytes
header last id code h = either (eqb (short_delta last id) 0) _ _ (first code _ (omega arith) (few _)) (one _ (omega (arith, delta_small last id)))

items : (t : TType) (n : ℕ) → Bytes (items_bytes t n)
unfolding items_bytes
items t n = go (ltb n 15) refl
  where
    go : (b : Bool) → ltb n 15 ≡ b → Bytes (cond b ((n * 16 + type_code t) ∷ []) ((0xF0 + type_code t) ∷ fewest n))
    go true e = one _ (omega (arith, ltb-true n 15 e, code_small t))
    go false e = first _ _ (omega (arith, code_small t)) (few n)

pairs : (k v : TType) (n : ℕ) → Bytes (pairs_bytes k v n)
unfolding pairs_bytes
pairs k v n = either (eqb n 0) _ _ (one 0 (omega arith)) (joined (fewest n) _ (few n) (one _ (omega (arith, code_small k, code_small v))))

mutual
  unfolding Typed TypedAll TypedPairs TypedFields bytes_of bytes_of_all bytes_of_pairs bytes_of_fields string_bytes eight

  pub written_bytes : (t : Tree) → Typed t → Bytes (bytes_of t)
  written_bytes (val.truth b) y = one _ (omega (arith, truth_small b))
  written_bytes (val.i8 z) y = one _ (Fits-of_z y).fits
  written_bytes (val.i16 z) y = few _
  written_bytes (val.i32 z) y = few _
  written_bytes (val.i64 z) y = few _
  written_bytes (val.double n) y = by_list _ (bytes_of_lem 8 n)
  written_bytes (val.uuid u) y = y.1
  written_bytes (val.bytes cs) y = joined (fewest (length cs)) cs (few _) y
  written_bytes (val.list t ts) y = joined (items_bytes t (size ts)) _ (items t (size ts)) (all_bytes t ts y)
  written_bytes (val.set t ts) y = joined (items_bytes t (size ts)) _ (items t (size ts)) (all_bytes t ts y)
  written_bytes (val.map k v ps) y = joined (pairs_bytes k v (size_p ps)) _ (pairs k v (size_p ps)) (pairs_bytes_lem k v ps y)
  written_bytes (val.struct fs) y = fields_bytes (pos 0) fs y

  all_bytes : (ty : TType) (ts : Trees) → TypedAll ty ts → Bytes (bytes_of_all ts)
  all_bytes ty no_trees y = none
  all_bytes ty (tree t ts) y = joined (bytes_of t) (bytes_of_all ts) (written_bytes t y.1) (all_bytes ty ts y.2)

  pairs_bytes_lem : (k v : TType) (ps : Pairs) → TypedPairs k v ps → Bytes (bytes_of_pairs ps)
  pairs_bytes_lem k v no_pairs y = none
  pairs_bytes_lem k v (pair t u ps) y = joined (bytes_of t) _ (written_bytes t y.2) (joined (bytes_of u) (bytes_of_pairs ps) (written_bytes u y.3) (pairs_bytes_lem k v ps y.4))

  fields_bytes : (last : ℤ) (fs : Fields) → TypedFields fs → Bytes (bytes_of_fields last fs)
  fields_bytes last no_fields y = one 0 (omega arith)
  fields_bytes last (val.field id t fs) y =
      joined (field_bytes last id (field_code t)) _ (header last id (field_code t) (field_small t))
      (joined (cond (in_header t) [] (bytes_of t)) (bytes_of_fields id fs) (either (in_header t) [] (bytes_of t) none (written_bytes t y.1)) (fields_bytes id fs y.2))
