-- Fields put among a struct's own, and what a struct's fields say of a wanted id. Assumes nothing: these are definitions.
use Rattle.std.specs.Prelude.{ℕ, ◌≡◌, ◌⊎◌, Bool, false, cond, List, [], eqb, ℤ}
use Rattle.types.specs.Codes.{type_code}
use Rattle.types.specs.Value as val
use Rattle.types.specs.Value.{Tree, Fields, no_fields, type_of}
use Rattle.wanted.specs.Wanted.{same_id, among}
use Rattle.laws.specs.Written.{in_header, bytes_of}

-- "Unknown complete fields put among a struct's own": the longer has the fields of the other in their order, and between them any of ids that
-- are not listed
unfoldable pub Inserted : List ℤ → Fields → Fields → Type 0
Inserted ids fs no_fields = fs ≡ no_fields
Inserted ids fs (val.field id t gs) =
    ((rest : Fields) × (fs ≡ val.field id t rest) × Inserted ids rest gs) ⊎ ((among id ids ≡ false) × Inserted ids fs gs)

-- what a struct says of a wanted id: it has none of it, only of other types, or the last of the id and type
pub data Told : Type 0 where
  absent : Told
  other : Told
  told : Tree → Told

abbrev pub joined : Told → Bool → Bool → Tree → Told
joined absent mine same t = cond mine (cond same (told t) other) absent
joined other mine same t = cond mine (cond same (told t) other) other
joined (told u) mine same t = told u

unfoldable pub last_in : ℤ → ℕ → Fields → Told
last_in id k no_fields = absent
last_in id k (val.field i t fs) = joined (last_in id k fs) (same_id i id) (eqb (type_code (type_of t)) k) t

-- "0 absent; 1 wrong type ..; 2 here ..; 3 false; 4 true"
abbrev pub kind_in : Tree → ℕ
kind_in (val.truth b) = cond b 4 3
kind_in (val.i8 z) = 2
kind_in (val.i16 z) = 2
kind_in (val.i32 z) = 2
kind_in (val.i64 z) = 2
kind_in (val.double n) = 2
kind_in (val.uuid u) = 2
kind_in (val.bytes cs) = 2
kind_in (val.list t ts) = 2
kind_in (val.set t ts) = 2
kind_in (val.map k v ps) = 2
kind_in (val.struct fs) = 2

abbrev pub kind_of : Told → ℕ
kind_of absent = 0
kind_of other = 1
kind_of (told t) = kind_in t

-- the value's bytes, as the writer writes them; a bool's stood in the header
abbrev pub value_bytes : Tree → List ℕ
value_bytes t = cond (in_header t) [] (bytes_of t)

abbrev pub bytes_in : Told → List ℕ
bytes_in absent = []
bytes_in other = []
bytes_in (told t) = value_bytes t
