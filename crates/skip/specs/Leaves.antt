-- Inner vocabulary, for the contracts of functions behind skip alone; no promise cites it. Values that hold no other, many at a time: what their passing
-- over comes to. Assumes nothing: these are definitions.
use Rattle.std.specs.Prelude.{ℕ, zero, suc, ◌+◌, ◌%◌, ◌≤◌, ◌⊎◌, ◌≡◌, Bool, true, false, cond, ◌&&◌, List, eqb, ltb, length, get_or, ℤ}
use Rattle.std.specs.Int.Signed.{lt_z, le_z}
use Rattle.types.specs.Refusals.{BAD_TYPE}
use Rattle.types.specs.declared.TType.{TType}
use Rattle.types.specs.declared.TType.TheVariants as T
use Rattle.types.specs.declared.TConfiguration.{TConfiguration}
use Rattle.types.specs.Value as val
use Rattle.numbers.specs.Varint.{got, groups}
use Rattle.heads.specs.Reader.{Reader, done, and_then, some, read_at}
use Rattle.heads.specs.Heads.{int16, bool, value, field}
use Rattle.heads.specs.Answers.{place}
use Rattle.skip.specs.Value.{value_of}
use Rattle.skip.specs.Skip.{past}
use Rattle.skip.specs.declared.Skipped.{Skipped}
use Rattle.skip.specs.declared.Skipped.TheVariants.{Done, Refused}

-- types whose values hold no other
abbrev pub is_leaf : TType → Bool
is_leaf T.Stop = true
is_leaf T.Bool = true
is_leaf T.I08 = true
is_leaf T.I16 = true
is_leaf T.I32 = true
is_leaf T.I64 = true
is_leaf T.Double = true
is_leaf T.String = true
is_leaf T.List = false
is_leaf T.Set = false
is_leaf T.Map = false
is_leaf T.Struct = false
is_leaf T.Uuid = true

-- n readings by one reader, one behind the other
unfoldable pub times : {A : Type 0} → ℕ → Reader A → Reader (Unit {0})
times zero p = done tt
times (suc n) p = and_then p (λ a. times n p)

-- n of what is always refused
abbrev pub none_of : ℕ → ℕ → ℕ → Skipped
none_of n why at = cond (eqb n 0) (Done (place at)) (Refused why)

-- a scalar of a fixed size, or a varint; no other type is passed over so
abbrev pub scalar_of : List ℕ → TType → ℕ → Skipped
scalar_of s T.Stop at = Refused BAD_TYPE
scalar_of s T.Bool at = Refused BAD_TYPE
scalar_of s T.I08 at = past (some 1) s at
scalar_of s T.I16 at = past int16 s at
scalar_of s T.I32 at = past (groups 5) s at
scalar_of s T.I64 at = past (groups 10) s at
scalar_of s T.Double at = past (some 8) s at
scalar_of s T.String at = Refused BAD_TYPE
scalar_of s T.List at = Refused BAD_TYPE
scalar_of s T.Set at = Refused BAD_TYPE
scalar_of s T.Map at = Refused BAD_TYPE
scalar_of s T.Struct at = Refused BAD_TYPE
scalar_of s T.Uuid at = past (some 16) s at

-- behind a byte whose low 4 bits are 0, if one stands here: "Type 0 reads as Stop whatever the delta"
abbrev pub stop_end : List ℕ → ℕ → ℕ
stop_end s at = cond (ltb at (length s) && eqb (get_or s at 0 % 16) 0) (at + 1) at

-- One field that stands at a place behind the id `last`, whole whatever the limits: a bool in its header, or a value behind it. Its id is greater than `last` and below a bound.
pub record Hop (s : List ℕ) (at : ℕ) (last below : ℤ) (p : ℕ) (id : ℤ) : Type 0 where
  pub later : at ≤ p
  pub after : lt_z last id ≡ true
  pub before : le_z below id ≡ false
  pub found :
      ((b : Bool) × (read_at (field last) s at ≡ got (bool b id) p))
      ⊎ ((t : TType) × (m : ℕ) × (read_at (field last) s at ≡ got (value t id) m) × ((lim : TConfiguration) (room : ℕ) → (v : val.Tree) × (read_at (value_of lim room t) s m ≡ got v p)))

-- n of them, one behind the other, from one place and id to another
unfoldable pub Hops : ℕ → List ℕ → ℕ → ℤ → ℤ → ℕ → ℤ → Type 0
Hops zero s at last below p id = (p ≡ at) × (id ≡ last)
Hops (suc n) s at last below p id = (q : ℕ) × (z : ℤ) × Hop s at last below q z × Hops n s q z below p id

pub record Onward (s : List ℕ) (at : ℕ) (last below : ℤ) (p : ℕ) (id : ℤ) : Type 0 where
  pub many : ℕ
  pub hops : Hops many s at last below p id
