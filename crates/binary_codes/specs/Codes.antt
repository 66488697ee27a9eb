-- The codes of the types in the binary protocol, from its document's list of field-types, and the fewest bytes of a value of each. Assumes nothing: these
-- are definitions.
use Rattle.std.specs.Prelude.{ℕ, List, [], ◌∷◌, get_or}
use Rattle.types.specs.Refusals.{BAD_TYPE}
use Rattle.types.specs.declared.TType.{TType}
use Rattle.types.specs.declared.TType.TheVariants as T
use Rattle.types.specs.declared.TypeRead.{TypeRead}
use Rattle.types.specs.declared.TypeRead.TheVariants as R

-- "BOOL, encoded as 2; I8 .. 3; DOUBLE .. 4; I16 .. 6; I32 .. 8; I64 .. 10; BINARY .. 11; STRUCT .. 12; MAP .. 13; SET .. 14; LIST .. 15; UUID .. 16"; the
-- stop field is 0
unfoldable pub binary_code : TType → ℕ
binary_code T.Stop = 0
binary_code T.Bool = 2
binary_code T.I08 = 3
binary_code T.I16 = 6
binary_code T.I32 = 8
binary_code T.I64 = 10
binary_code T.Double = 4
binary_code T.String = 11
binary_code T.List = 15
binary_code T.Set = 14
binary_code T.Map = 13
binary_code T.Struct = 12
binary_code T.Uuid = 16

-- the same by the code: what is not on the list has no type, 1 too
abbrev pub coded : List TypeRead
coded =
    R.Got T.Stop
    ∷ R.Refused BAD_TYPE
    ∷ R.Got T.Bool
    ∷ R.Got T.I08
    ∷ R.Got T.Double
    ∷ R.Refused BAD_TYPE
    ∷ R.Got T.I16
    ∷ R.Refused BAD_TYPE
    ∷ R.Got T.I32
    ∷ R.Refused BAD_TYPE
    ∷ R.Got T.I64
    ∷ R.Got T.String
    ∷ R.Got T.Struct
    ∷ R.Got T.Map
    ∷ R.Got T.Set
    ∷ R.Got T.List
    ∷ R.Got T.Uuid
    ∷ []

unfoldable pub by_binary_code : ℕ → TypeRead
by_binary_code n = get_or coded n (R.Refused BAD_TYPE)

-- the fewest bytes of a value: "An int8 needs 1 byte, an int16 2, an int32 4 and an int64 needs 8 bytes", a double 8, a uuid 16, binary data "4+ bytes",
-- a list or set "5+ bytes", a map "6+ bytes"; a bool is an int8, a struct has its stop field. (Stop, of which there is no value, counts as 1.)
abbrev pub least_size : TType → ℕ
least_size T.Stop = 1
least_size T.Bool = 1
least_size T.I08 = 1
least_size T.I16 = 2
least_size T.I32 = 4
least_size T.I64 = 8
least_size T.Double = 8
least_size T.String = 4
least_size T.List = 5
least_size T.Set = 5
least_size T.Map = 6
least_size T.Struct = 1
least_size T.Uuid = 16
