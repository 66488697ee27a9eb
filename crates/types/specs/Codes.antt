-- The codes of the types and of the kinds of message, from the compact protocol document's lists of field-types, element-types and
-- message types, as the scope paper reads them under "Headers". Assumes nothing: these are definitions.
use Rattle.std.specs.Prelude.{ℕ, Bool, true, false, cond, List, [], ◌∷◌, get_or, eqb}
use Rattle.types.specs.Refusals.{BAD_TYPE, BAD_MESSAGE_TYPE}
use Rattle.types.specs.declared.TType.{TType}
use Rattle.types.specs.declared.TType.TheVariants as T
use Rattle.types.specs.declared.TypeRead.{TypeRead}
use Rattle.types.specs.declared.TypeRead.TheVariants as R
use Rattle.types.specs.declared.FieldType.{FieldType}
use Rattle.types.specs.declared.FieldType.TheVariants as F
use Rattle.types.specs.declared.TMessageType.{TMessageType}
use Rattle.types.specs.declared.TMessageType.TheVariants as M
use Rattle.types.specs.declared.MessageTypeRead.{MessageTypeRead}
use Rattle.types.specs.declared.MessageTypeRead.TheVariants as MR

-- "0 Stop, 3 i8, 4 i16, 5 i32, 6 i64, 7 double, 8 string, 9 list, 10 set, 11 map, 12 struct, 13 uuid"; "1 is written" for Bool
unfoldable pub type_code : TType → ℕ
type_code T.Stop = 0
type_code T.Bool = 1
type_code T.I08 = 3
type_code T.I16 = 4
type_code T.I32 = 5
type_code T.I64 = 6
type_code T.Double = 7
type_code T.String = 8
type_code T.List = 9
type_code T.Set = 10
type_code T.Map = 11
type_code T.Struct = 12
type_code T.Uuid = 13

-- the types in the order of their numbers: "Calls by number take 1 for Bool; 2 has no type there"
abbrev pub numbered : List TypeRead
numbered =
    R.Got T.Stop
    ∷ R.Got T.Bool
    ∷ R.Refused BAD_TYPE
    ∷ R.Got T.I08
    ∷ R.Got T.I16
    ∷ R.Got T.I32
    ∷ R.Got T.I64
    ∷ R.Got T.Double
    ∷ R.Got T.String
    ∷ R.Got T.List
    ∷ R.Got T.Set
    ∷ R.Got T.Map
    ∷ R.Got T.Struct
    ∷ R.Got T.Uuid
    ∷ []

-- a type by its number: "14 and 15 have no type"
unfoldable pub type_by_number : ℕ → TypeRead
type_by_number n = get_or numbered n (R.Refused BAD_TYPE)

-- "in a container both [1 and 2] read as Bool"
unfoldable pub element_type : ℕ → TypeRead
element_type n = cond (eqb n 2) (R.Got T.Bool) (type_by_number n)

abbrev pub as_field : TypeRead → FieldType
as_field (R.Got t) = F.Kind t
as_field (R.Refused n) = F.Refused n

-- "1 and 2 are true and false in a field"; 0 ends the struct
unfoldable pub field_type : ℕ → FieldType
field_type n = cond (eqb n 0) F.Stop (cond (eqb n 1) (F.Truth true) (cond (eqb n 2) (F.Truth false) (as_field (type_by_number n))))

-- the code of a bool field, and an element bool: "true as 1 and false as 2"
unfoldable pub truth_code : Bool → ℕ
truth_code true = 1
truth_code false = 2

-- "Call: 1, Reply: 2, Exception: 3, Oneway: 4"
unfoldable pub message_code : TMessageType → ℕ
message_code M.Call = 1
message_code M.Reply = 2
message_code M.Exception = 3
message_code M.OneWay = 4

abbrev pub messages : List MessageTypeRead
messages = MR.Refused BAD_MESSAGE_TYPE ∷ MR.Got M.Call ∷ MR.Got M.Reply ∷ MR.Got M.Exception ∷ MR.Got M.OneWay ∷ []

-- "type not 1 to 4": refused
unfoldable pub message_by_number : ℕ → MessageTypeRead
message_by_number n = get_or messages n (MR.Refused BAD_MESSAGE_TYPE)
