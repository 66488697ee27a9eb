-- One number for each first byte, by the rules on its high and its low 4 bits. Assumes nothing: these are definitions.
use Rattle.std.specs.Prelude.{ℕ, ◌+◌, ◌*◌, ◌/◌, ◌%◌, cond, eqb, ltb}
use Rattle.types.specs.Codes.{type_code, truth_code, type_by_number, element_type, as_field, field_type}
use Rattle.types.specs.declared.TypeRead.{TypeRead}
use Rattle.types.specs.declared.TypeRead.TheVariants as R
use Rattle.types.specs.declared.FieldType.{FieldType}
use Rattle.types.specs.declared.FieldType.TheVariants as F

-- "a table of 256 numbers holding type, delta and bool for each byte": a type's number, 15 where the code has none, and a bool's code
abbrev pub field_no : FieldType → ℕ
field_no F.Stop = 0
field_no (F.Truth b) = 1 + 65536 * truth_code b
field_no (F.Kind t) = type_code t
field_no (F.Refused why) = 15

-- the type in the low 4 bits, the delta in the high 4
unfoldable pub field_row : ℕ → ℕ
field_row b = field_no (field_type (b % 16)) + 256 * (b / 16)

-- the type that a row tells of a field, where it is not the struct's end
unfoldable pub row_type : ℕ → FieldType
row_type n = cond (ltb (n % 256) 3) (F.Truth (eqb (n / 65536) 1)) (as_field (type_by_number (n % 256)))

abbrev pub element_no : TypeRead → ℕ
element_no (R.Got t) = type_code t
element_no (R.Refused why) = 15

-- "and give list headers a second one": the elements' type in the low 4 bits, the count in the high 4
unfoldable pub list_row : ℕ → ℕ
list_row b = element_no (element_type (b % 16)) + 256 * (b / 16)
