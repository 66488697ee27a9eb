-- The scope paper's number of each answer, 0 where nothing is refused; the values are those that the case has. Assumes nothing: these are definitions.
use Rattle.std.specs.Prelude.{ℕ}
use Rattle.types.specs.declared.TypeRead.{TypeRead}
use Rattle.types.specs.declared.TypeRead.TheVariants as R
use Rattle.types.specs.declared.FieldType.{FieldType}
use Rattle.types.specs.declared.FieldType.TheVariants as F
use Rattle.types.specs.declared.MessageTypeRead.{MessageTypeRead}
use Rattle.types.specs.declared.MessageTypeRead.TheVariants as M

abbrev pub number_type : TypeRead → ℕ
number_type (R.Got t) = 0
number_type (R.Refused why) = why

abbrev pub number_field_type : FieldType → ℕ
number_field_type F.Stop = 0
number_field_type (F.Truth b) = 0
number_field_type (F.Kind t) = 0
number_field_type (F.Refused why) = why

abbrev pub number_message_type : MessageTypeRead → ℕ
number_message_type (M.Got m) = 0
number_message_type (M.Refused why) = why
