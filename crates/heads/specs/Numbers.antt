-- The scope paper's number of each answer, 0 where nothing is refused; the values are those that the case has. Assumes nothing: these are definitions.
use Rattle.std.specs.Prelude.{ℕ}
use Rattle.heads.specs.declared.I8Read.{I8Read}
use Rattle.heads.specs.declared.I8Read.TheVariants as I8
use Rattle.heads.specs.declared.I16Read.{I16Read}
use Rattle.heads.specs.declared.I16Read.TheVariants as I16
use Rattle.heads.specs.declared.I32Read.{I32Read}
use Rattle.heads.specs.declared.I32Read.TheVariants as I32
use Rattle.heads.specs.declared.I64Read.{I64Read}
use Rattle.heads.specs.declared.I64Read.TheVariants as I64
use Rattle.heads.specs.declared.DoubleRead.{DoubleRead}
use Rattle.heads.specs.declared.DoubleRead.TheVariants as D
use Rattle.heads.specs.declared.BoolRead.{BoolRead}
use Rattle.heads.specs.declared.BoolRead.TheVariants as B
use Rattle.heads.specs.declared.PartRead.{PartRead}
use Rattle.heads.specs.declared.PartRead.TheVariants as P
use Rattle.heads.specs.declared.ListHead.{ListHead}
use Rattle.heads.specs.declared.ListHead.TheVariants as L
use Rattle.heads.specs.declared.MapHead.{MapHead}
use Rattle.heads.specs.declared.MapHead.TheVariants as M
use Rattle.heads.specs.declared.MessageHead.{MessageHead}
use Rattle.heads.specs.declared.MessageHead.TheVariants as H
use Rattle.heads.specs.declared.FieldHead.{FieldHead}
use Rattle.heads.specs.declared.FieldHead.TheVariants as F

abbrev pub number_i8_read : I8Read → ℕ
number_i8_read (I8.Got z p) = 0
number_i8_read (I8.Refused why) = why

abbrev pub number_i16_read : I16Read → ℕ
number_i16_read (I16.Got z p) = 0
number_i16_read (I16.Refused why) = why

abbrev pub number_i32_read : I32Read → ℕ
number_i32_read (I32.Got z p) = 0
number_i32_read (I32.Refused why) = why

abbrev pub number_i64_read : I64Read → ℕ
number_i64_read (I64.Got z p) = 0
number_i64_read (I64.Refused why) = why

abbrev pub number_double_read : DoubleRead → ℕ
number_double_read (D.Got n p) = 0
number_double_read (D.Refused why) = why

abbrev pub number_bool_read : BoolRead → ℕ
number_bool_read (B.Got b p) = 0
number_bool_read (B.Refused why) = why

abbrev pub number_part_read : PartRead → ℕ
number_part_read (P.Got a e) = 0
number_part_read (P.Refused why) = why

abbrev pub number_list_head : ListHead → ℕ
number_list_head (L.Got t n p) = 0
number_list_head (L.Refused why) = why

abbrev pub number_map_head : MapHead → ℕ
number_map_head (M.Got k v n p) = 0
number_map_head (M.Refused why) = why

abbrev pub number_message_head : MessageHead → ℕ
number_message_head (H.Got m z a e) = 0
number_message_head (H.Refused why) = why

abbrev pub number_field_head : FieldHead → ℕ
number_field_head (F.Stop p) = 0
number_field_head (F.Bool b id p) = 0
number_field_head (F.Value t id p) = 0
number_field_head (F.Refused why) = why
