-- What a reader call puts where its answer is lent, by the cases of the answer: the value, or on a refusal what stood there. A part of the input is
-- where it starts and where it ends. Assumes nothing: these are definitions.
use Rattle.std.specs.Prelude.{ℕ, ◌≡◌, Bool, List, ℤ}
use Rattle.types.specs.Codes.{type_code, message_code}
use Rattle.input.specs.declared.BoolAnswer.{BoolAnswer}
use Rattle.input.specs.declared.BoolAnswer.TheVariants as B
use Rattle.input.specs.declared.I8Answer.{I8Answer}
use Rattle.input.specs.declared.I8Answer.TheVariants as I8
use Rattle.input.specs.declared.I16Answer.{I16Answer}
use Rattle.input.specs.declared.I16Answer.TheVariants as I16
use Rattle.input.specs.declared.I32Answer.{I32Answer}
use Rattle.input.specs.declared.I32Answer.TheVariants as I32
use Rattle.input.specs.declared.I64Answer.{I64Answer}
use Rattle.input.specs.declared.I64Answer.TheVariants as I64
use Rattle.input.specs.declared.DoubleAnswer.{DoubleAnswer}
use Rattle.input.specs.declared.DoubleAnswer.TheVariants as D
use Rattle.input.specs.declared.PartAnswer.{PartAnswer}
use Rattle.input.specs.declared.PartAnswer.TheVariants as P
use Rattle.input.specs.declared.ListAnswer.{ListAnswer}
use Rattle.input.specs.declared.ListAnswer.TheVariants as L
use Rattle.input.specs.declared.MapAnswer.{MapAnswer}
use Rattle.input.specs.declared.MapAnswer.TheVariants as M
use Rattle.input.specs.declared.FieldAnswer.{FieldAnswer}
use Rattle.input.specs.declared.FieldAnswer.TheVariants as F
use Rattle.input.specs.declared.MessageAnswer.{MessageAnswer}
use Rattle.input.specs.declared.MessageAnswer.TheVariants as H
use Rattle.input.specs.declared.ReadBool.{ReadBool}
use Rattle.input.specs.declared.ReadI8.{ReadI8}
use Rattle.input.specs.declared.ReadI16.{ReadI16}
use Rattle.input.specs.declared.ReadI32.{ReadI32}
use Rattle.input.specs.declared.ReadI64.{ReadI64}
use Rattle.input.specs.declared.ReadDouble.{ReadDouble}
use Rattle.input.specs.declared.ReadPart.{ReadPart}
use Rattle.input.specs.declared.ReadList.{ReadList}
use Rattle.input.specs.declared.ReadMap.{ReadMap}
use Rattle.input.specs.declared.ReadField.{ReadField}
use Rattle.input.specs.declared.ReadMessage.{ReadMessage}
use Rattle.input.specs.declared.ReadDone.{ReadDone}
use Rattle.input.specs.Answers.{number_bool, number_i8, number_i16, number_i32, number_i64, number_double, number_part, number_list, number_map, number_field, number_message, number_done}
use Rattle.rows.specs.Row.{reader_after}

abbrev pub out_bool : Bool → BoolAnswer → Bool
out_bool old (B.Got b) = b
out_bool old (B.Refused why) = old

abbrev pub out_i8 : ℤ → I8Answer → ℤ
out_i8 old (I8.Got z) = z
out_i8 old (I8.Refused why) = old

abbrev pub out_i16 : ℤ → I16Answer → ℤ
out_i16 old (I16.Got z) = z
out_i16 old (I16.Refused why) = old

abbrev pub out_i32 : ℤ → I32Answer → ℤ
out_i32 old (I32.Got z) = z
out_i32 old (I32.Refused why) = old

abbrev pub out_i64 : ℤ → I64Answer → ℤ
out_i64 old (I64.Got z) = z
out_i64 old (I64.Refused why) = old

abbrev pub out_double : ℕ → DoubleAnswer → ℕ
out_double old (D.Got bits) = bits
out_double old (D.Refused why) = old

abbrev pub part_start : ℕ → PartAnswer → ℕ
part_start old (P.Got a e) = a.0
part_start old (P.Refused why) = old

abbrev pub part_end : ℕ → PartAnswer → ℕ
part_end old (P.Got a e) = e.0
part_end old (P.Refused why) = old

abbrev pub list_kind : ℕ → ListAnswer → ℕ
list_kind old (L.Got t n) = type_code t
list_kind old (L.Refused why) = old

abbrev pub list_count : ℕ → ListAnswer → ℕ
list_count old (L.Got t n) = n
list_count old (L.Refused why) = old

-- "0 ends it, without types": an empty map's types are Stop, twice
abbrev pub map_key : ℕ → MapAnswer → ℕ
map_key old (M.Got k v n) = type_code k
map_key old (M.Refused why) = old

abbrev pub map_value : ℕ → MapAnswer → ℕ
map_value old (M.Got k v n) = type_code v
map_value old (M.Refused why) = old

abbrev pub map_count : ℕ → MapAnswer → ℕ
map_count old (M.Got k v n) = n
map_count old (M.Refused why) = old

-- the end of a struct is a field of type Stop, which has no id
abbrev pub field_kind : ℕ → FieldAnswer → ℕ
field_kind old F.Stop = 0
field_kind old (F.Field t id) = type_code t
field_kind old (F.Refused why) = old

abbrev pub field_id : ℤ → FieldAnswer → ℤ
field_id old F.Stop = old
field_id old (F.Field t id) = id.0
field_id old (F.Refused why) = old

abbrev pub message_kind : ℕ → MessageAnswer → ℕ
message_kind old (H.Got m i a e) = message_code m
message_kind old (H.Refused why) = old

abbrev pub message_sequence : ℤ → MessageAnswer → ℤ
message_sequence old (H.Got m i a e) = i.0
message_sequence old (H.Refused why) = old

abbrev pub name_start : ℕ → MessageAnswer → ℕ
name_start old (H.Got m i a e) = a.0
name_start old (H.Refused why) = old

abbrev pub name_end : ℕ → MessageAnswer → ℕ
name_end old (H.Got m i a e) = e.0
name_end old (H.Refused why) = old

-- What a call leaves with its caller, from what it read: the number, each answer in its room, the row. `w'` is behind the call what w was before it.

pub record ToldBool (row row' : List ℕ) (value value' : Bool) (n : ℕ) (read : ReadBool) : Type 0 where
  pub number : n ≡ number_bool read.answer
  pub the_value : value' ≡ out_bool value read.answer
  pub the_row : row' ≡ reader_after row (number_bool read.answer) read.state

pub record ToldI8 (row row' : List ℕ) (value value' : ℤ) (n : ℕ) (read : ReadI8) : Type 0 where
  pub number : n ≡ number_i8 read.answer
  pub the_value : value' ≡ out_i8 value read.answer
  pub the_row : row' ≡ reader_after row (number_i8 read.answer) read.state

pub record ToldI16 (row row' : List ℕ) (value value' : ℤ) (n : ℕ) (read : ReadI16) : Type 0 where
  pub number : n ≡ number_i16 read.answer
  pub the_value : value' ≡ out_i16 value read.answer
  pub the_row : row' ≡ reader_after row (number_i16 read.answer) read.state

pub record ToldI32 (row row' : List ℕ) (value value' : ℤ) (n : ℕ) (read : ReadI32) : Type 0 where
  pub number : n ≡ number_i32 read.answer
  pub the_value : value' ≡ out_i32 value read.answer
  pub the_row : row' ≡ reader_after row (number_i32 read.answer) read.state

pub record ToldI64 (row row' : List ℕ) (value value' : ℤ) (n : ℕ) (read : ReadI64) : Type 0 where
  pub number : n ≡ number_i64 read.answer
  pub the_value : value' ≡ out_i64 value read.answer
  pub the_row : row' ≡ reader_after row (number_i64 read.answer) read.state

pub record ToldDouble (row row' : List ℕ) (bits bits' : ℕ) (n : ℕ) (read : ReadDouble) : Type 0 where
  pub number : n ≡ number_double read.answer
  pub the_bits : bits' ≡ out_double bits read.answer
  pub the_row : row' ≡ reader_after row (number_double read.answer) read.state

pub record ToldPart (row row' : List ℕ) (start start' : ℕ) (end end' : ℕ) (n : ℕ) (read : ReadPart) : Type 0 where
  pub number : n ≡ number_part read.answer
  pub the_start : start' ≡ part_start start read.answer
  pub the_end : end' ≡ part_end end read.answer
  pub the_row : row' ≡ reader_after row (number_part read.answer) read.state

pub record ToldList (row row' : List ℕ) (kind kind' : ℕ) (count count' : ℕ) (n : ℕ) (read : ReadList) : Type 0 where
  pub number : n ≡ number_list read.answer
  pub the_kind : kind' ≡ list_kind kind read.answer
  pub the_count : count' ≡ list_count count read.answer
  pub the_row : row' ≡ reader_after row (number_list read.answer) read.state

pub record ToldMap (row row' : List ℕ) (key key' : ℕ) (value value' : ℕ) (count count' : ℕ) (n : ℕ) (read : ReadMap) : Type 0 where
  pub number : n ≡ number_map read.answer
  pub the_key : key' ≡ map_key key read.answer
  pub the_value : value' ≡ map_value value read.answer
  pub the_count : count' ≡ map_count count read.answer
  pub the_row : row' ≡ reader_after row (number_map read.answer) read.state

pub record ToldField (row row' : List ℕ) (kind kind' : ℕ) (id id' : ℤ) (n : ℕ) (read : ReadField) : Type 0 where
  pub number : n ≡ number_field read.answer
  pub the_kind : kind' ≡ field_kind kind read.answer
  pub the_id : id' ≡ field_id id read.answer
  pub the_row : row' ≡ reader_after row (number_field read.answer) read.state

pub record ToldMessage (row row' : List ℕ) (kind kind' : ℕ) (sequence sequence' : ℤ) (start start' : ℕ) (end end' : ℕ) (n : ℕ) (read : ReadMessage) : Type 0 where
  pub number : n ≡ number_message read.answer
  pub the_kind : kind' ≡ message_kind kind read.answer
  pub the_sequence : sequence' ≡ message_sequence sequence read.answer
  pub the_start : start' ≡ name_start start read.answer
  pub the_end : end' ≡ name_end end read.answer
  pub the_row : row' ≡ reader_after row (number_message read.answer) read.state

pub record ToldDone (row row' : List ℕ) (n : ℕ) (read : ReadDone) : Type 0 where
  pub number : n ≡ number_done read.answer
  pub the_row : row' ≡ reader_after row (number_done read.answer) read.state
