-- What the calls answer, as the declared enums, from what the readers find at a place. Inner vocabulary, for functions behind these alone: `some_at`, `count_why`,
-- `listed_at`, `items_at`, `mapped_at`, `pairs_at`, `head_at`, `long_at`, `named_at`, `kind_at`. Assumes nothing: these are definitions.
use Rattle.std.specs.Prelude.{ℕ, ◌-◌, Bool, List, [], length, ℤ}
use Rattle.types.specs.declared.TType.{TType}
use Rattle.types.specs.declared.FieldType.{FieldType}
use Rattle.types.specs.declared.FieldType.TheVariants as FT
use Rattle.types.specs.declared.TMessageType.{TMessageType}
use Rattle.types.specs.declared.TConfiguration.{TConfiguration}
use Rattle.types.specs.declared.Place.{Place}
use Rattle.types.specs.declared.FieldId.{FieldId}
use Rattle.types.specs.declared.SeqNo.{SeqNo}
use Rattle.tables.specs.Rows.{row_type}
use Rattle.numbers.specs.Varint.{Found, got, refused, placed}
use Rattle.heads.specs.Reader.{read_at, some}
use Rattle.heads.specs.Heads.{int8, int16, int32, int64, double, truth, uuid, binary, text, counted, listed, items, mapped, pairs, items_head, pairs_head, Field, stop, bool, value, field, Message, named, versioned, message}
use Rattle.heads.specs.declared.I8Read.{I8Read}
use Rattle.heads.specs.declared.I8Read.TheVariants as I8
use Rattle.heads.specs.declared.I16Read.{I16Read}
use Rattle.heads.specs.declared.I16Read.TheVariants as I16
use Rattle.heads.specs.declared.I32Read.{I32Read}
use Rattle.heads.specs.declared.I32Read.TheVariants as I32
use Rattle.heads.specs.declared.I64Read.{I64Read}
use Rattle.heads.specs.declared.I64Read.TheVariants as I64
use Rattle.heads.specs.declared.DoubleRead.{DoubleRead}
use Rattle.heads.specs.declared.DoubleRead.TheVariants as D
use Rattle.heads.specs.declared.BoolRead.{BoolRead}
use Rattle.heads.specs.declared.BoolRead.TheVariants as B
use Rattle.heads.specs.declared.PartRead.{PartRead}
use Rattle.heads.specs.declared.PartRead.TheVariants as P
use Rattle.heads.specs.declared.ListHead.{ListHead}
use Rattle.heads.specs.declared.ListHead.TheVariants as L
use Rattle.heads.specs.declared.MapHead.{MapHead}
use Rattle.heads.specs.declared.MapHead.TheVariants as M
use Rattle.heads.specs.declared.FieldHead.{FieldHead}
use Rattle.heads.specs.declared.FieldHead.TheVariants as F
use Rattle.heads.specs.declared.MessageHead.{MessageHead}
use Rattle.heads.specs.declared.MessageHead.TheVariants as H

abbrev pub place : ℕ → Place
place n = record { 0 = n }

abbrev pub id_of : ℤ → FieldId
id_of z = record { 0 = z }

abbrev pub seq_of : ℤ → SeqNo
seq_of z = record { 0 = z }

-- scalars
abbrev pub to_i8 : Found ℤ → I8Read
to_i8 (got z e) = I8.Got z (place e)
to_i8 (refused why) = I8.Refused why

abbrev pub to_i16 : Found ℤ → I16Read
to_i16 (got z e) = I16.Got z (place e)
to_i16 (refused why) = I16.Refused why

abbrev pub to_i32 : Found ℤ → I32Read
to_i32 (got z e) = I32.Got z (place e)
to_i32 (refused why) = I32.Refused why

abbrev pub to_i64 : Found ℤ → I64Read
to_i64 (got z e) = I64.Got z (place e)
to_i64 (refused why) = I64.Refused why

abbrev pub to_double : Found ℕ → DoubleRead
to_double (got n e) = D.Got n (place e)
to_double (refused why) = D.Refused why

abbrev pub to_bool : Found Bool → BoolRead
to_bool (got b e) = B.Got b (place e)
to_bool (refused why) = B.Refused why

unfoldable pub int8_at : List ℕ → ℕ → I8Read
int8_at s at = to_i8 (read_at int8 s at)

unfoldable pub int16_at : List ℕ → ℕ → I16Read
int16_at s at = to_i16 (read_at int16 s at)

unfoldable pub int32_at : List ℕ → ℕ → I32Read
int32_at s at = to_i32 (read_at int32 s at)

unfoldable pub int64_at : List ℕ → ℕ → I64Read
int64_at s at = to_i64 (read_at int64 s at)

unfoldable pub double_at : List ℕ → ℕ → DoubleRead
double_at s at = to_double (read_at double s at)

unfoldable pub truth_at : List ℕ → ℕ → BoolRead
truth_at s at = to_bool (read_at truth s at)

-- parts: the bytes are those just before the end
abbrev pub to_part : Found (List ℕ) → PartRead
to_part (got bs e) = P.Got (place (e - length bs)) (place e)
to_part (refused why) = P.Refused why

unfoldable pub some_at : List ℕ → ℕ → ℕ → PartRead
some_at s n at = to_part (read_at (some n) s at)

unfoldable pub uuid_at : List ℕ → ℕ → PartRead
uuid_at s at = to_part (read_at uuid s at)

unfoldable pub binary_at : List ℕ → TConfiguration → ℕ → PartRead
binary_at s lim at = to_part (read_at (binary lim) s at)

unfoldable pub text_at : List ℕ → TConfiguration → ℕ → PartRead
text_at s lim at = to_part (read_at (text lim) s at)

-- containers
abbrev pub why_of : {A : Type 0} → Found A → ℕ
why_of (got a e) = 0
why_of (refused why) = why

unfoldable pub count_why : TConfiguration → ℕ → ℕ
count_why lim n = why_of (counted lim n [])

abbrev pub to_list : Found (TType × ℕ) → ListHead
to_list (got a e) = L.Got a.0 a.1 (place e)
to_list (refused why) = L.Refused why

unfoldable pub listed_at : TConfiguration → TType → ℕ → ℕ → ListHead
listed_at lim t n at = to_list (placed at (listed lim t n []))

unfoldable pub items_at : List ℕ → TConfiguration → ℕ → ListHead
items_at s lim at = to_list (read_at (items lim) s at)

abbrev pub to_map : Found (TType × TType × ℕ) → MapHead
to_map (got a e) = M.Got a.0 a.1 a.2 (place e)
to_map (refused why) = M.Refused why

unfoldable pub mapped_at : List ℕ → TConfiguration → ℕ → ℕ → MapHead
mapped_at s lim n at = to_map (read_at (mapped lim n) s at)

unfoldable pub pairs_at : List ℕ → TConfiguration → ℕ → MapHead
pairs_at s lim at = to_map (read_at (pairs lim) s at)

-- the same where the count's least bytes are ahead
unfoldable pub items_head_at : List ℕ → TConfiguration → ℕ → ListHead
items_head_at s lim at = to_list (read_at (items_head lim) s at)

unfoldable pub pairs_head_at : List ℕ → TConfiguration → ℕ → MapHead
pairs_head_at s lim at = to_map (read_at (pairs_head lim) s at)

-- fields
abbrev pub to_field : Found Field → FieldHead
to_field (got stop e) = F.Stop (place e)
to_field (got (bool b id) e) = F.Bool b (id_of id) (place e)
to_field (got (value t id) e) = F.Value t (id_of id) (place e)
to_field (refused why) = F.Refused why

unfoldable pub field_at : List ℕ → ℤ → ℕ → FieldHead
field_at s last at = to_field (read_at (field last) s at)

-- behind the first byte: what its type makes of the id and of the place behind it
abbrev pub head_of : FieldType → ℤ → ℕ → FieldHead
head_of FT.Stop id at = F.Stop (place at)
head_of (FT.Truth b) id at = F.Bool b (id_of id) (place at)
head_of (FT.Kind t) id at = F.Value t (id_of id) (place at)
head_of (FT.Refused why) id at = F.Refused why

-- of a row of the table
unfoldable pub head_at : ℕ → ℤ → ℕ → FieldHead
head_at row id at = head_of (row_type row) id at

-- the same of an id that has to be found first
abbrev pub head_with : ℕ → Found ℤ → FieldHead
head_with row (got id e) = head_at row id e
head_with row (refused why) = F.Refused why

-- "Delta 0: an i16 id follows"
unfoldable pub long_at : List ℕ → ℕ → ℕ → FieldHead
long_at s row at = head_with row (read_at int16 s at)

-- messages
abbrev pub to_message : Found Message → MessageHead
to_message (got a e) = H.Got a.0 (seq_of a.1) (place (e - length a.2)) (place e)
to_message (refused why) = H.Refused why

unfoldable pub named_at : List ℕ → TConfiguration → TMessageType → ℕ → MessageHead
named_at s lim m at = to_message (read_at (named lim m) s at)

unfoldable pub kind_at : List ℕ → TConfiguration → ℕ → MessageHead
kind_at s lim at = to_message (read_at (versioned lim) s at)

unfoldable pub message_at : List ℕ → TConfiguration → ℕ → MessageHead
message_at s lim at = to_message (read_at (message lim) s at)
