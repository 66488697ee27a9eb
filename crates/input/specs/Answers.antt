-- The answers as the declared enums, the paper's number of each (0 where the call is answered), and the part between two places. Assumes
-- nothing: these are definitions.
use Rattle.std.specs.Prelude.{ℕ, ◌-◌, List, [], Bool, length, ℤ}
use Rattle.std.proofs.Math.Seq.{slice}
use Rattle.types.specs.declared.TType.{TType}
use Rattle.types.specs.declared.TType.TheVariants as T
use Rattle.heads.specs.Heads.{Field, stop, bool, value, Message}
use Rattle.heads.specs.Answers.{place, id_of, seq_of}
use Rattle.input.specs.declared.BoolAnswer.{BoolAnswer}
use Rattle.input.specs.declared.BoolAnswer.TheVariants as B
use Rattle.input.specs.declared.ReadBool.{ReadBool}
use Rattle.input.specs.declared.I8Answer.{I8Answer}
use Rattle.input.specs.declared.I8Answer.TheVariants as I8
use Rattle.input.specs.declared.ReadI8.{ReadI8}
use Rattle.input.specs.declared.I16Answer.{I16Answer}
use Rattle.input.specs.declared.I16Answer.TheVariants as I16
use Rattle.input.specs.declared.ReadI16.{ReadI16}
use Rattle.input.specs.declared.I32Answer.{I32Answer}
use Rattle.input.specs.declared.I32Answer.TheVariants as I32
use Rattle.input.specs.declared.ReadI32.{ReadI32}
use Rattle.input.specs.declared.I64Answer.{I64Answer}
use Rattle.input.specs.declared.I64Answer.TheVariants as I64
use Rattle.input.specs.declared.ReadI64.{ReadI64}
use Rattle.input.specs.declared.DoubleAnswer.{DoubleAnswer}
use Rattle.input.specs.declared.DoubleAnswer.TheVariants as D
use Rattle.input.specs.declared.ReadDouble.{ReadDouble}
use Rattle.input.specs.declared.PartAnswer.{PartAnswer}
use Rattle.input.specs.declared.PartAnswer.TheVariants as P
use Rattle.input.specs.declared.ReadPart.{ReadPart}
use Rattle.input.specs.declared.ListAnswer.{ListAnswer}
use Rattle.input.specs.declared.ListAnswer.TheVariants as L
use Rattle.input.specs.declared.ReadList.{ReadList}
use Rattle.input.specs.declared.MapAnswer.{MapAnswer}
use Rattle.input.specs.declared.MapAnswer.TheVariants as M
use Rattle.input.specs.declared.ReadMap.{ReadMap}
use Rattle.input.specs.declared.FieldAnswer.{FieldAnswer}
use Rattle.input.specs.declared.FieldAnswer.TheVariants as F
use Rattle.input.specs.declared.ReadField.{ReadField}
use Rattle.input.specs.declared.MessageAnswer.{MessageAnswer}
use Rattle.input.specs.declared.MessageAnswer.TheVariants as H
use Rattle.input.specs.declared.ReadMessage.{ReadMessage}
use Rattle.input.specs.declared.DoneAnswer.{DoneAnswer}
use Rattle.input.specs.declared.DoneAnswer.TheVariants as N
use Rattle.input.specs.declared.ReadDone.{ReadDone}
use Rattle.input.specs.Outcome.{Said, says, refuses, Outcome}

abbrev pub to_bool : Said Bool → BoolAnswer
to_bool (says a) = B.Got a
to_bool (refuses why) = B.Refused why

abbrev pub as_bool : Outcome Bool → ReadBool
as_bool o = record { answer = to_bool o.said; state = o.state }

abbrev pub number_bool : BoolAnswer → ℕ
number_bool (B.Got a) = 0
number_bool (B.Refused why) = why

abbrev pub to_i8 : Said ℤ → I8Answer
to_i8 (says a) = I8.Got a
to_i8 (refuses why) = I8.Refused why

abbrev pub as_i8 : Outcome ℤ → ReadI8
as_i8 o = record { answer = to_i8 o.said; state = o.state }

abbrev pub number_i8 : I8Answer → ℕ
number_i8 (I8.Got a) = 0
number_i8 (I8.Refused why) = why

abbrev pub to_i16 : Said ℤ → I16Answer
to_i16 (says a) = I16.Got a
to_i16 (refuses why) = I16.Refused why

abbrev pub as_i16 : Outcome ℤ → ReadI16
as_i16 o = record { answer = to_i16 o.said; state = o.state }

abbrev pub number_i16 : I16Answer → ℕ
number_i16 (I16.Got a) = 0
number_i16 (I16.Refused why) = why

abbrev pub to_i32 : Said ℤ → I32Answer
to_i32 (says a) = I32.Got a
to_i32 (refuses why) = I32.Refused why

abbrev pub as_i32 : Outcome ℤ → ReadI32
as_i32 o = record { answer = to_i32 o.said; state = o.state }

abbrev pub number_i32 : I32Answer → ℕ
number_i32 (I32.Got a) = 0
number_i32 (I32.Refused why) = why

abbrev pub to_i64 : Said ℤ → I64Answer
to_i64 (says a) = I64.Got a
to_i64 (refuses why) = I64.Refused why

abbrev pub as_i64 : Outcome ℤ → ReadI64
as_i64 o = record { answer = to_i64 o.said; state = o.state }

abbrev pub number_i64 : I64Answer → ℕ
number_i64 (I64.Got a) = 0
number_i64 (I64.Refused why) = why

abbrev pub to_double : Said ℕ → DoubleAnswer
to_double (says a) = D.Got a
to_double (refuses why) = D.Refused why

abbrev pub as_double : Outcome ℕ → ReadDouble
as_double o = record { answer = to_double o.said; state = o.state }

abbrev pub number_double : DoubleAnswer → ℕ
number_double (D.Got a) = 0
number_double (D.Refused why) = why

-- a part: the bytes just before the place behind them
abbrev pub to_part : ℕ → Said (List ℕ) → PartAnswer
to_part e (says bs) = P.Got (place (e - length bs)) (place e)
to_part e (refuses why) = P.Refused why

abbrev pub as_part : Outcome (List ℕ) → ReadPart
as_part o = record { answer = to_part o.state.place.0 o.said; state = o.state }

abbrev pub number_part : PartAnswer → ℕ
number_part (P.Got a e) = 0
number_part (P.Refused why) = why

abbrev pub to_list : Said (TType × ℕ) → ListAnswer
to_list (says a) = L.Got a.0 a.1
to_list (refuses why) = L.Refused why

abbrev pub as_list : Outcome (TType × ℕ) → ReadList
as_list o = record { answer = to_list o.said; state = o.state }

abbrev pub number_list : ListAnswer → ℕ
number_list (L.Got t n) = 0
number_list (L.Refused why) = why

abbrev pub to_map : Said (TType × TType × ℕ) → MapAnswer
to_map (says a) = M.Got a.0 a.1 a.2
to_map (refuses why) = M.Refused why

abbrev pub as_map : Outcome (TType × TType × ℕ) → ReadMap
as_map o = record { answer = to_map o.said; state = o.state }

abbrev pub number_map : MapAnswer → ℕ
number_map (M.Got k v n) = 0
number_map (M.Refused why) = why

abbrev pub to_field : Said Field → FieldAnswer
to_field (says stop) = F.Stop
to_field (says (bool b id)) = F.Field T.Bool (id_of id)
to_field (says (value t id)) = F.Field t (id_of id)
to_field (refuses why) = F.Refused why

abbrev pub as_field : Outcome Field → ReadField
as_field o = record { answer = to_field o.said; state = o.state }

abbrev pub number_field : FieldAnswer → ℕ
number_field F.Stop = 0
number_field (F.Field t id) = 0
number_field (F.Refused why) = why

abbrev pub to_message : ℕ → Said Message → MessageAnswer
to_message e (says a) = H.Got a.0 (seq_of a.1) (place (e - length a.2)) (place e)
to_message e (refuses why) = H.Refused why

abbrev pub as_message : Outcome Message → ReadMessage
as_message o = record { answer = to_message o.state.place.0 o.said; state = o.state }

abbrev pub number_message : MessageAnswer → ℕ
number_message (H.Got m i a e) = 0
number_message (H.Refused why) = why

abbrev pub to_done : Said (Unit {0}) → DoneAnswer
to_done (says u) = N.Done
to_done (refuses why) = N.Refused why

abbrev pub as_done : Outcome (Unit {0}) → ReadDone
as_done o = record { answer = to_done o.said; state = o.state }

abbrev pub number_done : DoneAnswer → ℕ
number_done N.Done = 0
number_done (N.Refused why) = why

-- "a second call, with the same arguments, hands out that part of the lent input, empty on refusal"
abbrev pub part_of : List ℕ → PartAnswer → List ℕ
part_of s (P.Got a e) = slice a.0 e.0 s
part_of s (P.Refused why) = []

abbrev pub name_of : List ℕ → MessageAnswer → List ℕ
name_of s (H.Got m i a e) = slice a.0 e.0 s
name_of s (H.Refused why) = []
