-- The answers as the declared structs: what is said is an enum of `input`'s, and its number the one that crate gives it. Assumes nothing: these are definitions.
use Rattle.std.specs.Prelude.{ℕ, ◌-◌, List, Bool, length, ℤ}
use Rattle.types.specs.declared.TType.{TType}
use Rattle.heads.specs.Heads.{Field, Message}
use Rattle.heads.specs.Answers.{place, seq_of}
use Rattle.input.specs.declared.MessageAnswer.{MessageAnswer}
use Rattle.input.specs.declared.MessageAnswer.TheVariants as H
use Rattle.input.specs.Outcome.{Said, says, refuses}
use Rattle.input.specs.Answers.{to_bool, to_i8, to_i16, to_i32, to_i64, to_double, to_part, to_list, to_map, to_field, to_done}
use Rattle.binary_input.specs.declared.ReadBool.{ReadBool}
use Rattle.binary_input.specs.declared.ReadI8.{ReadI8}
use Rattle.binary_input.specs.declared.ReadI16.{ReadI16}
use Rattle.binary_input.specs.declared.ReadI32.{ReadI32}
use Rattle.binary_input.specs.declared.ReadI64.{ReadI64}
use Rattle.binary_input.specs.declared.ReadDouble.{ReadDouble}
use Rattle.binary_input.specs.declared.ReadPart.{ReadPart}
use Rattle.binary_input.specs.declared.ReadList.{ReadList}
use Rattle.binary_input.specs.declared.ReadMap.{ReadMap}
use Rattle.binary_input.specs.declared.ReadField.{ReadField}
use Rattle.binary_input.specs.declared.ReadMessage.{ReadMessage}
use Rattle.binary_input.specs.declared.ReadDone.{ReadDone}
use Rattle.binary_input.specs.Outcome.{Outcome}

abbrev pub as_bool : Outcome Bool → ReadBool
as_bool o = record { answer = to_bool o.said; state = o.state }

abbrev pub as_i8 : Outcome ℤ → ReadI8
as_i8 o = record { answer = to_i8 o.said; state = o.state }

abbrev pub as_i16 : Outcome ℤ → ReadI16
as_i16 o = record { answer = to_i16 o.said; state = o.state }

abbrev pub as_i32 : Outcome ℤ → ReadI32
as_i32 o = record { answer = to_i32 o.said; state = o.state }

abbrev pub as_i64 : Outcome ℤ → ReadI64
as_i64 o = record { answer = to_i64 o.said; state = o.state }

abbrev pub as_double : Outcome ℕ → ReadDouble
as_double o = record { answer = to_double o.said; state = o.state }

abbrev pub as_list : Outcome (TType × ℕ) → ReadList
as_list o = record { answer = to_list o.said; state = o.state }

abbrev pub as_map : Outcome (TType × TType × ℕ) → ReadMap
as_map o = record { answer = to_map o.said; state = o.state }

abbrev pub as_field : Outcome Field → ReadField
as_field o = record { answer = to_field o.said; state = o.state }

abbrev pub as_done : Outcome (Unit {0}) → ReadDone
as_done o = record { answer = to_done o.said; state = o.state }

-- a part: the bytes just before the place behind them
abbrev pub as_part : Outcome (List ℕ) → ReadPart
as_part o = record { answer = to_part o.state.place.0 o.said; state = o.state }

-- a message's name ends where the sequence number's four bytes begin
abbrev pub to_message : ℕ → Said Message → MessageAnswer
to_message e (says a) = H.Got a.0 (seq_of a.1) (place (e - 4 - length a.2)) (place (e - 4))
to_message e (refuses why) = H.Refused why

abbrev pub as_message : Outcome Message → ReadMessage
as_message o = record { answer = to_message o.state.place.0 o.said; state = o.state }
