-- What an export of the reader leaves: from the row's own numbers what the call answers for the state in the row. Assumes nothing.
use mathlib.Core.Path.{◌≡◌, refl, sym, ap, subst, ◌∙◌}
use mathlib.Core.Bool.{Bool, true, false, cond}
use mathlib.Core.List.{List}
use Prim.Native.Nat.{ℕ, ◌+◌, ◌-◌, ◌/◌, ◌%◌, ◌≤◌, min}
use native.Mathlib.Omega.{arith}
use borrow.Author.Rules.{sfits_of}
use lib.Dec.{eqb, ltb}
use lib.IntN.{ℤ, pos, ◌+ℤ◌}
use lib.ListN.{length, get_or, set, take}
use mir.Syntax.{w8, w16, w32}
use mir.Val.{Fits, SFits, to_z, of_z}
use mir.Facts.{to_z-of_z}
use Rattle.types.specs.Codes.{type_code, message_code, truth_code}
use Rattle.types.specs.Refusals.{OUT_OF_TURN, BAD_STATE}
use Rattle.types.specs.declared.FieldId.{FieldId}
use Rattle.types.specs.declared.Place.{Place}
use Rattle.types.specs.declared.SeqNo.{SeqNo}
use Rattle.types.specs.declared.TConfiguration.{TConfiguration}
use Rattle.types.specs.declared.TMessageType.{TMessageType}
use Rattle.types.specs.declared.TType.{TType}
use Rattle.types.specs.declared.TType.TheVariants as T
use Rattle.heads.specs.Answers.{place, id_of, int8_at, int16_at, int32_at, int64_at, double_at, truth_at, uuid_at, binary_at, text_at, items_head_at, pairs_head_at, field_at, head_at, message_at}
use Rattle.heads.specs.Reader.{missing}
use Rattle.heads.specs.declared.BoolRead.{BoolRead}
use Rattle.heads.specs.declared.BoolRead.TheVariants as hB
use Rattle.heads.specs.declared.I8Read.{I8Read}
use Rattle.heads.specs.declared.I8Read.TheVariants as h8
use Rattle.heads.specs.declared.I16Read.{I16Read}
use Rattle.heads.specs.declared.I16Read.TheVariants as h16
use Rattle.heads.specs.declared.I32Read.{I32Read}
use Rattle.heads.specs.declared.I32Read.TheVariants as h32
use Rattle.heads.specs.declared.I64Read.{I64Read}
use Rattle.heads.specs.declared.I64Read.TheVariants as h64
use Rattle.heads.specs.declared.DoubleRead.{DoubleRead}
use Rattle.heads.specs.declared.DoubleRead.TheVariants as hD
use Rattle.heads.specs.declared.PartRead.{PartRead}
use Rattle.heads.specs.declared.PartRead.TheVariants as hP
use Rattle.heads.specs.declared.ListHead.{ListHead}
use Rattle.heads.specs.declared.ListHead.TheVariants as hL
use Rattle.heads.specs.declared.MapHead.{MapHead}
use Rattle.heads.specs.declared.MapHead.TheVariants as hM
use Rattle.heads.specs.declared.FieldHead.{FieldHead}
use Rattle.heads.specs.declared.FieldHead.TheVariants as hF
use Rattle.heads.specs.declared.MessageHead.{MessageHead}
use Rattle.heads.specs.declared.MessageHead.TheVariants as hH
use Rattle.input.specs.State as I
use Rattle.input.specs.Outcome.{answers, declines}
use Rattle.input.specs.Answers.{as_bool, as_i8, as_i16, as_i32, as_i64, as_double, as_part, as_list, as_map, as_field, as_message}
use Rattle.input.specs.Calls as call
use Rattle.input.specs.declared.Awaited.TheVariants as W
use Rattle.input.specs.declared.FieldAnswer.TheVariants as F
use Rattle.input.specs.declared.MessageAnswer.TheVariants as H
use Rattle.input.specs.declared.PartAnswer.TheVariants as P
use Rattle.input.specs.declared.ReadBool.{ReadBool}
use Rattle.input.specs.declared.ReadI8.{ReadI8}
use Rattle.input.specs.declared.ReadI16.{ReadI16}
use Rattle.input.specs.declared.ReadI32.{ReadI32}
use Rattle.input.specs.declared.ReadI64.{ReadI64}
use Rattle.input.specs.declared.ReadDouble.{ReadDouble}
use Rattle.input.specs.declared.ReadPart.{ReadPart}
use Rattle.input.specs.declared.ReadList.{ReadList}
use Rattle.input.specs.declared.ReadMap.{ReadMap}
use Rattle.input.specs.declared.ReadField.{ReadField}
use Rattle.input.specs.declared.ReadMessage.{ReadMessage}
use Rattle.input.specs.declared.ReadDone.{ReadDone}
use Rattle.input.proofs.Gate.{Sound, passes}
use Rattle.input.proofs.Cases as each
use Rattle.input.proofs.Cases.{cut_inside, cut_counts, i8_stopped, i16_stopped, i32_stopped, i64_stopped, double_stopped, uuid_stopped, bytes_stopped, string_stopped, list_stopped, set_is, map_stopped, field_stopped, message_stopped}
use Rattle.output.specs.State.{left_of}
use Rattle.rows.specs.Row.{last_in, turn_of, limits_of, reader_in, writer_in, reader_of, reader_after, awaited_no}
use Rattle.rows.specs.Reads.{ToldBool, ToldI8, ToldI16, ToldI32, ToldI64, ToldDouble, ToldPart, ToldList, ToldMap, ToldField, ToldMessage, ToldDone}
use Rattle.rows.proofs.Cases.{reader_left}
use Rattle.heads.proofs.Fields.{code_sum, id_is, id_wide, id_fits, delta_wide}
use Rattle.tagrumzil.specs.Short.{Entered, ShortRow}
use Rattle.rows.proofs.Gate.{Open, reader_opens, reader_holds, reader_is, reader_free, reader_moves, reader_stays, reader_begins, reader_lasts, reader_awaits, reader_takes, reader_truth}

-- what is read at the row's place, up to its cut, is read at the state's, up to the state's
module _ (s row : List ℕ) (num : ℕ) (e : num ≡ I.gate (length s) (reader_of row)) (h : num ≡ 0) (end : ℕ) where
  is : reader_of row ≡ reader_in row
  is = reader_is row (reader_opens (length s) row num e h)

  sound_of_lem : Sound (length s) (reader_of row)
  sound_of_lem = passes (length s) (reader_of row) num e h

  module _ (o : end ≡ get_or row 0 0 + min (left_of (writer_in row)) (length s - get_or row 0 0)) where
    cut : end ≡ min (I.cut_of (reader_of row)) (length s)
    cut =
        let k : Sound (length s) (reader_in row) = rw is at sound_of_lem in
        rw is (omega (arith, o, k.here, k.after, k.before))

    pub inside : end ≤ length s
    inside = cut_inside end (I.cut_of (reader_of row)) (length s) cut

    pub counts : end ≡ length (take end s)
    counts = cut_counts s end (I.cut_of (reader_of row)) cut

    module _ (at : ℕ) (p : at ≡ get_or row 0 0) where
      here : at ≡ (reader_of row).place.0
      here = rw is p

      module _ (r : I8Read) (f : r ≡ int8_at (take end s) at) where
        pub i8_got : (z : ℤ) (q : Place) → r ≡ h8.Got z q → as_i8 (answers z (I.moved_to (reader_of row) q)) ≡ call.read_i8 s (reader_of row)
        i8_got z q g = each.i8_got s (reader_of row) num e h end cut r (f ∙ ap (int8_at (take end s)) here) z q g

        pub i8_no : (why n : ℕ) → r ≡ h8.Refused why → n ≡ missing (ltb end (length s)) why → as_i8 (declines n (reader_of row)) ≡ call.read_i8 s (reader_of row)
        i8_no why n g k = each.i8_no s (reader_of row) num e h end cut r (f ∙ ap (int8_at (take end s)) here) why n g k

      module _ (r : I16Read) (f : r ≡ int16_at (take end s) at) where
        pub i16_got : (z : ℤ) (q : Place) → r ≡ h16.Got z q → as_i16 (answers z (I.moved_to (reader_of row) q)) ≡ call.read_i16 s (reader_of row)
        i16_got z q g = each.i16_got s (reader_of row) num e h end cut r (f ∙ ap (int16_at (take end s)) here) z q g

        pub i16_no : (why n : ℕ) → r ≡ h16.Refused why → n ≡ missing (ltb end (length s)) why → as_i16 (declines n (reader_of row)) ≡ call.read_i16 s (reader_of row)
        i16_no why n g k = each.i16_no s (reader_of row) num e h end cut r (f ∙ ap (int16_at (take end s)) here) why n g k

      module _ (r : I32Read) (f : r ≡ int32_at (take end s) at) where
        pub i32_got : (z : ℤ) (q : Place) → r ≡ h32.Got z q → as_i32 (answers z (I.moved_to (reader_of row) q)) ≡ call.read_i32 s (reader_of row)
        i32_got z q g = each.i32_got s (reader_of row) num e h end cut r (f ∙ ap (int32_at (take end s)) here) z q g

        pub i32_no : (why n : ℕ) → r ≡ h32.Refused why → n ≡ missing (ltb end (length s)) why → as_i32 (declines n (reader_of row)) ≡ call.read_i32 s (reader_of row)
        i32_no why n g k = each.i32_no s (reader_of row) num e h end cut r (f ∙ ap (int32_at (take end s)) here) why n g k

      module _ (r : I64Read) (f : r ≡ int64_at (take end s) at) where
        pub i64_got : (z : ℤ) (q : Place) → r ≡ h64.Got z q → as_i64 (answers z (I.moved_to (reader_of row) q)) ≡ call.read_i64 s (reader_of row)
        i64_got z q g = each.i64_got s (reader_of row) num e h end cut r (f ∙ ap (int64_at (take end s)) here) z q g

        pub i64_no : (why n : ℕ) → r ≡ h64.Refused why → n ≡ missing (ltb end (length s)) why → as_i64 (declines n (reader_of row)) ≡ call.read_i64 s (reader_of row)
        i64_no why n g k = each.i64_no s (reader_of row) num e h end cut r (f ∙ ap (int64_at (take end s)) here) why n g k

      module _ (r : DoubleRead) (f : r ≡ double_at (take end s) at) where
        pub double_got : (z : ℕ) (q : Place) → r ≡ hD.Got z q → as_double (answers z (I.moved_to (reader_of row) q)) ≡ call.read_double s (reader_of row)
        double_got z q g = each.double_got s (reader_of row) num e h end cut r (f ∙ ap (double_at (take end s)) here) z q g

        pub double_no : (why n : ℕ) → r ≡ hD.Refused why → n ≡ missing (ltb end (length s)) why → as_double (declines n (reader_of row)) ≡ call.read_double s (reader_of row)
        double_no why n g k = each.double_no s (reader_of row) num e h end cut r (f ∙ ap (double_at (take end s)) here) why n g k

      module _ (r : PartRead) (f : r ≡ uuid_at (take end s) at) where
        pub uuid_got : (a q : Place) → r ≡ hP.Got a q → record { answer = P.Got a q; state = I.moved_to (reader_of row) q } ≡ call.read_uuid s (reader_of row)
        uuid_got a q g = each.uuid_got s (reader_of row) num e h end cut r (f ∙ ap (uuid_at (take end s)) here) a q g

        pub uuid_no : (why n : ℕ) → r ≡ hP.Refused why → n ≡ missing (ltb end (length s)) why → as_part (declines n (reader_of row)) ≡ call.read_uuid s (reader_of row)
        uuid_no why n g k = each.uuid_no s (reader_of row) num e h end cut r (f ∙ ap (uuid_at (take end s)) here) why n g k

      module _ (lim : TConfiguration) (q : lim ≡ limits_of row) where
        within : lim ≡ (reader_of row).limits
        within = rw is q

        module _ (r : PartRead) (f : r ≡ binary_at (take end s) lim at) where
          bytes_at : r ≡ binary_at (take end s) (reader_of row).limits (reader_of row).place.0
          bytes_at = rw (← within, ← here) f

          pub bytes_got : (a z : Place) → r ≡ hP.Got a z → record { answer = P.Got a z; state = I.moved_to (reader_of row) z } ≡ call.read_bytes s (reader_of row)
          bytes_got a z g = each.bytes_got s (reader_of row) num e h end cut r bytes_at a z g

          pub bytes_no : (why n : ℕ) → r ≡ hP.Refused why → n ≡ missing (ltb end (length s)) why → as_part (declines n (reader_of row)) ≡ call.read_bytes s (reader_of row)
          bytes_no why n g k = each.bytes_no s (reader_of row) num e h end cut r bytes_at why n g k

        module _ (r : PartRead) (f : r ≡ text_at (take end s) lim at) where
          string_at : r ≡ text_at (take end s) (reader_of row).limits (reader_of row).place.0
          string_at = rw (← within, ← here) f

          pub string_got : (a z : Place) → r ≡ hP.Got a z → record { answer = P.Got a z; state = I.moved_to (reader_of row) z } ≡ call.read_string s (reader_of row)
          string_got a z g = each.string_got s (reader_of row) num e h end cut r string_at a z g

          pub string_no : (why n : ℕ) → r ≡ hP.Refused why → n ≡ missing (ltb end (length s)) why → as_part (declines n (reader_of row)) ≡ call.read_string s (reader_of row)
          string_no why n g k = each.string_no s (reader_of row) num e h end cut r string_at why n g k

        module _ (r : ListHead) (f : r ≡ items_head_at (take end s) lim at) where
          list_at : r ≡ items_head_at (take end s) (reader_of row).limits (reader_of row).place.0
          list_at = rw (← within, ← here) f

          pub list_got : (t : TType) (n : ℕ) (z : Place) → r ≡ hL.Got t n z → as_list (answers (t, n) (I.moved_to (reader_of row) z)) ≡ call.read_list s (reader_of row)
          list_got t n z g = each.list_got s (reader_of row) num e h end cut r list_at t n z g

          pub list_no : (why n : ℕ) → r ≡ hL.Refused why → n ≡ missing (ltb end (length s)) why → as_list (declines n (reader_of row)) ≡ call.read_list s (reader_of row)
          list_no why n g k = each.list_no s (reader_of row) num e h end cut r list_at why n g k

        module _ (r : MapHead) (f : r ≡ pairs_head_at (take end s) lim at) where
          map_at : r ≡ pairs_head_at (take end s) (reader_of row).limits (reader_of row).place.0
          map_at = rw (← within, ← here) f

          pub map_got : (t u : TType) (n : ℕ) (z : Place) → r ≡ hM.Got t u n z → as_map (answers (t, u, n) (I.moved_to (reader_of row) z)) ≡ call.read_map s (reader_of row)
          map_got t u n z g = each.map_got s (reader_of row) num e h end cut r map_at t u n z g

          pub map_no : (why n : ℕ) → r ≡ hM.Refused why → n ≡ missing (ltb end (length s)) why → as_map (declines n (reader_of row)) ≡ call.read_map s (reader_of row)
          map_no why n g k = each.map_no s (reader_of row) num e h end cut r map_at why n g k

    module _ (r : FieldHead) (f : r ≡ field_at (take end s) (last_in (get_or row 1 0)) (get_or row 0 0)) where
      field_at_lem : r ≡ field_at (take end s) (reader_of row).last.0 (reader_of row).place.0
      field_at_lem = rw is f

      pub field_stop : (q : Place) → r ≡ hF.Stop q → record { answer = F.Stop; state = I.moved_to (reader_of row) q } ≡ call.read_field s (reader_of row)
      field_stop q g = each.field_stop s (reader_of row) num e h end cut r field_at_lem q g

      pub field_bool : (b : Bool) (id : FieldId) (q : Place) → r ≡ hF.Bool b id q → record { answer = F.Field T.Bool id; state = I.moved_to (I.with_pending (I.with_last (reader_of row) id) (W.Truth b)) q } ≡ call.read_field s (reader_of row)
      field_bool b id q g = each.field_bool s (reader_of row) num e h end cut r field_at_lem b id q g

      pub field_value : (t : TType) (id : FieldId) (q : Place) → r ≡ hF.Value t id q → record { answer = F.Field t id; state = I.moved_to (I.with_last (reader_of row) id) q } ≡ call.read_field s (reader_of row)
      field_value t id q g = each.field_value s (reader_of row) num e h end cut r field_at_lem t id q g

      pub field_no_lem : (why n : ℕ) → r ≡ hF.Refused why → n ≡ missing (ltb end (length s)) why → as_field (declines n (reader_of row)) ≡ call.read_field s (reader_of row)
      field_no_lem why n g k = each.field_no_lem s (reader_of row) num e h end cut r field_at_lem why n g k

  -- a message's own cut is counted from the row's place
  module _ (o : end ≡ min (I.cut_of (I.begun_here (reader_in row))) (length s)) (at : ℕ) (p : at ≡ get_or row 0 0) (lim : TConfiguration) (q : lim ≡ limits_of row) (r : MessageHead) (f : r ≡ message_at (take end s) lim at) where
    cut_here_lem : end ≡ min (I.cut_of (I.begun_here (reader_of row))) (length s)
    cut_here_lem = rw is o

    message_at_lem : r ≡ message_at (take end s) (reader_of row).limits (reader_of row).place.0
    message_at_lem = rw (is, ← p, ← q) f

    pub message_got : (m : TMessageType) (i : SeqNo) (a z : Place) → r ≡ hH.Got m i a z → record { answer = H.Got m i a z; state = I.moved_to (I.with_last (I.begun_here (reader_of row)) (id_of (pos 0))) z } ≡ call.read_message s (reader_of row)
    message_got m i a z g = each.message_got s (reader_of row) num e h end cut_here_lem r message_at_lem m i a z g

    pub message_no : (why n : ℕ) → r ≡ hH.Refused why → n ≡ missing (ltb end (length s)) why → as_message (declines n (reader_of row)) ≡ call.read_message s (reader_of row)
    message_no why n g k = each.message_no s (reader_of row) num e h end cut_here_lem r message_at_lem why n g k

pub field_found : (s row : List ℕ) (y z : ℤ) (at : ℕ) (r : FieldHead) → r ≡ field_at s y at → y ≡ z → z ≡ last_in (get_or row 1 0) → at ≡ get_or row 0 0 → r ≡ field_at s (last_in (get_or row 1 0)) (get_or row 0 0)
field_found s row y z at r e f g p = rw (← g, ← f, ← p) e

pub ruleset finding = (field_found, to_z-of_z, sfits_of)

-- a refusal, and what was read
module _ (row : List ℕ) (v : ℤ) (want : ReadI8) where
  pub i8_kept : (n : ℕ) → as_i8 (declines n (reader_of row)) ≡ want → row ≡ reader_after row n (reader_of row) → ToldI8 row row v v n want
  i8_kept n e f = rw (← e) (record { number = refl; the_value = refl; the_row = f })

  pub i8_told : (row' : List ℕ) (v' : ℤ) (r : I8Read) (z : ℤ) (q : Place) → Open row → r ≡ h8.Got z q → as_i8 (answers z (I.moved_to (reader_of row) q)) ≡ want → v' ≡ z → row' ≡ set row 0 q.0 → ToldI8 row row' v v' 0 want
  i8_told row' v' r z q clear f e e0 g = rw (← e) (record { number = refl; the_value = e0; the_row = g ∙ reader_moves row clear q.0 })

module _ (row : List ℕ) (v : ℤ) (want : ReadI16) where
  pub i16_kept : (n : ℕ) → as_i16 (declines n (reader_of row)) ≡ want → row ≡ reader_after row n (reader_of row) → ToldI16 row row v v n want
  i16_kept n e f = rw (← e) (record { number = refl; the_value = refl; the_row = f })

  pub i16_told : (row' : List ℕ) (v' : ℤ) (r : I16Read) (z : ℤ) (q : Place) → Open row → r ≡ h16.Got z q → as_i16 (answers z (I.moved_to (reader_of row) q)) ≡ want → v' ≡ z → row' ≡ set row 0 q.0 → ToldI16 row row' v v' 0 want
  i16_told row' v' r z q clear f e e0 g = rw (← e) (record { number = refl; the_value = e0; the_row = g ∙ reader_moves row clear q.0 })

module _ (row : List ℕ) (v : ℤ) (want : ReadI32) where
  pub i32_kept : (n : ℕ) → as_i32 (declines n (reader_of row)) ≡ want → row ≡ reader_after row n (reader_of row) → ToldI32 row row v v n want
  i32_kept n e f = rw (← e) (record { number = refl; the_value = refl; the_row = f })

  pub i32_told : (row' : List ℕ) (v' : ℤ) (r : I32Read) (z : ℤ) (q : Place) → Open row → r ≡ h32.Got z q → as_i32 (answers z (I.moved_to (reader_of row) q)) ≡ want → v' ≡ z → row' ≡ set row 0 q.0 → ToldI32 row row' v v' 0 want
  i32_told row' v' r z q clear f e e0 g = rw (← e) (record { number = refl; the_value = e0; the_row = g ∙ reader_moves row clear q.0 })

module _ (row : List ℕ) (v : ℤ) (want : ReadI64) where
  pub i64_kept : (n : ℕ) → as_i64 (declines n (reader_of row)) ≡ want → row ≡ reader_after row n (reader_of row) → ToldI64 row row v v n want
  i64_kept n e f = rw (← e) (record { number = refl; the_value = refl; the_row = f })

  pub i64_told : (row' : List ℕ) (v' : ℤ) (r : I64Read) (z : ℤ) (q : Place) → Open row → r ≡ h64.Got z q → as_i64 (answers z (I.moved_to (reader_of row) q)) ≡ want → v' ≡ z → row' ≡ set row 0 q.0 → ToldI64 row row' v v' 0 want
  i64_told row' v' r z q clear f e e0 g = rw (← e) (record { number = refl; the_value = e0; the_row = g ∙ reader_moves row clear q.0 })

module _ (row : List ℕ) (v : ℕ) (want : ReadDouble) where
  pub double_kept : (n : ℕ) → as_double (declines n (reader_of row)) ≡ want → row ≡ reader_after row n (reader_of row) → ToldDouble row row v v n want
  double_kept n e f = rw (← e) (record { number = refl; the_bits = refl; the_row = f })

  pub double_told : (row' : List ℕ) (v' : ℕ) (r : DoubleRead) (z : ℕ) (q : Place) → Open row → r ≡ hD.Got z q → as_double (answers z (I.moved_to (reader_of row) q)) ≡ want → v' ≡ z → row' ≡ set row 0 q.0 → ToldDouble row row' v v' 0 want
  double_told row' v' r z q clear f e e0 g = rw (← e) (record { number = refl; the_bits = e0; the_row = g ∙ reader_moves row clear q.0 })

module _ (row : List ℕ) (v : Bool) (want : ReadBool) where
  pub bool_kept : (n : ℕ) → as_bool (declines n (reader_of row)) ≡ want → row ≡ reader_after row n (reader_of row) → ToldBool row row v v n want
  bool_kept n e f = rw (← e) (record { number = refl; the_value = refl; the_row = f })

  pub bool_told : (row' : List ℕ) (v' : Bool) (r : BoolRead) (z : Bool) (q : Place) → Open row → r ≡ hB.Got z q → as_bool (answers z (I.moved_to (reader_of row) q)) ≡ want → v' ≡ z → row' ≡ set row 0 q.0 → ToldBool row row' v v' 0 want
  bool_told row' v' r z q clear f e e0 g = rw (← e) (record { number = refl; the_value = e0; the_row = g ∙ reader_moves row clear q.0 })

module _ (row : List ℕ) (a : ℕ) (z : ℕ) (want : ReadPart) where
  pub part_kept : (n : ℕ) → as_part (declines n (reader_of row)) ≡ want → row ≡ reader_after row n (reader_of row) → ToldPart row row a a z z n want
  part_kept n e f = rw (← e) (record { number = refl; the_start = refl; the_end = refl; the_row = f })

  pub part_told : (row' : List ℕ) (a' : ℕ) (z' : ℕ) (r : PartRead) (from : Place) (q : Place) → Open row → r ≡ hP.Got from q → record { answer = P.Got from q; state = I.moved_to (reader_of row) q } ≡ want → a' ≡ from.0 → z' ≡ q.0 → row' ≡ set row 0 q.0 → ToldPart row row' a a' z z' 0 want
  part_told row' a' z' r from q clear f e e0 e1 g = rw (← e) (record { number = refl; the_start = e0; the_end = e1; the_row = g ∙ reader_moves row clear q.0 })

module _ (row : List ℕ) (k : ℕ) (c : ℕ) (want : ReadList) where
  pub list_kept : (n : ℕ) → as_list (declines n (reader_of row)) ≡ want → row ≡ reader_after row n (reader_of row) → ToldList row row k k c c n want
  list_kept n e f = rw (← e) (record { number = refl; the_kind = refl; the_count = refl; the_row = f })

  pub list_told : (row' : List ℕ) (k' : ℕ) (c' : ℕ) (r : ListHead) (t : TType) (n : ℕ) (q : Place) → Open row → r ≡ hL.Got t n q → as_list (answers (t, n) (I.moved_to (reader_of row) q)) ≡ want → k' ≡ type_code t → c' ≡ n → row' ≡ set row 0 q.0 → ToldList row row' k k' c c' 0 want
  list_told row' k' c' r t n q clear f e e0 e1 g = rw (← e) (record { number = refl; the_kind = e0; the_count = e1; the_row = g ∙ reader_moves row clear q.0 })

module _ (row : List ℕ) (k : ℕ) (v : ℕ) (c : ℕ) (want : ReadMap) where
  pub map_kept : (n : ℕ) → as_map (declines n (reader_of row)) ≡ want → row ≡ reader_after row n (reader_of row) → ToldMap row row k k v v c c n want
  map_kept n e f = rw (← e) (record { number = refl; the_key = refl; the_value = refl; the_count = refl; the_row = f })

  pub map_told_lem : (row' : List ℕ) (k' : ℕ) (v' : ℕ) (c' : ℕ) (r : MapHead) (t : TType) (u : TType) (n : ℕ) (q : Place) → Open row → r ≡ hM.Got t u n q → as_map (answers (t, u, n) (I.moved_to (reader_of row) q)) ≡ want → k' ≡ type_code t → v' ≡ type_code u → c' ≡ n → row' ≡ set row 0 q.0 → ToldMap row row' k k' v v' c c' 0 want
  map_told_lem row' k' v' c' r t u n q clear f e e0 e1 e2 g = rw (← e) (record { number = refl; the_key = e0; the_value = e1; the_count = e2; the_row = g ∙ reader_moves row clear q.0 })

module _ (row : List ℕ) (k : ℕ) (id : ℤ) (want : ReadField) where
  pub field_kept : (n : ℕ) → as_field (declines n (reader_of row)) ≡ want → row ≡ reader_after row n (reader_of row) → ToldField row row k k id id n want
  field_kept n e f = rw (← e) (record { number = refl; the_kind = refl; the_id = refl; the_row = f })

  module _ (k' : ℕ) (r : FieldHead) (q : Place) (row' : List ℕ) where
    pub field_ended : r ≡ hF.Stop q → record { answer = F.Stop; state = I.moved_to (reader_of row) q } ≡ want → Open row → k' ≡ 0 → row' ≡ set row 0 q.0 → ToldField row row' k k' id id 0 want
    field_ended f e clear a g = rw (← e) (record { number = refl; the_kind = a; the_id = refl; the_row = g ∙ reader_moves row clear q.0 })

    module _ (id' : ℤ) (x : FieldId) where
      pub bool_headed : (t : Bool) (m : ℕ) (y : ℤ) → r ≡ hF.Bool t x q → m ≡ truth_code t → row' ≡ set (set row 0 q.0) 1 (turn_of y m) → y ≡ x.0 → id' ≡ x.0 → k' ≡ 1 → record { answer = F.Field T.Bool x; state = I.moved_to (I.with_pending (I.with_last (reader_of row) x) (W.Truth t)) q } ≡ want → Open row → ToldField row row' k k' id id' 0 want
      unfolding awaited_no type_code
      bool_headed t m y f c d i b a e clear =
          rw (← e) (record { number = refl; the_kind = a; the_id = b; the_row = rw (i, c) at d ∙ reader_awaits row clear q.0 x (W.Truth t) })

      pub value_headed : (t : TType) (y : ℤ) → r ≡ hF.Value t x q → row' ≡ set (set row 0 q.0) 1 (turn_of y 0) → y ≡ x.0 → id' ≡ x.0 → k' ≡ type_code t → record { answer = F.Field t x; state = I.moved_to (I.with_last (reader_of row) x) q } ≡ want → Open row → ToldField row row' k k' id id' 0 want
      value_headed t y f d i b a e clear = rw (← e) (record { number = refl; the_kind = a; the_id = b; the_row = (rw i at d) ∙ reader_lasts row clear q.0 x })

module _ (row : List ℕ) (k : ℕ) (i : ℤ) (a z : ℕ) (want : ReadMessage) where
  pub message_kept : (n : ℕ) → as_message (declines n (reader_of row)) ≡ want → row ≡ reader_after row n (reader_of row) → ToldMessage row row k k i i a a z z n want
  message_kept n e f = rw (← e) (record { number = refl; the_kind = refl; the_sequence = refl; the_start = refl; the_end = refl; the_row = f })

  pub message_told_lem : (row' : List ℕ) (k' : ℕ) (i' : ℤ) (a' z' at : ℕ) (r : MessageHead) (m : TMessageType) (nr : SeqNo) (from q : Place) → Open row → r ≡ hH.Got m nr from q → record { answer = H.Got m nr from q; state = I.moved_to (I.with_last (I.begun_here (reader_of row)) (id_of (pos 0))) q } ≡ want → k' ≡ message_code m → i' ≡ nr.0 → a' ≡ from.0 → z' ≡ q.0 → at ≡ get_or row 0 0 → row' ≡ set (set (set row 0 q.0) 1 0) 5 at → ToldMessage row row' k k' i i' a a' z z' 0 want
  message_told_lem row' k' i' a' z' at r m nr from q clear f e b c d g p h =
      rw (← e) (record { number = refl; the_kind = b; the_sequence = c; the_start = d; the_end = g; the_row = (rw p at h) ∙ reader_begins row clear q.0 })

-- the bool call: the gate's 12 is its turn
module _ (s row : List ℕ) (num : ℕ) (e : num ≡ I.gate (length s) (reader_of row)) where
  pub bool_stopped : (num ≡ 0 → ⊥) → (num ≡ OUT_OF_TURN → ⊥) → as_bool (declines num (reader_of row)) ≡ call.read_bool s (reader_of row)
  unfolding I.gate
  bool_stopped h k = go (I.sound (length s) (reader_of row)) refl
    where
      go : (b : Bool) → I.sound (length s) (reader_of row) ≡ b → as_bool (declines num (reader_of row)) ≡ call.read_bool s (reader_of row)
      go false f = ap (λ (x : ℕ). as_bool (declines x (reader_of row))) (rw f at e) ∙ each.bool_bad s (reader_of row) false (sym f) refl
      go true f = absurd (turns (I.waits (reader_of row).pending.0) (rw f at e))
        where
          turns : (w : Bool) → num ≡ cond w OUT_OF_TURN 0 → ⊥
          turns true g = k g
          turns false g = h g

  sound_so : (n : ℕ) → num ≡ n → (n ≡ BAD_STATE → ⊥) → true ≡ I.sound (length s) (reader_of row)
  unfolding I.gate
  sound_so n f h = go (I.sound (length s) (reader_of row)) refl
    where
      go : (b : Bool) → I.sound (length s) (reader_of row) ≡ b → true ≡ I.sound (length s) (reader_of row)
      go true g = sym g
      go false g = absurd (h (sym f ∙ (rw g at e)))

  pub bool_taken : (v v' : Bool) (t : ℕ) (row' : List ℕ) → num ≡ OUT_OF_TURN → t ≡ get_or row 1 0 → v' ≡ eqb (t / 65536) 1 → row' ≡ set row 1 (t % 65536) → ToldBool row row' v v' 0 (call.read_bool s (reader_of row))
  bool_taken v v' t row' h f g k =
      let held : _ = reader_holds (length s) row num e h in
      rw (← (each.bool_pending s (reader_of row) true (sound_so OUT_OF_TURN h (λ z. omega arith)) (eqb (get_or row 1 0 / 65536) 1) refl (reader_truth row held)))
      (record { number = refl; the_value = rw f at g; the_row = k ∙ reader_takes row held t f })

  module _ (h : num ≡ 0) (end : ℕ) (o : end ≡ get_or row 0 0 + min (left_of (writer_in row)) (length s - get_or row 0 0)) (at : ℕ) (p : at ≡ get_or row 0 0) (r : BoolRead) (f : r ≡ truth_at (take end s) at) where
    element : (x : ReadBool) → x ≡ call.element_bool s (reader_of row) → x ≡ call.read_bool s (reader_of row)
    element x k =
        let clear : Open row = reader_opens (length s) row num e h in
        each.bool_element s (reader_of row) true (sound_so 0 h (λ z. omega arith)) x refl (rw (reader_is row clear) (reader_free row clear)) k

    bool_at : r ≡ truth_at (take end s) (reader_of row).place.0
    bool_at = f ∙ ap (truth_at (take end s)) (here s row num e h end o at p)

    pub bool_got : (b : Bool) (q : Place) → r ≡ hB.Got b q → as_bool (answers b (I.moved_to (reader_of row) q)) ≡ call.read_bool s (reader_of row)
    bool_got b q k = element _ (each.element_got s (reader_of row) end (cut s row num e h end o) r bool_at b q k)

    pub bool_no : (why n : ℕ) → r ≡ hB.Refused why → n ≡ missing (ltb end (length s)) why → as_bool (declines n (reader_of row)) ≡ call.read_bool s (reader_of row)
    bool_no why n k m = element _ (each.element_no_lem s (reader_of row) end (cut s row num e h end o) r bool_at why n k m)

pub done_through : (row row' : List ℕ) (n : ℕ) (read want : ReadDone) → ToldDone row row' n read → read ≡ want → ToldDone row row' n want
done_through row row' n read want h e = rw e at h

-- a field's header of one byte, whose row is n; the last id l passed through its bits
module _ (s row : List ℕ) (end : ℕ) (passed : ℤ) (at n : ℕ) (short : ShortRow (take end s) passed at n) (l : ℤ) (b : passed ≡ l) (v : l ≡ last_in (get_or row 1 0)) (p : at ≡ get_or row 0 0) (o : end ≡ get_or row 0 0 + min (left_of (writer_in row)) (length s - get_or row 0 0)) (num : ℕ) (e : num ≡ I.gate (length s) (reader_of row)) (h : num ≡ 0) (k : ℕ) (id : ℤ) (row' : List ℕ) (k' : ℕ) where
  x : ShortRow (take end s) l at n
  x = subst (λ (i : ℤ). ShortRow (take end s) i at n) b short

  unbarred : Open row
  unbarred = reader_opens (length s) row num e h

  pub short_ended : n % 256 ≡ 0 → k' ≡ 0 → row' ≡ set row 0 (at + 1) → ToldField row row' k k' id id 0 (call.read_field s (reader_of row))
  short_ended z a g =
      field_ended row k id (call.read_field s (reader_of row)) k' (hF.Stop (place (at + 1))) (place (at + 1)) row' refl
      (field_stop s row num e h end o (hF.Stop (place (at + 1))) (rw (← v, ← p) (x.ends z)) (place (at + 1)) refl) unbarred a g

  module _ (y : n % 256 ≡ 0 → ⊥) (z : n % 256 ≤ 13) where
    headed_by : (id' i : ℤ) (r : FieldHead) → r ≡ field_at (take end s) (last_in (get_or row 1 0)) (get_or row 0 0) → Entered r row row' k' i → id' ≡ i → ToldField row row' k k' id id' 0 (call.read_field s (reader_of row))
    headed_by id' i (hF.Stop q) f d u = absurd d
    headed_by id' i (hF.Bool t j q) f d u =
        bool_headed row k id (call.read_field s (reader_of row)) k' (hF.Bool t j q) q row' id' j t (truth_code t) j.0 refl refl d.0 refl (u ∙ d.2) d.1
        (field_bool s row num e h end o (hF.Bool t j q) f t j q refl) unbarred
    headed_by id' i (hF.Value t j q) f d u =
        value_headed row k id (call.read_field s (reader_of row)) k' (hF.Value t j q) q row' id' j t j.0 refl d.0 refl (u ∙ d.2) d.1
        (field_value s row num e h end o (hF.Value t j q) f t j q refl) unbarred
    headed_by id' i (hF.Refused why) f d u = absurd d

    -- the id as it is after its sum, which passed through its bits
    sum_is : SFits w16 l → to_z w32 (of_z w32 (code_sum l (n / 256 % 256))) ≡ l +ℤ pos (n / 256 % 256)
    sum_is hl = id_is l (n / 256 % 256) hl x.delta

    pub short_headed : (id' j : ℤ) → SFits w16 l → id' ≡ to_z w32 (of_z w32 (code_sum l (n / 256 % 256))) → j ≡ to_z w32 (of_z w32 (code_sum l (n / 256 % 256))) → k' ≡ n % 256 → row' ≡ set (set row 0 (at + 1)) 1 (turn_of j (n / 65536)) → ToldField row row' k k' id id' 0 (call.read_field s (reader_of row))
    short_headed id' j hl u w a g =
        headed_by id' (l +ℤ pos (n / 256 % 256)) (head_at n (l +ℤ pos (n / 256 % 256)) (at + 1)) (rw (← v, ← p) (x.goes y z))
        (rw (g, a, w ∙ sum_is hl) (x.holds y z row (l +ℤ pos (n / 256 % 256)) (at + 1)))
        (u ∙ sum_is hl)

-- the sum that the code makes
pub short_sum : (s : List ℕ) (passed l : ℤ) (at n : ℕ) → ShortRow s passed at n → SFits w16 l → SFits w32 (code_sum l (n / 256 % 256))
short_sum s passed l at n x hl = id_fits l (n / 256 % 256) hl x.delta

pub short_fits : (s : List ℕ) (passed l : ℤ) (at n : ℕ) → ShortRow s passed at n → passed ≡ l → SFits w16 l → (n % 256 ≡ 0 → ⊥) → n % 256 ≤ 13 → SFits w16 (to_z w32 (of_z w32 (code_sum l (n / 256 % 256))))
short_fits s passed l at n x b hl y z = rw (id_is l (n / 256 % 256) hl x.delta, ← b) (x.fits y z)

pub short_truth : (s : List ℕ) (l : ℤ) (at n : ℕ) → ShortRow s l at n → Fits w8 (n / 65536)
short_truth s l at n x = record { fits = omega (arith, x.truth) }

pub short_delta_lem : (s : List ℕ) (l : ℤ) (at n : ℕ) → ShortRow s l at n → SFits w32 (pos (n / 256 % 256))
short_delta_lem s l at n x = delta_wide (n / 256 % 256) x.delta

pub ruleset gating = (reader_left, reader_opens, reader_stays, inside, counts, to_z-of_z, sfits_of)

pub ruleset i8_reads = (i8_kept, i8_told, i8_stopped, i8_got, i8_no, gating)

pub ruleset i16_reads = (i16_kept, i16_told, i16_stopped, i16_got, i16_no, gating)

pub ruleset i32_reads = (i32_kept, i32_told, i32_stopped, i32_got, i32_no, gating)

pub ruleset i64_reads = (i64_kept, i64_told, i64_stopped, i64_got, i64_no, gating)

pub ruleset double_reads = (double_kept, double_told, double_stopped, double_got, double_no, gating)

pub ruleset bool_reads = (bool_kept, bool_told, bool_stopped, bool_got, bool_no, bool_taken, gating)

pub ruleset uuid_reads = (part_kept, part_told, uuid_stopped, uuid_got, uuid_no, gating)

pub ruleset bytes_reads = (part_kept, part_told, bytes_stopped, bytes_got, bytes_no, gating)

pub ruleset string_reads = (part_kept, part_told, string_stopped, string_got, string_no, gating)

pub ruleset list_reads = (list_kept, list_told, list_stopped, list_got, list_no, set_is, gating)

pub ruleset map_reads = (map_kept, map_told_lem, map_stopped, map_got, map_no, gating)

pub ruleset message_reads = (message_kept, message_told_lem, message_stopped, message_got, message_no, cut_inside, cut_counts, gating)

pub ruleset field_reads = (field_kept, field_ended, bool_headed, value_headed, field_stopped, field_stop, field_bool, field_value, field_no_lem, gating)

pub ruleset short_reads = (field_kept, field_stopped, short_ended, short_headed, short_fits, short_truth, short_sum, short_delta_lem, id_wide, gating)
