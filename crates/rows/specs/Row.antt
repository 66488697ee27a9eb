-- The row of six numbers that holds a state: 0 the place; 1 the last id, as its 16 bits, and 65,536 times what waits; 2 the depth; 3 the limit on
-- depth, in the low 32 bits, and 2^32 times the ceiling; 4 the limit on strings, so too, and 2^32 times the one on containers; 5 the place where the message
-- began. Assumes nothing: these are definitions.
use Rattle.std.specs.Prelude.{ℕ, ◌+◌, ◌-◌, ◌*◌, ◌/◌, ◌%◌, Bool, cond, ◌&&◌, List, length, get_or, set, replicate, eqb, leb, ltb, ℤ, pos}
use Rattle.std.specs.Int.{w16}
use Rattle.std.proofs.Common.{to_z, of_z}
use Rattle.types.specs.Codes.{truth_code}
use Rattle.types.specs.Limits.{in_range}
use Rattle.types.specs.Refusals.{OUT_OF_TURN, BAD_STATE}
use Rattle.types.specs.declared.TConfiguration.{TConfiguration}
use Rattle.numbers.specs.declared.Wrote.{Wrote}
use Rattle.numbers.specs.declared.Wrote.TheVariants as P
use Rattle.heads.specs.Answers.{place, id_of}
use Rattle.input.specs.State as I
use Rattle.input.specs.declared.Awaited.{Awaited}
use Rattle.input.specs.declared.Awaited.TheVariants as W
use Rattle.output.specs.State as O
use Rattle.output.specs.declared.AwaitedField.{AwaitedField}
use Rattle.output.specs.declared.AwaitedField.TheVariants as A

-- what number 1 says of the last id, and of what waits; and the number that says both
abbrev pub last_in : ℕ → ℤ
last_in turn = to_z w16 (turn % 65536)

abbrev pub waits_in : ℕ → ℕ
waits_in turn = turn / 65536

abbrev pub turn_of : ℤ → ℕ → ℕ
turn_of last waits = of_z w16 last + waits * 65536

abbrev pub limits_of : List ℕ → TConfiguration
limits_of row =
    record {
      depth = get_or row 3 0 % 4294967296;
      string = get_or row 4 0 % 4294967296;
      container = get_or row 4 0 / 4294967296;
      message = get_or row 3 0 / 4294967296;
    }

-- a row of another length, or one in which something waits that cannot, holds no state: every call refuses the limits given in its place, 15
abbrev pub no_limits : TConfiguration
no_limits = record { depth = 65; string = 0; container = 0; message = 0 }

-- number 1 is below `top`
abbrev pub holds : ℕ → List ℕ → Bool
holds top row = eqb (length row) 6 && ltb (get_or row 1 0) top

-- what the reader awaits: 0 nothing, 1 true, 2 false, which are the codes of a bool in a field
unfoldable pub awaited_of : ℕ → Awaited
awaited_of n = cond (eqb n 0) W.Nothing (W.Truth (eqb n 1))

unfoldable pub awaited_no : Awaited → ℕ
awaited_no W.Nothing = 0
awaited_no (W.Truth b) = truth_code b

abbrev pub reader_top : ℕ
reader_top = 196608

-- the reader's state from the row's numbers. The ids of the structs around it stand in a row of their own, which only struct calls take
abbrev pub reader_in : List ℕ → I.State
reader_in row =
    record {
      place = place (get_or row 0 0);
      last = id_of (last_in (get_or row 1 0));
      depth = get_or row 2 0;
      ids = replicate 64 (pos 0);
      pending = I.awaiting (awaited_of (waits_in (get_or row 1 0)));
      limits = limits_of row;
      begin = place (get_or row 5 0);
    }

unfoldable pub reader_of : List ℕ → I.State
reader_of row = cond (holds reader_top row) (reader_in row) (I.fresh no_limits)

-- the bool field that the writer awaits: 0 none, or one more than its id's bits
unfoldable pub field_of : ℕ → AwaitedField
field_of n = cond (eqb n 0) A.Nothing (A.Field (id_of (to_z w16 (n - 1))))

unfoldable pub field_no : AwaitedField → ℕ
field_no A.Nothing = 0
field_no (A.Field id) = of_z w16 id.0 + 1

abbrev pub writer_top : ℕ
writer_top = 4295032832

abbrev pub writer_in : List ℕ → O.State
writer_in row =
    record {
      place = place (get_or row 0 0);
      last = id_of (last_in (get_or row 1 0));
      depth = get_or row 2 0;
      ids = replicate 64 (pos 0);
      pending = O.pending_of (field_of (waits_in (get_or row 1 0)));
      limits = limits_of row;
      begin = place (get_or row 5 0);
    }

unfoldable pub writer_of : List ℕ → O.State
writer_of row = cond (holds writer_top row) (writer_in row) (O.begun no_limits)

-- "Order: 15; 12": what a call but the bool call refuses first, by the row's numbers alone
unfoldable pub gate_of : ℕ → ℕ → List ℕ → ℕ
gate_of top len row =
    cond (eqb (length row) 6 && in_range (limits_of row) && leb (get_or row 0 0) len && leb (get_or row 2 0) (limits_of row).depth && leb (get_or row 5 0) (get_or row 0 0) && leb (get_or row 0 0) (get_or row 5 0 + (limits_of row).message))
    (cond (ltb (get_or row 1 0) 65536) 0 (cond (ltb (get_or row 1 0) top) OUT_OF_TURN BAD_STATE))
    BAD_STATE

-- the row with another place, last id, depth, what waits and place where the message began; limits never change
unfoldable pub refilled : List ℕ → ℕ → ℤ → ℕ → ℕ → ℕ → List ℕ
refilled row at last depth waits begin = cond (eqb (length row) 6) (set (set (set (set row 0 at) 1 (turn_of last waits)) 2 depth) 5 begin) row

-- the row behind a call that answered this number, 0 for no refusal: "A refusal returns its number and the state as given"
unfoldable pub reader_after : List ℕ → ℕ → I.State → List ℕ
reader_after row why st = cond (eqb why 0) (refilled row st.place.0 st.last.0 st.depth (awaited_no st.pending.0) st.begin.0) row

unfoldable pub writer_after : List ℕ → ℕ → O.State → List ℕ
writer_after row why st = cond (eqb why 0) (refilled row st.place.0 st.last.0 st.depth (field_no st.pending.0) st.begin.0) row

-- bytes written: the number, and the row at the place behind them; `headed`: and with this last id, and nothing that waits; `begun`: and with the place where
-- the message began
abbrev pub wrote_number : Wrote → ℕ
wrote_number (P.To p) = 0
wrote_number (P.Refused why) = why

abbrev pub wrote_row : List ℕ → Wrote → List ℕ
wrote_row row (P.To p) = set row 0 p
wrote_row row (P.Refused why) = row

abbrev pub headed_row : List ℕ → ℤ → Wrote → List ℕ
headed_row row id (P.To p) = set (set row 0 p) 1 (of_z w16 id)
headed_row row id (P.Refused why) = row

abbrev pub begun_row : List ℕ → ℕ → Wrote → List ℕ
begun_row row at (P.To p) = set (set row 0 p) 5 at
begun_row row at (P.Refused why) = row
