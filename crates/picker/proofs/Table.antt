-- Line T13 of the scope paper's sample bytes, as far as it is picked, and what else a reader would try first, computed on what the call answers.
-- Assumes nothing.
use mathlib.Core.Path.{◌≡◌, refl}
use mathlib.Core.List.{List, [], ◌∷◌}
use Prim.Native.Nat.{ℕ}
use lib.IntN.{ℤ, pos}
use Rattle.types.specs.Refusals.{END, NO_ROOM, BAD_LIST}
use Rattle.types.specs.Codes.{type_code, type_by_number, element_type, field_type}
use Rattle.types.specs.Limits.{in_range, defaults}
use Rattle.types.specs.Value.{type_of}
use Rattle.heads.specs.Reader.{done, refuse, and_then, provided, byte, some, read_at, read_to, ahead, backed}
use Rattle.heads.specs.Heads.{int8, number32, number64, int16, int32, int64, double, uuid, truth, binary, counted, listed, items, mapped, pairs, items_head, pairs_head, field_id, field}
use Rattle.heads.proofs.Samples.{struct_frame}
use Rattle.input.specs.State.{State, fresh, sound, gate}
use Rattle.input.specs.Outcome.{declines}
use Rattle.input.specs.Answers.{as_done}
use Rattle.skip.specs.Walk.{sizing, walk, fields}
use Rattle.skip.specs.Value.{many, many_pairs, value_of}
use Rattle.skip.specs.Skip.{skipped_to}
use Rattle.wanted.specs.Wanted as wanted
use Rattle.picker.specs.Pick.{own_from, row_of, last_of, occurs, answer, rows_of, on_struct, picks, pick_call, picked_rows}

abbrev start : State
start = fresh defaults

-- what is picked of some bytes: the rows, from three numbers lent for each id
abbrev picking : List ℤ → List ℕ → List ℕ → List ℕ → List ℕ
picking ids kinds bytes rows = picked_rows ids kinds bytes start rows

abbrev two : List ℕ
two = 0x11 ∷ 0x25 ∷ 0x01 ∷ 0x00 ∷ []

abbrev three : List ℕ
three = 0x11 ∷ 0x17 ∷ 0x00 ∷ 0x00 ∷ 0x00 ∷ 0x00 ∷ 0x00 ∷ 0x00 ∷ 0xf0 ∷ 0x3f ∷ 0x15 ∷ 0x01 ∷ 0x00 ∷ []

-- "fields 1 true, 3 i32 -1: 11 25 01 00; picking 3 gives 2, 2, 3. With double 1.0 as field 2: 11 17 00 00 00 00 00 00 F0 3F 15 01 00; picking 3
-- gives 2, 11, 12"; the reader ends behind the struct
abbrev pub T13 : Type 0
T13 =
    (picking (pos 3 ∷ []) (5 ∷ []) two (9 ∷ 9 ∷ 9 ∷ []) ≡ 2 ∷ 2 ∷ 3 ∷ [])
    × (pick_call (pos 3 ∷ []) (5 ∷ []) 3 two start ≡ skipped_to start 4)
    × (picking (pos 3 ∷ []) (5 ∷ []) three (9 ∷ 9 ∷ 9 ∷ []) ≡ 2 ∷ 11 ∷ 12 ∷ [])
    × (pick_call (pos 3 ∷ []) (5 ∷ []) 3 three start ≡ skipped_to start 13)

-- field 1 as i32 1, as i32 2, as bool false, and a struct in field 2 that has a field 3 of its own
abbrev mixed : List ℕ
mixed = 0x15 ∷ 0x02 ∷ 0x05 ∷ 0x02 ∷ 0x04 ∷ 0x02 ∷ 0x02 ∷ 0x1c ∷ 0x35 ∷ 0x02 ∷ 0x00 ∷ 0x00 ∷ []

pub Samples : Type 0
Samples =
    -- a wrong type, a bool, absence, and a number behind the rows that is left alone
    (picking (pos 3 ∷ pos 1 ∷ pos 2 ∷ []) (6 ∷ 1 ∷ 8 ∷ []) two (9 ∷ 9 ∷ 9 ∷ 9 ∷ 9 ∷ 9 ∷ 9 ∷ 9 ∷ 9 ∷ 7 ∷ []) ≡ 1 ∷ 0 ∷ 0 ∷ 4 ∷ 0 ∷ 0 ∷ 0 ∷ 0 ∷ 0 ∷ 7 ∷ [])
    -- the last of the id and type, though one of another type comes behind it; the inner struct's field is not the outer's
    × (picking (pos 1 ∷ pos 3 ∷ pos 2 ∷ []) (5 ∷ 5 ∷ 12 ∷ []) mixed (9 ∷ 9 ∷ 9 ∷ 9 ∷ 9 ∷ 9 ∷ 9 ∷ 9 ∷ 9 ∷ []) ≡ 2 ∷ 4 ∷ 5 ∷ 0 ∷ 0 ∷ 0 ∷ 2 ∷ 8 ∷ 11 ∷ [])
    -- refused, the rows are as they were: the input ends; too few numbers lent; an id twice; the type Stop; a type that has no number
    × (picking (pos 3 ∷ []) (5 ∷ []) (0x11 ∷ 0x25 ∷ 0x01 ∷ []) (9 ∷ 9 ∷ 9 ∷ []) ≡ 9 ∷ 9 ∷ 9 ∷ [])
    × (pick_call (pos 3 ∷ []) (5 ∷ []) 3 (0x11 ∷ 0x25 ∷ 0x01 ∷ []) start ≡ as_done (declines END start))
    -- "two thousand million doubles in a 40-byte frame", as the list that is wanted and as one that is not
    × (picking (pos 1 ∷ []) (9 ∷ []) struct_frame (9 ∷ 9 ∷ 9 ∷ []) ≡ 9 ∷ 9 ∷ 9 ∷ [])
    × (pick_call (pos 1 ∷ []) (9 ∷ []) 3 struct_frame start ≡ as_done (declines END start))
    × (pick_call (pos 2 ∷ []) (5 ∷ []) 3 struct_frame start ≡ as_done (declines END start))
    × (pick_call (pos 3 ∷ []) (5 ∷ []) 2 two start ≡ as_done (declines NO_ROOM start))
    × (pick_call (pos 3 ∷ pos 3 ∷ []) (5 ∷ 5 ∷ []) 6 two start ≡ as_done (declines BAD_LIST start))
    × (pick_call (pos 3 ∷ []) (0 ∷ []) 3 two start ≡ as_done (declines BAD_LIST start))
    × (pick_call (pos 3 ∷ []) (2 ∷ []) 3 two start ≡ as_done (declines BAD_LIST start))

pub rows : T13 × Samples
unfolding Samples fresh defaults in_range sound gate picked_rows pick_call picks on_struct own_from row_of last_of occurs answer rows_of wanted.same_id wanted.among wanted.distinct wanted.wantable wanted.wantables wanted.listed type_of type_code type_by_number element_type field_type read_at read_to value_of fields walk sizing many many_pairs done refuse and_then provided byte some int8 number32 number64 int16 int32 int64 double uuid truth binary counted listed items mapped pairs ahead backed items_head pairs_head field_id field
rows = ((refl, refl, refl, refl), (refl, refl, refl, refl, refl, refl, refl, refl, refl, refl, refl))
