-- Lines T3 to T6 and T8 to T12 of the scope paper's sample bytes, as far as they are read, computed on what the calls answer. Assumes
-- nothing.
use mathlib.Core.Path.{◌≡◌, refl}
use mathlib.Core.List.{[], ◌∷◌}
use Prim.Native.Nat.{ℕ}
use lib.IntN.{ℤ, pos, negsuc}
use lib.ListN.{replicate}
use Rattle.types.specs.Refusals.{END, BAD_TYPE, LONG_VARINT, FIELD_ID, NEGATIVE_SIZE, RANGE}
use Rattle.types.specs.Codes.{type_by_number, element_type, field_type, message_by_number}
use Rattle.types.specs.Limits.{in_range, defaults}
use Rattle.types.specs.declared.TType.TheVariants as T
use Rattle.types.specs.declared.TMessageType.TheVariants as M
use Rattle.utf8.specs.Utf8.{utf8, past, decode}
use Rattle.heads.specs.Reader.{read_at, done, refuse, and_then, provided, byte, some, ahead, backed, read_to}
use Rattle.heads.specs.Heads.{number32, int16, int32, binary, text, counted, listed, items, mapped, pairs, items_head, pairs_head, field_id, field, named, versioned, message}
use Rattle.heads.specs.Answers.{place, id_of, seq_of}
use Rattle.heads.proofs.Samples.{frame}
use Rattle.input.specs.State.{State, fresh, sound, gate, moved_to, with_last}
use Rattle.input.specs.Outcome.{calls_to}
use Rattle.input.specs.Calls.{read_i16, read_i32, read_field, read_list, read_set, read_map, read_message, name_part}
use Rattle.input.specs.declared.I16Answer.TheVariants as I16
use Rattle.input.specs.declared.I32Answer.TheVariants as I32
use Rattle.input.specs.declared.FieldAnswer.TheVariants as F
use Rattle.input.specs.declared.ReadField.{ReadField}
use Rattle.input.specs.declared.ListAnswer.TheVariants as L
use Rattle.input.specs.declared.MapAnswer.TheVariants as P
use Rattle.input.specs.declared.MessageAnswer.TheVariants as H

-- a reader with the default limits, which has seen nothing
abbrev pub start : State
start = fresh defaults

-- "i32 -2147483648 is FF FF FF FF 0F; FF FF FF FF 7F reads the same; FF five times is 6, four times 1"
abbrev pub T3 : Type 0
T3 =
    (read_i32 (0xff ∷ 0xff ∷ 0xff ∷ 0xff ∷ 0x0f ∷ []) start ≡ record { answer = I32.Got (negsuc 2147483647); state = moved_to start (place 5) })
    × (read_i32 (0xff ∷ 0xff ∷ 0xff ∷ 0xff ∷ 0x7f ∷ []) start ≡ record { answer = I32.Got (negsuc 2147483647); state = moved_to start (place 5) })
    × (read_i32 (0xff ∷ 0xff ∷ 0xff ∷ 0xff ∷ 0xff ∷ []) start ≡ record { answer = I32.Refused LONG_VARINT; state = start })
    × (read_i32 (0xff ∷ 0xff ∷ 0xff ∷ 0xff ∷ []) start ≡ record { answer = I32.Refused END; state = start })

-- "80 80 04 as i16 is 17"
abbrev pub T4 : Type 0
T4 = read_i16 (0x80 ∷ 0x80 ∷ 0x04 ∷ []) start ≡ record { answer = I16.Refused RANGE; state = start }

-- a field of type i32 with this id, whose header ends at this place
abbrev pub i32_field : State → ℤ → ℕ → ReadField
i32_field st id e = record { answer = F.Field T.I32 (id_of id); state = moved_to (with_last st (id_of id)) (place e) }

-- "last id 0, i32 field: id 14 is E5, id 15 is 05 1E; F5 reads as 15"
abbrev pub T5 : Type 0
T5 =
    (read_field (0xe5 ∷ []) start ≡ i32_field start (pos 14) 1)
    × (read_field (0x05 ∷ 0x1e ∷ []) start ≡ i32_field start (pos 15) 2)
    × (read_field (0xf5 ∷ []) start ≡ i32_field start (pos 15) 1)

-- "last id 32760: 75 gives 32767, 85 is refused 7"
abbrev pub high : State
high = with_last start (id_of (pos 32760))

abbrev pub T6 : Type 0
T6 =
    (read_field (0x75 ∷ []) high ≡ i32_field high (pos 32767) 1)
    × (read_field (0x85 ∷ []) high ≡ record { answer = F.Refused FIELD_ID; state = high })

-- "10 reads as Stop"
abbrev pub T8 : Type 0
T8 = read_field (0x10 ∷ []) start ≡ record { answer = F.Stop; state = moved_to start (place 1) }

-- "list of i32: 14 is E5, 15 is F5 0F", with as many bytes behind it; with one fewer it is END
abbrev pub T9 : Type 0
T9 =
    (read_list (0xe5 ∷ replicate 14 0) start ≡ record { answer = L.Got T.I32 14; state = moved_to start (place 1) })
    × (read_list (0xe5 ∷ replicate 13 0) start ≡ record { answer = L.Refused END; state = start })
    × (read_set (0xf5 ∷ 0x0f ∷ replicate 15 0) start ≡ record { answer = L.Got T.I32 15; state = moved_to start (place 2) })
    × (read_set (0xf5 ∷ 0x0f ∷ replicate 14 0) start ≡ record { answer = L.Refused END; state = start })

-- "F5 80 80 80 80 08 is 9; FF alone is 4"
abbrev pub T10 : Type 0
T10 =
    (read_list (0xf5 ∷ 0x80 ∷ 0x80 ∷ 0x80 ∷ 0x80 ∷ 0x08 ∷ []) start ≡ record { answer = L.Refused NEGATIVE_SIZE; state = start })
    × (read_list (0xff ∷ []) start ≡ record { answer = L.Refused BAD_TYPE; state = start })

-- "empty map 00; one string to i32: 01 85", with a byte behind it for each of the two; with one fewer it is END
abbrev pub T11 : Type 0
T11 =
    (read_map (0x00 ∷ []) start ≡ record { answer = P.Got T.Stop T.Stop 0; state = moved_to start (place 1) })
    × (read_map (0x01 ∷ 0x85 ∷ 0x00 ∷ 0x00 ∷ []) start ≡ record { answer = P.Got T.String T.I32 1; state = moved_to start (place 2) })
    × (read_map (0x01 ∷ 0x85 ∷ 0x00 ∷ []) start ≡ record { answer = P.Refused END; state = start })

-- "two thousand million doubles in a 40-byte frame"
abbrev pub Damaged : Type 0
Damaged =
    (read_list frame start ≡ record { answer = L.Refused END; state = start })
    × (read_set frame start ≡ record { answer = L.Refused END; state = start })

-- "call, sequence 1, name t: 82 21 01 01 74"
abbrev pub T12 : Type 0
T12 =
    (read_message (0x82 ∷ 0x21 ∷ 0x01 ∷ 0x01 ∷ 0x74 ∷ []) start ≡ record { answer = H.Got M.Call (seq_of (pos 1)) (place 4) (place 5); state = moved_to start (place 5) })
    × (name_part (0x82 ∷ 0x21 ∷ 0x01 ∷ 0x01 ∷ 0x74 ∷ []) start ≡ 0x74 ∷ [])

pub rows : T3 × T4 × T5 × T6 × T8 × T9 × T10 × T11 × T12 × Damaged
unfolding fresh defaults in_range sound gate calls_to read_to read_i16 read_i32 read_field read_list read_set read_map read_message name_part read_at done refuse and_then provided byte some number32 int16 int32 binary text counted listed items mapped pairs ahead backed items_head pairs_head field_id field named versioned message type_by_number element_type field_type message_by_number utf8 past decode
rows = ((refl, refl, refl, refl), refl, (refl, refl, refl), (refl, refl), refl, (refl, refl, refl, refl), (refl, refl), (refl, refl, refl), (refl, refl), (refl, refl))
