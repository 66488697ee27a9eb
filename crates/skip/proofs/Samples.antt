-- Samples of skip, computed: the structs of T13, nesting at and over the limit, a count that the input can't hold, and an i16 out of range as element, as a field's id and
-- as a bool field's. Assumes nothing.
use mathlib.Core.Path.{◌≡◌, refl}
use mathlib.Core.List.{List, [], ◌∷◌, ◌++◌}
use Prim.Native.Nat.{ℕ}
use lib.ListN.{replicate}
use Rattle.types.specs.Refusals.{END, BAD_TYPE, BAD_BOOL, DEPTH, RANGE}
use Rattle.types.specs.Codes.{type_code, type_by_number, element_type, field_type}
use Rattle.types.specs.Limits.{defaults}
use Rattle.types.specs.declared.TType.TheVariants as T
use Rattle.heads.specs.Reader.{done, refuse, and_then, provided, byte, some, read_at, ahead, backed}
use Rattle.heads.specs.Heads.{int8, number32, number64, int16, int32, int64, double, uuid, truth, binary, counted, listed, items, mapped, pairs, items_head, pairs_head, field_id, field}
use Rattle.heads.specs.Answers.{place}
use Rattle.heads.proofs.Samples.{frame, struct_frame}
use Rattle.skip.specs.Walk.{sizing, walk, fields}
use Rattle.skip.specs.Value.{many, many_pairs, value_of, uncounted}
use Rattle.skip.specs.Skip.{past, skip_of}
use Rattle.skip.specs.declared.Skipped.TheVariants.{Done, Refused}

-- so many lists, one in the other, the innermost empty
abbrev nested : ℕ → List ℕ
nested n = replicate n 0x19 ++ 0x03 ∷ []

pub Samples : Type 0
Samples =
    (skip_of (0x11 ∷ 0x25 ∷ 0x01 ∷ 0x00 ∷ []) defaults 64 T.Struct 0 ≡ Done (place 4))
    × (skip_of (0x11 ∷ 0x17 ∷ 0x00 ∷ 0x00 ∷ 0x00 ∷ 0x00 ∷ 0x00 ∷ 0x00 ∷ 0xf0 ∷ 0x3f ∷ 0x15 ∷ 0x01 ∷ 0x00 ∷ []) defaults 64 T.Struct 0 ≡ Done (place 13))
    × (skip_of (nested 63) defaults 64 T.List 0 ≡ Done (place 64))
    × (skip_of (nested 64) defaults 64 T.List 0 ≡ Refused DEPTH)
    × (skip_of (0xf5 ∷ 0xff ∷ 0xff ∷ 0xff ∷ 0xff ∷ 0x07 ∷ []) defaults 64 T.List 0 ≡ Refused END)
    -- "two thousand million doubles in a 40-byte frame", where they stand alone and where a field has them
    × (skip_of frame defaults 64 T.List 0 ≡ Refused END)
    × (skip_of frame defaults 64 T.Set 0 ≡ Refused END)
    × (skip_of struct_frame defaults 64 T.Struct 0 ≡ Refused END)
    -- a count that can't be there is found at the header, before an element that would be refused by another number
    × (skip_of (0x21 ∷ 0x03 ∷ []) defaults 64 T.List 0 ≡ Refused END)
    × (past (uncounted defaults 64 T.List) (0x21 ∷ 0x03 ∷ []) 0 ≡ Refused BAD_BOOL)
    × (skip_of (0x10 ∷ []) defaults 64 T.List 0 ≡ Refused END)
    × (skip_of (0x10 ∷ 0x00 ∷ []) defaults 64 T.List 0 ≡ Refused BAD_TYPE)
    × (skip_of (0x00 ∷ []) defaults 64 T.List 0 ≡ Done (place 1))
    × (skip_of (0x01 ∷ 0x30 ∷ 0x00 ∷ 0x00 ∷ []) defaults 64 T.Map 0 ≡ Refused BAD_TYPE)
    × (skip_of (0x14 ∷ 0x80 ∷ 0x80 ∷ 0x04 ∷ []) defaults 64 T.List 0 ≡ Refused RANGE)
    × (skip_of (0x03 ∷ 0x82 ∷ 0x80 ∷ 0x08 ∷ 0x05 ∷ 0x00 ∷ []) defaults 64 T.Struct 0 ≡ Refused RANGE)
    × (skip_of (0x01 ∷ 0x82 ∷ 0x80 ∷ 0x08 ∷ 0x00 ∷ []) defaults 64 T.Struct 0 ≡ Refused RANGE)

pub samples : Samples
unfolding Samples skip_of past read_at value_of uncounted fields walk sizing many many_pairs done refuse and_then provided byte some int8 number32 number64 int16 int32 int64 double uuid truth binary counted listed items mapped pairs ahead backed items_head pairs_head field_id field type_code type_by_number element_type field_type defaults
samples = (refl, refl, refl, refl, refl, refl, refl, refl, refl, refl, refl, refl, refl, refl, refl, refl, refl)
