-- Samples of frames, computed: T13's struct cut at every place, early ENDs, an overlong number, nesting over the limit. Assumes nothing.
use mathlib.Core.Path.{◌≡◌, refl}
use mathlib.Core.List.{List, [], ◌∷◌, ◌++◌}
use Prim.Native.Nat.{ℕ}
use lib.ListN.{replicate}
use Rattle.types.specs.Refusals.{END, BAD_TYPE, BAD_BOOL, DEPTH, LONG_VARINT, SIZE_LIMIT, RANGE, MESSAGE_SIZE}
use Rattle.types.specs.Codes.{type_code, type_by_number, element_type, field_type}
use Rattle.types.specs.Limits.{defaults}
use Rattle.frame.specs.Ask.{done, refuse, and_then, provided, byte, some, ahead, backed, told, Told, ends, refuses, waits}
use Rattle.frame.specs.Plans.{number32, number64, int32, int16, counted, listed, items, mapped, pairs, items_head, pairs_head, field_id, field, number, short, truth, binary, many, many_pairs, walk, fields, skip_plan, Passed}
use Rattle.frame.specs.Frame.{frame}

abbrev of : ℕ → List ℕ → Told Passed
of n bs = frame defaults n bs

abbrev under : ℕ → ℕ → List ℕ → Told Passed
under most n bs = frame (record { depth = 64; string = 100; container = 100; message = most }) n bs

pub Samples : Type 0
Samples =
    -- T13, cut at every place
    (of 4 [] ≡ waits)
    × (of 4 (0x11 ∷ []) ≡ waits)
    × (of 4 (0x11 ∷ 0x25 ∷ []) ≡ waits)
    × (of 4 (0x11 ∷ 0x25 ∷ 0x01 ∷ []) ≡ waits)
    × (of 4 (0x11 ∷ 0x25 ∷ 0x01 ∷ 0x00 ∷ []) ≡ ends tt 4)
    -- bytes past the announced length have no say; announced too short, or too long
    × (of 4 (0x11 ∷ 0x25 ∷ 0x01 ∷ 0x00 ∷ 0xff ∷ []) ≡ ends tt 4)
    × (of 3 (0x11 ∷ 0x25 ∷ []) ≡ waits)
    × (of 3 (0x11 ∷ 0x25 ∷ 0x01 ∷ []) ≡ refuses END)
    × (of 3 (0x11 ∷ 0x25 ∷ 0x01 ∷ 0x00 ∷ []) ≡ refuses END)
    × (of 9 (0x11 ∷ 0x25 ∷ 0x01 ∷ 0x00 ∷ []) ≡ ends tt 4)
    × (of 0 [] ≡ refuses END)
    -- a double that fits leaves the stop waited for; one byte less, and END comes with its header
    × (of 10 (0x17 ∷ []) ≡ waits)
    × (of 9 (0x17 ∷ []) ≡ refuses END)
    × (of 10 (0x17 ∷ 0 ∷ 0 ∷ 0 ∷ 0 ∷ 0 ∷ 0 ∷ 0 ∷ 0 ∷ []) ≡ waits)
    × (of 10 (0x17 ∷ 0 ∷ 0 ∷ 0 ∷ 0 ∷ 0 ∷ 0 ∷ 0 ∷ 0 ∷ 0 ∷ []) ≡ ends tt 10)
    -- a string's body longer than announced; over its limit
    × (of 100 (0x18 ∷ []) ≡ waits)
    × (of 100 (0x18 ∷ 0x62 ∷ []) ≡ refuses END)
    × (of 100 (0x18 ∷ 0x61 ∷ []) ≡ waits)
    × (of 100 (0x18 ∷ 0x80 ∷ 0x80 ∷ 0x80 ∷ 0x80 ∷ 0x01 ∷ []) ≡ refuses SIZE_LIMIT)
    -- LONG VARINT with its fifth byte, END where the announced length has no fifth
    × (of 100 (0x15 ∷ 0xff ∷ 0xff ∷ 0xff ∷ 0xff ∷ []) ≡ waits)
    × (of 100 (0x15 ∷ 0xff ∷ 0xff ∷ 0xff ∷ 0xff ∷ 0xff ∷ []) ≡ refuses LONG_VARINT)
    × (of 5 (0x15 ∷ 0xff ∷ 0xff ∷ 0xff ∷ 0xff ∷ []) ≡ refuses END)
    -- a list of 20 i8 in 21 bytes left; in 20 there is none for the stop
    × (of 24 (0x19 ∷ 0xf3 ∷ 0x14 ∷ []) ≡ waits)
    × (of 23 (0x19 ∷ 0xf3 ∷ 0x14 ∷ []) ≡ refuses END)
    -- BAD BOOL in a list; Stop as element type
    × (of 9 (0x19 ∷ 0x21 ∷ 0x02 ∷ 0x03 ∷ []) ≡ refuses BAD_BOOL)
    × (of 9 (0x19 ∷ 0x10 ∷ []) ≡ refuses BAD_TYPE)
    -- nesting: the outer struct and 63 inner; one more is refused before its first byte
    × (of 200 (replicate 63 0x1c) ≡ waits)
    × (of 200 (replicate 64 0x1c) ≡ refuses DEPTH)
    × (of 200 (replicate 63 0x1c ++ replicate 64 0) ≡ ends tt 127)
    -- DEPTH behind a body that has not come: in the innermost struct a map of i8 to list, with its types
    × (of 200 (replicate 62 0x1c ++ 0x1b ∷ 0x01 ∷ []) ≡ waits)
    × (of 200 (replicate 62 0x1c ++ 0x1b ∷ 0x01 ∷ 0x39 ∷ []) ≡ refuses DEPTH)
    -- RANGE: an i16 of 65536, a field id of 65537, a bool field's; the last that fits
    × (of 9 (0x14 ∷ 0x80 ∷ 0x80 ∷ []) ≡ waits)
    × (of 9 (0x14 ∷ 0x80 ∷ 0x80 ∷ 0x08 ∷ []) ≡ refuses RANGE)
    × (of 9 (0x14 ∷ 0xff ∷ 0xff ∷ 0x03 ∷ []) ≡ waits)
    × (of 9 (0x05 ∷ 0x82 ∷ 0x80 ∷ 0x08 ∷ []) ≡ refuses RANGE)
    × (of 9 (0x01 ∷ 0x82 ∷ 0x80 ∷ 0x08 ∷ []) ≡ refuses RANGE)
    -- counts that can't be there, with the header: two doubles in 15 bytes, and in 16, where the stop has none
    × (of 17 (0x19 ∷ 0x27 ∷ []) ≡ refuses END)
    × (of 18 (0x19 ∷ 0x27 ∷ []) ≡ refuses END)
    × (of 19 (0x19 ∷ 0x27 ∷ []) ≡ waits)
    × (of 9 (0x1b ∷ 0x04 ∷ 0x55 ∷ []) ≡ refuses END)
    -- the ceiling: of 4 bytes announced 3 are within it, 4 are enough, and bytes past the announced length are none
    × (under 3 4 (0x11 ∷ 0x25 ∷ []) ≡ waits)
    × (under 3 4 (0x11 ∷ 0x25 ∷ 0x01 ∷ []) ≡ refuses MESSAGE_SIZE)
    × (under 4 9 (0x11 ∷ 0x25 ∷ 0x01 ∷ 0x00 ∷ []) ≡ ends tt 4)
    × (under 3 3 (0x11 ∷ 0x25 ∷ 0x01 ∷ []) ≡ refuses END)
    × (under 0 4 [] ≡ refuses MESSAGE_SIZE)
    × (under 9 20 (0x17 ∷ []) ≡ refuses MESSAGE_SIZE)
    × (under 9 20 (0x18 ∷ 0x80 ∷ 0x80 ∷ 0x80 ∷ 0x80 ∷ 0x01 ∷ []) ≡ refuses SIZE_LIMIT)
    -- no nesting at all
    × (frame (record { depth = 0; string = 9; container = 9; message = 9 }) 0 [] ≡ refuses DEPTH)

pub samples : Samples
unfolding Samples frame told skip_plan fields walk many many_pairs done refuse and_then provided byte some ahead backed number32 number64 int32 int16 number short truth binary counted listed items mapped pairs items_head pairs_head field_id field type_code type_by_number element_type field_type defaults
samples = (refl, refl, refl, refl, refl, refl, refl, refl, refl, refl, refl, refl, refl, refl, refl, refl, refl, refl, refl, refl, refl, refl, refl, refl, refl, refl, refl, refl, refl, refl, refl, refl, refl, refl, refl, refl, refl, refl, refl, refl, refl, refl, refl, refl, refl, refl, refl, refl)
