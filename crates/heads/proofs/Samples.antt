-- Counts that can't be there, computed on what the header calls answer. Assumes nothing.
use mathlib.Core.Path.{◌≡◌, refl}
use mathlib.Core.List.{List, [], ◌∷◌, ◌++◌}
use Prim.Native.Nat.{ℕ, ◌*◌}
use lib.ListN.{length, replicate}
use Rattle.types.specs.Refusals.{END, BAD_TYPE, SIZE_LIMIT, NEGATIVE_SIZE}
use Rattle.types.specs.Codes.{type_by_number, element_type}
use Rattle.types.specs.Limits.{defaults}
use Rattle.types.specs.declared.TType.TheVariants as T
use Rattle.types.specs.declared.TConfiguration.{TConfiguration}
use Rattle.heads.specs.Reader.{done, refuse, and_then, provided, byte, ahead, backed, read_at}
use Rattle.heads.specs.Heads.{number32, counted, listed, items, mapped, pairs, least_size, items_head, pairs_head}
use Rattle.heads.specs.Answers.{place, items_head_at, pairs_head_at}
use Rattle.heads.specs.declared.ListHead.TheVariants as L
use Rattle.heads.specs.declared.MapHead.TheVariants as M

-- "A damaged header promised two thousand million doubles in a 40-byte frame"; the same as field 1 of a struct
abbrev damaged : List ℕ
damaged = 0xf7 ∷ 0x80 ∷ 0xa8 ∷ 0xd6 ∷ 0xb9 ∷ 0x07 ∷ []

abbrev pub frame : List ℕ
frame = damaged ++ replicate 34 0

abbrev pub struct_frame : List ℕ
struct_frame = 0x19 ∷ damaged ++ replicate 33 0

-- containers of at most 100
abbrev small : TConfiguration
small = record { depth = 64; string = 100; container = 100; message = 100 }

pub Samples : Type 0
Samples =
    (length frame ≡ 40)
    × (length struct_frame ≡ 40)
    × (items_head_at frame defaults 0 ≡ L.Refused END)
    -- 2^28 uuids are 2^32 bytes, which is 0 in 32 bits: no product wraps
    × (268435456 * least_size T.Uuid ≡ 4294967296)
    × (items_head_at (0xfd ∷ 0x80 ∷ 0x80 ∷ 0x80 ∷ 0x80 ∷ 0x01 ∷ replicate 16 0) defaults 0 ≡ L.Refused END)
    × (pairs_head_at (0x80 ∷ 0x80 ∷ 0x80 ∷ 0x80 ∷ 0x01 ∷ 0xdd ∷ replicate 32 0) defaults 0 ≡ M.Refused END)
    × (pairs_head_at (0xff ∷ 0xff ∷ 0xff ∷ 0xff ∷ 0x07 ∷ 0xdd ∷ replicate 32 0) defaults 0 ≡ M.Refused END)
    -- the very number of bytes is enough: 2 doubles, a uuid, a string to a double, a uuid to a bool
    × (items_head_at (0x27 ∷ replicate 16 0) defaults 0 ≡ L.Got T.Double 2 (place 1))
    × (items_head_at (0x27 ∷ replicate 15 0) defaults 0 ≡ L.Refused END)
    × (items_head_at (0x1d ∷ replicate 16 0) defaults 0 ≡ L.Got T.Uuid 1 (place 1))
    × (items_head_at (0x1d ∷ replicate 15 0) defaults 0 ≡ L.Refused END)
    × (pairs_head_at (0x01 ∷ 0x87 ∷ replicate 9 0) defaults 0 ≡ M.Got T.String T.Double 1 (place 2))
    × (pairs_head_at (0x01 ∷ 0x87 ∷ replicate 8 0) defaults 0 ≡ M.Refused END)
    × (pairs_head_at (0x01 ∷ 0xd1 ∷ replicate 17 0) defaults 0 ≡ M.Got T.Uuid T.Bool 1 (place 2))
    × (pairs_head_at (0x01 ∷ 0xd1 ∷ replicate 16 0) defaults 0 ≡ M.Refused END)
    -- no element, no byte
    × (items_head_at (0x07 ∷ []) defaults 0 ≡ L.Got T.Double 0 (place 1))
    × (pairs_head_at (0x00 ∷ []) defaults 0 ≡ M.Got T.Stop T.Stop 0 (place 1))
    -- Stop is one of "every other type"
    × (items_head_at (0x30 ∷ 0x00 ∷ 0x00 ∷ []) defaults 0 ≡ L.Refused END)
    × (items_head_at (0x30 ∷ 0x00 ∷ 0x00 ∷ 0x00 ∷ []) defaults 0 ≡ L.Got T.Stop 3 (place 1))
    -- "checked after NEGATIVE SIZE and SIZE LIMIT", and so after the types
    × (items_head_at (0xfd ∷ 0xff ∷ 0xff ∷ 0xff ∷ 0xff ∷ 0x0f ∷ []) defaults 0 ≡ L.Refused NEGATIVE_SIZE)
    × (items_head_at (0xfd ∷ 0x65 ∷ []) small 0 ≡ L.Refused SIZE_LIMIT)
    × (items_head_at (0xfd ∷ 0x64 ∷ []) small 0 ≡ L.Refused END)
    × (pairs_head_at (0xff ∷ 0xff ∷ 0xff ∷ 0xff ∷ 0x0f ∷ 0xdd ∷ []) defaults 0 ≡ M.Refused NEGATIVE_SIZE)
    × (pairs_head_at (0x65 ∷ 0xdd ∷ []) small 0 ≡ M.Refused SIZE_LIMIT)
    × (pairs_head_at (0x64 ∷ 0xdd ∷ []) small 0 ≡ M.Refused END)
    × (pairs_head_at (0x64 ∷ 0xde ∷ []) small 0 ≡ M.Refused BAD_TYPE)

pub samples : Samples
unfolding Samples defaults items_head_at pairs_head_at items_head pairs_head read_at ahead backed done refuse and_then provided byte number32 counted listed items mapped pairs type_by_number element_type
samples = (refl, refl, refl, refl, refl, refl, refl, refl, refl, refl, refl, refl, refl, refl, refl, refl, refl, refl, refl, refl, refl, refl, refl, refl, refl, refl)
