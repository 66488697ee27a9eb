-- The binary protocol's headers and values on small inputs, computed. Assumes nothing.
use mathlib.Core.Path.{◌≡◌, refl}
use mathlib.Core.Bool.{true}
use mathlib.Core.List.{[], ◌∷◌}
use lib.ListN.{replicate}
use lib.IntN.{pos, negsuc}
use Rattle.types.specs.Refusals.{END, BAD_VERSION, BAD_MESSAGE_TYPE, BAD_TYPE, BAD_BOOL, SIZE_LIMIT, NEGATIVE_SIZE, DEPTH, BAD_UTF8}
use Rattle.types.specs.Codes.{type_code, message_by_number}
use Rattle.types.specs.Limits.{defaults}
use Rattle.types.specs.declared.TType.TheVariants as T
use Rattle.types.specs.declared.TMessageType.TheVariants as M
use Rattle.types.specs.declared.TConfiguration.{TConfiguration}
use Rattle.numbers.specs.Varint.{got, refused}
use Rattle.utf8.specs.Utf8.{utf8}
use Rattle.utf8.specs.Utf8 as text-rules
use Rattle.heads.specs.Reader.{done, refuse, and_then, provided, byte, some, ahead, backed, read_at}
use Rattle.heads.specs.Heads.{int8, uuid, counted, listed, stop, value}
use Rattle.heads.specs.Answers.{place}
use Rattle.skip.specs.Walk.{sizing}
use Rattle.skip.specs.Value.{many, many_pairs}
use Rattle.skip.specs.Skip.{past}
use Rattle.skip.specs.declared.Skipped.TheVariants.{Done, Refused}
use Rattle.binary_codes.specs.Codes.{by_binary_code}
use Rattle.protocols.specs.Words.{items_head, pairs_head}
use Rattle.protocols.specs.Value.{walk_by, fields_by, value_by}
use Rattle.protocols.specs.Answers.{skip_by}
use Rattle.binary_heads.specs.Heads.{number, int16, int32, int64, double, truth, sized, text, kind, items, paired, pairs, field, sequenced, named, message}
use Rattle.binary_heads.specs.Heads as own
use Rattle.binary_heads.specs.Words.{binary}

-- strings of at most 5 bytes, containers of at most 3 elements
abbrev small : TConfiguration
small = record { depth = 3; string = 5; container = 3; message = 100 }

pub Headers : Type 0
Headers =
    -- a call, sequence 1, name t; the third byte is ignored
    (message defaults (0x80 ∷ 0x01 ∷ 0x00 ∷ 0x01 ∷ 0x00 ∷ 0x00 ∷ 0x00 ∷ 0x01 ∷ 0x74 ∷ 0x00 ∷ 0x00 ∷ 0x00 ∷ 0x01 ∷ []) ≡ got (M.Call, pos 1, 0x74 ∷ []) 13)
    × (message defaults (0x80 ∷ 0x01 ∷ 0xff ∷ 0x04 ∷ 0x00 ∷ 0x00 ∷ 0x00 ∷ 0x00 ∷ 0xff ∷ 0xff ∷ 0xff ∷ 0xff ∷ []) ≡ got (M.OneWay, negsuc 0, []) 12)
    -- END, BAD VERSION, BAD MESSAGE TYPE, in this order; then the name, then the sequence number
    × (message defaults (0x00 ∷ []) ≡ refused END)
    × (message defaults (0x00 ∷ 0x00 ∷ 0x00 ∷ 0x01 ∷ 0x74 ∷ 0x01 ∷ 0x00 ∷ 0x00 ∷ 0x00 ∷ 0x01 ∷ []) ≡ refused BAD_VERSION)
    × (message defaults (0x80 ∷ 0x02 ∷ 0x00 ∷ 0x00 ∷ []) ≡ refused BAD_VERSION)
    × (message defaults (0x80 ∷ 0x01 ∷ 0x00 ∷ 0x09 ∷ []) ≡ refused BAD_MESSAGE_TYPE)
    × (message defaults (0x80 ∷ 0x01 ∷ 0x00 ∷ 0x01 ∷ 0x80 ∷ 0x00 ∷ 0x00 ∷ 0x00 ∷ []) ≡ refused NEGATIVE_SIZE)
    × (message small (0x80 ∷ 0x01 ∷ 0x00 ∷ 0x01 ∷ 0x00 ∷ 0x00 ∷ 0x00 ∷ 0x06 ∷ []) ≡ refused SIZE_LIMIT)
    × (message defaults (0x80 ∷ 0x01 ∷ 0x00 ∷ 0x01 ∷ 0x00 ∷ 0x00 ∷ 0x00 ∷ 0x01 ∷ 0xff ∷ []) ≡ refused BAD_UTF8)
    × (message defaults (0x80 ∷ 0x01 ∷ 0x00 ∷ 0x01 ∷ 0x00 ∷ 0x00 ∷ 0x00 ∷ 0x01 ∷ 0x74 ∷ 0x00 ∷ []) ≡ refused END)
    -- fields: the stop is one byte; 1 has no type, and is found before the id is missed
    × (field (0x0c ∷ 0x00 ∷ 0x04 ∷ []) ≡ got (value T.Struct (pos 4)) 3)
    × (field (0x08 ∷ 0xff ∷ 0xff ∷ []) ≡ got (value T.I32 (negsuc 0)) 3)
    × (field (0x00 ∷ []) ≡ got stop 1)
    × (field (0x01 ∷ []) ≡ refused BAD_TYPE)
    × (field (0x02 ∷ 0x00 ∷ []) ≡ refused END)
    -- bools and numbers
    × (truth (0x01 ∷ []) ≡ got true 1)
    × (truth (0x02 ∷ []) ≡ refused BAD_BOOL)
    × (int16 (0x80 ∷ 0x00 ∷ []) ≡ got (negsuc 32767) 2)
    × (int32 (0x00 ∷ 0x00 ∷ 0x01 ∷ 0x00 ∷ []) ≡ got (pos 256) 4)
    -- counts: 9, 8, then the bytes that they call for; types before them, of an empty map too
    × (items_head binary defaults (0x0f ∷ 0x00 ∷ 0x00 ∷ 0x00 ∷ 0x01 ∷ replicate 5 0) ≡ got (T.List, 1) 5)
    × (items_head binary defaults (0x0f ∷ 0x00 ∷ 0x00 ∷ 0x00 ∷ 0x01 ∷ replicate 4 0) ≡ refused END)
    × (items_head binary defaults (0x08 ∷ 0xff ∷ 0xff ∷ 0xff ∷ 0xff ∷ []) ≡ refused NEGATIVE_SIZE)
    × (items_head binary small (0x08 ∷ 0x00 ∷ 0x00 ∷ 0x00 ∷ 0x04 ∷ []) ≡ refused SIZE_LIMIT)
    × (pairs_head binary defaults (0x0b ∷ 0x08 ∷ 0x00 ∷ 0x00 ∷ 0x00 ∷ 0x01 ∷ replicate 8 0) ≡ got (T.String, T.I32, 1) 6)
    × (pairs_head binary defaults (0x0b ∷ 0x08 ∷ 0x00 ∷ 0x00 ∷ 0x00 ∷ 0x01 ∷ replicate 7 0) ≡ refused END)
    × (pairs_head binary defaults (0x00 ∷ 0x00 ∷ 0x00 ∷ 0x00 ∷ 0x00 ∷ 0x00 ∷ []) ≡ got (T.Stop, T.Stop, 0) 6)
    × (pairs_head binary defaults (0x0b ∷ 0x01 ∷ 0x00 ∷ 0x00 ∷ 0x00 ∷ 0x00 ∷ []) ≡ refused BAD_TYPE)

pub headers : Headers
unfolding Headers message named sequenced text own.binary sized number field truth int16 int32 kind items paired pairs ahead backed done refuse and_then provided byte some counted listed message_by_number by_binary_code utf8 text-rules.past text-rules.decode defaults
headers = (refl, refl, refl, refl, refl, refl, refl, refl, refl, refl, refl, refl, refl, refl, refl, refl, refl, refl, refl, refl, refl, refl, refl, refl, refl, refl, refl)

-- values: a struct of a bool, an empty map, a list of Stop, lists at the depth limit
pub Values : Type 0
Values =
    (skip_by binary (0x02 ∷ 0x00 ∷ 0x01 ∷ 0x01 ∷ 0x08 ∷ 0x00 ∷ 0x03 ∷ 0xff ∷ 0xff ∷ 0xff ∷ 0xff ∷ 0x00 ∷ []) defaults 64 T.Struct 0 ≡ Done (place 12))
    × (skip_by binary (0x02 ∷ 0x00 ∷ 0x01 ∷ 0x02 ∷ 0x00 ∷ []) defaults 64 T.Struct 0 ≡ Refused BAD_BOOL)
    × (skip_by binary (0x00 ∷ 0x00 ∷ 0x00 ∷ 0x00 ∷ 0x00 ∷ 0x00 ∷ []) defaults 64 T.Map 0 ≡ Done (place 6))
    × (skip_by binary (0x00 ∷ 0x00 ∷ 0x00 ∷ 0x00 ∷ 0x00 ∷ []) defaults 64 T.List 0 ≡ Done (place 5))
    × (skip_by binary (0x00 ∷ 0x00 ∷ 0x00 ∷ 0x00 ∷ 0x01 ∷ 0x00 ∷ []) defaults 64 T.List 0 ≡ Refused BAD_TYPE)
    × (skip_by binary (0x0f ∷ 0x00 ∷ 0x00 ∷ 0x00 ∷ 0x01 ∷ 0x03 ∷ 0x00 ∷ 0x00 ∷ 0x00 ∷ 0x01 ∷ 0x07 ∷ []) defaults 2 T.List 0 ≡ Done (place 11))
    × (skip_by binary (0x0f ∷ 0x00 ∷ 0x00 ∷ 0x00 ∷ 0x01 ∷ 0x03 ∷ 0x00 ∷ 0x00 ∷ 0x00 ∷ 0x01 ∷ 0x07 ∷ []) defaults 1 T.List 0 ≡ Refused DEPTH)
    × (skip_by binary [] defaults 64 T.Stop 0 ≡ Refused BAD_TYPE)

pub values : Values
unfolding Values skip_by past read_at value_by fields_by walk_by sizing many many_pairs done refuse and_then provided byte some int8 number int16 int32 int64 double uuid truth sized own.binary counted listed kind items paired pairs ahead backed field type_code by_binary_code defaults
values = (refl, refl, refl, refl, refl, refl, refl, refl)
