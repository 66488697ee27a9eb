-- The lines of the scope paper's sample bytes that say what is written, computed on the calls' definitions: the bytes that a new writer's buffer
-- of zeros holds up to the place of the next state. Assumes nothing.
use mathlib.Core.Path.{◌≡◌, refl}
use mathlib.Core.List.{List, [], ◌∷◌}
use Prim.Native.Nat.{ℕ}
use lib.IntN.{ℤ, pos, negsuc}
use lib.ListN.{take, replicate}
use Rattle.types.specs.Limits.{in_range, defaults}
use Rattle.types.specs.Codes.{type_code, message_code}
use Rattle.types.specs.declared.TType.TheVariants as T
use Rattle.types.specs.declared.TMessageType.TheVariants as M
use Rattle.types.specs.declared.SeqNo.{SeqNo}
use Rattle.numbers.specs.Varint.{fewest}
use Rattle.numbers.specs.Answers.{wrote_at, put_at}
use Rattle.utf8.specs.Utf8.{utf8, past, decode}
use Rattle.puts.specs.Wrong.{or_else, length_wrong, text_wrong, field_wrong, count_wrong}
use Rattle.output.specs.State.{State, id_of, unsound, in_turn, begun, headed}
use Rattle.puts.specs.Bytes.{short_delta, field_bytes, items_bytes, pairs_bytes, string_bytes, message_bytes}
use Rattle.output.specs.Calls.{Call, settled, size_wrong, why_not, writes, leaves, int_call, field_call, items_call, pairs_call, message_call}
use Rattle.output.specs.declared.WriteAnswer.TheVariants as WA

-- a new writer whose last id is this
abbrev pub last : ℤ → State
last z = headed (begun defaults) (id_of z)

abbrev pub zeros : List ℕ
zeros = replicate 8 0

-- what a call writes
abbrev pub sent : State → Call → List ℕ
sent st k = take (writes zeros st k).state.place.0 (leaves zeros st k)

abbrev pub seq : ℤ → SeqNo
seq z = record { 0 = z }

-- "i16 -32768 is FF FF 03"
abbrev pub T2 : Type 0
T2 = sent (last (pos 0)) (int_call (last (pos 0)) (negsuc 32767)) ≡ 0xff ∷ 0xff ∷ 0x03 ∷ []

-- "last id 0, i32 field: id 14 is E5, id 15 is 05 1E"
abbrev pub T5 : Type 0
T5 =
    (sent (last (pos 0)) (field_call (last (pos 0)) T.I32 (id_of (pos 14))) ≡ 0xe5 ∷ [])
    × (sent (last (pos 0)) (field_call (last (pos 0)) T.I32 (id_of (pos 15))) ≡ 0x05 ∷ 0x1e ∷ [])

-- "last 32767, id -32768, i32: 05 FF FF 03"
abbrev pub T7 : Type 0
T7 = sent (last (pos 32767)) (field_call (last (pos 32767)) T.I32 (id_of (negsuc 32767))) ≡ 0x05 ∷ 0xff ∷ 0xff ∷ 0x03 ∷ []

-- "list of i32: 14 is E5, 15 is F5 0F"
abbrev pub T9 : Type 0
T9 =
    (sent (last (pos 0)) (items_call (last (pos 0)) T.I32 (pos 14)) ≡ 0xe5 ∷ [])
    × (sent (last (pos 0)) (items_call (last (pos 0)) T.I32 (pos 15)) ≡ 0xf5 ∷ 0x0f ∷ [])

-- "empty map 00; one string to i32: 01 85"
abbrev pub T11 : Type 0
T11 =
    (sent (last (pos 0)) (pairs_call (last (pos 0)) T.String T.I32 (pos 0)) ≡ 0x00 ∷ [])
    × (sent (last (pos 0)) (pairs_call (last (pos 0)) T.String T.I32 (pos 1)) ≡ 0x01 ∷ 0x85 ∷ [])

-- "call, sequence 1, name t: 82 21 01 01 74"
abbrev pub T12 : Type 0
T12 = sent (last (pos 0)) (message_call (last (pos 0)) M.Call (seq (pos 1)) (0x74 ∷ [])) ≡ 0x82 ∷ 0x21 ∷ 0x01 ∷ 0x01 ∷ 0x74 ∷ []

pub rows : T2 × T5 × T7 × T9 × T11 × T12
unfolding writes leaves settled size_wrong why_not or_else unsound in_turn begun in_range defaults fewest wrote_at put_at field_call field_wrong count_wrong length_wrong text_wrong short_delta field_bytes items_bytes pairs_bytes string_bytes message_bytes type_code message_code utf8 past decode
rows = (refl, (refl, refl), refl, (refl, refl), (refl, refl), refl)

-- A count of -1 is refused, and writes nothing.
pub no_negative : ((writes zeros (last (pos 0)) (items_call (last (pos 0)) T.I32 (negsuc 0))).answer ≡ WA.Refused 9) × (sent (last (pos 0)) (items_call (last (pos 0)) T.I32 (negsuc 0)) ≡ [])
unfolding writes leaves settled size_wrong why_not or_else unsound in_turn begun in_range defaults wrote_at put_at count_wrong items_bytes type_code
no_negative = (refl, refl)
