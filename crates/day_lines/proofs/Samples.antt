-- Lines computed: a good message, one whose header is refused, and a number that the day has not. Assumes nothing.
use mathlib.Core.Path.{◌≡◌, refl}
use mathlib.Core.List.{List, [], ◌∷◌}
use Prim.Native.Nat.{ℕ}
use Rattle.types.specs.Codes.{message_by_number, message_code}
use Rattle.types.specs.Limits.{in_range}
use Rattle.utf8.specs.Utf8.{utf8, past, decode}
use Rattle.heads.specs.Reader.{read_at, read_to, done, refuse, and_then, provided, byte, some}
use Rattle.heads.specs.Heads.{number32, binary, text, named, versioned, message}
use Rattle.input.specs.State.{fresh, sound, gate}
use Rattle.input.specs.Outcome.{calls_to}
use Rattle.input.specs.Calls.{read_message, name_part}
use Rattle.text.specs.Words.{ascii, decimal, signed, hex, hexes}
use Rattle.lines.specs.Lines.{spaced_int, last_bytes, line}
use Rattle.days.specs.Day.{number, accepted, message_of}
use Rattle.day_lines.specs.Listed.{head_item, spaced, day_line}

-- the scope paper's message with an empty struct, and a byte that begins no message
abbrev two : List ℕ
two = 2 ∷ 0 ∷ 0 ∷ 0 ∷ 16 ∷ 0 ∷ 0 ∷ 0 ∷ 22 ∷ 0 ∷ 0 ∷ 0 ∷ 23 ∷ 0 ∷ 0 ∷ 0 ∷ 0x82 ∷ 0x21 ∷ 0x01 ∷ 0x01 ∷ 0x74 ∷ 0x00 ∷ 0x81 ∷ []

pub Samples : Type 0
Samples =
    (day_line two 0 ≡ ascii "0 16 6 message 1 1 x74\n")
    × (day_line two 1 ≡ ascii "1 22 1 refused 2\n")
    × (day_line two 2 ≡ ascii "refused 18\n")

pub samples : Samples
unfolding Samples day_line spaced head_item message_of accepted number line spaced_int last_bytes decimal signed hex hexes read_message name_part calls_to gate sound fresh in_range read_at read_to done refuse and_then provided byte some number32 binary text named versioned message message_by_number message_code utf8 past decode
samples = (refl, refl, refl)
