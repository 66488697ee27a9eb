-- What is said of a fault: a line for machines, and below it lines for people. Assumes nothing: these are definitions.
use Rattle.std.specs.Prelude.{ℕ, ◌-◌, Bool, false, cond, List, [], ◌∷◌, ◌++◌, ltb, length, take, drop, get_or}
use Rattle.types.specs.Refusals.{NO_ROOM}
use Rattle.types.specs.declared.TConfiguration.{TConfiguration}
use Rattle.input.specs.State.{fresh}
use Rattle.input.specs.Calls.{read_message}
use Rattle.faults.specs.Tracked as way
use Rattle.faults.specs.Tracked.{Step}
use Rattle.faults.specs.Fault.{Fault, accepted, fault, faults, why_message}
use Rattle.faults.specs.declared.Verdict.{Verdict}
use Rattle.faults.specs.declared.Verdict.TheVariants as Say
use Rattle.text.specs.Words.{ascii, decimal, signed, hex}
use Rattle.days.specs.Day.{message_of, part_of}
use Rattle.days.specs.declared.Part.{Part}
use Rattle.days.specs.declared.Part.TheVariants as P

-- "the path, outermost first, as words and numbers": the word of a step, and its number
unfoldable pub step_words : Step → List ℕ
step_words (way.field id) = ascii "field " ++ signed id
step_words (way.element i) = ascii "element " ++ decimal i
step_words (way.key i) = ascii "key " ++ decimal i
step_words (way.value i) = ascii "value " ++ decimal i

-- the steps, each with something before it
unfoldable pub path_words : List ℕ → List Step → List ℕ
path_words before [] = []
path_words before (i ∷ path) = before ++ (step_words i ++ path_words before path)

-- "`accepted USED`, or `refused NUMBER at OFFSET` and then the path"
unfoldable pub refused_at : ℕ → ℕ → List ℕ
refused_at why off = ascii "refused " ++ (decimal why ++ (ascii " at " ++ decimal off))

unfoldable pub fault_line : Fault → List ℕ
fault_line (accepted e) = ascii "accepted " ++ (decimal e ++ ascii "\n")
fault_line (fault why off path) = refused_at why off ++ (path_words (ascii " ") path ++ ascii "\n")

-- "the refusal's name and sentence", by its number
abbrev pub names : List (List ℕ)
names =
    ascii "UNKNOWN"
    ∷ ascii "END: a byte needed lies past the input, or a container's elements can't be in what is left of it"
    ∷ ascii "BAD VERSION: the first message byte is not 0x82, or the version is not 1"
    ∷ ascii "BAD MESSAGE TYPE: a message type out of 1 to 4"
    ∷ ascii "BAD TYPE: a code without a type, or Stop where a value's type is asked"
    ∷ ascii "BAD BOOL: an element bool is not 0, 1 or 2"
    ∷ ascii "LONG VARINT: a varint of more bytes than its width allows"
    ∷ ascii "FIELD ID: the last id plus the delta is over 32767"
    ∷ ascii "SIZE LIMIT: a length or count over its limit"
    ∷ ascii "NEGATIVE SIZE: a count below 0"
    ∷ ascii "DEPTH: a struct or a container beyond the depth limit"
    ∷ ascii "BAD UTF-8: a string or a message name that is not UTF-8"
    ∷ ascii "OUT OF TURN: a bool waits for the bool call"
    ∷ ascii "UNKNOWN"
    ∷ ascii "NO ROOM: more bytes than there is room for, which is 65536 for a message"
    ∷ ascii "BAD STATE: a limit out of its range, a place out of its message, or a state that is none"
    ∷ ascii "BAD LIST: a list of wanted fields that is none"
    ∷ ascii "RANGE: an i16, as value or field id, outside -32768 to 32767"
    ∷ ascii "BAD DAY: no day file, or no message of this number"
    ∷ ascii "MESSAGE SIZE: a byte needed lies past the message's ceiling, with input behind it"
    ∷ []

unfoldable pub words_of : ℕ → List ℕ
words_of why = get_or names why (ascii "UNKNOWN")

unfoldable pub name_of : ℕ → List ℕ
name_of why = words_of why ++ ascii ".\n"

-- bytes in hex, a space before each
unfoldable pub spaced_hex : List ℕ → List ℕ
spaced_hex [] = []
spaced_hex (b ∷ bs) = ascii " " ++ (hex 2 b ++ spaced_hex bs)

-- the bytes from the offset on: the byte itself is marked, and seven stand behind it. A byte that is missing is --
unfoldable pub own_hex : List ℕ → List ℕ
own_hex [] = ascii " [--]\n"
own_hex (b ∷ bs) = ascii " [" ++ (hex 2 b ++ (ascii "]" ++ (spaced_hex (take 7 bs) ++ ascii "\n")))

-- "the sixteen bytes around the offset in hex with the byte marked": the place of the first, and eight before the offset; nothing where it lies past the input
unfoldable pub around : List ℕ → ℕ → List ℕ
around s off =
    cond (ltb (length s) off) []
    (decimal (off - 8) ++ (ascii ":" ++ (spaced_hex (take (off - (off - 8)) (drop (off - 8) s)) ++ own_hex (drop off s))))

-- the lines for people: the name, "the path as a sentence", of the steps' words, and the bytes
unfoldable pub below_of : List ℕ → ℕ → ℕ → List ℕ → List ℕ
below_of s why off steps = name_of why ++ (ascii "In the struct" ++ (steps ++ (ascii ".\n" ++ around s off)))

-- what is said of a struct in an input: the first line, and the lines for people where they are wanted
unfoldable pub struct_text : Bool → List ℕ → Fault → List ℕ
struct_text more s (accepted e) = fault_line (accepted e)
struct_text more s (fault why off path) = fault_line (fault why off path) ++ cond more (below_of s why off (path_words (ascii ", ") path)) []

-- "a message header that is refused has its own offset by the same rules and no path"
unfoldable pub head_text : Bool → List ℕ → ℕ → ℕ → List ℕ
head_text more s why off = fault_line (fault why off []) ++ cond more (name_of why ++ (ascii "In the message's header.\n" ++ around s off)) []

-- "reads one message as the printer does, limits and ceiling too"
abbrev pub limits : TConfiguration
limits = record { depth = 64; string = 65536; container = 65536; message = 65536 }

-- the header, and the struct behind one that is accepted
unfoldable pub message_text : Bool → List ℕ → Verdict → List ℕ
message_text more s (Say.Accepted e) = struct_text more s (faults s (read_message s (fresh limits)).state)
message_text more s (Say.Refused why off n) = head_text more s why off

-- "Up to 65,536 bytes as the printer; more is `refused 14 at 0`"
unfoldable pub long_text : Bool → List ℕ
long_text more = fault_line (fault NO_ROOM 0 []) ++ cond more (name_of NO_ROOM) []

unfoldable pub fault_text : Bool → List ℕ → List ℕ
fault_text more s = cond (ltb 65536 (length s)) (long_text more) (message_text more s (why_message s (fresh limits)))

-- a message of a day: its number and its first line; or why there is no such message
abbrev pub day_line_of : List ℕ → Part → List ℕ
day_line_of bytes (P.At a e) = fault_text false bytes
day_line_of bytes (P.Refused why) = fault_line (fault why 0 [])

unfoldable pub day_fault : List ℕ → ℕ → List ℕ
day_fault file k = decimal k ++ (ascii " " ++ day_line_of (part_of file (message_of file k)) (message_of file k))
