-- The line of one message of a day file: its number, its offset, its length, and its header's line as the printing program has it. Assumes nothing: these are definitions.
use Rattle.std.specs.Prelude.{ℕ, List, ◌++◌, length}
use Rattle.types.specs.declared.TConfiguration.{TConfiguration}
use Rattle.input.specs.State.{fresh}
use Rattle.input.specs.Calls.{read_message, name_part}
use Rattle.input.specs.declared.MessageAnswer.{MessageAnswer}
use Rattle.input.specs.declared.MessageAnswer.TheVariants as H
use Rattle.text.specs.Words.{ascii, decimal}
use Rattle.lines.specs.Lines.{Item, message, refusal, line}
use Rattle.days.specs.Day.{message_of, part_of}
use Rattle.days.specs.declared.Part.{Part}
use Rattle.days.specs.declared.Part.TheVariants as P

-- the printing program's: "limits 64, 65,536, 65,536"; "The printer's ceiling is 65,536"
abbrev pub limits : TConfiguration
limits = record { depth = 64; string = 65536; container = 65536; message = 65536 }

-- `message TYPE SEQUENCE NAME`, or `refused N`: what the message call of a new reader answers
abbrev pub to_item : List ℕ → MessageAnswer → Item
to_item name (H.Got m z a e) = message m z.0 name
to_item name (H.Refused why) = refusal why

unfoldable pub head_item : List ℕ → Item
head_item bytes = to_item (name_part bytes (fresh limits)) (read_message bytes (fresh limits)).answer

-- a number, and a space behind it
unfoldable pub spaced : ℕ → List ℕ
spaced n = decimal n ++ ascii " "

-- number, offset, length and header; or why there is no such message
abbrev pub line_of : ℕ → List ℕ → Part → List ℕ
line_of k bytes (P.At a e) = spaced k ++ (spaced a ++ (spaced (length bytes) ++ line (head_item bytes)))
line_of k bytes (P.Refused why) = line (refusal why)

unfoldable pub day_line : List ℕ → ℕ → List ℕ
day_line file k = line_of k (part_of file (message_of file k)) (message_of file k)
