-- The printing program's text, and what its calls answer. Assumes nothing: these are definitions.
use Rattle.std.specs.Prelude.{ℕ, ◌-◌, cond, List, [], ◌∷◌, ◌++◌, length, drop, ltb}
use Rattle.types.specs.Refusals.{NO_ROOM}
use Rattle.types.specs.declared.TType.TheVariants as T
use Rattle.types.specs.declared.TConfiguration.{TConfiguration}
use Rattle.types.specs.Value.{Tree}
use Rattle.numbers.specs.Varint.{Found, got, refused, placed}
use Rattle.heads.specs.Answers.{place}
use Rattle.heads.specs.Heads as heads
use Rattle.text.specs.Pen.{Pen, inked}
use Rattle.lines.specs.Lines as row
use Rattle.lines.specs.Lines.{Item, lines}
use Rattle.printer.specs.Telling.{Teller, quiet, aloud, then_tell}
use Rattle.printer.specs.Value.{value_told}
use Rattle.printer.specs.declared.Printed.{Printed}
use Rattle.printer.specs.declared.Printed.TheVariants as P
use Rattle.printer.specs.declared.Text.{Text}
use Rattle.printer.specs.declared.Text.TheVariants as X

-- how a telling that began at a place ended, with the pen behind its lines
abbrev pub ended : {A : Type 0} → Found A → Pen → Printed × List ℕ
ended (got a e) p = (P.Went (place e) p.1, p.0)
ended (refused why) p = (P.Stopped why p.1, p.0)

-- what a function that prints a telling answers, and the buffer that it leaves
unfoldable pub prints : {A : Type 0} → Teller A → List ℕ → ℕ → Pen → Printed × List ℕ
prints t s at p = ended (placed at (t (drop at s)).found) (inked (lines (t (drop at s)).items) p)

-- "It reads one message and one struct from standard input"
unfoldable pub message_told : TConfiguration → ℕ → Teller Tree
message_told lim room = then_tell (quiet (heads.message lim)) (λ m. aloud (row.message m.0 m.1 m.2) (value_told lim room T.Struct))

-- "limits 64, 65,536, 65,536"; "The printer's ceiling is 65,536", which no input that is printed passes (`uncut` in print_laws)
abbrev pub limits : TConfiguration
limits = record { depth = 64; string = 65536; container = 65536; message = 65536 }

-- "At the end `end USED LEFT`, or `refused N` after the lines so far"
abbrev pub ending : {A : Type 0} → ℕ → Found A → Item
ending len (got a n) = row.end n (len - n)
ending len (refused why) = row.refusal why

-- the items of a message and its struct, and how it ended
unfoldable pub whole : List ℕ → List Item
whole s = (message_told limits 64 s).items ++ (ending (length s) (message_told limits 64 s).found ∷ [])

-- the items of the input: "up to 65,536 bytes (more: the one line `refused 14`)"
unfoldable pub report : List ℕ → List Item
report s = cond (ltb 65536 (length s)) (row.refusal NO_ROOM ∷ []) (whole s)

-- the text
unfoldable pub text_of : List ℕ → List ℕ
text_of s = lines (report s)

-- what the call answers, and the buffer that it leaves: NO ROOM where that is shorter than the longest text's room
abbrev pub written : Pen → Text × List ℕ
written p = (X.Wrote p.1, p.0)

unfoldable pub print_call : List ℕ → List ℕ → Text × List ℕ
print_call s out = cond (ltb (length out) 4194304) (X.Refused NO_ROOM, out) (written (inked (text_of s) (out, 0)))
