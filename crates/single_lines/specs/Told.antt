-- What the program says of a message's doubles: "`yes N no N nan N` or `refused N`". Assumes nothing: these are definitions.
use Rattle.std.specs.Prelude.{ℕ, cond, List, ◌++◌, ltb, length}
use Rattle.types.specs.Refusals.{NO_ROOM}
use Rattle.types.specs.declared.TConfiguration.{TConfiguration}
use Rattle.input.specs.State.{State, fresh}
use Rattle.input.specs.Calls.{read_message}
use Rattle.input.specs.declared.MessageAnswer.{MessageAnswer}
use Rattle.input.specs.declared.MessageAnswer.TheVariants as M
use Rattle.text.specs.Words.{ascii, decimal}
use Rattle.lines.specs.Lines.{line, refusal}
use Rattle.single.specs.declared.Counts.{Counts}
use Rattle.doubles.specs.Calls.{counts_call}
use Rattle.doubles.specs.declared.CountsAnswer.{CountsAnswer}
use Rattle.doubles.specs.declared.CountsAnswer.TheVariants as C

-- the line of the counts
unfoldable pub counts_line : Counts → List ℕ
counts_line c =
    ascii "yes " ++ (decimal c.yes ++ (ascii " no " ++ (decimal c.no ++ (ascii " nan " ++ (decimal c.nan ++ ascii "\n")))))

unfoldable pub struct_line : CountsAnswer → List ℕ
struct_line (C.Got c) = counts_line c
struct_line (C.Refused why) = line (refusal why)

-- one message "as the printer reads it", limits and ceiling too
abbrev pub limits : TConfiguration
limits = record { depth = 64; string = 65536; container = 65536; message = 65536 }

-- behind the header
abbrev pub message_line : List ℕ → State → MessageAnswer → List ℕ
message_line s next (M.Got m q a e) = struct_line (counts_call s next).answer
message_line s next (M.Refused why) = line (refusal why)

-- "More than 65,536 bytes: `refused 14`"
unfoldable pub singles_text : List ℕ → List ℕ
singles_text s = cond (ltb 65536 (length s)) (line (refusal NO_ROOM)) (message_line s (read_message s (fresh limits)).state (read_message s (fresh limits)).answer)
