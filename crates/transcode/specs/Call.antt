-- What a translation of a lent input into a lent buffer is to answer and to leave: one message and its struct, from the input's start to the buffer's start.
-- Assumes nothing: these are definitions.
use Rattle.std.specs.Prelude.{ℕ, cond, List, length, leb}
use Rattle.types.specs.Refusals.{BAD_STATE, MESSAGE_SIZE, NO_ROOM}
use Rattle.types.specs.Limits.{in_range}
use Rattle.types.specs.declared.TConfiguration.{TConfiguration}
use Rattle.numbers.specs.Varint.{Found, got, refused}
use Rattle.numbers.specs.Answers.{put_at}
use Rattle.heads.specs.Reader.{read_to}
use Rattle.protocols.specs.Words.{Words}
use Rattle.transcode.specs.Pens.{Pens}
use Rattle.transcode.specs.Letter.{translated_by}

-- "the bytes used and written", or the number of a refusal
pub data Outcome : Type 0 where
  done : ℕ → ℕ → Outcome
  not : ℕ → Outcome

-- "Each side counts its own ceiling from its own message's first byte": the input ends at it
unfoldable pub found_in : Words → Pens → TConfiguration → List ℕ → Found (List ℕ)
found_in w p lim s = read_to (translated_by w p lim) s lim.message 0

-- behind what the input shows: "then 19 of the output; then 14"
abbrev pub ending : TConfiguration → List ℕ → Found (List ℕ) → Outcome
ending lim out (got bs n) = cond (leb (length bs) lim.message) (cond (leb (length bs) (length out)) (done n (length bs)) (not NO_ROOM)) (not MESSAGE_SIZE)
ending lim out (refused why) = not why

abbrev pub leaving : TConfiguration → List ℕ → Found (List ℕ) → List ℕ
leaving lim out (got bs n) = cond (leb (length bs) lim.message) (cond (leb (length bs) (length out)) (put_at out 0 bs) out) out
leaving lim out (refused why) = out

-- "Refusals: 15 .. ; what the input shows, in reading order; then 19 of the output; then 14; and nothing is written before all of these are past"
unfoldable pub translates : Words → Pens → TConfiguration → List ℕ → List ℕ → Outcome
translates w p lim s out = cond (in_range lim) (ending lim out (found_in w p lim s)) (not BAD_STATE)

unfoldable pub leaves : Words → Pens → TConfiguration → List ℕ → List ℕ → List ℕ
leaves w p lim s out = cond (in_range lim) (leaving lim out (found_in w p lim s)) out
