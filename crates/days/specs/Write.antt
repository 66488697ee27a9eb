-- What the writer answers and leaves. It is given the messages one behind the other, with where each ends. Assumes nothing: these are definitions.
use Rattle.std.specs.Prelude.{ℕ, ◌+◌, ◌*◌, Bool, cond, ◌&&◌, List, [], ◌∷◌, length, eqb, leb, ltb}
use Rattle.std.proofs.Math.Seq.{slice}
use Rattle.numbers.specs.Answers.{wrote_at, put_at}
use Rattle.numbers.specs.declared.Wrote.{Wrote}
use Rattle.numbers.specs.declared.Wrote.TheVariants as W
use Rattle.types.specs.Refusals.{BAD_DAY}
use Rattle.days.specs.Day.{words, day_of}

-- the messages: each from where the one before ends, the first from a place on
abbrev pub cut : ℕ → List ℕ → List ℕ → List (List ℕ)
cut at bytes [] = []
cut at bytes (e ∷ es) = slice at e bytes ∷ cut e bytes es

-- whether the ends rise from a place on, so that no message is empty, and the last is where the bytes end
unfoldable pub up_to : ℕ → ℕ → List ℕ → Bool
up_to all at [] = eqb at all
up_to all at (e ∷ es) = ltb at e && up_to all e es

-- "refuses 18 for an empty message, too many, or a file over 4,294,967,295 bytes": whether none of these holds
unfoldable pub fitting : List ℕ → List ℕ → Bool
fitting bytes ends = leb (length ends) 4096 && (up_to (length bytes) 0 ends && leb (4 * length ends + 8 + length bytes) 4294967295)

-- "then 14": the file's length, or a refusal
unfoldable pub day_wrote : List ℕ → List ℕ → List ℕ → Wrote
day_wrote out bytes ends = cond (fitting bytes ends) (wrote_at out 0 (day_of (cut 0 bytes ends))) (W.Refused BAD_DAY)

-- and the output: the file at its start, or its bytes as they were
unfoldable pub day_put : List ℕ → List ℕ → List ℕ → List ℕ
day_put out bytes ends = cond (fitting bytes ends) (put_at out 0 (day_of (cut 0 bytes ends))) out

-- the same header from the ends: N, the first offset, and each end moved behind the header
abbrev pub moved : ℕ → List ℕ → List ℕ
moved base [] = []
moved base (e ∷ es) = (base + e) ∷ moved base es

unfoldable pub header_of : List ℕ → List ℕ
header_of ends = words (length ends ∷ (4 * length ends + 8) ∷ moved (4 * length ends + 8) ends)
