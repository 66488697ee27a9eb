-- The lists of messages that have a file, and the list of a file. Assumes nothing: these are definitions.
use Rattle.std.specs.Prelude.{ℕ, zero, suc, ◌+◌, ◌≤◌, ◌<◌, List, [], ◌∷◌, length, get_or}
use Rattle.std.proofs.Math.Seq.{slice}
use Rattle.days.specs.Day.{number, day_of}

-- what the writer does not refuse: none of "an empty message, too many, or a file over 4,294,967,295 bytes"
pub record Fair (ms : List (List ℕ)) : Type 0 where
  pub full : (k : ℕ) → k < length ms → 0 < length (get_or ms k [])
  pub few : length ms ≤ 4096
  pub small : length (day_of ms) ≤ 4294967295

-- n parts of a file, each from a number of its header to the next
abbrev pub parts : List ℕ → ℕ → ℕ → List (List ℕ)
parts file zero k = []
parts file (suc n) k = slice (number file k) (number file (k + 1)) file ∷ parts file n (k + 1)

-- the messages of a file
unfoldable pub messages_of : List ℕ → List (List ℕ)
messages_of file = parts file (number file 0) 1

-- the ends of messages that stand one behind the other from a place on
abbrev pub ends_of : ℕ → List (List ℕ) → List ℕ
ends_of at [] = []
ends_of at (m ∷ ms) = (at + length m) ∷ ends_of (at + length m) ms
