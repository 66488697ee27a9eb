-- What an inner function of the exports finds of a field's header in its first byte alone. No word of the document: the call's own
-- statement is `ToldField`. Assumes nothing: these are definitions.
use Rattle.std.specs.Prelude.{◌≡◌, List, ℕ, ◌+◌, ◌/◌, ◌%◌, ◌≤◌, ◌<◌, ℤ, pos, ◌+ℤ◌, set}
use Rattle.std.specs.Int.{w16}
use Rattle.std.proofs.Common.{SFits}
use Rattle.types.specs.Codes.{type_code, truth_code}
use Rattle.heads.specs.Answers.{place, field_at, head_at}
use Rattle.heads.specs.declared.FieldHead.{FieldHead}
use Rattle.heads.specs.declared.FieldHead.TheVariants as F
use Rattle.rows.specs.Row.{turn_of}

-- what a header leaves in the state's row and where the caller lent room
abbrev pub Entered : FieldHead → List ℕ → List ℕ → ℕ → ℤ → Type 0
Entered (F.Stop q) row row' kind id = ⊥
Entered (F.Bool b i q) row row' kind id = (row' ≡ set (set row 0 q.0) 1 (turn_of i.0 (truth_code b))) × (kind ≡ 1) × (id ≡ i.0)
Entered (F.Value t i q) row row' kind id = (row' ≡ set (set row 0 q.0) 1 (turn_of i.0 0)) × (kind ≡ type_code t) × (id ≡ i.0)
Entered (F.Refused why) row row' kind id = ⊥

-- the row n of a first byte that is a whole header, or one with no type (15) where it is not
pub record ShortRow (s : List ℕ) (last : ℤ) (at n : ℕ) : Type 0 where
  pub ends : n % 256 ≡ 0 → F.Stop (place (at + 1)) ≡ field_at s last at
  pub delta : n / 256 % 256 < 16
  pub truth : n / 65536 < 3
  pub fits : (n % 256 ≡ 0 → ⊥) → n % 256 ≤ 13 → SFits w16 (last +ℤ pos (n / 256 % 256))
  pub goes : (n % 256 ≡ 0 → ⊥) → n % 256 ≤ 13 → head_at n (last +ℤ pos (n / 256 % 256)) (at + 1) ≡ field_at s last at
  pub holds : (n % 256 ≡ 0 → ⊥) → n % 256 ≤ 13 → (row : List ℕ) (i : ℤ) (p : ℕ) → Entered (head_at n i p) row (set (set row 0 p) 1 (turn_of i (n / 65536))) (n % 256) i
