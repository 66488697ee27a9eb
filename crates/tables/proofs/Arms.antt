-- The arms of a `match` on a byte, each of which has the row that the rule gives for its number. Assumes nothing.
use mathlib.Core.Path.{◌≡◌, ap, sym, ◌∙◌}
use mathlib.Core.Logic.{⊎_elim}
use Prim.Native.Nat.{ℕ, ◌+◌, ◌≤◌, ◌<◌}
use native.Mathlib.Omega.{arith}
use Rattle.tables.specs.Rows.{field_row, list_row}
use Rattle.types.proofs.Tables.{Misses, missed}

-- at an arm's number k antt computes the rule, and holds it against the arm's row
pub field_at : (b k row : ℕ) → b ≡ k → row ≡ field_row k → row ≡ field_row b
field_at b k row h e = e ∙ ap field_row (sym h)

pub list_at : (b k row : ℕ) → b ≡ k → row ≡ list_row k → row ≡ list_row b
list_at b k row h e = e ∙ ap list_row (sym h)

-- a byte that is none of 255 is the last one
pub last_arm : (b : ℕ) → b < 256 → Misses 0 255 b → b ≡ 255
last_arm b h m = ⊎_elim (λ (z : b < 0). absurd (omega arith)) (λ (g : 0 + 255 ≤ b). omega arith) (missed 0 255 b m)
