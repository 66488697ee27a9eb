-- Text that a call puts into a lent buffer.
use Rattle.std.specs.Prelude.{◌≡◌, ℕ, List, length, take}

-- The call, `puts lent end out`, was lent a buffer of so many bytes, answered `end` and left `out`: the text is what stands before the end.
abbrev pub IsPutBy : (List ℕ → ℕ → List ℕ → Type 0) → ℕ → List ℕ → Type 0
IsPutBy puts room text = (lent : List ℕ) × (end : ℕ) × (out : List ℕ) × (length lent ≡ room) × puts lent end out × (text ≡ take end out)
