-- "Double encoding" of the compact protocol document: "in little-endian byte order (8 bytes)". Assumes nothing.
use Rattle.std.specs.Prelude.{ℕ, zero, suc, ◌+◌, ◌*◌, ◌/◌, ◌%◌, List, [], ◌∷◌}

-- the number of bytes that stand lowest first
abbrev pub little : List ℕ → ℕ
little [] = 0
little (b ∷ bs) = b + 256 * little bs

-- the k lowest bytes of a number, lowest first
abbrev pub little_of : ℕ → ℕ → List ℕ
little_of zero n = []
little_of (suc k) n = (n % 256) ∷ little_of k (n / 256)

-- the 4 lowest, and the 8 bytes of 64 bits
unfoldable pub four : ℕ → List ℕ
four n = little_of 4 n

unfoldable pub eight : ℕ → List ℕ
eight n = little_of 8 n
