-- "Integer encoding" of the binary protocol document: "integers are encoded with the most significant byte first (big endian byte order, aka network
-- order)", which is the little-endian bytes turned around. Assumes nothing.
use Rattle.std.specs.Prelude.{ℕ, List, reverse}
use Rattle.numbers.specs.Fixed.{little, little_of}

-- the number of bytes that stand highest first
abbrev pub big : List ℕ → ℕ
big bs = little (reverse bs)

-- the k lowest bytes of a number, highest first
abbrev pub big_of : ℕ → ℕ → List ℕ
big_of k n = reverse (little_of k n)

-- "An `int8` needs 1 byte, an `int16` 2, an `int32` 4 and an `int64` needs 8 bytes"
unfoldable pub big2 : ℕ → List ℕ
big2 n = big_of 2 n

unfoldable pub big4 : ℕ → List ℕ
big4 n = big_of 4 n

unfoldable pub big8 : ℕ → List ℕ
big8 n = big_of 8 n
