-- UTF-8 as RFC 3629 has it: character numbers, their encodings, and when bytes are a row of encodings. Nothing here asks that
-- a number of a list is below 256: one that is not is refused. Assumes nothing.
use Rattle.std.specs.Prelude.{◌≡◌, List, [], ◌∷◌, ◌++◌, Bool, true, false, cond, ◌&&◌, ◌||◌, ℕ, zero, suc, ◌+◌, ◌*◌, ◌/◌, ◌%◌, ltb, leb, eqb}

-- section 3: a character number is at most 10FFFF, and none of D800 to DFFF is one
unfoldable pub scalar : ℕ → Bool
scalar n = ltb n 0xD800 || (leb 0xE000 n && leb n 0x10FFFF)

-- section 3: the byte 10xxxxxx that has the lowest 6 bits
abbrev pub tail_of : ℕ → ℕ
tail_of n = 0x80 + n % 64

-- section 3, the table: 0000-007F is 0xxxxxxx; 0080-07FF is 110xxxxx 10xxxxxx; 0800-FFFF is 1110xxxx 10xxxxxx 10xxxxxx;
-- 10000-10FFFF is 11110xxx 10xxxxxx 10xxxxxx 10xxxxxx
unfoldable pub encode : ℕ → List ℕ
encode n =
    cond (ltb n 0x80) (n ∷ [])
    (cond (ltb n 0x800) ((0xC0 + n / 64) ∷ tail_of n ∷ [])
    (cond (ltb n 0x10000) ((0xE0 + n / 4096) ∷ tail_of (n / 64) ∷ tail_of n ∷ [])
    ((0xF0 + n / 262144) ∷ tail_of (n / 4096) ∷ tail_of (n / 64) ∷ tail_of n ∷ [])))

-- each of these is a character number
unfoldable pub Scalars : List ℕ → Type 0
Scalars [] = Unit
Scalars (n ∷ ns) = (scalar n ≡ true) × Scalars ns

-- their encodings, joined
unfoldable pub encodes : List ℕ → List ℕ
encodes [] = []
encodes (n ∷ ns) = encode n ++ encodes ns

-- these bytes are a row of encodings
pub record Row (bs : List ℕ) : Type 0 where
  pub points : List ℕ
  pub scalars : Scalars points
  pub spelt : bs ≡ encodes points

-- what stands at the start of some bytes: a character, by its number and how many bytes follow its first one; or none
pub data Char : Type 0 where
  char : ℕ → ℕ → Char
  none : Char

-- section 3: a number read from a byte and `more` that follow it has to be a character number, and none that fewer bytes spell:
-- `least` is the first in the table's row
unfoldable pub judged : ℕ → ℕ → ℕ → Char
judged more least n = cond (leb least n && scalar n) (char n more) none

-- section 3, decoding: n has the bits read so far, and k bytes 10xxxxxx are still to come, each with 6 bits (10 is 2)
unfoldable pub tails : ℕ → ℕ → ℕ → ℕ → List ℕ → Char
tails more least zero n bs = judged more least n
tails more least (suc k) n [] = none
tails more least (suc k) n (b ∷ bs) = cond (eqb (b / 64) 2) (tails more least k (n * 64 + b % 64) bs) none

-- section 3, decoding: the first byte is 0xxxxxxx, 110xxxxx, 1110xxxx or 11110xxx (110 is 6, 1110 is 14, 11110 is 30)
unfoldable pub decode : List ℕ → Char
decode [] = none
decode (b ∷ bs) =
    cond (eqb (b / 128) 0) (char b 0)
    (cond (eqb (b / 32) 6) (tails 1 0x80 1 (b % 32) bs)
    (cond (eqb (b / 16) 14) (tails 2 0x800 2 (b % 16) bs)
    (cond (eqb (b / 8) 30) (tails 3 0x10000 3 (b % 8) bs) none)))

-- a character, and on behind it
abbrev pub onward : (ℕ → Bool) → Char → Bool
onward on (char n more) = on more
onward on none = false

-- past the first k of the bytes, which a character has taken, they are characters to their end
unfoldable pub past : List ℕ → ℕ → Bool
past [] k = true
past (b ∷ bs) (suc k) = past bs k
past (b ∷ bs) zero = onward (past bs) (decode (b ∷ bs))

-- the bytes are UTF-8: characters to their end
unfoldable pub utf8 : List ℕ → Bool
utf8 bs = past bs 0

-- how many bytes a character takes, 0 where there is none
abbrev pub width : Char → ℕ
width (char n more) = suc more
width none = 0
