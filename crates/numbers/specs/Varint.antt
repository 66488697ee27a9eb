-- "Varint encoding" of the compact protocol document: 7 bits at a time, low first, the top bit of a byte set where another byte follows.
-- Assumes nothing.
use Rattle.std.specs.Prelude.{ℕ, zero, suc, ◌+◌, ◌*◌, ◌/◌, ◌%◌, ◌^◌, cond, List, [], ◌∷◌, drop, nat_lt}
use Rattle.types.specs.Refusals.{END, LONG_VARINT}

-- what reading a number finds: the number and how many bytes it took, or the number of a refusal
pub data Found (A : Type 0) : Type 0 where
  got : A → ℕ → Found A
  refused : ℕ → Found A

-- the 7 bits of one byte, below those of the bytes behind it
abbrev pub more : ℕ → Found ℕ → Found ℕ
more b (got v n) = got (b + 128 * v) (suc n)
more b (refused why) = refused why

-- the number of at most k bytes: "Reading ends at a clear top bit, and overlong forms are read"; END where the bytes run out first,
-- LONG VARINT where "all 5 (32 bits) or 10 (64 bits) bytes have the top bit set"
abbrev pub groups : ℕ → List ℕ → Found ℕ
groups zero bs = refused LONG_VARINT
groups (suc k) [] = refused END
groups (suc k) (b ∷ bs) = cond (nat_lt b 128) (got b 1) (more (b % 128) (groups k bs))

-- its low w bits: "In 32 bits the fifth byte keeps its low 4 bits, in 64 bits the tenth keeps its lowest bit; the rest is dropped"
abbrev pub keep : ℕ → Found ℕ → Found ℕ
keep w (got v n) = got (v % 2 ^ w) n
keep w (refused why) = refused why

-- a number of w bits in at most k bytes: 32 in 5, 64 in 10
abbrev pub varint : ℕ → ℕ → List ℕ → Found ℕ
varint w k bs = keep w (groups k bs)

-- for a number that starts at a place, the place behind it in place of how many bytes it took
abbrev pub placed : {A : Type 0} → ℕ → Found A → Found A
placed at (got v n) = got v (at + n)
placed at (refused why) = refused why

-- the number at a place of the input
abbrev pub varint_at : ℕ → ℕ → List ℕ → ℕ → Found ℕ
varint_at w k s at = placed at (varint w k (drop at s))

-- "The writer uses the fewest bytes": 7 bits in each, none left over above the last, at most k bytes
abbrev pub bytes_of : ℕ → ℕ → List ℕ
bytes_of zero n = []
bytes_of (suc k) n = cond (nat_lt n 128) (n ∷ []) ((n % 128 + 128) ∷ bytes_of k (n / 128))

-- the bytes of a number of up to 64 bits: 10 of them hold 70
unfoldable pub fewest : ℕ → List ℕ
fewest n = bytes_of 10 n
