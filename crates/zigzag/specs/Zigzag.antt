-- "ZigZag encoding" of the compact protocol document, and the scope paper's "Numbers". Assumes nothing.
use Rattle.std.specs.Prelude.{ℕ, ◌+◌, ◌*◌, ◌/◌, ◌%◌, Bool, cond, ◌&&◌, ℤ, pos, negsuc, ◌==◌, int_le}

-- "n ≥ 0 as 2n, n < 0 as -2n-1": `negsuc n` is -n-1, so 2n+1
abbrev pub zigzag : ℤ → ℕ
zigzag (pos n) = 2 * n
zigzag (negsuc n) = 2 * n + 1

-- back: "the sign bit is encoded in the least significant bit"
abbrev pub unzigzag : ℕ → ℤ
unzigzag n = cond (n % 2 == 0) (pos (n / 2)) (negsuc (n / 2))

-- the numbers of an i16: "-32,768 to 32,767"
abbrev pub in_range16 : ℤ → Bool
in_range16 z = int_le (negsuc 32767) z && int_le z (pos 32767)
