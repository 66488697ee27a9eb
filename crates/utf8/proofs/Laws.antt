-- The steps of the definitions: a row of the table of encodings, a first byte, a byte behind it, and a character at the start of some bytes.
-- Assumes nothing.
use mathlib.Core.Path.{◌≡◌, refl}
use mathlib.Core.List.{List, [], ◌∷◌}
use mathlib.Core.Bool.{true, false}
use Prim.Native.Nat.{ℕ, zero, suc, ◌+◌, ◌*◌, ◌/◌, ◌%◌, ◌≤◌, ◌<◌}
use native.Mathlib.Omega.{arith}
use native.Mathlib.Decide.{dec_lt}
use borrow.Author.Tests.{lt-ltb, le-ltb, le-leb, lt-leb, eq-eqb, ne_eqb}
use lib.ListN.{drop}
use lib.Seq.{drop-nil}
use Rattle.utf8.specs.Utf8.{scalar, tail_of, encode, char, none, judged, tails, decode, past, utf8}

-- by whether a number is below another
pub by_less : {X : Type 0} (a b : ℕ) → (a < b → X) → (b ≤ a → X) → X
by_less {X} a b f g = go (dec_lt a b)
  where
    go : Dec (a < b) → X
    go (yes h) = f h
    go (no h) = g (omega arith)

-- the table's rows
module _ (n : ℕ) where
  pub encode_one : n < 0x80 → encode n ≡ n ∷ []
  unfolding encode
  encode_one h = rw (lt-ltb n 0x80 h)

  pub encode_two : 0x80 ≤ n → n < 0x800 → encode n ≡ (0xC0 + n / 64) ∷ tail_of n ∷ []
  unfolding encode
  encode_two l h = rw (le-ltb n 0x80 l, lt-ltb n 0x800 h)

  pub encode_three : 0x800 ≤ n → n < 0x10000 → encode n ≡ (0xE0 + n / 4096) ∷ tail_of (n / 64) ∷ tail_of n ∷ []
  unfolding encode
  encode_three l h = rw (le-ltb n 0x80 (omega arith), le-ltb n 0x800 l, lt-ltb n 0x10000 h)

  pub encode_four : 0x10000 ≤ n → encode n ≡ (0xF0 + n / 262144) ∷ tail_of (n / 4096) ∷ tail_of (n / 64) ∷ tail_of n ∷ []
  unfolding encode
  encode_four l = rw (le-ltb n 0x80 (omega arith), le-ltb n 0x800 (omega arith), le-ltb n 0x10000 l)

-- character numbers
module _ (n : ℕ) where
  pub scalar_is : (0xD800 ≤ n → 0xE000 ≤ n) → n ≤ 0x10FFFF → scalar n ≡ true
  unfolding scalar
  scalar_is s h =
      by_less n 0xD800 (λ l. rw (lt-ltb n 0xD800 l)) (λ l. rw (le-ltb n 0xD800 l, le-leb 0xE000 n (s l), le-leb n 0x10FFFF h))

  pub surrogate : 0xD800 ≤ n → n < 0xE000 → scalar n ≡ false
  unfolding scalar
  surrogate l h = rw (le-ltb n 0xD800 l, lt-leb 0xE000 n h)

  pub beyond : 0x10FFFF < n → scalar n ≡ false
  unfolding scalar
  beyond h = rw (le-ltb n 0xD800 (omega arith), le-leb 0xE000 n (omega arith), lt-leb n 0x10FFFF h)

  pub scalar_top : scalar n ≡ true → n ≤ 0x10FFFF
  scalar_top s = by_less 0x10FFFF n (λ h. cc (s, beyond h)) (λ h. h)

-- what becomes of a number that was read
module _ (more least n : ℕ) where
  pub taken : least ≤ n → scalar n ≡ true → judged more least n ≡ char n more
  unfolding judged
  taken l s = rw (le-leb least n l, s)

  pub longer : n < least → judged more least n ≡ none
  unfolding judged
  longer l = rw (lt-leb least n l)

  pub no_scalar : least ≤ n → scalar n ≡ false → judged more least n ≡ none
  unfolding judged
  no_scalar l s = rw (le-leb least n l, s)

-- the bytes behind the first
module _ (more least k n : ℕ) where
  pub tail_in : (b : ℕ) (bs : List ℕ) → b / 64 ≡ 2 → tails more least (suc k) n (b ∷ bs) ≡ tails more least k (n * 64 + b % 64) bs
  unfolding tails
  tail_in b bs h = rw (eq-eqb (b / 64) 2 h)

  pub tail_off : (b : ℕ) (bs : List ℕ) → (b / 64 ≡ 2 → ⊥) → tails more least (suc k) n (b ∷ bs) ≡ none
  unfolding tails
  tail_off b bs h = rw (ne_eqb (b / 64) 2 h)

-- the first byte
module _ (b : ℕ) (bs : List ℕ) where
  pub lead_one : b < 0x80 → decode (b ∷ bs) ≡ char b 0
  unfolding decode
  lead_one h = rw (eq-eqb (b / 128) 0 (omega arith))

  pub lead_two : b / 32 ≡ 6 → decode (b ∷ bs) ≡ tails 1 0x80 1 (b % 32) bs
  unfolding decode
  lead_two h = rw (ne_eqb (b / 128) 0 (λ e. omega arith), eq-eqb (b / 32) 6 h)

  pub lead_three : b / 16 ≡ 14 → decode (b ∷ bs) ≡ tails 2 0x800 2 (b % 16) bs
  unfolding decode
  lead_three h = rw (ne_eqb (b / 128) 0 (λ e. omega arith), ne_eqb (b / 32) 6 (λ e. omega arith), eq-eqb (b / 16) 14 h)

  pub lead_four : b / 8 ≡ 30 → decode (b ∷ bs) ≡ tails 3 0x10000 3 (b % 8) bs
  unfolding decode
  lead_four h =
      rw
      (ne_eqb (b / 128) 0 (λ e. omega arith), ne_eqb (b / 32) 6 (λ e. omega arith), ne_eqb (b / 16) 14 (λ e. omega arith), eq-eqb (b / 8) 30 h)

  pub lead_none : 0x80 ≤ b → (b / 32 ≡ 6 → ⊥) → (b / 16 ≡ 14 → ⊥) → (b / 8 ≡ 30 → ⊥) → decode (b ∷ bs) ≡ none
  unfolding decode
  lead_none h u v w = rw (ne_eqb (b / 128) 0 (λ e. omega arith), ne_eqb (b / 32) 6 u, ne_eqb (b / 16) 14 v, ne_eqb (b / 8) 30 w)

-- a character of two, three and four bytes, each of its pattern
pub read_two : (b x n : ℕ) (bs : List ℕ) → b / 32 ≡ 6 → x / 64 ≡ 2 → b % 32 * 64 + x % 64 ≡ n → decode (b ∷ x ∷ bs) ≡ judged 1 0x80 n
unfolding tails
read_two b x n bs hb hx e = rw (lead_two b (x ∷ bs) hb, tail_in _ _ _ _ x bs hx, e)

pub read_three : (b x y n : ℕ) (bs : List ℕ) → b / 16 ≡ 14 → x / 64 ≡ 2 → y / 64 ≡ 2 → (b % 16 * 64 + x % 64) * 64 + y % 64 ≡ n → decode (b ∷ x ∷ y ∷ bs) ≡ judged 2 0x800 n
unfolding tails
read_three b x y n bs hb hx hy e = rw (lead_three b (x ∷ y ∷ bs) hb, tail_in _ _ _ _ x (y ∷ bs) hx, tail_in _ _ _ _ y bs hy, e)

pub read_four : (b x y z n : ℕ) (bs : List ℕ) → b / 8 ≡ 30 → x / 64 ≡ 2 → y / 64 ≡ 2 → z / 64 ≡ 2 → ((b % 8 * 64 + x % 64) * 64 + y % 64) * 64 + z % 64 ≡ n → decode (b ∷ x ∷ y ∷ z ∷ bs) ≡ judged 3 0x10000 n
unfolding tails
read_four b x y z n bs hb hx hy hz e =
    rw
    (lead_four b (x ∷ y ∷ z ∷ bs) hb, tail_in _ _ _ _ x (y ∷ z ∷ bs) hx, tail_in _ _ _ _ y (z ∷ bs) hy, tail_in _ _ _ _ z bs hz, e)

-- a character at the start, and the rest
pub past_drop : (bs : List ℕ) (k : ℕ) → past bs k ≡ utf8 (drop k bs)
unfolding utf8 past
past_drop [] k = rw drop-nil
past_drop (b ∷ bs) zero = refl
past_drop (b ∷ bs) (suc k) = past_drop bs k

module _ (b : ℕ) (bs : List ℕ) where
  pub utf8_char : (n m : ℕ) → decode (b ∷ bs) ≡ char n m → utf8 (b ∷ bs) ≡ utf8 (drop m bs)
  unfolding utf8 past
  utf8_char n m e = rw e (past_drop bs m)

  pub utf8_none : decode (b ∷ bs) ≡ none → utf8 (b ∷ bs) ≡ false
  unfolding utf8 past
  utf8_none e = rw e
