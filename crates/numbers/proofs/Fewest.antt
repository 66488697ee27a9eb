-- The fewest bytes of a number: they read back as it, no shorter bytes do, and how many they can be. Assumes nothing.
use Rattle.std.proofs.Common.{◌≡◌, ℕ, zero, suc, ◌+◌, ◌*◌, ◌/◌, ◌%◌, ◌^◌, ◌<◌, ◌≤◌, List, [], ◌∷◌, ◌++◌, length, drop, ℤ, sym, refl, ap, ◌∙◌, subst, suc-le-suc, zero-le, lt_of_le_of_lt, mod-eq_of_lt, div-lt_iff_lt-mul, pow-suc, arith, lit<, w16, w32, w64, SFits, le-ltb, lt-ltb}
use native.Mathlib.Nat.{mod-le}
use mir.Syntax.{Width}
use mir.Val.{bits}
use Rattle.numbers.specs.Varint.{got, groups, placed, varint, varint_at, bytes_of, fewest}
use Rattle.zigzag.specs.Zigzag.{zigzag}
use Rattle.numbers.specs.Answers.{put_at}
use Rattle.zigzag.proofs.Zig.{zig_below}
use Rattle.numbers.proofs.Put.{put_drop}
use Rattle.numbers.proofs.Found.{Bytes, bytes_nil, bytes_cons, by_size, Kept, kept, Took, took}

-- the two cases of a number's bytes
one_byte : (k n : ℕ) → n < 128 → bytes_of (suc k) n ≡ n ∷ []
one_byte k n h = rw (lt-ltb n 128 h)

more_bytes : (k n : ℕ) → 128 ≤ n → bytes_of (suc k) n ≡ (n % 128 + 128) ∷ bytes_of k (n / 128)
more_bytes k n h = rw (le-ltb n 128 h)

div_below : (k n : ℕ) → n < 128 ^ suc k → n / 128 < 128 ^ k
div_below k n h = (div-lt_iff_lt-mul (lit< tt)).1 (rw pow-suc at h)

-- how many bytes are allowed has no say, where they are enough
enough : (k j n : ℕ) → n < 128 ^ suc k → n < 128 ^ suc j → bytes_of (suc k) n ≡ bytes_of (suc j) n
enough zero j n hk hj = one_byte zero n hk ∙ sym (one_byte j n hk)
enough (suc k) zero n hk hj = one_byte (suc k) n hj ∙ sym (one_byte zero n hj)
enough (suc k) (suc j) n hk hj =
    by_size n (λ h. one_byte (suc k) n h ∙ sym (one_byte (suc j) n h))
    (λ h.
    more_bytes (suc k) n h
    ∙ ap (λ (l : List ℕ). (n % 128 + 128) ∷ l) (enough k j (n / 128) (div_below (suc k) n hk) (div_below (suc j) n hj))
    ∙ sym (more_bytes (suc j) n h))

-- a number below 128 ^ k has no more than k bytes, whatever is allowed
bytes_most : (f k n : ℕ) → n < 128 ^ suc k → length (bytes_of f n) ≤ suc k
bytes_most zero k n h = zero-le
bytes_most (suc f) zero n h = rw (one_byte f n h) (suc-le-suc zero-le)
bytes_most (suc f) (suc k) n h =
    by_size n (λ p. rw (one_byte f n p) (suc-le-suc zero-le))
    (λ p. rw (more_bytes f n p) (suc-le-suc (bytes_most f k (n / 128) (div_below (suc k) n h))))

len_le : (k n : ℕ) → length (bytes_of k n) ≤ k
len_le zero n = zero-le
len_le (suc k) n =
    by_size n (λ h. rw (one_byte k n h) (suc-le-suc zero-le)) (λ h. rw (more_bytes k n h) (suc-le-suc (len_le k (n / 128))))

-- the fewest bytes, a byte at a time
pub fewest_one : (n : ℕ) → n < 128 → fewest n ≡ n ∷ []
unfolding fewest
fewest_one n h = one_byte 9 n h

pub fewest_more : (n : ℕ) → 128 ≤ n → n < 2 ^ 64 → fewest n ≡ (n % 128 + 128) ∷ fewest (n / 128)
unfolding fewest
fewest_more n h b =
    more_bytes 9 n h ∙ ap (λ (l : List ℕ). (n % 128 + 128) ∷ l) (enough 8 9 (n / 128) (omega arith) (omega arith))

pub fewest_len : (n : ℕ) → length (fewest n) ≤ 10
unfolding fewest
fewest_len n = len_le 10 n

pub fewest_pos : (n : ℕ) → 0 < length (fewest n)
unfolding fewest
fewest_pos n = by_size n (λ h. rw (one_byte 9 n h) (suc-le-suc zero-le)) (λ h. rw (more_bytes 9 n h) (suc-le-suc zero-le))

-- each is a byte
of_bytes : (k n : ℕ) → Bytes (bytes_of k n)
of_bytes zero n = bytes_nil
of_bytes (suc k) n =
    by_size n (λ h. rw (one_byte k n h) (bytes_cons n [] (omega arith) bytes_nil))
    (λ h. rw (more_bytes k n h) (bytes_cons (n % 128 + 128) (bytes_of k (n / 128)) (omega arith) (of_bytes k (n / 128))))

pub fewest_bytes : (n : ℕ) → Bytes (fewest n)
unfolding fewest
fewest_bytes n = of_bytes 10 n

-- a number below 128 ^ (k + 1) takes at most k + 1 bytes
pub at_most : (k n : ℕ) → n < 128 ^ suc k → length (fewest n) ≤ suc k
unfolding fewest
at_most k n h = bytes_most 10 k n h

-- and so a signed number of a width takes at most 3, 5 and 10
pub signed_most : (w : Width) (k : ℕ) (z : ℤ) → 2 ^ bits w ≤ 128 ^ suc k → SFits w z → length (fewest (zigzag z)) ≤ suc k
signed_most w k z h f = at_most k (zigzag z) (omega (arith, zig_below w z f))

pub signed16_most : (z : ℤ) → SFits w16 z → length (fewest (zigzag z)) ≤ 3
signed16_most z f = signed_most w16 2 z (omega arith) f

pub signed32_most : (z : ℤ) → SFits w32 z → length (fewest (zigzag z)) ≤ 5
signed32_most z f = signed_most w32 4 z (omega arith) f

pub signed64_most : (z : ℤ) → SFits w64 z → length (fewest (zigzag z)) ≤ 10
signed64_most z f = signed_most w64 9 z (omega arith) f

-- reading what was written gives the number back, and its bytes are those that are used
back : (k n : ℕ) (rest : List ℕ) → n < 128 ^ suc k → groups (suc k) (bytes_of (suc k) n ++ rest) ≡ got n (length (bytes_of (suc k) n))
back zero n rest h = rw (one_byte zero n h, lt-ltb n 128 h)
back (suc k) n rest h =
    by_size n (λ p. rw (one_byte (suc k) n p, lt-ltb n 128 p))
    (λ p.
    let b : ℕ = n % 128 + 128 in
    let e : b % 128 + 128 * (n / 128) ≡ n = omega arith in
    rw (more_bytes (suc k) n p, le-ltb b 128 (omega arith), back k (n / 128) rest (div_below (suc k) n h))
    (ap (λ (m : ℕ). got m (suc (length (bytes_of (suc k) (n / 128))))) e))

-- over the width w and the bytes allowed, suc k: 32 and 5, 64 and 10
module _ (w k n : ℕ) (hw : n < 2 ^ w) (h64 : n < 2 ^ 64) (hk : n < 128 ^ suc k) where
  pub round_trip : (rest : List ℕ) → varint w (suc k) (fewest n ++ rest) ≡ got n (length (fewest n))
  unfolding fewest
  round_trip rest =
      rw (enough 9 k n (omega arith) hk, back k n rest hk) (ap (λ (m : ℕ). got m (length (bytes_of (suc k) n))) (mod-eq_of_lt hw))

  -- the same where these bytes stand at a place of the input
  pub round_trip_in : (s rest : List ℕ) (at : ℕ) → drop at s ≡ fewest n ++ rest → varint_at w (suc k) s at ≡ got n (at + length (fewest n))
  round_trip_in s rest at e = rw (e, round_trip rest)

  -- and where they were put into a buffer
  pub round_trip_at : (buf : List ℕ) (at : ℕ) → at + length (fewest n) ≤ length buf → varint_at w (suc k) (put_at buf at (fewest n)) at ≡ got n (at + length (fewest n))
  round_trip_at buf at room = round_trip_in (put_at buf at (fewest n)) _ at (put_drop buf at (fewest n) room)

-- no shorter bytes read as a number: those that do are no fewer than its fewest
pub shortest : (w k : ℕ) (bs : List ℕ) (n m : ℕ) → varint w k bs ≡ got n m → length (fewest n) ≤ m
shortest w k bs n m e = go m refl
  where
    f : Kept w 0 n (0 + m) (groups k bs)
    f = kept w 0 n (0 + m) (groups k bs) (ap (placed 0) e)

    t : Took bs k f.value f.used
    t = took k bs f.value f.used f.is

    same : f.used ≡ m
    same = omega (arith, f.ends)

    small : n < 128 ^ m
    small = subst (λ (i : ℕ). n < 128 ^ i) same (subst (λ (i : ℕ). i < 128 ^ f.used) f.low (lt_of_le_of_lt (mod-le f.value (2 ^ w)) t.below))

    go : (j : ℕ) → m ≡ j → length (fewest n) ≤ m
    go zero h = absurd (omega (arith, t.some, same))
    go (suc j) h = subst (λ (i : ℕ). length (fewest n) ≤ i) (sym h) (at_most j n (subst (λ (i : ℕ). n < 128 ^ i) h small))
