-- What the calls' answers tell a caller, from the laws over the width: where a number ends, how large it is, that it is read back, and that
-- bytes behind it have no say. Assumes nothing.
use mathlib.Core.Path.{◌≡◌, sym, ap, ◌∙◌}
use mathlib.Core.List.{List, ◌++◌}
use Prim.Native.Nat.{ℕ, ◌+◌, ◌^◌, ◌≤◌, ◌<◌}
use native.Mathlib.Omega.{arith}
use lib.ListN.{length, take, drop}
use lib.Seq.{slice}
use Rattle.numbers.specs.Varint.{Found, got, refused}
use Rattle.numbers.specs.Answers.{as_bits32, as_bits, put_at}
use Rattle.numbers.specs.declared.Bits32.{Bits32}
use Rattle.numbers.specs.declared.Bits32.TheVariants as B32
use Rattle.numbers.specs.declared.Bits64.{Bits64}
use Rattle.numbers.specs.declared.Bits64.TheVariants as B64
use Rattle.numbers.proofs.Found.{Bytes, zero_one}
use Rattle.numbers.proofs.Put.{put_drop}
use Rattle.big_endian.specs.Big.{big2, big4, big8}
use Rattle.big_endian.specs.Answers.{as_bits16, big_at, word16_at, word32_at, word64_at}
use Rattle.big_endian.specs.declared.Bits16.{Bits16}
use Rattle.big_endian.specs.declared.Bits16.TheVariants as B16
use Rattle.big_endian.proofs.Big.{Read, big_in, big_read, big_below_read, big_bytes, big_local}

-- each enum's answer is of one thing that was found
same16 : (x y : Found ℕ) → as_bits16 x ≡ as_bits16 y → x ≡ y
same16 (got u q) (got v p) e = cc
same16 (got u q) (refused v) e = zero_one (cc)
same16 (refused u) (got v p) e = zero_one (cc)
same16 (refused u) (refused v) e = cc

same32 : (x y : Found ℕ) → as_bits32 x ≡ as_bits32 y → x ≡ y
same32 (got u q) (got v p) e = cc
same32 (got u q) (refused v) e = zero_one (cc)
same32 (refused u) (got v p) e = zero_one (cc)
same32 (refused u) (refused v) e = cc

same64 : (x y : Found ℕ) → as_bits x ≡ as_bits y → x ≡ y
same64 (got u q) (got v p) e = cc
same64 (got u q) (refused v) e = zero_one (cc)
same64 (refused u) (got v p) e = zero_one (cc)
same64 (refused u) (refused v) e = cc

-- two bytes
module _ (s : List ℕ) (at v p : ℕ) (e : word16_at s at ≡ B16.Got v p) where
  pub found16 : big_at 2 s at ≡ got v p
  unfolding word16_at
  found16 = same16 (big_at 2 s at) (got v p) e

  pub within16 : Read 2 s at v p
  within16 = big_read 2 s at v p found16

  pub local16 : (t : List ℕ) → take p t ≡ take p s → word16_at t at ≡ B16.Got v p
  unfolding word16_at
  local16 t a = ap as_bits16 (big_local 2 at s t v p found16 a)

  pub below16 : Bytes s → v < 2 ^ 16
  below16 h = big_below_read 2 s at v p h within16

  -- their number's bytes are they
  pub bytes16 : Bytes s → big2 v ≡ slice at p s
  unfolding big2
  bytes16 h = big_bytes 2 s at v p h within16

-- four
module _ (s : List ℕ) (at v p : ℕ) (e : word32_at s at ≡ B32.Got v p) where
  pub found32 : big_at 4 s at ≡ got v p
  unfolding word32_at
  found32 = same32 (big_at 4 s at) (got v p) e

  pub within32 : Read 4 s at v p
  within32 = big_read 4 s at v p found32

  pub local32 : (t : List ℕ) → take p t ≡ take p s → word32_at t at ≡ B32.Got v p
  unfolding word32_at
  local32 t a = ap as_bits32 (big_local 4 at s t v p found32 a)

  pub below32 : Bytes s → v < 2 ^ 32
  below32 h = big_below_read 4 s at v p h within32

  pub bytes32 : Bytes s → big4 v ≡ slice at p s
  unfolding big4
  bytes32 h = big_bytes 4 s at v p h within32

-- and eight
module _ (s : List ℕ) (at v p : ℕ) (e : word64_at s at ≡ B64.Got v p) where
  pub found64 : big_at 8 s at ≡ got v p
  unfolding word64_at
  found64 = same64 (big_at 8 s at) (got v p) e

  pub within64 : Read 8 s at v p
  within64 = big_read 8 s at v p found64

  pub local64 : (t : List ℕ) → take p t ≡ take p s → word64_at t at ≡ B64.Got v p
  unfolding word64_at
  local64 t a = ap as_bits (big_local 8 at s t v p found64 a)

  pub below64 : Bytes s → v < 2 ^ 64
  below64 h = big_below_read 8 s at v p h within64

  pub bytes64 : Bytes s → big8 v ≡ slice at p s
  unfolding big8
  bytes64 h = big_bytes 8 s at v p h within64

-- what was written is read back
module _ (n : ℕ) (s rest : List ℕ) (at : ℕ) where
  pub back16 : n < 2 ^ 16 → drop at s ≡ big2 n ++ rest → word16_at s at ≡ B16.Got n (at + 2)
  unfolding word16_at big2
  back16 h e = ap as_bits16 (big_in 2 n at s rest (omega arith) h e)

  pub back32 : n < 2 ^ 32 → drop at s ≡ big4 n ++ rest → word32_at s at ≡ B32.Got n (at + 4)
  unfolding word32_at big4
  back32 h e = ap as_bits32 (big_in 4 n at s rest (omega arith) h e)

  pub back64 : n < 2 ^ 64 → drop at s ≡ big8 n ++ rest → word64_at s at ≡ B64.Got n (at + 8)
  unfolding word64_at big8
  back64 h e = ap as_bits (big_in 8 n at s rest (omega arith) h e)

-- the same of what was put into a buffer that had room
module _ (n : ℕ) (buf : List ℕ) (at : ℕ) where
  pub put16 : n < 2 ^ 16 → at + length (big2 n) ≤ length buf → word16_at (put_at buf at (big2 n)) at ≡ B16.Got n (at + 2)
  put16 h room = back16 n (put_at buf at (big2 n)) _ at h (put_drop buf at (big2 n) room)

  pub put32 : n < 2 ^ 32 → at + length (big4 n) ≤ length buf → word32_at (put_at buf at (big4 n)) at ≡ B32.Got n (at + 4)
  put32 h room = back32 n (put_at buf at (big4 n)) _ at h (put_drop buf at (big4 n) room)

  pub put64 : n < 2 ^ 64 → at + length (big8 n) ≤ length buf → word64_at (put_at buf at (big8 n)) at ≡ B64.Got n (at + 8)
  put64 h room = back64 n (put_at buf at (big8 n)) _ at h (put_drop buf at (big8 n) room)

-- The bounds for `search`, from what a caller has: the call's equation and the case that it took.
module _ (s : List ℕ) (at v p : ℕ) (r : Bits16) (e : r ≡ word16_at s at) (g : r ≡ B16.Got v p) where
  pub past16 : at < p
  past16 = let f = within16 s at v p (sym e ∙ g) in omega arith

  pub inside16 : p ≤ length s
  inside16 = (within16 s at v p (sym e ∙ g)).inside

module _ (s : List ℕ) (at v p : ℕ) (r : Bits32) (e : r ≡ word32_at s at) (g : r ≡ B32.Got v p) where
  pub past32 : at < p
  past32 = let f = within32 s at v p (sym e ∙ g) in omega arith

  pub inside32 : p ≤ length s
  inside32 = (within32 s at v p (sym e ∙ g)).inside

module _ (s : List ℕ) (at v p : ℕ) (r : Bits64) (e : r ≡ word64_at s at) (g : r ≡ B64.Got v p) where
  pub past64 : at < p
  past64 = let f = within64 s at v p (sym e ∙ g) in omega arith

  pub inside64 : p ≤ length s
  inside64 = (within64 s at v p (sym e ∙ g)).inside

pub ruleset got_bounds = (past16, inside16, past32, inside32, past64, inside64)
