-- What the calls' answers tell a caller, from the laws over the width: where a number ends, how large it is, that it is read back, and that
-- bytes behind it have no say. Assumes nothing.
use Rattle.std.proofs.Common.{◌≡◌, ℕ, ◌+◌, ◌^◌, ◌<◌, ◌≤◌, Bool, true, false, cond, ◌⊎◌, List, ◌++◌, length, take, drop, ℤ, sym, refl, ap, ◌∙◌, arith, w16, SFits}
use lib.Seq.{slice}
use Rattle.types.specs.Refusals.{END, LONG_VARINT, RANGE}
use Rattle.numbers.specs.Varint.{Found, got, refused, varint_at, fewest}
use Rattle.zigzag.specs.Zigzag.{zigzag, unzigzag, in_range16}
use Rattle.numbers.specs.Fixed.{eight}
use Rattle.numbers.specs.Answers.{as32, as64, as_bits, varint32_at, varint64_at, signed16_at, little_at, bits64_at, put_at}
use Rattle.numbers.specs.declared.Varint32.{Varint32}
use Rattle.numbers.specs.declared.Varint32.TheVariants as V32
use Rattle.numbers.specs.declared.Varint64.{Varint64}
use Rattle.numbers.specs.declared.Varint64.TheVariants as V64
use Rattle.numbers.specs.declared.Int16.{Int16}
use Rattle.numbers.specs.declared.Int16.TheVariants as I16
use Rattle.numbers.specs.declared.Bits64.{Bits64}
use Rattle.numbers.specs.declared.Bits64.TheVariants as B64
use Rattle.numbers.proofs.Found.{Bytes, zero_one, Within, within, local_at, which_at}
use Rattle.numbers.proofs.Fewest.{round_trip_in}
use Rattle.numbers.proofs.Sixteen.{signed16_of, signed16_is}
use Rattle.zigzag.proofs.Zig.{un_zig, zig_below, in_range_lem, fits_range}
use Rattle.numbers.proofs.Fixed.{Read, little_in, little_read, little_below_read, little_bytes, little_local}
use Rattle.numbers.proofs.Put.{put_drop}

-- each enum's answer is of one thing that was found
same32 : (x y : Found ℕ) → as32 x ≡ as32 y → x ≡ y
same32 (got u q) (got v p) e = cc
same32 (got u q) (refused v) e = zero_one (cc)
same32 (refused u) (got v p) e = zero_one (cc)
same32 (refused u) (refused v) e = cc

same64 : (x y : Found ℕ) → as64 x ≡ as64 y → x ≡ y
same64 (got u q) (got v p) e = cc
same64 (got u q) (refused v) e = zero_one (cc)
same64 (refused u) (got v p) e = zero_one (cc)
same64 (refused u) (refused v) e = cc

same_bits : (x y : Found ℕ) → as_bits x ≡ as_bits y → x ≡ y
same_bits (got u q) (got v p) e = cc
same_bits (got u q) (refused v) e = zero_one (cc)
same_bits (refused u) (got v p) e = zero_one (cc)
same_bits (refused u) (refused v) e = cc

-- 32 bits
module _ (s : List ℕ) (at v p : ℕ) (e : varint32_at s at ≡ V32.Got v p) where
  pub found32 : varint_at 32 5 s at ≡ got v p
  unfolding varint32_at
  found32 = same32 (varint_at 32 5 s at) (got v p) e

  pub within32 : Within 32 5 s at v p
  within32 = within 32 5 s at v p found32

  pub local32 : (t : List ℕ) → take p t ≡ take p s → varint32_at t at ≡ V32.Got v p
  unfolding varint32_at
  local32 t a = ap as32 (local_at 32 5 at s t v p found32 a)

pub which32 : (s : List ℕ) (at why : ℕ) → varint32_at s at ≡ V32.Refused why → (why ≡ END) ⊎ (why ≡ LONG_VARINT)
unfolding varint32_at
which32 s at why e = which_at 32 5 s at why (same32 (varint_at 32 5 s at) (refused why) e)

pub back32 : (n : ℕ) (s rest : List ℕ) (at : ℕ) → n < 2 ^ 32 → drop at s ≡ fewest n ++ rest → varint32_at s at ≡ V32.Got n (at + length (fewest n))
unfolding varint32_at
back32 n s rest at h e = ap as32 (round_trip_in 32 4 n h (omega arith) (omega arith) s rest at e)

-- 64 bits
module _ (s : List ℕ) (at v p : ℕ) (e : varint64_at s at ≡ V64.Got v p) where
  pub found64 : varint_at 64 10 s at ≡ got v p
  unfolding varint64_at
  found64 = same64 (varint_at 64 10 s at) (got v p) e

  pub within64 : Within 64 10 s at v p
  within64 = within 64 10 s at v p found64

  pub local64 : (t : List ℕ) → take p t ≡ take p s → varint64_at t at ≡ V64.Got v p
  unfolding varint64_at
  local64 t a = ap as64 (local_at 64 10 at s t v p found64 a)

pub which64 : (s : List ℕ) (at why : ℕ) → varint64_at s at ≡ V64.Refused why → (why ≡ END) ⊎ (why ≡ LONG_VARINT)
unfolding varint64_at
which64 s at why e = which_at 64 10 s at why (same64 (varint_at 64 10 s at) (refused why) e)

pub back64 : (n : ℕ) (s rest : List ℕ) (at : ℕ) → n < 2 ^ 64 → drop at s ≡ fewest n ++ rest → varint64_at s at ≡ V64.Got n (at + length (fewest n))
unfolding varint64_at
back64 n s rest at h e = ap as64 (round_trip_in 64 9 n h h (omega arith) s rest at e)

-- an i16: the 32-bit number that it was
pub record From32 (s : List ℕ) (at : ℕ) (z : ℤ) (p : ℕ) : Type 0 where
  pub value : ℕ
  pub is : varint32_at s at ≡ V32.Got value p
  pub within : in_range16 (unzigzag value) ≡ true
  pub number : z ≡ unzigzag value

from32 : (x : Varint32) (s : List ℕ) (at : ℕ) (z : ℤ) (p : ℕ) → varint32_at s at ≡ x → signed16_of x ≡ I16.Got z p → From32 s at z p
from32 (V32.Got v q) s at z p f e = go (in_range16 (unzigzag v)) refl e
  where
    go : (b : Bool) → in_range16 (unzigzag v) ≡ b → cond b (I16.Got (unzigzag v) q) (I16.Refused RANGE) ≡ I16.Got z p → From32 s at z p
    go true t g = record { value = v; is = f ∙ ap (V32.Got v) (cc); within = t; number = cc }
    go false t g = zero_one (cc)
from32 (V32.Refused why) s at z p f e = zero_one (cc)

module _ (s : List ℕ) (at : ℕ) (z : ℤ) (p : ℕ) (e : signed16_at s at ≡ I16.Got z p) where
  pub found16 : From32 s at z p
  found16 = from32 (varint32_at s at) s at z p refl (sym (signed16_is s at) ∙ e)

  pub within16 : Within 32 5 s at found16.value p
  within16 = within32 s at found16.value p found16.is

  pub sfits16 : SFits w16 z
  sfits16 = rw found16.number (fits_range (unzigzag found16.value) found16.within)

  pub local16 : (t : List ℕ) → take p t ≡ take p s → signed16_at t at ≡ I16.Got z p
  local16 t a = signed16_is t at ∙ ap signed16_of (local32 s at found16.value p found16.is t a) ∙ rw (found16.within, ← found16.number)

-- an i16 that is written as the varint of its zigzag number reads back as itself
pub back16 : (z : ℤ) (s rest : List ℕ) (at : ℕ) → SFits w16 z → drop at s ≡ fewest (zigzag z) ++ rest → signed16_at s at ≡ I16.Got z (at + length (fewest (zigzag z)))
back16 z s rest at h e =
    let b = zig_below w16 z h in
    signed16_is s at
    ∙ ap signed16_of (back32 (zigzag z) s rest at (omega arith) e)
    ∙ rw (un_zig z, in_range_lem z h)

-- the eight bytes
module _ (s : List ℕ) (at v p : ℕ) (e : bits64_at s at ≡ B64.Got v p) where
  pub found_bits : little_at 8 s at ≡ got v p
  unfolding bits64_at
  found_bits = same_bits (little_at 8 s at) (got v p) e

  pub within_bits : Read 8 s at v p
  within_bits = little_read 8 s at v p found_bits

  pub local_bits : (t : List ℕ) → take p t ≡ take p s → bits64_at t at ≡ B64.Got v p
  unfolding bits64_at
  local_bits t a = ap as_bits (little_local 8 at s t v p found_bits a)

  pub below_bits : Bytes s → v < 2 ^ 64
  below_bits h = little_below_read 8 s at v p h within_bits

  -- their number's bytes are they
  pub bytes_bits : Bytes s → eight v ≡ slice at p s
  unfolding eight
  bytes_bits h = little_bytes 8 s at v p h within_bits

pub back_bits : (n : ℕ) (s rest : List ℕ) (at : ℕ) → n < 2 ^ 64 → drop at s ≡ eight n ++ rest → bits64_at s at ≡ B64.Got n (at + 8)
unfolding bits64_at eight
back_bits n s rest at h e = ap as_bits (little_in 8 n at s rest (omega arith) h e)

-- the same of what was put into a buffer that had room
module _ (buf : List ℕ) (at : ℕ) where
  pub put32 : (n : ℕ) → n < 2 ^ 32 → at + length (fewest n) ≤ length buf → varint32_at (put_at buf at (fewest n)) at ≡ V32.Got n (at + length (fewest n))
  put32 n h room = back32 n (put_at buf at (fewest n)) _ at h (put_drop buf at (fewest n) room)

  pub put64 : (n : ℕ) → n < 2 ^ 64 → at + length (fewest n) ≤ length buf → varint64_at (put_at buf at (fewest n)) at ≡ V64.Got n (at + length (fewest n))
  put64 n h room = back64 n (put_at buf at (fewest n)) _ at h (put_drop buf at (fewest n) room)

  pub put16 : (z : ℤ) → SFits w16 z → at + length (fewest (zigzag z)) ≤ length buf → signed16_at (put_at buf at (fewest (zigzag z))) at ≡ I16.Got z (at + length (fewest (zigzag z)))
  put16 z h room = back16 z (put_at buf at (fewest (zigzag z))) _ at h (put_drop buf at (fewest (zigzag z)) room)

  pub put_bits : (n : ℕ) → n < 2 ^ 64 → at + length (eight n) ≤ length buf → bits64_at (put_at buf at (eight n)) at ≡ B64.Got n (at + 8)
  put_bits n h room = back_bits n (put_at buf at (eight n)) _ at h (put_drop buf at (eight n) room)

-- The bounds for `search`, from what a caller has: the call's equation and the case that it took.
module _ (s : List ℕ) (at v p : ℕ) (r : Varint32) (e : r ≡ varint32_at s at) (g : r ≡ V32.Got v p) where
  pub past32 : at < p
  past32 = (within32 s at v p (sym e ∙ g)).past

  pub inside32 : p ≤ length s
  inside32 = (within32 s at v p (sym e ∙ g)).inside

  pub small32 : v < 2 ^ 32
  small32 = (within32 s at v p (sym e ∙ g)).small

module _ (s : List ℕ) (at v p : ℕ) (r : Varint64) (e : r ≡ varint64_at s at) (g : r ≡ V64.Got v p) where
  pub past64 : at < p
  past64 = (within64 s at v p (sym e ∙ g)).past

  pub inside64 : p ≤ length s
  inside64 = (within64 s at v p (sym e ∙ g)).inside

  pub small64 : v < 2 ^ 64
  small64 = (within64 s at v p (sym e ∙ g)).small

module _ (s : List ℕ) (at : ℕ) (z : ℤ) (p : ℕ) (r : Int16) (e : r ≡ signed16_at s at) (g : r ≡ I16.Got z p) where
  pub past16 : at < p
  past16 = (within16 s at z p (sym e ∙ g)).past

  pub inside16 : p ≤ length s
  inside16 = (within16 s at z p (sym e ∙ g)).inside

module _ (s : List ℕ) (at v p : ℕ) (r : Bits64) (e : r ≡ bits64_at s at) (g : r ≡ B64.Got v p) where
  pub past_bits : at < p
  past_bits = let f = within_bits s at v p (sym e ∙ g) in omega arith

  pub inside_bits : p ≤ length s
  inside_bits = (within_bits s at v p (sym e ∙ g)).inside

pub ruleset got_bounds = (past32, inside32, small32, past64, inside64, small64, past16, inside16, past_bits, inside_bits)
