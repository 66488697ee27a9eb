-- The cases of the code, one for each answer, for `search`. Assumes nothing.
use mathlib.Core.Path.{◌≡◌, sym, ap, ◌∙◌}
use mathlib.Core.List.{List, [], ◌∷◌}
use mathlib.Core.Bool.{Bool, true, false}
use Prim.Native.Nat.{ℕ, suc, ◌+◌, ◌*◌, ◌/◌, ◌%◌, ◌^◌, ◌≤◌, ◌<◌}
use native.Mathlib.Omega.{arith}
use lib.Dec.{ltb}
use lib.ListN.{length, get_or, set, length-set}
use lib.Seq.{sets, length-sets, slice, slice_empty}
use mir.Syntax.{w8, w16, w64}
use mir.Val.{Fits}
use Rattle.types.specs.Refusals.{END}
use Rattle.numbers.specs.Varint.{got, refused}
use Rattle.numbers.specs.Answers.{wrote_at, put_at}
use Rattle.numbers.specs.declared.Bits32.TheVariants as B32
use Rattle.numbers.specs.declared.Bits64.TheVariants as B64
use Rattle.numbers.specs.declared.Wrote.TheVariants as W
use Rattle.numbers.proofs.Put.{wrote_to, put_in, roomy, sets_append}
use Rattle.numbers.proofs.Cases.{short_answer, short_left, room_fits, low_in, high_in, high_fits, word_in, word_fits}
use Rattle.big_endian.specs.Big.{big, big_of, big2, big4, big8}
use Rattle.big_endian.specs.Answers.{big_at, word16_at, word32_at, word64_at}
use Rattle.big_endian.specs.declared.Bits16.TheVariants as B16
use Rattle.big_endian.proofs.Big.{two_bytes, four_bytes, length_big2, length_big4, length_big8}

-- k bytes read, after the test for them
module _ (k : ℕ) (short : Bool) (s : List ℕ) (at : ℕ) (e : short ≡ ltb (length s) (at + k)) where
  at_short : short ≡ true → refused END ≡ big_at k s at
  at_short t = rw (← e, t)

  at_got : short ≡ false → (v : ℕ) → v ≡ big (slice at (at + k) s) → got v (at + k) ≡ big_at k s at
  at_got f v g = rw (← e, f, g)

-- two bytes, read
module _ (short : Bool) (have at : ℕ) (e : short ≡ ltb have (at + 2)) (f : short ≡ false) where
  pub pair_in : at + 2 ≤ have
  pair_in = roomy short have at 2 e f

  pub pair_first : at < have
  pair_first = omega (arith, pair_in)

  pub pair_second : at + 1 < have
  pair_second = omega (arith, pair_in)

  pub pair_place : have < 2 ^ 64 → Fits w64 (at + 1)
  pair_place h = record { fits = omega (arith, pair_in) }

module _ (short : Bool) (s : List ℕ) (at : ℕ) (e : short ≡ ltb (length s) (at + 2)) where
  pub pair_short : short ≡ true → B16.Refused END ≡ word16_at s at
  unfolding word16_at
  pair_short t = rw (← at_short 2 short s at e t)

  pub pair_got : short ≡ false → ((n : ℕ) → Fits w8 (get_or s n 0)) → (a b : ℕ) → a ≡ get_or s at 0 → b ≡ get_or s (at + 1) 0 → B16.Got (a * 2 ^ 8 % 2 ^ 16 + b) (at + 2) ≡ word16_at s at
  unfolding word16_at
  pair_got f known a b ea eb =
      let room = roomy short (length s) at 2 e f in
      let is : slice at (at + 2) s ≡ a ∷ b ∷ [] = rw (ea, eb, ← slice_empty (at + 2) s) (two_bytes s at (at + 2) (omega arith) room) in
      let sum : a * 2 ^ 8 % 2 ^ 16 + b ≡ b + 256 * (a + 256 * 0) = omega (arith, (known at).fits) in
      rw (← at_got 2 short s at e f (a * 2 ^ 8 % 2 ^ 16 + b) (sum ∙ ap big (sym is)))

-- which bytes they are has no say in whether the sums fit
module _ (s : List ℕ) (known : (n : ℕ) → Fits w8 (get_or s n 0)) (a b i j : ℕ) (ea : a ≡ get_or s i 0) (eb : b ≡ get_or s j 0) where
  pub pair_fits : Fits w16 (a * 2 ^ 8 % 2 ^ 16 + b)
  pair_fits = record { fits = omega (arith, (known i).fits, (known j).fits) }

  pub two_fit : Fits w64 (a * 2 ^ 24 % 2 ^ 64 + b * 2 ^ 16 % 2 ^ 64)
  two_fit = record { fits = omega (arith, (known i).fits, (known j).fits) }

  module _ (c k : ℕ) (ec : c ≡ get_or s k 0) where
    pub three_fit : Fits w64 (a * 2 ^ 24 % 2 ^ 64 + b * 2 ^ 16 % 2 ^ 64 + c * 2 ^ 8 % 2 ^ 64)
    three_fit = record { fits = omega (arith, (known i).fits, (known j).fits, (known k).fits) }

    module _ (d l : ℕ) (ed : d ≡ get_or s l 0) where
      pub four_below : a * 2 ^ 24 % 2 ^ 64 + b * 2 ^ 16 % 2 ^ 64 + c * 2 ^ 8 % 2 ^ 64 + d < 2 ^ 32
      four_below = omega (arith, (known i).fits, (known j).fits, (known k).fits, (known l).fits)

      pub four_fit : Fits w64 (a * 2 ^ 24 % 2 ^ 64 + b * 2 ^ 16 % 2 ^ 64 + c * 2 ^ 8 % 2 ^ 64 + d)
      four_fit = record { fits = omega (arith, four_below) }

pub ruleset pair_cases = (pair_first, pair_second, pair_place, pair_short, pair_got, pair_fits, room_fits)

-- four bytes, read
pub four_is : (s : List ℕ) (at : ℕ) → ((n : ℕ) → Fits w8 (get_or s n 0)) → (a b c d : ℕ) → a ≡ get_or s at 0 → b ≡ get_or s (at + 1) 0 → c ≡ get_or s (at + 2) 0 → d ≡ get_or s (at + 3) 0 → at + 4 ≤ length s → a * 2 ^ 24 % 2 ^ 64 + b * 2 ^ 16 % 2 ^ 64 + c * 2 ^ 8 % 2 ^ 64 + d ≡ big (slice at (at + 4) s)
four_is s at known a b c d ea eb ec ed h =
    let is : slice at (at + 4) s ≡ a ∷ b ∷ c ∷ d ∷ [] = rw (ea, eb, ec, ed, ← slice_empty (at + 4) s) (four_bytes s at (at + 4) (omega arith) h) in
    let sum : a * 2 ^ 24 % 2 ^ 64 + b * 2 ^ 16 % 2 ^ 64 + c * 2 ^ 8 % 2 ^ 64 + d ≡ d + 256 * (c + 256 * (b + 256 * (a + 256 * 0))) = omega (arith, (known at).fits, (known (at + 1)).fits, (known (at + 2)).fits) in
    sum ∙ ap big (sym is)

pub ruleset read_four_cases = (two_fit, three_fit, four_below, four_fit, four_is)

module _ (short : Bool) (s : List ℕ) (at : ℕ) (e : short ≡ ltb (length s) (at + 4)) where
  pub word_short : short ≡ true → B32.Refused END ≡ word32_at s at
  unfolding word32_at
  word_short t = rw (← at_short 4 short s at e t)

  pub word_got : short ≡ false → (v : ℕ) → v ≡ big (slice at (at + 4) s) → B32.Got v (at + 4) ≡ word32_at s at
  unfolding word32_at
  word_got f v g = rw (← at_got 4 short s at e f v g)

pub ruleset word_cases = (word_in, word_short, word_got, word_fits, room_fits)

-- eight bytes, read: four and then the four below them
module _ (short : Bool) (s : List ℕ) (at : ℕ) (e : short ≡ ltb (length s) (at + 8)) where
  pub long_short : short ≡ true → B64.Refused END ≡ word64_at s at
  unfolding word64_at
  long_short t = rw (← at_short 8 short s at e t)

  pub long_got : short ≡ false → (high low : ℕ) → high ≡ big (slice at (at + 4) s) → high < 2 ^ 32 → low ≡ big (slice (at + 4) (at + 4 + 4) s) → B64.Got (high * 2 ^ 32 % 2 ^ 64 + low) (at + 8) ≡ word64_at s at
  unfolding word64_at
  long_got f high low g i h =
      let room = roomy short (length s) at 8 e f in
      let end : at + 4 + 4 ≡ at + 8 = omega arith in
      let below : low ≡ big (slice (at + 4) (at + 8) s) = rw end at h in
      let none = slice_empty (at + 4) s in
      let last = slice_empty (at + 8) s in
      let tail = rw (end, last) at (four_bytes s (at + 4) (at + 8) (omega arith) room) in
      let upper = g ∙ ap big (rw none at (four_bytes s at (at + 4) (omega arith) (omega arith))) in
      let lower = below ∙ ap big tail in
      let whole = four_bytes s at (at + 8) (omega arith) room ∙ ap (λ (bs : List ℕ). get_or s at 0 ∷ get_or s (at + 1) 0 ∷ get_or s (at + 2) 0 ∷ get_or s (at + 3) 0 ∷ bs) tail in
      let sum : high * 2 ^ 32 % 2 ^ 64 + low ≡ big (slice at (at + 8) s) = omega (arith, ap big whole) in
      rw (← at_got 8 short s at e f (high * 2 ^ 32 % 2 ^ 64 + low) sum)

pub long_fits : (high low : ℕ) → high < 2 ^ 32 → low < 2 ^ 32 → Fits w64 (high * 2 ^ 32 % 2 ^ 64 + low)
long_fits high low h l = record { fits = omega arith }

pub ruleset long_cases = (long_short, long_got, long_fits, low_in, high_in, high_fits, room_fits)

-- two bytes, written
module _ (short : Bool) (buf : List ℕ) (at n : ℕ) (e : short ≡ ltb (length buf) (at + 2)) (f : short ≡ false) where
  pub two_to : W.To (at + 2) ≡ wrote_at buf at (big2 n)
  unfolding big2
  two_to = wrote_to buf at (big2 n) (roomy short (length buf) at 2 e f)

  pub two_next : (b : ℕ) → at + 1 < length (set buf at b)
  two_next b = simp length-set (omega (arith, roomy short (length buf) at 2 e f))

  pub two_left : set (set buf at (n / 2 ^ 8 % 256)) (at + 1) (n % 256) ≡ put_at buf at (big2 n)
  unfolding big2
  two_left =
      let one : at + 1 ≡ suc at = omega arith in
      rw one (put_in buf at (big2 n) (roomy short (length buf) at 2 e f))

pub length_two : (n : ℕ) → 2 ≡ length (big2 n)
length_two n = sym (length_big2 n)

pub ruleset two_cases = (short_answer, short_left, length_two, pair_first, two_next, pair_place, two_to, two_left, room_fits)

-- four bytes, written
pub four_left : (buf : List ℕ) (at n : ℕ) → set (set (set (set buf at (n / 2 ^ 24 % 256)) (at + 1) (n / 2 ^ 16 % 256)) (at + 2) (n / 2 ^ 8 % 256)) (at + 3) (n % 256) ≡ sets buf at (big4 n)
unfolding big4
four_left buf at n =
    let one : at + 1 ≡ suc at = omega arith in
    let two : at + 2 ≡ suc (suc at) = omega arith in
    let three : at + 3 ≡ suc (suc (suc at)) = omega arith in
    let second : n / 2 ^ 16 ≡ n / 256 / 256 = omega arith in
    let third : n / 2 ^ 24 ≡ n / 256 / 256 / 256 = omega arith in
    rw (one, two, three, second, third)

module _ (short : Bool) (buf : List ℕ) (at n : ℕ) (e : short ≡ ltb (length buf) (at + 4)) (f : short ≡ false) where
  pub four_to : W.To (at + 4) ≡ wrote_at buf at (big4 n)
  unfolding big4
  four_to = wrote_to buf at (big4 n) (roomy short (length buf) at 4 e f)

  pub four_put : (low : List ℕ) → low ≡ sets buf at (big4 n) → low ≡ put_at buf at (big4 n)
  unfolding big4
  four_put low g = g ∙ put_in buf at (big4 n) (roomy short (length buf) at 4 e f)

pub length_four : (n : ℕ) → 4 ≡ length (big4 n)
length_four n = sym (length_big4 n)

pub length_low : (low buf : List ℕ) (at n : ℕ) → low ≡ sets buf at (big4 n) → length low ≡ length buf
length_low low buf at n e = ap length e ∙ length-sets buf at (big4 n)

pub ruleset four_cases = (short_answer, short_left, length_four, word_in, four_to, four_put, length_low, room_fits)

-- eight bytes, written: four and then the four below them
module _ (short : Bool) (buf : List ℕ) (at n : ℕ) (e : short ≡ ltb (length buf) (at + 8)) (f : short ≡ false) where
  pub eight_to : W.To (at + 8) ≡ wrote_at buf at (big8 n)
  unfolding big8
  eight_to = wrote_to buf at (big8 n) (roomy short (length buf) at 8 e f)

  pub eight_left : (high both : List ℕ) → high ≡ sets buf at (big4 (n / 2 ^ 32)) → both ≡ sets high (at + 4) (big4 n) → both ≡ put_at buf at (big8 n)
  unfolding big8 big4
  eight_left high both g h =
      let above : n / 2 ^ 32 ≡ n / 256 / 256 / 256 / 256 = omega arith in
      h
      ∙ rw (g, above) (sym (sets_append buf at (big_of 4 (n / 256 / 256 / 256 / 256)) (big_of 4 n)))
      ∙ put_in buf at (big8 n) (roomy short (length buf) at 8 e f)

pub length_eight : (n : ℕ) → 8 ≡ length (big8 n)
length_eight n = sym (length_big8 n)

pub ruleset eight_cases = (short_answer, short_left, length_eight, low_in, high_in, high_fits, eight_to, eight_left, length_low, room_fits)
