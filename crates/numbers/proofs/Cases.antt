-- The cases of the code, one for each answer and each turn of a loop, for `search`. Assumes nothing.
use Rattle.std.proofs.Common.{◌≡◌, ℕ, suc, ◌+◌, ◌-◌, ◌*◌, ◌/◌, ◌%◌, ◌^◌, ◌<◌, ◌≤◌, Bool, true, false, ltb, List, [], ◌∷◌, length, get_or, set, ℤ, sym, refl, ap, ◌∙◌, arith, to_z-of_z, w8, w16, w32, w64, Fits, to_z, of_z, le-ltb, lt-ltb}
use borrow.Author.Rules.{sfits_of}
use lib.Seq.{sets, length-sets, slice, slice_empty}
use Rattle.types.specs.Refusals.{END, NO_ROOM, RANGE}
use Rattle.numbers.specs.Varint.{fewest}
use Rattle.zigzag.specs.Zigzag.{unzigzag}
use Rattle.zigzag.proofs.Zig.{range_exact}
use Rattle.numbers.specs.Fixed.{little, little_of, four, eight}
use Rattle.numbers.specs.Answers.{varint32_at, signed16_at, bits32_at, bits64_at, wrote_at, put_at}
use Rattle.numbers.specs.declared.Varint32.{Varint32}
use Rattle.numbers.specs.declared.Varint32.TheVariants as V32
use Rattle.numbers.specs.declared.Int16.TheVariants as I16
use Rattle.numbers.specs.declared.Bits32.TheVariants as B32
use Rattle.numbers.specs.declared.Bits64.TheVariants as B64
use Rattle.numbers.specs.declared.Wrote.TheVariants as W
use Rattle.numbers.proofs.Fewest.{fewest_one, fewest_more, fewest_len}
use Rattle.numbers.proofs.Fixed.{length_eight, little_four}
use Rattle.numbers.proofs.Found.{by_lt}
use Rattle.numbers.proofs.Sixteen.{signed16_is}
use Rattle.numbers.proofs.Put.{wrote_to, put_in, wrote_not, put_not, roomy, scant, Storing, storing, next_in, stored, all_to, all_in, sets_append}

-- a 16-bit number as it is read
module _ (s : List ℕ) (at : ℕ) (r : Varint32) (e : r ≡ varint32_at s at) where
  pub i16_refused : (why : ℕ) → r ≡ V32.Refused why → I16.Refused why ≡ signed16_at s at
  i16_refused why g = rw (signed16_is, ← e, g)

  module _ (v p : ℕ) (g : r ≡ V32.Got v p) where
    pub i16_got : (z : ℤ) → v < 65536 → z ≡ unzigzag v → I16.Got z p ≡ signed16_at s at
    i16_got z h d = rw (d, signed16_is, ← e, g, range_exact v, lt-ltb v 65536 h)

    pub i16_range : 65536 ≤ v → I16.Refused RANGE ≡ signed16_at s at
    i16_range h = rw (signed16_is, ← e, g, range_exact v, le-ltb v 65536 h)

pub ruleset i16_cases = (i16_refused, i16_got, i16_range, to_z-of_z, sfits_of)

-- the test for room
module _ (have at need : ℕ) where
  pub room_none : have < at → true ≡ ltb have (at + need)
  room_none h = sym (lt-ltb have (at + need) (omega arith))

  pub room_rest : at ≤ have → ltb (have - at) need ≡ ltb have (at + need)
  room_rest h =
      by_lt (have - at) need (λ k. rw (lt-ltb (have - at) need k, lt-ltb have (at + need) (omega arith)))
      (λ k. rw (le-ltb (have - at) need k, le-ltb have (at + need) (omega arith)))

pub ruleset room_cases = (room_none, room_rest)

-- what a writer of bs does after that test
module _ (short : Bool) (buf : List ℕ) (at need : ℕ) (bs : List ℕ) (e : short ≡ ltb (length buf) (at + need)) (l : need ≡ length bs) where
  pub short_answer : short ≡ true → W.Refused NO_ROOM ≡ wrote_at buf at bs
  short_answer t = wrote_not buf at bs (rw l at (scant short (length buf) at need e t))

  pub short_left : short ≡ true → buf ≡ put_at buf at bs
  short_left t = put_not buf at bs (rw l at (scant short (length buf) at need e t))

  pub begun : short ≡ false → Storing buf at bs buf at bs
  begun f = storing buf at bs (rw l at (roomy short (length buf) at need e f))

-- the place behind them
module _ (short : Bool) (have at need : ℕ) (e : short ≡ ltb have (at + need)) (f : short ≡ false) where
  pub room_behind : at + need ≤ have
  room_behind = roomy short have at need e f

  pub room_fits : have < 2 ^ 64 → Fits w64 (at + need)
  room_fits h = record { fits = omega (arith, room_behind) }

pub one_long : (b : ℕ) → 1 ≡ length (b ∷ [])
one_long b = refl

pub eight_long : (n : ℕ) → 8 ≡ length (eight n)
eight_long n = sym (length_eight n)

-- the one byte
module _ (short : Bool) (buf : List ℕ) (at : ℕ) (e : short ≡ ltb (length buf) (at + 1)) (f : short ≡ false) where
  pub byte_in : at < length buf
  byte_in = omega (arith, roomy short (length buf) at 1 e f)

  module _ (b : ℕ) where
    pub byte_to : W.To (at + 1) ≡ wrote_at buf at (b ∷ [])
    byte_to = all_to (stored (begun short buf at 1 (b ∷ []) e refl f) b [] refl) refl

    pub byte_left : set buf at b ≡ put_at buf at (b ∷ [])
    byte_left = all_in (stored (begun short buf at 1 (b ∷ []) e refl f) b [] refl) refl

pub ruleset byte_cases = (short_answer, short_left, byte_in, byte_to, byte_left, one_long, room_fits)

-- how many bytes a varint takes: len are counted, and rest is what is left of the number
module _ (n rest len : ℕ) (e : len + length (fewest rest) ≡ 1 + length (fewest n)) where
  pub len_fits : Fits w64 (len + 1)
  len_fits = record { fits = omega (arith, fewest_len n) }

  pub len_next : 128 ≤ rest → rest < 2 ^ 64 → len + 1 + length (fewest (rest / 128)) ≡ 1 + length (fewest n)
  len_next h k = omega (arith, ap length (fewest_more rest h k))

  pub len_done : rest < 128 → len ≡ length (fewest n)
  len_done h = omega (arith, ap length (fewest_one rest h))

pub ruleset len_cases = (len_fits, len_next, len_done)

-- the bytes of a varint: rest is what is left of the number
module _ (buf₀ : List ℕ) (at : ℕ) (bs buf : List ℕ) (p rest : ℕ) (st : Storing buf₀ at bs buf p (fewest rest)) where
  pub group_in : 128 ≤ rest → rest < 2 ^ 64 → p < length buf
  group_in h k = next_in st _ _ (fewest_more rest h k)

  pub group_fits : 128 ≤ rest → rest < 2 ^ 64 → length buf₀ < 2 ^ 64 → Fits w64 (p + 1)
  group_fits h k l = record { fits = omega (arith, group_in h k, st.same) }

  pub group_next : 128 ≤ rest → rest < 2 ^ 64 → Storing buf₀ at bs (set buf p (rest % 128 + 128)) (p + 1) (fewest (rest / 128))
  group_next h k = stored st _ _ (fewest_more rest h k)

  module _ (h : rest < 128) where
    pub last_in_lem : p < length buf
    last_in_lem = next_in st _ _ (fewest_one rest h)

    pub last_fits : length buf₀ < 2 ^ 64 → Fits w64 (p + 1)
    last_fits l = record { fits = omega (arith, last_in_lem, st.same) }

    pub last_to : W.To (p + 1) ≡ wrote_at buf₀ at bs
    last_to = all_to (stored st _ _ (fewest_one rest h)) refl

    pub last_left : set buf p rest ≡ put_at buf₀ at bs
    last_left = all_in (stored st _ _ (fewest_one rest h)) refl

    pub last_same : length (set buf p rest) ≡ length buf₀
    last_same = (stored st _ _ (fewest_one rest h)).same

pub ruleset varint_cases = (short_answer, short_left, begun, group_in, group_fits, group_next, last_in_lem, last_fits, last_to, last_left, last_same)

-- the eight bytes, written: four and then the four above them
pub four_left : (buf : List ℕ) (at n : ℕ) → set (set (set (set buf at (n % 256)) (at + 1) (n / 2 ^ 8 % 256)) (at + 2) (n / 2 ^ 16 % 256)) (at + 3) (n / 2 ^ 24 % 256) ≡ sets buf at (four n)
unfolding four
four_left buf at n =
    let one : at + 1 ≡ suc at = omega arith in
    let two : at + 2 ≡ suc (suc at) = omega arith in
    let three : at + 3 ≡ suc (suc (suc at)) = omega arith in
    let second : n / 2 ^ 16 ≡ n / 256 / 256 = omega arith in
    let third : n / 2 ^ 24 ≡ n / 256 / 256 / 256 = omega arith in
    rw (one, two, three, second, third)

-- the room for both
module _ (short : Bool) (have at : ℕ) (e : short ≡ ltb have (at + 8)) (f : short ≡ false) where
  pub low_in : at + 4 ≤ have
  low_in = omega (arith, roomy short have at 8 e f)

  pub high_in : (l : ℕ) → l ≡ have → at + 4 + 4 ≤ l
  high_in l g = omega (arith, roomy short have at 8 e f)

  pub high_fits : have < 2 ^ 64 → Fits w64 (at + 4)
  high_fits h = record { fits = omega (arith, low_in) }

module _ (short : Bool) (buf : List ℕ) (at n : ℕ) (e : short ≡ ltb (length buf) (at + 8)) (f : short ≡ false) where
  pub eight_to : W.To (at + 8) ≡ wrote_at buf at (eight n)
  unfolding eight
  eight_to = wrote_to buf at (eight n) (roomy short (length buf) at 8 e f)

  pub eight_left : (low both : List ℕ) → low ≡ sets buf at (four n) → both ≡ sets low (at + 4) (four (n / 2 ^ 32)) → both ≡ put_at buf at (eight n)
  unfolding eight four
  eight_left low both g h =
      let above : n / 2 ^ 32 ≡ n / 256 / 256 / 256 / 256 = omega arith in
      h
      ∙ rw (g, above) (sym (sets_append buf at (little_of 4 n) (little_of 4 (n / 256 / 256 / 256 / 256))))
      ∙ put_in buf at (eight n) (roomy short (length buf) at 8 e f)

pub length_low : (low buf : List ℕ) (at n : ℕ) → low ≡ sets buf at (four n) → length low ≡ length buf
length_low low buf at n e = ap length e ∙ length-sets buf at (four n)

pub ruleset eight_cases = (short_answer, short_left, eight_long, low_in, high_in, high_fits, eight_to, eight_left, length_low, room_fits)

-- the eight bytes, read: four and then the four above them
module _ (s : List ℕ) (at : ℕ) (known : (n : ℕ) → Fits w8 (get_or s n 0)) (a b : ℕ) (ea : a ≡ get_or s at 0) (eb : b ≡ get_or s (at + 1) 0) where
  pub two_fit : Fits w64 (a + b * 2 ^ 8 % 2 ^ 64)
  two_fit = record { fits = omega (arith, (known at).fits, (known (at + 1)).fits) }

  module _ (c : ℕ) (ec : c ≡ get_or s (at + 2) 0) where
    pub three_fit : Fits w64 (a + b * 2 ^ 8 % 2 ^ 64 + c * 2 ^ 16 % 2 ^ 64)
    three_fit = record { fits = omega (arith, (known at).fits, (known (at + 1)).fits, (known (at + 2)).fits) }

    module _ (d : ℕ) (ed : d ≡ get_or s (at + 3) 0) where
      pub four_below : a + b * 2 ^ 8 % 2 ^ 64 + c * 2 ^ 16 % 2 ^ 64 + d * 2 ^ 24 % 2 ^ 64 < 2 ^ 32
      four_below = omega (arith, (known at).fits, (known (at + 1)).fits, (known (at + 2)).fits, (known (at + 3)).fits)

      pub four_fit : Fits w64 (a + b * 2 ^ 8 % 2 ^ 64 + c * 2 ^ 16 % 2 ^ 64 + d * 2 ^ 24 % 2 ^ 64)
      four_fit = record { fits = omega (arith, four_below) }

      pub four_is : at + 4 ≤ length s → a + b * 2 ^ 8 % 2 ^ 64 + c * 2 ^ 16 % 2 ^ 64 + d * 2 ^ 24 % 2 ^ 64 ≡ little (slice at (at + 4) s)
      four_is h =
          let none : little (slice (at + 4) (at + 4) s) ≡ 0 = rw slice_empty in
          omega (arith, little_four s at (at + 4) (omega arith) h, (known at).fits, (known (at + 1)).fits, (known (at + 2)).fits, (known (at + 3)).fits)

pub ruleset read_four_cases = (two_fit, three_fit, four_below, four_fit, four_is)

pub le_short : (short : Bool) (s : List ℕ) (at : ℕ) → short ≡ ltb (length s) (at + 8) → short ≡ true → B64.Refused END ≡ bits64_at s at
unfolding bits64_at
le_short short s at e t = rw (← e, t)

module _ (short : Bool) (s : List ℕ) (at : ℕ) (e : short ≡ ltb (length s) (at + 8)) (f : short ≡ false) where
  pub le_got : (low high : ℕ) → low ≡ little (slice at (at + 4) s) → high ≡ little (slice (at + 4) (at + 4 + 4) s) → high < 2 ^ 32 → B64.Got (low + high * 2 ^ 32 % 2 ^ 64) (at + 8) ≡ bits64_at s at
  unfolding bits64_at
  le_got low high g h i =
      let room : at + 8 ≤ length s = roomy short (length s) at 8 e f in
      let end : at + 4 + 4 ≡ at + 8 = omega arith in
      let above : high ≡ little (slice (at + 4) (at + 8) s) = rw end at h in
      let none : little (slice (at + 4) (at + 4) s) ≡ 0 = rw slice_empty in
      let whole = little_four s at (at + 8) (omega arith) room in
      let part = little_four s at (at + 4) (omega arith) (omega arith) in
      let sum : low + high * 2 ^ 32 % 2 ^ 64 ≡ little (slice at (at + 8) s) = omega arith in
      rw (le-ltb (length s) (at + 8) room, sum)

pub ruleset le_cases = (le_short, le_got, low_in, high_in, high_fits, room_fits)

-- four bytes, read and written
module _ (short : Bool) (have at : ℕ) (e : short ≡ ltb have (at + 4)) (f : short ≡ false) where
  pub word_in : at + 4 ≤ have
  word_in = roomy short have at 4 e f

module _ (short : Bool) (s : List ℕ) (at : ℕ) (e : short ≡ ltb (length s) (at + 4)) where
  pub word_short : short ≡ true → B32.Refused END ≡ bits32_at s at
  unfolding bits32_at
  word_short t = rw (← e, t)

  pub word_got : short ≡ false → (v : ℕ) → v ≡ little (slice at (at + 4) s) → B32.Got v (at + 4) ≡ bits32_at s at
  unfolding bits32_at
  word_got f v g = rw (← e, f, g)

pub word_fits : (v : ℕ) → v < 0x1_0000_0000 → Fits w32 v
word_fits v h = record { fits = h }

pub ruleset word_cases = (word_in, word_short, word_got, word_fits, room_fits)

module _ (short : Bool) (buf : List ℕ) (at n : ℕ) (e : short ≡ ltb (length buf) (at + 4)) (f : short ≡ false) where
  pub four_to : W.To (at + 4) ≡ wrote_at buf at (four n)
  unfolding four
  four_to = wrote_to buf at (four n) (roomy short (length buf) at 4 e f)

  pub four_put : (low : List ℕ) → low ≡ sets buf at (four n) → low ≡ put_at buf at (four n)
  unfolding four
  four_put low g = g ∙ put_in buf at (four n) (roomy short (length buf) at 4 e f)

pub length_four : (n : ℕ) → 4 ≡ length (four n)
unfolding four
length_four n = refl

pub ruleset four_cases = (short_answer, short_left, length_four, word_in, four_to, four_put, length_low, room_fits)
