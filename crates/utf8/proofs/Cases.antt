-- What each `return` of the code answers, from the facts that its tests leave there. Assumes nothing.
use mathlib.Core.Path.{◌≡◌, refl}
use mathlib.Core.List.{List, ◌∷◌}
use Prim.Native.Nat.{ℕ, ◌+◌, ◌-◌, ◌*◌, ◌/◌, ◌%◌, ◌≤◌, ◌<◌}
use native.Mathlib.Omega.{arith}
use native.Mathlib.Numerals.{add-one}
use lib.ListN.{length, drop, get_or}
use lib.Seq.{drop-cons}
use Rattle.utf8.specs.Utf8.{judged, tails, decode, width}
use Rattle.utf8.proofs.Laws.{scalar_is, surrogate, beyond, taken, longer, no_scalar, tail_in, tail_off, lead_two, lead_three, lead_four, lead_none, read_two, read_three, read_four}
use Rattle.utf8.proofs.Short.{cut_short_lem}

-- the bytes from p on: the byte at p, and those from the next place on
view : (s : List ℕ) (p q : ℕ) → p < length s → q ≡ p + 1 → drop p s ≡ get_or s p 0 ∷ drop q s
view s p q h e = rw (e, add-one) (drop-cons s p 0 h)

-- a first byte 110xxxxx
module _ (s : List ℕ) (at : ℕ) (i : at < length s) (l : get_or s at 0 / 32 ≡ 6) where
  lead2 : decode (drop at s) ≡ tails 1 0x80 1 (get_or s at 0 % 32) (drop (at + 1) s)
  lead2 = rw (view s at (at + 1) i refl) (lead_two _ _ l)

  pub two_short : length s - at < 2 → 0 ≡ width (decode (drop at s))
  two_short h = rw (lead2, cut_short_lem s at 1 0x80 (get_or s at 0 % 32) h i)

  module _ (h : 2 ≤ length s - at) where
    at2 : drop (at + 1) s ≡ get_or s (at + 1) 0 ∷ drop (at + 2) s
    at2 = view s (at + 1) (at + 2) (omega arith) (omega arith)

    pub two_off : (get_or s (at + 1) 0 / 64 ≡ 2 → ⊥) → 0 ≡ width (decode (drop at s))
    two_off x = rw (lead2, at2, tail_off _ _ _ _ _ _ x)

    module _ (x : get_or s (at + 1) 0 / 64 ≡ 2) where
      n2 : ℕ
      n2 = get_or s at 0 % 32 * 64 + get_or s (at + 1) 0 % 64

      read2 : decode (drop at s) ≡ judged 1 0x80 n2
      unfolding n2
      read2 = rw (view s at (at + 1) i refl, at2) (read_two _ _ _ _ l x refl)

      pub two_low : get_or s at 0 < 0xC2 → 0 ≡ width (decode (drop at s))
      unfolding n2
      two_low b = rw (read2, longer 1 0x80 n2 (omega arith))

      pub two_fine : 0xC2 ≤ get_or s at 0 → 2 ≡ width (decode (drop at s))
      unfolding n2
      two_fine b = rw (read2, taken 1 0x80 n2 (omega arith) (scalar_is n2 (λ e. omega arith) (omega arith)))

pub ruleset two_cases = (two_short, two_off, two_low, two_fine)

-- a first byte 1110xxxx
module _ (s : List ℕ) (at : ℕ) (i : at < length s) (l : get_or s at 0 / 16 ≡ 14) where
  lead3 : decode (drop at s) ≡ tails 2 0x800 2 (get_or s at 0 % 16) (drop (at + 1) s)
  lead3 = rw (view s at (at + 1) i refl) (lead_three _ _ l)

  pub three_short : length s - at < 3 → 0 ≡ width (decode (drop at s))
  three_short h = rw (lead3, cut_short_lem s at 2 0x800 (get_or s at 0 % 16) h i)

  module _ (h : 3 ≤ length s - at) where
    at3 : drop (at + 1) s ≡ get_or s (at + 1) 0 ∷ get_or s (at + 2) 0 ∷ drop (at + 3) s
    at3 = rw (view s (at + 1) (at + 2) (omega arith) (omega arith), view s (at + 2) (at + 3) (omega arith) (omega arith))

    pub three_off : (get_or s (at + 1) 0 / 64 ≡ 2 → ⊥) → 0 ≡ width (decode (drop at s))
    three_off x = rw (lead3, at3, tail_off _ _ _ _ _ _ x)

    module _ (x : get_or s (at + 1) 0 / 64 ≡ 2) where
      pub three_off2 : (get_or s (at + 2) 0 / 64 ≡ 2 → ⊥) → 0 ≡ width (decode (drop at s))
      three_off2 y = rw (lead3, at3, tail_in _ _ _ _ _ _ x, tail_off _ _ _ _ _ _ y)

      module _ (y : get_or s (at + 2) 0 / 64 ≡ 2) where
        n3 : ℕ
        n3 = (get_or s at 0 % 16 * 64 + get_or s (at + 1) 0 % 64) * 64 + get_or s (at + 2) 0 % 64

        read3 : decode (drop at s) ≡ judged 2 0x800 n3
        unfolding n3
        read3 = rw (view s at (at + 1) i refl, at3) (read_three _ _ _ _ _ l x y refl)

        fine3 : 0x800 ≤ n3 → (0xD800 ≤ n3 → 0xE000 ≤ n3) → n3 ≤ 0x10FFFF → 3 ≡ width (decode (drop at s))
        fine3 a b c = rw (read3, taken 2 0x800 n3 a (scalar_is n3 b c))

        pub three_low : get_or s at 0 ≡ 0xE0 → get_or s (at + 1) 0 < 0xA0 → 0 ≡ width (decode (drop at s))
        unfolding n3
        three_low b c = rw (read3, longer 2 0x800 n3 (omega arith))

        pub three_first : get_or s at 0 ≡ 0xE0 → 0xA0 ≤ get_or s (at + 1) 0 → 3 ≡ width (decode (drop at s))
        unfolding n3
        three_first b c = fine3 (omega arith) (λ e. omega arith) (omega arith)

        pub three_surrogate : get_or s at 0 ≡ 0xED → 0x9F < get_or s (at + 1) 0 → 0 ≡ width (decode (drop at s))
        unfolding n3
        three_surrogate b c = rw (read3, no_scalar 2 0x800 n3 (omega arith) (surrogate n3 (omega arith) (omega arith)))

        pub three_before : get_or s at 0 ≡ 0xED → get_or s (at + 1) 0 ≤ 0x9F → 3 ≡ width (decode (drop at s))
        unfolding n3
        three_before b c = fine3 (omega arith) (λ e. omega arith) (omega arith)

        pub three_fine : (get_or s at 0 ≡ 0xE0 → ⊥) → (get_or s at 0 ≡ 0xED → ⊥) → 3 ≡ width (decode (drop at s))
        unfolding n3
        three_fine b c = fine3 (omega arith) (λ e. omega arith) (omega arith)

pub ruleset three_cases = (three_short, three_off, three_off2, three_low, three_first, three_surrogate, three_before, three_fine)

-- a first byte 11110xxx
module _ (s : List ℕ) (at : ℕ) (i : at < length s) (l : get_or s at 0 / 8 ≡ 30) where
  lead4 : decode (drop at s) ≡ tails 3 0x10000 3 (get_or s at 0 % 8) (drop (at + 1) s)
  lead4 = rw (view s at (at + 1) i refl) (lead_four _ _ l)

  pub four_short : length s - at < 4 → 0 ≡ width (decode (drop at s))
  four_short h = rw (lead4, cut_short_lem s at 3 0x10000 (get_or s at 0 % 8) h i)

  module _ (h : 4 ≤ length s - at) where
    at4 : drop (at + 1) s ≡ get_or s (at + 1) 0 ∷ get_or s (at + 2) 0 ∷ get_or s (at + 3) 0 ∷ drop (at + 4) s
    at4 =
        rw
        (view s (at + 1) (at + 2) (omega arith) (omega arith), view s (at + 2) (at + 3) (omega arith) (omega arith), view s (at + 3) (at + 4) (omega arith) (omega arith))

    pub four_off : (get_or s (at + 1) 0 / 64 ≡ 2 → ⊥) → 0 ≡ width (decode (drop at s))
    four_off x = rw (lead4, at4, tail_off _ _ _ _ _ _ x)

    module _ (x : get_or s (at + 1) 0 / 64 ≡ 2) where
      pub four_off2 : (get_or s (at + 2) 0 / 64 ≡ 2 → ⊥) → 0 ≡ width (decode (drop at s))
      four_off2 y = rw (lead4, at4, tail_in _ _ _ _ _ _ x, tail_off _ _ _ _ _ _ y)

      module _ (y : get_or s (at + 2) 0 / 64 ≡ 2) where
        pub four_off3 : (get_or s (at + 3) 0 / 64 ≡ 2 → ⊥) → 0 ≡ width (decode (drop at s))
        four_off3 z = rw (lead4, at4, tail_in _ _ _ _ _ _ x, tail_in _ _ _ _ _ _ y, tail_off _ _ _ _ _ _ z)

        module _ (z : get_or s (at + 3) 0 / 64 ≡ 2) where
          n4 : ℕ
          n4 = ((get_or s at 0 % 8 * 64 + get_or s (at + 1) 0 % 64) * 64 + get_or s (at + 2) 0 % 64) * 64 + get_or s (at + 3) 0 % 64

          read4 : decode (drop at s) ≡ judged 3 0x10000 n4
          unfolding n4
          read4 = rw (view s at (at + 1) i refl, at4) (read_four _ _ _ _ _ _ l x y z refl)

          fine4 : 0x10000 ≤ n4 → n4 ≤ 0x10FFFF → 4 ≡ width (decode (drop at s))
          fine4 a b = rw (read4, taken 3 0x10000 n4 a (scalar_is n4 (λ e. omega arith) b))

          over4 : 0x10FFFF < n4 → 0 ≡ width (decode (drop at s))
          over4 a = rw (read4, no_scalar 3 0x10000 n4 (omega arith) (beyond n4 a))

          pub four_low : get_or s at 0 ≡ 0xF0 → get_or s (at + 1) 0 < 0x90 → 0 ≡ width (decode (drop at s))
          unfolding n4
          four_low b c = rw (read4, longer 3 0x10000 n4 (omega arith))

          pub four_first : get_or s at 0 ≡ 0xF0 → 0x90 ≤ get_or s (at + 1) 0 → 4 ≡ width (decode (drop at s))
          unfolding n4
          four_first b c = fine4 (omega arith) (omega arith)

          pub four_fine : (get_or s at 0 ≡ 0xF0 → ⊥) → get_or s at 0 < 0xF4 → 4 ≡ width (decode (drop at s))
          unfolding n4
          four_fine b c = fine4 (omega arith) (omega arith)

          pub four_over : get_or s at 0 ≡ 0xF4 → 0x8F < get_or s (at + 1) 0 → 0 ≡ width (decode (drop at s))
          unfolding n4
          four_over b c = over4 (omega arith)

          pub four_last : get_or s at 0 ≡ 0xF4 → get_or s (at + 1) 0 ≤ 0x8F → 4 ≡ width (decode (drop at s))
          unfolding n4
          four_last b c = fine4 (omega arith) (omega arith)

          pub four_beyond : 0xF4 ≤ get_or s at 0 → (get_or s at 0 ≡ 0xF4 → ⊥) → 0 ≡ width (decode (drop at s))
          unfolding n4
          four_beyond b c = over4 (omega arith)

pub ruleset four_cases = (four_short, four_off, four_off2, four_off3, four_low, four_first, four_fine, four_over, four_last, four_beyond)

-- any other first byte
module _ (s : List ℕ) (at : ℕ) (i : at < length s) where
  pub char_none : 0x80 ≤ get_or s at 0 → (get_or s at 0 / 32 ≡ 6 → ⊥) → (get_or s at 0 / 16 ≡ 14 → ⊥) → (get_or s at 0 / 8 ≡ 30 → ⊥) → 0 ≡ width (decode (drop at s))
  char_none b u v w = rw (view s at (at + 1) i refl, lead_none _ _ b u v w)
