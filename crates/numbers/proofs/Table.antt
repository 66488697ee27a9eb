-- Lines T1 to T4 of the scope paper's sample bytes, computed on what the calls answer. Assumes nothing.
use Rattle.std.proofs.Common.{◌≡◌, ℕ, ◌-◌, ◌^◌, List, [], ◌∷◌, ℤ, pos, negsuc, refl}
use Rattle.types.specs.Refusals.{END, LONG_VARINT, RANGE}
use Rattle.numbers.specs.Varint.{fewest}
use Rattle.zigzag.specs.Zigzag.{zigzag, unzigzag}
use Rattle.numbers.specs.Answers.{varint32_at, signed16_at}
use Rattle.numbers.specs.declared.Varint32.{Varint32}
use Rattle.numbers.specs.declared.Varint32.TheVariants as V32
use Rattle.numbers.specs.declared.Int16.TheVariants as I16

-- the bytes that a signed number of 16 or 32 bits is written as
abbrev pub written : ℤ → List ℕ
written z = fewest (zigzag z)

-- what an i32 is read as: a number and where it ends, or a refusal
pub data Int32 : Type 0 where
  int : ℤ → ℕ → Int32
  refused : ℕ → Int32

abbrev pub signed32_of : Varint32 → Int32
signed32_of (V32.Got v p) = int (unzigzag v) p
signed32_of (V32.Refused why) = refused why

abbrev pub i32 : List ℕ → Int32
i32 bs = signed32_of (varint32_at bs 0)

-- "i32: 0 is 00, -1 is 01, 1 is 02"
abbrev pub T1 : Type 0
T1 =
    (written (pos 0) ≡ 0x00 ∷ [])
    × (i32 (0x00 ∷ []) ≡ int (pos 0) 1)
    × (written (negsuc 0) ≡ 0x01 ∷ [])
    × (i32 (0x01 ∷ []) ≡ int (negsuc 0) 1)
    × (written (pos 1) ≡ 0x02 ∷ [])
    × (i32 (0x02 ∷ []) ≡ int (pos 1) 1)

-- "i16 -32768 is FF FF 03"
abbrev pub T2 : Type 0
T2 =
    (written (negsuc 32767) ≡ 0xff ∷ 0xff ∷ 0x03 ∷ [])
    × (signed16_at (0xff ∷ 0xff ∷ 0x03 ∷ []) 0 ≡ I16.Got (negsuc 32767) 3)

-- "i32 -2147483648 is FF FF FF FF 0F; FF FF FF FF 7F reads the same; FF five times is 6, four times 1"
abbrev pub T3 : Type 0
T3 =
    (written (negsuc 2147483647) ≡ 0xff ∷ 0xff ∷ 0xff ∷ 0xff ∷ 0x0f ∷ [])
    × (i32 (0xff ∷ 0xff ∷ 0xff ∷ 0xff ∷ 0x0f ∷ []) ≡ int (negsuc 2147483647) 5)
    × (i32 (0xff ∷ 0xff ∷ 0xff ∷ 0xff ∷ 0x7f ∷ []) ≡ int (negsuc 2147483647) 5)
    × (i32 (0xff ∷ 0xff ∷ 0xff ∷ 0xff ∷ 0xff ∷ []) ≡ refused LONG_VARINT)
    × (i32 (0xff ∷ 0xff ∷ 0xff ∷ 0xff ∷ []) ≡ refused END)

-- "80 80 04 as i16 is 17"
abbrev pub T4 : Type 0
T4 = signed16_at (0x80 ∷ 0x80 ∷ 0x04 ∷ []) 0 ≡ I16.Refused RANGE

pub rows : T1 × T2 × T3 × T4
unfolding fewest varint32_at signed16_at
rows =
    ((refl, refl, refl, refl, refl, refl), (refl, refl), (refl, refl, refl, refl, refl), refl)

-- Zigzag is exact at both ends of 32 and 64 bits.
abbrev pub Ends : Type 0
Ends =
    (unzigzag (2 ^ 32 - 1) ≡ negsuc (2 ^ 31 - 1))
    × (unzigzag (2 ^ 32 - 2) ≡ pos (2 ^ 31 - 1))
    × (unzigzag (2 ^ 64 - 1) ≡ negsuc (2 ^ 63 - 1))
    × (unzigzag (2 ^ 64 - 2) ≡ pos (2 ^ 63 - 1))

pub ends : Ends
ends = (refl, refl, refl, refl)
