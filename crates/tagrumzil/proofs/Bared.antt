-- What the number calls leave, at each of their returns. Assumes nothing.
use mathlib.Core.Path.{◌≡◌, refl, sym}
use mathlib.Core.List.{List}
use Prim.Native.Nat.{ℕ, ◌≤◌, ◌<◌}
use native.Mathlib.Omega.{arith}
use borrow.Author.Rules.{sfits_of}
use borrow.Author.Tests.{le-leb, lt-leb}
use lib.ListN.{length}
use lib.IntN.{ℤ}
use mir.Facts.{to_z-of_z}
use Rattle.zigzag.specs.Zigzag.{zigzag}
use Rattle.types.specs.Refusals.{BAD_STATE}
use Rattle.numbers.specs.Answers.{varint32_at, varint64_at, signed16_at, bits64_at, wrote_at, put_at}
use Rattle.numbers.proofs.Put.{put_not}
use Rattle.numbers.specs.declared.Varint32.{Varint32}
use Rattle.numbers.specs.declared.Varint32.TheVariants as V32
use Rattle.numbers.specs.declared.Varint64.{Varint64}
use Rattle.numbers.specs.declared.Varint64.TheVariants as V64
use Rattle.numbers.specs.declared.Int16.{Int16}
use Rattle.numbers.specs.declared.Int16.TheVariants as I16
use Rattle.numbers.specs.declared.Bits64.{Bits64}
use Rattle.numbers.specs.declared.Bits64.TheVariants as B64
use Rattle.numbers.specs.declared.Wrote.{Wrote}
use Rattle.numbers.specs.declared.Wrote.TheVariants as W
use Rattle.tagrumzil.specs.Bare.{placed32, placed64, placed16, placed_bits, placed_put, Found32, Found64, Found16, FoundBits, PutNumber}

module _ (s : List ℕ) (at : ℕ) (value : ℕ) (end : ℕ) where
  pub past32 : length s < at → Found32 value value end end BAD_STATE (placed32 s at)
  unfolding placed32
  past32 h = rw (lt-leb at (length s) h) (record { number = refl; the_value = refl; the_end = refl })

  module _ (h : at ≤ length s) (f : Varint32) (g : f ≡ varint32_at s at) where
    pub got32 : (v : ℕ) (y : ℕ) (p : ℕ) → f ≡ V32.Got v p → y ≡ v → Found32 value y end p 0 (placed32 s at)
    unfolding placed32
    got32 v y p e k = rw (le-leb at (length s) h, ← g, e) (record { number = refl; the_value = k; the_end = refl })

    pub not32 : (why : ℕ) → f ≡ V32.Refused why → Found32 value value end end why (placed32 s at)
    unfolding placed32
    not32 why e = rw (le-leb at (length s) h, ← g, e) (record { number = refl; the_value = refl; the_end = refl })

module _ (s : List ℕ) (at : ℕ) (value : ℕ) (end : ℕ) where
  pub past64 : length s < at → Found64 value value end end BAD_STATE (placed64 s at)
  unfolding placed64
  past64 h = rw (lt-leb at (length s) h) (record { number = refl; the_value = refl; the_end = refl })

  module _ (h : at ≤ length s) (f : Varint64) (g : f ≡ varint64_at s at) where
    pub got64 : (v : ℕ) (y : ℕ) (p : ℕ) → f ≡ V64.Got v p → y ≡ v → Found64 value y end p 0 (placed64 s at)
    unfolding placed64
    got64 v y p e k = rw (le-leb at (length s) h, ← g, e) (record { number = refl; the_value = k; the_end = refl })

    pub not64 : (why : ℕ) → f ≡ V64.Refused why → Found64 value value end end why (placed64 s at)
    unfolding placed64
    not64 why e = rw (le-leb at (length s) h, ← g, e) (record { number = refl; the_value = refl; the_end = refl })

module _ (s : List ℕ) (at : ℕ) (value : ℤ) (end : ℕ) where
  pub past16 : length s < at → Found16 value value end end BAD_STATE (placed16 s at)
  unfolding placed16
  past16 h = rw (lt-leb at (length s) h) (record { number = refl; the_value = refl; the_end = refl })

  module _ (h : at ≤ length s) (f : Int16) (g : f ≡ signed16_at s at) where
    pub got16 : (v : ℤ) (y : ℤ) (p : ℕ) → f ≡ I16.Got v p → y ≡ v → Found16 value y end p 0 (placed16 s at)
    unfolding placed16
    got16 v y p e k = rw (le-leb at (length s) h, ← g, e) (record { number = refl; the_value = k; the_end = refl })

    pub not16 : (why : ℕ) → f ≡ I16.Refused why → Found16 value value end end why (placed16 s at)
    unfolding placed16
    not16 why e = rw (le-leb at (length s) h, ← g, e) (record { number = refl; the_value = refl; the_end = refl })

module _ (s : List ℕ) (at : ℕ) (value : ℕ) (end : ℕ) where
  pub pastbits : length s < at → FoundBits value value end end BAD_STATE (placed_bits s at)
  unfolding placed_bits
  pastbits h = rw (lt-leb at (length s) h) (record { number = refl; the_value = refl; the_end = refl })

  module _ (h : at ≤ length s) (f : Bits64) (g : f ≡ bits64_at s at) where
    pub gotbits : (v : ℕ) (y : ℕ) (p : ℕ) → f ≡ B64.Got v p → y ≡ v → FoundBits value y end p 0 (placed_bits s at)
    unfolding placed_bits
    gotbits v y p e k = rw (le-leb at (length s) h, ← g, e) (record { number = refl; the_value = k; the_end = refl })

    pub notbits : (why : ℕ) → f ≡ B64.Refused why → FoundBits value value end end why (placed_bits s at)
    unfolding placed_bits
    notbits why e = rw (le-leb at (length s) h, ← g, e) (record { number = refl; the_value = refl; the_end = refl })

-- nothing is put past the buffer's end
put_past : (buf : List ℕ) (at : ℕ) (bs : List ℕ) → length buf < at → put_at buf at bs ≡ buf
put_past buf at bs h = sym (put_not buf at bs (omega arith))

module _ (buf : List ℕ) (end at : ℕ) (bs : List ℕ) where
  pub put_beyond : length buf < at → PutNumber buf buf end end BAD_STATE at bs
  unfolding placed_put
  put_beyond h = record { number = rw (lt-leb at (length buf) h); the_end = rw (lt-leb at (length buf) h); the_buf = sym (put_past buf at bs h) }

  module _ (h : at ≤ length buf) (buf' : List ℕ) (w : Wrote) (e : w ≡ wrote_at buf at bs) (f : buf' ≡ put_at buf at bs) where
    pub put_to : (p : ℕ) → w ≡ W.To p → PutNumber buf buf' end p 0 at bs
    unfolding placed_put
    put_to p g = record { number = rw (le-leb at (length buf) h, ← e, g); the_end = rw (le-leb at (length buf) h, ← e, g); the_buf = f }

    pub put_refused : (why : ℕ) → w ≡ W.Refused why → PutNumber buf buf' end end why at bs
    unfolding placed_put
    put_refused why g = record { number = rw (le-leb at (length buf) h, ← e, g); the_end = rw (le-leb at (length buf) h, ← e, g); the_buf = f }

pub ruleset bares = (past32, got32, not32, past64, got64, not64, past16, got16, not16, pastbits, gotbits, notbits, put_beyond, put_to, put_refused, to_z-of_z, sfits_of)

pub zig_is : (n : ℕ) (y z : ℤ) → n ≡ zigzag y → y ≡ z → n ≡ zigzag z
zig_is n y z e f = rw f at e

pub ruleset zigs = (zig_is, to_z-of_z, sfits_of)
