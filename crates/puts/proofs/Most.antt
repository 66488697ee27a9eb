-- How many bytes the numbers that the writer writes can take: "a 16-bit zigzag number needs at most 3 bytes, a 32-bit one 5 and a 64-bit one 10", so that no array of 3, 5 or
-- 10 bytes could be too small, and each bound is met. Assumes nothing.
use mathlib.Core.Path.{◌≡◌, refl}
use mathlib.Core.Bool.{Bool, true, false, cond}
use mathlib.Core.List.{List, [], ◌∷◌, ◌++◌}
use Prim.Native.Nat.{ℕ, ◌+◌, ◌*◌, ◌^◌, ◌≤◌, ◌<◌}
use native.Mathlib.Omega.{arith}
use lib.Dec.{eqb, ltb}
use lib.ListN.{length, length-append}
use lib.IntN.{ℤ, negsuc}
use mir.Syntax.{w16, w32, w64}
use mir.Val.{SFits, of_z}
use mir.Facts.{Fits-of_z}
use Rattle.types.specs.Codes.{type_code}
use Rattle.types.specs.declared.TType.{TType}
use Rattle.types.specs.declared.TMessageType.{TMessageType}
use Rattle.numbers.specs.Varint.{fewest}
use Rattle.numbers.proofs.Fewest.{at_most, signed16_most, signed32_most, signed64_most}
use Rattle.puts.specs.Bytes.{int_bytes, short_delta, field_bytes, items_bytes, pairs_bytes, string_bytes, message_bytes}

-- "at most 3": an i16, and the id of a field's long form
pub i16_most : (z : ℤ) → SFits w16 z → length (int_bytes z) ≤ 3
i16_most z f = signed16_most z f

-- "a 32-bit one 5"
pub i32_most : (z : ℤ) → SFits w32 z → length (int_bytes z) ≤ 5
i32_most z f = signed32_most z f

-- "and a 64-bit one 10"
pub i64_most : (z : ℤ) → SFits w64 z → length (int_bytes z) ≤ 10
i64_most z f = signed64_most z f

-- counts, lengths and sequence numbers are 32 bits without a sign
pub word_most : (n : ℕ) → n < 2 ^ 32 → length (fewest n) ≤ 5
word_most n h = at_most 4 n (omega arith)

-- a field's header: its first byte, and an id of at most 3
pub field_most : (last id : ℤ) (code : ℕ) → SFits w16 id → length (field_bytes last id code) ≤ 4
unfolding field_bytes
field_most last id code f = go (eqb (short_delta last id) 0)
  where
    go : (b : Bool) → length (cond b (code ∷ int_bytes id) ((short_delta last id * 16 + code) ∷ [])) ≤ 4
    go true = omega (arith, i16_most id f)
    go false = omega arith

-- a list's or a set's: its first byte, and a count of at most 5
pub items_most : (t : TType) (n : ℕ) → n < 2 ^ 32 → length (items_bytes t n) ≤ 6
unfolding items_bytes
items_most t n h = go (ltb n 15)
  where
    go : (b : Bool) → length (cond b ((n * 16 + type_code t) ∷ []) ((0xF0 + type_code t) ∷ fewest n)) ≤ 6
    go true = omega arith
    go false = omega (arith, word_most n h)

-- a map's: a count of at most 5, and the byte with the types
pub pairs_most : (k v : TType) (n : ℕ) → n < 2 ^ 32 → length (pairs_bytes k v n) ≤ 6
unfolding pairs_bytes
pairs_most k v n h = go (eqb n 0)
  where
    go : (b : Bool) → length (cond b (0 ∷ []) (fewest n ++ ((type_code k * 16 + type_code v) ∷ []))) ≤ 6
    go true = omega arith
    go false = rw length-append (omega (arith, word_most n h))

-- a string's or a binary's: a length of at most 5, and its bytes
pub string_most : (bs : List ℕ) → length bs < 2 ^ 32 → length (string_bytes bs) ≤ 5 + length bs
unfolding string_bytes
string_most bs h = rw length-append (omega (arith, word_most (length bs) h))

-- a message's: two bytes, a sequence number of at most 5, and its name's
pub message_most : (m : TMessageType) (z : ℤ) (name : List ℕ) → SFits w32 z → length name < 2 ^ 32 → length (message_bytes m z name) ≤ 12 + length name
unfolding message_bytes
message_most m z name f h = rw length-append (omega (arith, word_most (of_z w32 z) (Fits-of_z f).fits, string_most name h))

-- and each bound is met: a number of each width that needs all its bytes, and a count, a length or a sequence number of 5
pub three : length (int_bytes (negsuc 32767)) ≡ 3
unfolding fewest
three = refl

pub five : length (int_bytes (negsuc 2147483647)) ≡ 5
unfolding fewest
five = refl

pub ten : length (int_bytes (negsuc 9223372036854775807)) ≡ 10
unfolding fewest
ten = refl

pub word_five : length (fewest 2147483647) ≡ 5
unfolding fewest
word_five = refl
