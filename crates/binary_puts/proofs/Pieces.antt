-- The bytes of headers, put into the buffer one piece behind the other. Assumes nothing.
use mathlib.Core.Path.{◌≡◌, refl, ap, ◌∙◌}
use mathlib.Core.Bool.{Bool, true, false, cond}
use mathlib.Core.List.{List, [], ◌∷◌, ◌++◌, append_assoc}
use Prim.Native.Nat.{ℕ, ◌+◌, ◌*◌, ◌/◌, ◌%◌, ◌^◌, ◌≤◌, ◌<◌}
use native.Mathlib.Omega.{arith}
use borrow.Author.Rules.{sfits_of}
use borrow.Author.Tests.{eq-eqb, ne_eqb}
use lib.Dec.{ltb, eqb}
use lib.IntN.{ℤ}
use lib.ListN.{length, length-append}
use mir.Syntax.{w16, w32, w64}
use mir.Val.{Fits, of_z}
use mir.Facts.{to_z-of_z}
use Rattle.types.specs.Codes.{message_code}
use Rattle.types.specs.declared.TType.{TType}
use Rattle.types.specs.declared.TMessageType.{TMessageType}
use Rattle.types.specs.declared.TMessageType.TheVariants as M
use Rattle.numbers.specs.Answers.{wrote_at, put_at}
use Rattle.numbers.specs.declared.Wrote.{Wrote}
use Rattle.numbers.proofs.Put.{roomy}
use Rattle.numbers.proofs.Cases.{short_answer, short_left, room_fits}
use Rattle.puts.proofs.Pieces.{both_to, both_in, same_to, same_left, second_fits, kind_below}
use Rattle.big_endian.specs.Big.{big2, big4, big_of}
use Rattle.big_endian.proofs.Big.{length_big2, length_big4}
use Rattle.binary_codes.specs.Codes.{binary_code}
use Rattle.binary_puts.specs.Bytes.{truth_byte, field_bytes, items_bytes, pairs_bytes, string_bytes, message_bytes}

pub truth_one : (b : Bool) → b ≡ true → 1 ≡ truth_byte b
unfolding truth_byte
truth_one b e = rw e

pub truth_none : (b : Bool) → b ≡ false → 0 ≡ truth_byte b
unfolding truth_byte
truth_none b e = rw e

pub ruleset truth_cases = (truth_one, truth_none)

-- how long each is
pub word_need : (b n : ℕ) → 5 ≡ length (b ∷ big4 n)
word_need b n = omega (arith, length_big4 n)

pub codes_need : (a b n : ℕ) → 6 ≡ length (a ∷ b ∷ big4 n)
codes_need a b n = omega (arith, length_big4 n)

pub field_long : (t : TType) (id : ℤ) → 3 ≡ length (field_bytes t id)
unfolding field_bytes
field_long t id = omega (arith, length_big2 (of_z w16 id))

pub items_long : (t : TType) (n : ℕ) → 5 ≡ length (items_bytes t n)
unfolding items_bytes
items_long t n = word_need (binary_code t) n

pub pairs_long : (k v : TType) (n : ℕ) → 6 ≡ length (pairs_bytes k v n)
unfolding pairs_bytes
pairs_long k v n = by_test (eqb n 0) refl
  where
    by_test : (b : Bool) → eqb n 0 ≡ b → 6 ≡ length (cond b (0 ∷ 0 ∷ big4 0) (binary_code k ∷ binary_code v ∷ big4 n))
    by_test true e = codes_need 0 0 0
    by_test false e = codes_need (binary_code k) (binary_code v) n

pub string_long : (bs : List ℕ) → 4 + length bs ≡ length (string_bytes bs)
unfolding string_bytes
string_long bs = omega (arith, length_big4 (length bs), length-append (big4 (length bs)) bs)

-- the room of a byte and what follows it
module _ (k : ℕ) (short : Bool) (buf : List ℕ) (at : ℕ) (b : ℕ) (bs : List ℕ) (e : short ≡ ltb (length buf) (at + k)) (l : k ≡ length (b ∷ bs)) (f : short ≡ false) where
  fore : at + length ((b ∷ []) ++ bs) ≤ length buf
  fore = omega (arith, roomy short (length buf) at k e f)

  module _ (mid : List ℕ) (m : mid ≡ put_at buf at (b ∷ [])) where
    pub byte_to : (r : Wrote) → r ≡ wrote_at mid (at + 1) bs → r ≡ wrote_at buf at (b ∷ bs)
    byte_to r g = both_to buf at (b ∷ []) bs fore mid m r g

    pub byte_left : (after : List ℕ) → after ≡ put_at mid (at + 1) bs → after ≡ put_at buf at (b ∷ bs)
    byte_left after g = both_in buf at (b ∷ []) bs fore mid m after g

-- a field's header: the id may reach the call through its bits, as y
module _ (t : TType) (id y : ℤ) (code bits : ℕ) (c : code ≡ binary_code t) (b : bits ≡ of_z w16 y) (g : y ≡ id) where
  header_is : code ∷ big2 bits ≡ field_bytes t id
  unfolding field_bytes
  header_is = rw (c, b, g)

  module _ (short : Bool) (buf : List ℕ) (at : ℕ) (e : short ≡ ltb (length buf) (at + 3)) (f : short ≡ false) (mid : List ℕ) (m : mid ≡ put_at buf at (code ∷ [])) where
    long : 3 ≡ length (code ∷ big2 bits)
    long = omega (arith, length_big2 bits)

    pub header_to : (r : Wrote) → r ≡ wrote_at mid (at + 1) (big2 bits) → r ≡ wrote_at buf at (field_bytes t id)
    header_to r h = same_to buf at (field_bytes t id) (code ∷ big2 bits) r (byte_to 3 short buf at code (big2 bits) e long f mid m r h) header_is

    pub header_left : (after : List ℕ) → after ≡ put_at mid (at + 1) (big2 bits) → after ≡ put_at buf at (field_bytes t id)
    header_left after h = same_left buf at (field_bytes t id) (code ∷ big2 bits) after (byte_left 3 short buf at code (big2 bits) e long f mid m after h) header_is

-- the place behind the first of k bytes
one_fits : (k : ℕ) → 0 < k → (short : Bool) (have at : ℕ) → short ≡ ltb have (at + k) → short ≡ false → have < 2 ^ 64 → Fits w64 (at + 1)
one_fits k p short have at e f h = record { fits = omega (arith, roomy short have at k e f) }

pub fits_three : (short : Bool) (have at : ℕ) → short ≡ ltb have (at + 3) → short ≡ false → have < 2 ^ 64 → Fits w64 (at + 1)
fits_three = one_fits 3 (omega arith)

pub fits_five : (short : Bool) (have at : ℕ) → short ≡ ltb have (at + 5) → short ≡ false → have < 2 ^ 64 → Fits w64 (at + 1)
fits_five = one_fits 5 (omega arith)

pub fits_six : (short : Bool) (have at : ℕ) → short ≡ ltb have (at + 6) → short ≡ false → have < 2 ^ 64 → Fits w64 (at + 1)
fits_six = one_fits 6 (omega arith)

pub ruleset header_cases = (short_answer, short_left, field_long, header_to, header_left, fits_three, to_z-of_z, sfits_of)

pub ruleset word_cases = (short_answer, short_left, word_need, codes_need, byte_to, byte_left, fits_five, fits_six)

-- a list's header, and a map's
pub items_is : (t : TType) (n c : ℕ) → c ≡ binary_code t → c ∷ big4 n ≡ items_bytes t n
unfolding items_bytes
items_is t n c e = rw e

pub pairs_none : (k v : TType) (n : ℕ) → n ≡ 0 → 0 ∷ 0 ∷ big4 0 ≡ pairs_bytes k v n
unfolding pairs_bytes
pairs_none k v n h = rw (eq-eqb n 0 h)

pub pairs_some : (k v : TType) (n c d : ℕ) → (n ≡ 0 → ⊥) → c ≡ binary_code k → d ≡ binary_code v → c ∷ d ∷ big4 n ≡ pairs_bytes k v n
unfolding pairs_bytes
pairs_some k v n c d h e f = rw (e, f, ne_eqb n 0 h)

pub ruleset items_cases = (items_is, pairs_none, pairs_some, same_to, same_left)

-- a length, then the bytes: of the length the low 32 bits are put, which are those that stand in the four bytes
low_byte : (x y r : ℕ) → x ≡ 256 * r + y → y % 256 ≡ x % 256
low_byte x y r e = omega arith

above_byte : (x y r : ℕ) → x ≡ 256 * r + y → x / 256 ≡ r + y / 256
above_byte x y r e = omega arith

low_bytes : (n : ℕ) → big4 (n % 2 ^ 32) ≡ big4 n
unfolding big4
low_bytes n = cut (n % 2 ^ 32) (n / 2 ^ 32) (omega arith)
  where
    -- byte by byte: what is above, q, falls out
    cut : (m q : ℕ) → n ≡ 256 * (256 * (256 * (256 * q))) + m → big_of 4 m ≡ big_of 4 n
    cut m q e =
        let one = above_byte n m (256 * (256 * (256 * q))) e in
        let two = above_byte (n / 256) (m / 256) (256 * (256 * q)) one in
        let three = above_byte (n / 256 / 256) (m / 256 / 256) (256 * q) two in
        let a = low_byte n m (256 * (256 * (256 * q))) e in
        let b = low_byte (n / 256) (m / 256) (256 * (256 * q)) one in
        let c = low_byte (n / 256 / 256) (m / 256 / 256) (256 * q) two in
        let d = low_byte (n / 256 / 256 / 256) (m / 256 / 256 / 256) q three in
        rw (a, b, c, d)

module _ (short : Bool) (buf : List ℕ) (at : ℕ) (bytes : List ℕ) (e : short ≡ ltb (length buf) (at + (4 + length bytes))) (f : short ≡ false) (mid : List ℕ) (m : mid ≡ put_at buf at (big4 (length bytes % 2 ^ 32))) where
  whole : mid ≡ put_at buf at (big4 (length bytes))
  whole = m ∙ ap (put_at buf at) (low_bytes (length bytes))

  all : at + length (big4 (length bytes) ++ bytes) ≤ length buf
  all = omega (arith, roomy short (length buf) at (4 + length bytes) e f, length-append (big4 (length bytes)) bytes, length_big4 (length bytes))

  pub binary_to : (r : Wrote) → r ≡ wrote_at mid (at + 4) bytes → r ≡ wrote_at buf at (string_bytes bytes)
  unfolding string_bytes
  binary_to r g = both_to buf at (big4 (length bytes)) bytes all mid whole r (rw (← length_big4 (length bytes)) at g)

  pub binary_left : (after : List ℕ) → after ≡ put_at mid (at + 4) bytes → after ≡ put_at buf at (string_bytes bytes)
  unfolding string_bytes
  binary_left after g = both_in buf at (big4 (length bytes)) bytes all mid whole after (rw (← length_big4 (length bytes)) at g)

pub ruleset binary_cases = (short_answer, short_left, string_long, second_fits, binary_to, binary_left)

-- four bytes, a name, four bytes
module _ (word bits : ℕ) (name : List ℕ) where
  before : List ℕ
  before = big4 word ++ string_bytes name

  before_long : length before ≡ 8 + length name
  unfolding before
  before_long = omega (arith, string_long name, length_big4 word, length-append (big4 word) (string_bytes name))

  pub envelope_long : 12 + length name ≡ length (big4 word ++ (string_bytes name ++ big4 bits))
  envelope_long = omega (arith, string_long name, length_big4 word, length_big4 bits, length-append (big4 word) (string_bytes name ++ big4 bits), length-append (string_bytes name) (big4 bits))

  is : before ++ big4 bits ≡ big4 word ++ (string_bytes name ++ big4 bits)
  unfolding before
  is = append_assoc (big4 word) (string_bytes name) (big4 bits)

  module _ (short : Bool) (buf : List ℕ) (at : ℕ) (e : short ≡ ltb (length buf) (at + (12 + length name))) (f : short ≡ false) (one two : List ℕ) (u : one ≡ put_at buf at (big4 word)) (v : two ≡ put_at one (at + 4) (string_bytes name)) where
    started : two ≡ put_at buf at before
    unfolding before
    started =
        both_in buf at (big4 word) (string_bytes name)
        (omega (arith, roomy short (length buf) at (12 + length name) e f, string_long name, length_big4 word, length-append (big4 word) (string_bytes name))) one u two
        (rw (← length_big4 word) at v)

    room : at + length (before ++ big4 bits) ≤ length buf
    room = omega (arith, roomy short (length buf) at (12 + length name) e f, length-append before (big4 bits), before_long, length_big4 bits)

    ends : at + 8 + length name ≡ at + length before
    ends = omega (arith, before_long)

    pub envelope_to : (r : Wrote) → r ≡ wrote_at two (at + 8 + length name) (big4 bits) → r ≡ wrote_at buf at (big4 word ++ (string_bytes name ++ big4 bits))
    envelope_to r h = same_to buf at _ (before ++ big4 bits) r (both_to buf at before (big4 bits) room two started r (rw ends at h)) is

    pub envelope_left : (after : List ℕ) → after ≡ put_at two (at + 8 + length name) (big4 bits) → after ≡ put_at buf at (big4 word ++ (string_bytes name ++ big4 bits))
    envelope_left after h = same_left buf at _ (before ++ big4 bits) after (both_in buf at before (big4 bits) room two started after (rw ends at h)) is

module _ (short : Bool) (have at n : ℕ) (e : short ≡ ltb have (at + (12 + n))) (f : short ≡ false) (h : have < 2 ^ 64) where
  pub name_fits : Fits w64 (at + 4)
  name_fits = record { fits = omega (arith, roomy short have at (12 + n) e f) }

  pub length_fits : Fits w64 (at + 8)
  length_fits = record { fits = omega (arith, roomy short have at (12 + n) e f) }

  pub last_fits : Fits w64 (at + 8 + n)
  last_fits = record { fits = omega (arith, roomy short have at (12 + n) e f) }

pub ruleset envelope_cases = (short_answer, short_left, envelope_long, name_fits, length_fits, last_fits, envelope_to, envelope_left)

-- a message's header; the sequence number reaches its call through its bits, as y
word_is : (m : TMessageType) → big4 (0x80010000 + message_code m) ≡ 0x80 ∷ 0x01 ∷ 0x00 ∷ message_code m ∷ []
unfolding big4 message_code
word_is M.Call = refl
word_is M.Reply = refl
word_is M.Exception = refl
word_is M.OneWay = refl

module _ (m : TMessageType) (c : ℕ) (k : c ≡ message_code m) where
  pub version_fits : Fits w32 (0x80010000 + c)
  version_fits = record { fits = omega (arith, kind_below m) }

  pub message_is : (bits : ℕ) (y z : ℤ) (name : List ℕ) → bits ≡ of_z w32 y → y ≡ z → big4 (0x80010000 + c) ++ (string_bytes name ++ big4 bits) ≡ message_bytes m z name
  unfolding message_bytes
  message_is bits y z name b g = rw (k, b, g, word_is m)

pub message_long : (m : TMessageType) (z : ℤ) (name : List ℕ) → 12 + length name ≡ length (message_bytes m z name)
message_long m z name = envelope_long (0x80010000 + message_code m) (of_z w32 z) name ∙ ap length (message_is m (message_code m) refl (of_z w32 z) z z name refl refl)

pub ruleset message_cases = (version_fits, message_is, same_to, same_left, to_z-of_z, sfits_of)
