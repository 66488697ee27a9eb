-- The bytes of headers, put into the buffer one piece behind the other, and a copy. Assumes nothing.
use mathlib.Core.Path.{◌≡◌, refl, sym, ap, ap₂, subst, ◌∙◌}
use mathlib.Core.Bool.{Bool, true, false}
use mathlib.Core.List.{List, [], ◌∷◌, ◌++◌}
use Prim.Native.Nat.{ℕ, ◌+◌, ◌*◌, ◌%◌, ◌^◌, ◌≤◌, ◌<◌}
use native.Mathlib.Nat.{add-zero}
use native.Mathlib.Numerals.{add-one}
use native.Mathlib.Omega.{arith}
use borrow.Author.Rules.{sfits_of}
use borrow.Author.Tests.{eq-eqb, ne_eqb, lt-ltb, le-ltb}
use lib.Dec.{ltb}
use lib.IntN.{ℤ}
use lib.ListN.{length, get_or, drop, set, length-append, drop_of_length-le}
use lib.Seq.{drop-cons}
use mir.Syntax.{w8, w32, w64}
use mir.Val.{Fits, of_z}
use mir.Facts.{to_z-of_z}
use Rattle.types.specs.Codes.{type_code, truth_code, message_code}
use Rattle.types.specs.declared.TType.{TType}
use Rattle.types.specs.declared.TType.TheVariants as T
use Rattle.types.specs.declared.TMessageType.{TMessageType}
use Rattle.types.specs.declared.TMessageType.TheVariants as M
use Rattle.numbers.specs.Varint.{fewest}
use Rattle.zigzag.specs.Zigzag.{zigzag}
use Rattle.numbers.specs.Answers.{wrote_at, put_at}
use Rattle.numbers.specs.declared.Wrote.{Wrote}
use Rattle.numbers.specs.declared.Wrote.TheVariants as W
use Rattle.numbers.proofs.Fewest.{fewest_len}
use Rattle.numbers.proofs.Put.{wrote_to, length_put, put_put, roomy, scant, Storing, next_in, stored, all_to, all_in}
use Rattle.numbers.proofs.Cases.{short_answer, short_left, begun}
use Rattle.puts.specs.Bytes.{short_delta, field_bytes, items_bytes, pairs_bytes, string_bytes, message_bytes}
use Rattle.puts.proofs.Deltas.{delta_below}

-- the room for two pieces
module _ (short : Bool) (have at a b : ℕ) (e : short ≡ ltb have (at + a)) where
  pub lacks_first : short ≡ true → true ≡ ltb have (at + (a + b))
  lacks_first t = sym (lt-ltb have (at + (a + b)) (omega (arith, scant short have at a e t)))

  module _ (f : short ≡ false) where
    pub lacks_fits : have < 2 ^ 64 → Fits w64 (at + a)
    lacks_fits h = record { fits = omega (arith, roomy short have at a e f) }

    pub lacks_second : (r : Bool) → r ≡ ltb have (at + a + b) → r ≡ ltb have (at + (a + b))
    lacks_second r g = let q : at + a + b ≡ at + (a + b) = omega arith in g ∙ ap (ltb have) q

pub ruleset both_cases = (lacks_first, lacks_fits, lacks_second)

-- a copy: the bytes before i are in the buffer
module _ (buf₀ : List ℕ) (at : ℕ) (bytes buf : List ℕ) (i : ℕ) (st : Storing buf₀ at bytes buf (at + i) (drop i bytes)) where
  module _ (h : i < length bytes) where
    one : drop i bytes ≡ get_or bytes i 0 ∷ drop (i + 1) bytes
    one = rw add-one (drop-cons bytes i 0 h)

    pub copy_in : at + i < length buf
    copy_in = next_in st _ _ one

    pub copy_next : Storing buf₀ at bytes (set buf (at + i) (get_or bytes i 0)) (at + (i + 1)) (drop (i + 1) bytes)
    copy_next = let e : at + i + 1 ≡ at + (i + 1) = omega arith in subst (λ (p : ℕ). Storing buf₀ at bytes (set buf (at + i) (get_or bytes i 0)) p (drop (i + 1) bytes)) e (stored st _ _ one)

    pub copy_fits : length buf₀ < 2 ^ 64 → Fits w64 (at + i)
    copy_fits l = record { fits = omega (arith, copy_in, st.same) }

  pub copy_same : length buf ≡ length buf₀
  copy_same = st.same

  module _ (h : length bytes ≤ i) where
    none : drop i bytes ≡ []
    none = drop_of_length-le bytes h

    pub copy_to : W.To (at + i) ≡ wrote_at buf₀ at bytes
    copy_to = all_to st none

    pub copy_left : buf ≡ put_at buf₀ at bytes
    copy_left = all_in st none

    pub copy_end : length buf₀ < 2 ^ 64 → Fits w64 (at + i)
    copy_end l = record { fits = omega (arith, ap length none, st.ends, st.room) }

pub copy_begun : (short : Bool) (buf : List ℕ) (at : ℕ) (bytes : List ℕ) → short ≡ ltb (length buf) (at + length bytes) → short ≡ false → Storing buf at bytes buf (at + 0) (drop 0 bytes)
copy_begun short buf at bytes e f = rw add-zero (begun short buf at (length bytes) bytes e refl f)

pub ruleset copy_cases = (short_answer, short_left, copy_begun, copy_in, copy_next, copy_fits, copy_same, copy_to, copy_left, copy_end)

-- two pieces, where there is room for both
module _ (buf : List ℕ) (at : ℕ) (bs cs : List ℕ) (room : at + length (bs ++ cs) ≤ length buf) (mid : List ℕ) (e : mid ≡ put_at buf at bs) where
  pub both_to : (r : Wrote) → r ≡ wrote_at mid (at + length bs) cs → r ≡ wrote_at buf at (bs ++ cs)
  both_to r f =
      let l = length-append bs cs in
      let two : at + length bs + length cs ≤ length mid = omega (arith, length_put buf at bs, ap length e) in
      let q : at + length bs + length cs ≡ at + length (bs ++ cs) = omega arith in
      f ∙ sym (wrote_to mid (at + length bs) cs two) ∙ ap W.To q ∙ wrote_to buf at (bs ++ cs) room

  pub both_in : (after : List ℕ) → after ≡ put_at mid (at + length bs) cs → after ≡ put_at buf at (bs ++ cs)
  both_in after f = f ∙ ap (λ (b : List ℕ). put_at b (at + length bs) cs) e ∙ put_put buf at bs cs room

-- a byte, then a number
module _ (b n len : ℕ) (l : len ≡ length (fewest n)) where
  pub byte_varint_need : 1 + len ≡ length (b ∷ fewest n)
  byte_varint_need = omega arith

  pub varint_byte_need : len + 1 ≡ length (fewest n ++ (b ∷ []))
  varint_byte_need = omega (arith, length-append (fewest n) (b ∷ []))

pub more_fits : (n len : ℕ) → len ≡ length (fewest n) → Fits w64 (1 + len)
more_fits n len l = record { fits = omega (arith, fewest_len n) }

pub fits_more : (n len : ℕ) → len ≡ length (fewest n) → Fits w64 (len + 1)
fits_more n len l = record { fits = omega (arith, fewest_len n) }

-- the place of the second piece
pub second_fits : (short : Bool) (have at a b : ℕ) → short ≡ ltb have (at + (a + b)) → short ≡ false → have < 2 ^ 64 → Fits w64 (at + a)
second_fits short have at a b e f h = record { fits = omega (arith, roomy short have at (a + b) e f) }

module _ (short : Bool) (buf : List ℕ) (at b n len : ℕ) (l : len ≡ length (fewest n)) (f : short ≡ false) where
  module _ (e : short ≡ ltb (length buf) (at + (1 + len))) where
    fore : at + length ((b ∷ []) ++ fewest n) ≤ length buf
    fore = omega (arith, roomy short (length buf) at (1 + len) e f)

    module _ (mid : List ℕ) (m : mid ≡ put_at buf at (b ∷ [])) where
      pub byte_varint_to : (r : Wrote) → r ≡ wrote_at mid (at + 1) (fewest n) → r ≡ wrote_at buf at (b ∷ fewest n)
      byte_varint_to r g = both_to buf at (b ∷ []) (fewest n) fore mid m r g

      pub byte_varint_left : (after : List ℕ) → after ≡ put_at mid (at + 1) (fewest n) → after ≡ put_at buf at (b ∷ fewest n)
      byte_varint_left after g = both_in buf at (b ∷ []) (fewest n) fore mid m after g

  module _ (e : short ≡ ltb (length buf) (at + (len + 1))) where
    hind : at + length (fewest n ++ (b ∷ [])) ≤ length buf
    hind = omega (arith, roomy short (length buf) at (len + 1) e f, length-append (fewest n) (b ∷ []))

    module _ (mid : List ℕ) (m : mid ≡ put_at buf at (fewest n)) where
      pub varint_byte_to : (r : Wrote) → r ≡ wrote_at mid (at + len) (b ∷ []) → r ≡ wrote_at buf at (fewest n ++ (b ∷ []))
      varint_byte_to r g = both_to buf at (fewest n) (b ∷ []) hind mid m r (rw l at g)

      pub varint_byte_left : (after : List ℕ) → after ≡ put_at mid (at + len) (b ∷ []) → after ≡ put_at buf at (fewest n ++ (b ∷ []))
      varint_byte_left after g = both_in buf at (fewest n) (b ∷ []) hind mid m after (rw l at g)

pub ruleset byte_varint_cases = (short_answer, short_left, byte_varint_need, more_fits, second_fits, byte_varint_to, byte_varint_left)

pub ruleset varint_byte_cases = (short_answer, short_left, varint_byte_need, fits_more, second_fits, varint_byte_to, varint_byte_left)

-- a length, then the bytes
module _ (bytes : List ℕ) (len : ℕ) (l : len ≡ length (fewest (length bytes))) where
  pub binary_need : len + length bytes ≡ length (string_bytes bytes)
  unfolding string_bytes
  binary_need = omega (arith, length-append (fewest (length bytes)) bytes)

  module _ (short : Bool) (buf : List ℕ) (at : ℕ) (e : short ≡ ltb (length buf) (at + (len + length bytes))) (f : short ≡ false) (mid : List ℕ) (m : mid ≡ put_at buf at (fewest (length bytes))) where
    all : at + length (fewest (length bytes) ++ bytes) ≤ length buf
    all = omega (arith, roomy short (length buf) at (len + length bytes) e f, length-append (fewest (length bytes)) bytes)

    pub binary_to : (r : Wrote) → r ≡ wrote_at mid (at + len) bytes → r ≡ wrote_at buf at (string_bytes bytes)
    unfolding string_bytes
    binary_to r g = both_to buf at (fewest (length bytes)) bytes all mid m r (rw l at g)

    pub binary_left : (after : List ℕ) → after ≡ put_at mid (at + len) bytes → after ≡ put_at buf at (string_bytes bytes)
    unfolding string_bytes
    binary_left after g = both_in buf at (fewest (length bytes)) bytes all mid m after (rw l at g)

pub ruleset binary_cases = (short_answer, short_left, binary_need, second_fits, binary_to, binary_left)

-- the same bytes, under another name
module _ (buf : List ℕ) (at : ℕ) (bs cs : List ℕ) where
  pub same_to : (r : Wrote) → r ≡ wrote_at buf at cs → cs ≡ bs → r ≡ wrote_at buf at bs
  same_to r f e = f ∙ ap (wrote_at buf at) e

  pub same_left : (after : List ℕ) → after ≡ put_at buf at cs → cs ≡ bs → after ≡ put_at buf at bs
  same_left after f e = f ∙ ap (put_at buf at) e

-- codes have 4 bits, a message's type 3
pub code_below : (t : TType) → type_code t < 16
unfolding type_code
code_below T.Stop = omega arith
code_below T.Bool = omega arith
code_below T.I08 = omega arith
code_below T.I16 = omega arith
code_below T.I32 = omega arith
code_below T.I64 = omega arith
code_below T.Double = omega arith
code_below T.String = omega arith
code_below T.List = omega arith
code_below T.Set = omega arith
code_below T.Map = omega arith
code_below T.Struct = omega arith
code_below T.Uuid = omega arith

pub truth_below : (b : Bool) → truth_code b < 16
unfolding truth_code
truth_below true = omega arith
truth_below false = omega arith

pub kind_below : (m : TMessageType) → message_code m < 8
unfolding message_code
kind_below M.Call = omega arith
kind_below M.Reply = omega arith
kind_below M.Exception = omega arith
kind_below M.OneWay = omega arith

-- a field's header: the ids may reach the call through their bits, as l and i
module _ (last id l i : ℤ) (d code : ℕ) (e : d ≡ short_delta l i) where
  pub delta_scaled : Fits w8 (d * 16)
  delta_scaled = record { fits = omega (arith, delta_below l i) }

  pub delta_coded : Fits w8 (d * 16 + code % 16)
  delta_coded = record { fits = omega (arith, delta_below l i) }

  module _ (x : l ≡ last) (y : i ≡ id) where
    is_delta : d ≡ short_delta last id
    is_delta = e ∙ ap₂ short_delta x y

    pub header_short : (d ≡ 0 → ⊥) → (d * 16 + code % 16) ∷ [] ≡ field_bytes last id (code % 16)
    unfolding field_bytes
    header_short h = rw (← is_delta, ne_eqb d 0 h)

    pub header_long : (n : ℕ) (w : ℤ) → d ≡ 0 → n ≡ zigzag w → w ≡ id → (code % 16) ∷ fewest n ≡ field_bytes last id (code % 16)
    unfolding field_bytes
    header_long n w h f g = rw (← is_delta, eq-eqb d 0 h, f, g)

pub ruleset header_cases = (delta_scaled, delta_coded, header_short, header_long, same_to, same_left, to_z-of_z, sfits_of)

-- a list's header
module _ (t : TType) (n c : ℕ) (e : c ≡ type_code t) where
  pub items_scaled : n < 15 → Fits w8 (n * 16 + c)
  items_scaled h = record { fits = omega (arith, code_below t) }

  pub items_marked : Fits w8 (240 + c)
  items_marked = record { fits = omega (arith, code_below t) }

  pub items_short : n < 15 → (n * 16 + c) ∷ [] ≡ items_bytes t n
  unfolding items_bytes
  items_short h = rw (e, lt-ltb n 15 h)

  pub items_long : 15 ≤ n → (240 + c) ∷ fewest n ≡ items_bytes t n
  unfolding items_bytes
  items_long h = rw (e, le-ltb n 15 h)

pub ruleset items_cases = (items_scaled, items_marked, items_short, items_long, same_to, same_left)

-- a map's header
pub pairs_none : (k v : TType) (n : ℕ) → n ≡ 0 → 0 ∷ [] ≡ pairs_bytes k v n
unfolding pairs_bytes
pairs_none k v n h = rw (eq-eqb n 0 h)

module _ (k v : TType) (n c d : ℕ) (e : c ≡ type_code k) where
  pub key_scaled : Fits w8 (c * 16)
  key_scaled = record { fits = omega (arith, code_below k) }

  module _ (f : d ≡ type_code v) where
    pub pair_coded : Fits w8 (c * 16 + d)
    pair_coded = record { fits = omega (arith, code_below k, code_below v) }

    pub pairs_some : (n ≡ 0 → ⊥) → fewest n ++ ((c * 16 + d) ∷ []) ≡ pairs_bytes k v n
    unfolding pairs_bytes
    pairs_some h = rw (e, f, ne_eqb n 0 h)

pub ruleset pairs_cases = (pairs_none, key_scaled, pair_coded, pairs_some, same_to, same_left)

-- a message's header, from its second byte and the sequence number's bits: their varint takes p bytes, and that of the name's length q
module _ (b p : ℕ) (l : p ≡ length (fewest b)) where
  pub message_head : Fits w64 (2 + p)
  message_head = record { fits = omega (arith, fewest_len b) }

  module _ (name : List ℕ) (q : ℕ) (n : q ≡ length (fewest (length name))) where
    pub message_lengths : Fits w64 (2 + p + q)
    message_lengths = record { fits = omega (arith, fewest_len b, fewest_len (length name)) }

    module _ (c : ℕ) where
      start : List ℕ
      start = 130 ∷ c ∷ fewest b

      long : length start ≡ 2 + p
      unfolding start
      long = omega arith

      pub message_need : 2 + p + q + length name ≡ length (130 ∷ c ∷ (fewest b ++ string_bytes name))
      unfolding start string_bytes
      message_need = omega (arith, length-append (fewest b) (fewest (length name) ++ name), length-append (fewest (length name)) name)

      module _ (short : Bool) (buf : List ℕ) (at : ℕ) (s : short ≡ ltb (length buf) (at + (2 + p + q + length name))) (no-lack : short ≡ false) where
        room : at + length (start ++ string_bytes name) ≤ length buf
        unfolding start
        room = omega (arith, message_need, roomy short (length buf) at (2 + p + q + length name) s no-lack)

        module _ (one two : List ℕ) (u : one ≡ put_at buf at (130 ∷ [])) (v : two ≡ put_at one (at + 1) (c ∷ fewest b)) where
          started : two ≡ put_at buf at start
          unfolding start
          started =
              both_in buf at (130 ∷ []) (c ∷ fewest b) (omega (arith, room, length-append start (string_bytes name))) one u two v

          pub message_to : (r : Wrote) → r ≡ wrote_at two (at + (2 + p)) (string_bytes name) → r ≡ wrote_at buf at (130 ∷ c ∷ (fewest b ++ string_bytes name))
          unfolding start
          message_to r h = both_to buf at start (string_bytes name) room two started r (rw (← long) at h)

          pub message_left : (after : List ℕ) → after ≡ put_at two (at + (2 + p)) (string_bytes name) → after ≡ put_at buf at (130 ∷ c ∷ (fewest b ++ string_bytes name))
          unfolding start
          message_left after h = both_in buf at start (string_bytes name) room two started after (rw (← long) at h)

module _ (short : Bool) (have at p q r : ℕ) (s : short ≡ ltb have (at + (2 + p + q + r))) (f : short ≡ false) (h : have < 2 ^ 64) where
  pub message_second : Fits w64 (at + 1)
  message_second = record { fits = omega (arith, roomy short have at (2 + p + q + r) s f) }

  pub message_third : Fits w64 (at + (2 + p))
  message_third = record { fits = omega (arith, roomy short have at (2 + p + q + r) s f) }

pub ruleset envelope_cases = (short_answer, short_left, message_head, message_lengths, message_need, message_second, message_third, message_to, message_left)

-- the second byte has the type and the version; the sequence number reaches its call through its bits, as y
module _ (m : TMessageType) (c : ℕ) (e : c ≡ message_code m) where
  pub kind_scaled : Fits w8 (c * 32)
  kind_scaled = record { fits = omega (arith, kind_below m) }

  pub kind_versioned : Fits w8 (c * 32 + 1)
  kind_versioned = record { fits = omega (arith, kind_below m) }

  pub message_is : (b : ℕ) (y z : ℤ) (name : List ℕ) → b ≡ of_z w32 y → y ≡ z → 130 ∷ (c * 32 + 1) ∷ (fewest b ++ string_bytes name) ≡ message_bytes m z name
  unfolding message_bytes
  message_is b y z name f g = rw (e, f, g)

pub ruleset message_cases = (kind_scaled, kind_versioned, message_is, same_to, same_left, to_z-of_z, sfits_of)

-- message_head
pub head_two : (n a : ℕ) → a ≡ length (fewest n) → Fits w64 (2 + a)
head_two n a e = record { fits = omega (arith, fewest_len n) }

pub head_three : (n m a b : ℕ) → a ≡ length (fewest n) → b ≡ length (fewest m) → Fits w64 (2 + a + b)
head_three n m a b e f = record { fits = omega (arith, fewest_len n, fewest_len m) }

pub head_is : (bits m a b : ℕ) (y z : ℤ) → a ≡ length (fewest bits) → bits ≡ of_z w32 y → y ≡ z → b ≡ length (fewest m) → 2 + a + b ≡ 2 + length (fewest (of_z w32 z)) + length (fewest m)
head_is bits m a b y z e f g h = rw (e, f, g, h)

pub ruleset head_cases = (head_two, head_three, head_is, to_z-of_z, sfits_of)

-- field_len, items_len, pairs_len
module _ (last id l i : ℤ) (d code : ℕ) (e : d ≡ short_delta l i) (x : l ≡ last) (y : i ≡ id) where
  pub length_short : (d ≡ 0 → ⊥) → 1 ≡ length (field_bytes last id (code % 16))
  length_short h = ap length (header_short last id l i d code e x y h)

  pub length_long : (n k : ℕ) (w : ℤ) → d ≡ 0 → n ≡ zigzag w → w ≡ id → k ≡ length (fewest n) → 1 + k ≡ length (field_bytes last id (code % 16))
  length_long n k w h f g q = omega (arith, q, ap length (header_long last id l i d code e x y n w h f g))

pub ruleset field_len_cases = (length_short, length_long, more_fits, to_z-of_z, sfits_of)

module _ (t : TType) (n : ℕ) where
  pub items_one : n < 15 → 1 ≡ length (items_bytes t n)
  items_one h = ap length (items_short t n (type_code t) refl h)

  pub items_more : (k : ℕ) → 15 ≤ n → k ≡ length (fewest n) → 1 + k ≡ length (items_bytes t n)
  items_more k h q = omega (arith, q, ap length (items_long t n (type_code t) refl h))

module _ (k v : TType) (n : ℕ) where
  pub pairs_one : n ≡ 0 → 1 ≡ length (pairs_bytes k v n)
  pairs_one h = ap length (pairs_none k v n h)

  pub pairs_more : (m : ℕ) → (n ≡ 0 → ⊥) → m ≡ length (fewest n) → m + 1 ≡ length (pairs_bytes k v n)
  pairs_more m h q = omega (arith, q, ap length (pairs_some k v n (type_code k) (type_code v) refl refl h), length-append (fewest n) ((type_code k * 16 + type_code v) ∷ []))

pub ruleset len_cases = (items_one, items_more, pairs_one, pairs_more, more_fits, fits_more)
