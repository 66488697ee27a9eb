-- What the binary writer writes reads back: the bytes of each header and scalar are read, whatever follows them, as what was written, to their end.
-- Assumes nothing.
use mathlib.Core.Path.{◌≡◌, refl, ap, subst, ◌∙◌}
use mathlib.Core.Bool.{Bool, true, false}
use mathlib.Core.List.{List, [], ◌∷◌, ◌++◌}
use Prim.Native.Nat.{ℕ, ◌+◌, ◌/◌, ◌%◌, ◌^◌, ◌≤◌, ◌<◌}
use native.Mathlib.Omega.{arith}
use borrow.Author.Tests.{eq-eqb, ne_eqb, le-leb}
use lib.Dec.{eqb, ltb}
use lib.IntN.{ℤ}
use lib.ListN.{length}
use mir.Syntax.{w16, w32, w64}
use mir.Val.{SFits, of_z}
use mir.Facts.{to_z-of_z, Fits-of_z}
use Rattle.types.specs.Codes.{message_code, message_by_number}
use Rattle.types.specs.declared.TType.{TType}
use Rattle.types.specs.declared.TType.TheVariants as T
use Rattle.types.specs.declared.TypeRead.{TypeRead}
use Rattle.types.specs.declared.TMessageType.{TMessageType}
use Rattle.types.specs.declared.TMessageType.TheVariants as M
use Rattle.types.specs.declared.TConfiguration.{TConfiguration}
use Rattle.types.proofs.Codes.{message_by_number_lem}
use Rattle.types.proofs.Limits.{Ranged}
use Rattle.utf8.specs.Utf8.{utf8}
use Rattle.heads.specs.Reader.{done, byte, some}
use Rattle.heads.specs.Heads.{typed, counted, listed, message_typed, stop, value}
use Rattle.output.proofs.Back.{Reads, then_reads, then_quiet, done_reads, byte_reads, provided_reads, some_reads}
use Rattle.puts.proofs.Pieces.{kind_below}
use Rattle.big_endian.specs.Big.{big_of, big2, big4, big8}
use Rattle.big_endian.proofs.Big.{big_long, big_of_lem}
use Rattle.binary_codes.specs.Codes.{binary_code, by_binary_code}
use Rattle.binary_codes.proofs.Codes.{by_code}
use Rattle.binary_puts.specs.Bytes.{int16_bytes, int32_bytes, int64_bytes, truth_byte, field_bytes, items_bytes, pairs_bytes, string_bytes, message_bytes}
use Rattle.binary_heads.specs.Heads.{number, int16, int32, int64, double, truth, sized, binary, text, kind, items, paired, pairs, field, sequenced, named, message}

-- numbers, over how many bytes they have
pub number_reads : (k n : ℕ) → n < 256 ^ k → Reads (number k) n (big_of k n)
unfolding number
number_reads k n h =
    then_quiet (some k) _ (big_of k n) n (big_of k n) (subst (λ (j : ℕ). Reads (some j) (big_of k n) (big_of k n)) (big_long k n) (some_reads (big_of k n)))
    (λ rest. ap (λ (m : ℕ). done m rest) (big_of_lem k n h) ∙ done_reads n rest)

pub number4_reads : (n : ℕ) → n < 2 ^ 32 → Reads (number 4) n (big4 n)
unfolding big4
number4_reads n h = number_reads 4 n h

pub i16_reads : (z : ℤ) → SFits w16 z → Reads int16 z (int16_bytes z)
unfolding int16 big2
i16_reads z h =
    then_quiet (number 2) _ (of_z w16 z) z (int16_bytes z) (number_reads 2 (of_z w16 z) (Fits-of_z h).fits) (λ rest. ap (λ (y : ℤ). done y rest) (to_z-of_z h) ∙ done_reads z rest)

pub i32_reads : (z : ℤ) → SFits w32 z → Reads int32 z (int32_bytes z)
unfolding int32
i32_reads z h =
    then_quiet (number 4) _ (of_z w32 z) z (int32_bytes z) (number4_reads (of_z w32 z) (Fits-of_z h).fits) (λ rest. ap (λ (y : ℤ). done y rest) (to_z-of_z h) ∙ done_reads z rest)

pub i64_reads : (z : ℤ) → SFits w64 z → Reads int64 z (int64_bytes z)
unfolding int64 big8
i64_reads z h =
    then_quiet (number 8) _ (of_z w64 z) z (int64_bytes z) (number_reads 8 (of_z w64 z) (Fits-of_z h).fits) (λ rest. ap (λ (y : ℤ). done y rest) (to_z-of_z h) ∙ done_reads z rest)

pub double_reads : (n : ℕ) → n < 2 ^ 64 → Reads double n (big8 n)
unfolding double big8
double_reads n h = number_reads 8 n h

-- a bool
truth_said : (b : Bool) → (ltb (truth_byte b) 2 ≡ true) × (eqb (truth_byte b) 1 ≡ b)
unfolding truth_byte
truth_said true = (refl, refl)
truth_said false = (refl, refl)

pub truth_reads : (b : Bool) → Reads truth b (truth_byte b ∷ [])
unfolding truth
truth_reads b =
    then_quiet byte _ (truth_byte b) b (truth_byte b ∷ []) (byte_reads (truth_byte b))
    (provided_reads _ _ _ b [] (truth_said b).0 (λ rest. ap (λ (y : Bool). done y rest) (truth_said b).1 ∙ done_reads b rest))

-- bytes and texts
module _ (lim : TConfiguration) (bs : List ℕ) (h : length bs ≤ lim.string) (r : Ranged lim) where
  pub bytes_reads : Reads (binary lim) bs (string_bytes bs)
  unfolding binary sized string_bytes
  bytes_reads =
      then_reads (number 4) _ (length bs) bs (big4 (length bs)) bs (number4_reads (length bs) (omega (arith, r.long)))
      (provided_reads _ _ _ bs bs (le-leb (length bs) 2147483647 (omega (arith, r.long)))
      (provided_reads _ _ _ bs bs (le-leb (length bs) lim.string h) (some_reads bs)))

  pub text_reads : utf8 bs ≡ true → Reads (text lim) bs (string_bytes bs)
  unfolding text
  text_reads u =
      then_quiet (binary lim) _ bs bs (string_bytes bs) bytes_reads (provided_reads (utf8 bs) _ _ bs [] u (done_reads bs))

-- a type's code
coded_reads : (t : TType) → Reads (typed (by_binary_code (binary_code t))) t []
coded_reads t rest = ap (λ (r : TypeRead). typed r rest) (by_code t) ∙ done_reads t rest

kind_reads : (t : TType) → Reads kind t (binary_code t ∷ [])
unfolding kind
kind_reads t = then_quiet byte _ (binary_code t) t (binary_code t ∷ []) (byte_reads (binary_code t)) (coded_reads t)

-- a count within its limit
module _ (lim : TConfiguration) (n : ℕ) (h : n ≤ lim.container) (r : Ranged lim) where
  counted_reads : Reads (counted lim n) n []
  unfolding counted
  counted_reads =
      provided_reads _ _ _ n [] (le-leb n 2147483647 (omega (arith, r.large))) (provided_reads _ _ _ n [] (le-leb n lim.container h) (done_reads n))

  -- a list's or a set's header
  pub items_reads : (t : TType) → Reads (items lim) (t, n) (items_bytes t n)
  unfolding items listed items_bytes
  items_reads t =
      then_reads kind _ t (t, n) (binary_code t ∷ []) (big4 n) (kind_reads t)
      (then_quiet (number 4) (listed lim t) n (t, n) (big4 n) (number4_reads n (omega (arith, r.large)))
      (then_quiet (counted lim n) _ n (t, n) [] counted_reads (done_reads (t, n))))

  -- a map's types, then its count
  map_reads : (k v : TType) → Reads (pairs lim) (k, v, n) (binary_code k ∷ binary_code v ∷ big4 n)
  unfolding pairs paired
  map_reads k v =
      then_reads kind _ k (k, v, n) (binary_code k ∷ []) (binary_code v ∷ big4 n) (kind_reads k)
      (then_reads kind _ v (k, v, n) (binary_code v ∷ []) (big4 n) (kind_reads v)
      (then_quiet (number 4) _ n (k, v, n) (big4 n) (number4_reads n (omega (arith, r.large)))
      (then_quiet (counted lim n) _ n (k, v, n) [] counted_reads (done_reads (k, v, n)))))

  -- one that is not empty
  pub pairs_reads : (k v : TType) → 0 < n → Reads (pairs lim) (k, v, n) (pairs_bytes k v n)
  unfolding pairs_bytes
  pairs_reads k v p = rw (ne_eqb n 0 (λ z. omega arith)) (map_reads k v)

-- and an empty one
pub no_pairs_reads : (lim : TConfiguration) → Ranged lim → (k v : TType) → Reads (pairs lim) (T.Stop, T.Stop, 0) (pairs_bytes k v 0)
unfolding pairs_bytes binary_code
no_pairs_reads lim r k v = map_reads lim 0 (omega arith) r T.Stop T.Stop

-- a field's header, and the stop
pub stop_reads : Reads field stop (0 ∷ [])
unfolding field
stop_reads = then_quiet byte _ 0 stop (0 ∷ []) (byte_reads 0) (done_reads stop)

pub value_reads : (t : TType) (id : ℤ) → 0 < binary_code t → SFits w16 id → Reads field (value t id) (field_bytes t id)
unfolding field field_bytes
value_reads t id p h =
    then_reads byte _ (binary_code t) (value t id) (binary_code t ∷ []) (int16_bytes id) (byte_reads (binary_code t))
    (rw (ne_eqb (binary_code t) 0 (λ e. omega arith))
    (then_reads (typed (by_binary_code (binary_code t))) _ t (value t id) [] (int16_bytes id) (coded_reads t)
    (then_quiet int16 _ id (value t id) (int16_bytes id) (i16_reads id h) (done_reads (value t id)))))

-- a message's header
version_said : (m : TMessageType) → ((0x80010000 + message_code m) / 65536 ≡ 0x8001) × ((0x80010000 + message_code m) % 256 ≡ message_code m) × (big4 (0x80010000 + message_code m) ≡ 0x80 ∷ 0x01 ∷ 0x00 ∷ message_code m ∷ [])
unfolding big4 message_code
version_said M.Call = (refl, refl, refl)
version_said M.Reply = (refl, refl, refl)
version_said M.Exception = (refl, refl, refl)
version_said M.OneWay = (refl, refl, refl)

module _ (lim : TConfiguration) (m : TMessageType) (z : ℤ) (name : List ℕ) (f : SFits w32 z) (h : length name ≤ lim.string) (r : Ranged lim) (u : utf8 name ≡ true) where
  named_reads : Reads (named lim m) (m, z, name) (string_bytes name ++ int32_bytes z)
  unfolding named sequenced
  named_reads =
      then_reads (text lim) (sequenced m) name (m, z, name) (string_bytes name) (int32_bytes z) (text_reads lim name h r u)
      (then_quiet (number 4) _ (of_z w32 z) (m, z, name) (int32_bytes z) (number4_reads (of_z w32 z) (Fits-of_z f).fits)
      (λ rest. ap (λ (y : ℤ). done (m, y, name) rest) (to_z-of_z f) ∙ done_reads (m, z, name) rest))

  pub message_reads : Reads (message lim) (m, z, name) (message_bytes m z name)
  unfolding message message_bytes
  message_reads =
      let n : ℕ = 0x80010000 + message_code m in
      let said = version_said m in
      then_reads (number 4) _ n (m, z, name) (0x80 ∷ 0x01 ∷ 0x00 ∷ message_code m ∷ []) (string_bytes name ++ int32_bytes z)
      (subst (Reads (number 4) n) said.2 (number4_reads n (omega (arith, kind_below m))))
      (provided_reads _ _ _ (m, z, name) (string_bytes name ++ int32_bytes z) (eq-eqb (n / 65536) 0x8001 said.0)
      (then_reads (message_typed (message_by_number (n % 256))) (named lim) m (m, z, name) [] (string_bytes name ++ int32_bytes z)
      (λ rest. rw (said.1, message_by_number_lem m) (done_reads m rest))
      named_reads))
