-- What is written reads back: the bytes of each header and scalar are read, whatever follows them, as what was written, to their end. Assumes nothing.
use mathlib.Core.Path.{◌≡◌, refl, sym, ap, subst, ◌∙◌}
use mathlib.Core.Bool.{Bool, true, false, cond}
use mathlib.Core.List.{List, [], ◌∷◌, ◌++◌, append_assoc, append-nil}
use mathlib.Core.Logic.{◌⊎◌, inl, inr}
use Prim.Native.Nat.{ℕ, ◌+◌, ◌*◌, ◌/◌, ◌%◌, ◌^◌, ◌≤◌, ◌<◌}
use native.Mathlib.Omega.{arith}
use borrow.Author.Tests.{eq-eqb, ne_eqb, lt-ltb, le-ltb, le-leb}
use lib.Dec.{eqb, ltb}
use lib.IntN.{ℤ, pos, negsuc}
use lib.ListN.{length, length-append}
use lib.Seq.{take_at, drop_at}
use mir.Syntax.{w8, w16, w32, w64}
use mir.Val.{SFits, of_z}
use mir.Facts.{to_z-of_z, Fits-of_z}
use Rattle.types.specs.Refusals.{RANGE}
use Rattle.types.specs.Codes.{type_code, truth_code, message_code, element_type, message_by_number}
use Rattle.types.specs.declared.TType.{TType}
use Rattle.types.specs.declared.TType.TheVariants as T
use Rattle.types.specs.declared.TypeRead.{TypeRead}
use Rattle.types.specs.declared.TMessageType.{TMessageType}
use Rattle.types.specs.declared.TConfiguration.{TConfiguration}
use Rattle.types.proofs.Codes.{in_container, message_by_number_lem}
use Rattle.types.proofs.Limits.{Ranged}
use Rattle.numbers.specs.Varint.{got, refused, fewest}
use Rattle.zigzag.specs.Zigzag.{zigzag}
use Rattle.numbers.specs.Fixed.{little, eight}
use Rattle.numbers.proofs.Found.{by_lt}
use Rattle.numbers.proofs.Fewest.{round_trip, fewest_one}
use Rattle.numbers.proofs.Fixed.{little_of_lem, length_eight}
use Rattle.zigzag.proofs.Zig.{un_zig, zig_below, in_range_lem}
use Rattle.utf8.specs.Utf8.{utf8}
use Rattle.heads.specs.Reader.{Reader, done, and_then, provided, byte, some, Whole}
use Rattle.heads.specs.Heads.{int8, number32, number64, int16, int32, int64, double, uuid, truth, binary, text, typed, counted, listed, items, mapped, pairs, message_typed, named, versioned, message}
use Rattle.heads.proofs.Lawful.{then_got}
use Rattle.puts.specs.Bytes.{int_bytes, items_bytes, pairs_bytes, string_bytes, message_bytes}
use Rattle.puts.proofs.Pieces.{code_below, kind_below}

-- these bytes are read as a, whatever follows them
abbrev pub Reads : {A : Type 0} → Reader A → A → List ℕ → Type 0
Reads p a bs = (rest : List ℕ) → p (bs ++ rest) ≡ got a (length bs)

-- so they are read whole
pub whole : {A : Type 0} (p : Reader A) (a : A) (bs : List ℕ) → Reads p a bs → Whole p a bs
whole p a bs r = ap p (sym (append-nil bs)) ∙ r []

-- what is read by one reader and then by the next
module _ {A B : Type 0} (p : Reader A) (k : A → Reader B) (a : A) (b : B) where
  pub then_reads : (xs ys : List ℕ) → Reads p a xs → Reads (k a) b ys → Reads (and_then p k) b (xs ++ ys)
  then_reads xs ys r s rest =
      ap (and_then p k) (append_assoc xs ys rest)
      ∙ then_got p k (xs ++ (ys ++ rest)) a (length xs) b (length ys) (r (ys ++ rest)) (ap (k a) (drop_at xs (ys ++ rest) (length xs) refl) ∙ s rest)
      ∙ ap (got b) (sym (length-append xs ys))

  -- the next takes no byte
  pub then_quiet : (xs : List ℕ) → Reads p a xs → Reads (k a) b [] → Reads (and_then p k) b xs
  then_quiet xs r s = subst (Reads (and_then p k) b) (append-nil xs) (then_reads xs [] r s)

pub done_reads : {A : Type 0} (a : A) → Reads (done a) a []
unfolding done
done_reads a rest = refl

pub byte_reads : (b : ℕ) → Reads byte b (b ∷ [])
unfolding byte
byte_reads b rest = refl

pub provided_reads : {A : Type 0} (ok : Bool) (why : ℕ) (p : Reader A) (a : A) (bs : List ℕ) → ok ≡ true → Reads p a bs → Reads (provided ok why p) a bs
unfolding provided
provided_reads ok why p a bs e r rest = rw e (r rest)

pub some_reads : (bs : List ℕ) → Reads (some (length bs)) bs bs
unfolding some
some_reads bs rest =
    rw (le-leb (length bs) (length (bs ++ rest)) (omega (arith, length-append bs rest)), take_at bs rest (length bs) refl)

-- numbers
pub number32_reads : (n : ℕ) → n < 2 ^ 32 → Reads number32 n (fewest n)
unfolding number32
number32_reads n h rest = round_trip 32 4 n h (omega arith) (omega arith) rest

pub number64_reads : (n : ℕ) → n < 2 ^ 64 → Reads number64 n (fewest n)
unfolding number64
number64_reads n h rest = round_trip 64 9 n h h (omega arith) rest

pub i8_reads : (z : ℤ) → SFits w8 z → Reads int8 z (of_z w8 z ∷ [])
unfolding int8
i8_reads z h = then_quiet byte _ (of_z w8 z) z (of_z w8 z ∷ []) (byte_reads (of_z w8 z)) (λ rest. ap (λ (y : ℤ). done y rest) (to_z-of_z h) ∙ done_reads z rest)

pub i32_reads : (z : ℤ) → SFits w32 z → Reads int32 z (int_bytes z)
unfolding int32
i32_reads z h =
    then_quiet number32 _ (zigzag z) z (int_bytes z) (number32_reads (zigzag z) (zig_below w32 z h)) (λ rest. ap (λ (y : ℤ). done y rest) (un_zig z) ∙ done_reads z rest)

pub i64_reads : (z : ℤ) → SFits w64 z → Reads int64 z (int_bytes z)
unfolding int64
i64_reads z h =
    then_quiet number64 _ (zigzag z) z (int_bytes z) (number64_reads (zigzag z) (zig_below w64 z h)) (λ rest. ap (λ (y : ℤ). done y rest) (un_zig z) ∙ done_reads z rest)

pub i16_reads : (z : ℤ) → SFits w16 z → Reads int16 z (int_bytes z)
unfolding int16 provided
i16_reads z h =
    then_quiet int32 _ z z (int_bytes z) (i32_reads z (wider z h))
    (λ rest. ap (λ (t : Bool). cond t (done z rest) (refused RANGE)) (in_range_lem z h) ∙ done_reads z rest)
  where
    wider : (z : ℤ) → SFits w16 z → SFits w32 z
    wider (pos n) k = record { sfits = omega (arith, k.sfits) }
    wider (negsuc n) k = record { sfits = omega (arith, k.sfits) }

eight_little : (n : ℕ) → n < 2 ^ 64 → little (eight n) ≡ n
unfolding eight
eight_little n h = little_of_lem 8 n h

pub double_reads : (n : ℕ) → n < 2 ^ 64 → Reads double n (eight n)
unfolding double
double_reads n h =
    then_quiet (some 8) _ (eight n) n (eight n) (subst (λ (k : ℕ). Reads (some k) (eight n) (eight n)) (length_eight n) (some_reads (eight n))) (λ rest. ap (λ (m : ℕ). done m rest) (eight_little n h) ∙ done_reads n rest)

pub uuid_reads : (bs : List ℕ) → length bs ≡ 16 → Reads uuid bs bs
unfolding uuid
uuid_reads bs e = subst (λ (k : ℕ). Reads (some k) bs bs) e (some_reads bs)

-- an element's bool
truth_said : (b : Bool) → (ltb (truth_code b) 3 ≡ true) × (eqb (truth_code b) 1 ≡ b)
unfolding truth_code
truth_said true = (refl, refl)
truth_said false = (refl, refl)

pub truth_reads : (b : Bool) → Reads truth b (truth_code b ∷ [])
unfolding truth
truth_reads b =
    then_quiet byte _ (truth_code b) b (truth_code b ∷ []) (byte_reads (truth_code b))
    (provided_reads _ _ _ b [] (truth_said b).0 (λ rest. ap (λ (y : Bool). done y rest) (truth_said b).1 ∙ done_reads b rest))

-- bytes and texts
module _ (lim : TConfiguration) (bs : List ℕ) (h : length bs ≤ lim.string) (r : Ranged lim) where
  pub bytes_reads : Reads (binary lim) bs (string_bytes bs)
  unfolding binary string_bytes
  bytes_reads =
      then_reads number32 _ (length bs) bs (fewest (length bs)) bs (number32_reads (length bs) (omega (arith, r.long)))
      (provided_reads _ _ _ bs bs (le-leb (length bs) lim.string h) (some_reads bs))

  pub text_reads : utf8 bs ≡ true → Reads (text lim) bs (string_bytes bs)
  unfolding text
  text_reads u =
      then_quiet (binary lim) _ bs bs (string_bytes bs) bytes_reads (provided_reads (utf8 bs) _ _ bs [] u (done_reads bs))

-- a type's code, where an element's type is asked
typed_reads : (t : TType) (c : ℕ) → c ≡ type_code t → Reads (typed (element_type c)) t []
typed_reads t c e rest = ap (λ (r : TypeRead). typed r rest) (ap element_type e ∙ in_container t) ∙ done_reads t rest

-- a count within its limit
module _ (lim : TConfiguration) (n : ℕ) (h : n ≤ lim.container) (r : Ranged lim) where
  counted_reads : Reads (counted lim n) n []
  unfolding counted
  counted_reads =
      provided_reads _ _ _ n [] (le-leb n 2147483647 (omega (arith, r.large))) (provided_reads _ _ _ n [] (le-leb n lim.container h) (done_reads n))

  listed_reads : (t : TType) → Reads (listed lim t n) (t, n) []
  unfolding listed
  listed_reads t = then_quiet (counted lim n) _ n (t, n) [] counted_reads (done_reads (t, n))

  -- a list's or a set's header
  module _ (t : TType) where
    after_type : (b : ℕ) (xs : List ℕ) → b % 16 ≡ type_code t → Reads (cond (ltb (b / 16) 15) (done (b / 16)) number32) n xs → Reads (items lim) (t, n) (b ∷ xs)
    unfolding items
    after_type b xs e s =
        then_reads byte _ b (t, n) (b ∷ []) xs (byte_reads b)
        (then_reads (typed (element_type (b % 16))) _ t (t, n) [] xs (typed_reads t (b % 16) e)
        (then_quiet _ (listed lim t) n (t, n) xs s (listed_reads t)))

    pub items_reads : Reads (items lim) (t, n) (items_bytes t n)
    unfolding items_bytes
    items_reads = by_lt n 15 (λ l. go (inl l)) (λ l. go (inr l))
      where
        go : (n < 15) ⊎ (15 ≤ n) → Reads (items lim) (t, n) (cond (ltb n 15) ((n * 16 + type_code t) ∷ []) ((0xF0 + type_code t) ∷ fewest n))
        go (inl l) =
            let c = code_below t in
            let e : (n * 16 + type_code t) % 16 ≡ type_code t = omega arith in
            let q : (n * 16 + type_code t) / 16 ≡ n = omega arith in
            rw (lt-ltb n 15 l) (after_type (n * 16 + type_code t) [] e (rw (q, lt-ltb n 15 l) (done_reads n)))
        go (inr l) =
            let c = code_below t in
            let e : (240 + type_code t) % 16 ≡ type_code t = omega arith in
            let q : (240 + type_code t) / 16 ≡ 15 = omega arith in
            rw (le-ltb n 15 l) (after_type (240 + type_code t) (fewest n) e (rw q (number32_reads n (omega (arith, r.large)))))

  -- a map's, which is not empty
  pub pairs_reads : (k v : TType) → 0 < n → Reads (pairs lim) (k, v, n) (pairs_bytes k v n)
  unfolding pairs mapped pairs_bytes
  pairs_reads k v p =
      let b : ℕ = type_code k * 16 + type_code v in
      let c = code_below k in
      let d = code_below v in
      let hi : b / 16 ≡ type_code k = omega arith in
      let lo : b % 16 ≡ type_code v = omega arith in
      rw (ne_eqb n 0 (λ z. omega arith))
      (then_reads number32 _ n (k, v, n) (fewest n) (b ∷ []) (number32_reads n (omega (arith, r.large)))
      (rw (ne_eqb n 0 (λ z. omega arith))
      (then_quiet byte _ b (k, v, n) (b ∷ []) (byte_reads b)
      (then_quiet (typed (element_type (b / 16))) _ k (k, v, n) [] (typed_reads k (b / 16) hi)
      (then_quiet (typed (element_type (b % 16))) _ v (k, v, n) [] (typed_reads v (b % 16) lo)
      (then_quiet (counted lim n) _ n (k, v, n) [] counted_reads (done_reads (k, v, n))))))))

-- and an empty one
pub no_pairs_reads : (lim : TConfiguration) (k v : TType) → Reads (pairs lim) (T.Stop, T.Stop, 0) (pairs_bytes k v 0)
unfolding pairs pairs_bytes
no_pairs_reads lim k v =
    then_quiet number32 _ 0 (T.Stop, T.Stop, 0) (0 ∷ []) (subst (Reads number32 0) (fewest_one 0 (omega arith)) (number32_reads 0 (omega arith))) (done_reads (T.Stop, T.Stop, 0))

-- a message's header
module _ (lim : TConfiguration) (m : TMessageType) (z : ℤ) (name : List ℕ) (f : SFits w32 z) (h : length name ≤ lim.string) (r : Ranged lim) (u : utf8 name ≡ true) where
  named_reads : Reads (named lim m) (m, z, name) (fewest (of_z w32 z) ++ string_bytes name)
  unfolding named
  named_reads =
      then_reads number32 _ (of_z w32 z) (m, z, name) (fewest (of_z w32 z)) (string_bytes name) (number32_reads (of_z w32 z) (Fits-of_z f).fits)
      (then_quiet (text lim) _ name (m, z, name) (string_bytes name) (text_reads lim name h r u)
      (λ rest. ap (λ (y : ℤ). done (m, y, name) rest) (to_z-of_z f) ∙ done_reads (m, z, name) rest))

  pub message_reads : Reads (message lim) (m, z, name) (message_bytes m z name)
  unfolding message versioned message_bytes
  message_reads =
      let b : ℕ = message_code m * 32 + 1 in
      let c = kind_below m in
      let hi : b / 32 ≡ message_code m = omega arith in
      let lo : b % 32 ≡ 1 = omega arith in
      let rest-bytes : List ℕ = fewest (of_z w32 z) ++ string_bytes name in
      then_reads byte _ 0x82 (m, z, name) (0x82 ∷ []) (b ∷ rest-bytes) (byte_reads 0x82)
      (provided_reads _ _ _ (m, z, name) (b ∷ rest-bytes) refl
      (then_reads byte _ b (m, z, name) (b ∷ []) rest-bytes (byte_reads b)
      (provided_reads _ _ _ (m, z, name) rest-bytes (eq-eqb (b % 32) 1 lo)
      (then_reads (message_typed (message_by_number (b / 32))) (named lim) m (m, z, name) [] rest-bytes
      (λ rest. rw (hi, message_by_number_lem m) (done_reads m rest))
      named_reads))))
