-- Big-endian bytes, over how many there are: the number of a number's bytes is the number, the bytes of some bytes' number are those bytes, what was
-- written at a place is read there, and what is read depends on its own bytes alone. Assumes nothing.
use mathlib.Core.Path.{◌≡◌, refl, sym, ap, ap₂, subst, subst⁻¹, ◌∙◌}
use mathlib.Core.List.{List, [], ◌∷◌, ◌++◌, reverse, reverse_aux}
use Prim.Native.Nat.{ℕ, suc, ◌+◌, ◌^◌, ◌≤◌, ◌<◌}
use native.Mathlib.Omega.{arith}
use borrow.Author.Tests.{lt-ltb, le-ltb}
use lib.ListN.{length, get_or, take, drop, length-append, length-drop}
use lib.Seq.{slice, slice-cons, length-slice, take_at}
use Rattle.numbers.specs.Varint.{got}
use Rattle.numbers.specs.Fixed.{little, little_of}
use Rattle.numbers.proofs.Found.{Bytes, bytes_nil, bytes_cons, by_lt, take_drop, as_long, no_got}
use Rattle.numbers.proofs.Fixed.{little_below, length_of, little_of_lem, of_little, bytes_of_lem, bytes_slice}
use Rattle.big_endian.specs.Big.{big, big_of, big2, big4, big8}
use Rattle.big_endian.specs.Answers.{big_at}

-- a list turned around: its length, that its bytes are bytes, and turned around again
length_aux : (a b : List ℕ) → length (reverse_aux a b) ≡ length a + length b
length_aux [] b = omega arith
length_aux (x ∷ a) b = length_aux a (x ∷ b) ∙ omega arith

pub length_reverse : (a : List ℕ) → length (reverse a) ≡ length a
length_reverse a = length_aux a [] ∙ omega arith

bytes_aux : (a b : List ℕ) → Bytes a → Bytes b → Bytes (reverse_aux a b)
bytes_aux [] b h g = g
bytes_aux (x ∷ a) b h g = bytes_aux a (x ∷ b) (λ i. h (suc i)) (bytes_cons x b (h 0) g)

pub bytes_reverse : (a : List ℕ) → Bytes a → Bytes (reverse a)
bytes_reverse a h = bytes_aux a [] h bytes_nil

aux_aux : (a b : List ℕ) → reverse (reverse_aux a b) ≡ reverse_aux b a
aux_aux [] b = refl
aux_aux (x ∷ a) b = aux_aux a (x ∷ b)

pub twice : (a : List ℕ) → reverse (reverse a) ≡ a
twice a = aux_aux a []

pub big_long : (k n : ℕ) → length (big_of k n) ≡ k
big_long k n = length_reverse (little_of k n) ∙ length_of k n

pub big_of_lem : (k n : ℕ) → n < 256 ^ k → big (big_of k n) ≡ n
big_of_lem k n h = ap little (twice (little_of k n)) ∙ little_of_lem k n h

pub of_big : (bs : List ℕ) → Bytes bs → big_of (length bs) (big bs) ≡ bs
of_big bs h =
    ap (λ (k : ℕ). big_of k (big bs)) (sym (length_reverse bs))
    ∙ ap reverse (of_little (reverse bs) (bytes_reverse bs h))
    ∙ twice bs

pub big_below : (bs : List ℕ) → Bytes bs → big bs < 256 ^ length bs
big_below bs h = subst (λ (k : ℕ). big bs < 256 ^ k) (length_reverse bs) (little_below (reverse bs) (bytes_reverse bs h))

pub bytes_big : (k n : ℕ) → Bytes (big_of k n)
bytes_big k n = bytes_reverse (little_of k n) (bytes_of_lem k n)

pub length_big2 : (n : ℕ) → length (big2 n) ≡ 2
unfolding big2
length_big2 n = refl

pub length_big4 : (n : ℕ) → length (big4 n) ≡ 4
unfolding big4
length_big4 n = refl

pub length_big8 : (n : ℕ) → length (big8 n) ≡ 8
unfolding big8
length_big8 n = refl

-- the bytes of a part, one by one
first : (s : List ℕ) (p q e : ℕ) → q ≡ p + 1 → p < e → e ≤ length s → slice p e s ≡ get_or s p 0 ∷ slice q e s
first s p q e i h l = let j : q ≡ suc p = omega arith in rw (slice-cons p e s 0 h l, j)

pub two_bytes : (s : List ℕ) (at e : ℕ) → at + 2 ≤ e → e ≤ length s → slice at e s ≡ get_or s at 0 ∷ get_or s (at + 1) 0 ∷ slice (at + 2) e s
two_bytes s at e h l =
    first s at (at + 1) e refl (omega arith) l
    ∙ ap (λ (bs : List ℕ). get_or s at 0 ∷ bs) (first s (at + 1) (at + 2) e (omega arith) (omega arith) l)

pub four_bytes : (s : List ℕ) (at e : ℕ) → at + 4 ≤ e → e ≤ length s → slice at e s ≡ get_or s at 0 ∷ get_or s (at + 1) 0 ∷ get_or s (at + 2) 0 ∷ get_or s (at + 3) 0 ∷ slice (at + 4) e s
four_bytes s at e h l =
    let two : at + 1 + 1 ≡ at + 2 = omega arith in
    let three : at + 2 + 1 ≡ at + 3 = omega arith in
    let four : at + 2 + 2 ≡ at + 4 = omega arith in
    two_bytes s at e (omega arith) l
    ∙ ap (λ (bs : List ℕ). get_or s at 0 ∷ get_or s (at + 1) 0 ∷ bs) (rw (three, four) at (two_bytes s (at + 2) e (omega arith) l))

-- the part that a known list starts
slice_start : (at k : ℕ) (s bs rest : List ℕ) → length bs ≡ k → drop at s ≡ bs ++ rest → slice at (at + k) s ≡ bs
slice_start at k s bs rest l e = sym (take_drop at k s) ∙ ap (take k) e ∙ take_at bs rest k l

reaches : (at k : ℕ) (s bs rest : List ℕ) → 0 < k → length bs ≡ k → drop at s ≡ bs ++ rest → at + k ≤ length s
reaches at k s bs rest h l e = omega (arith, length-drop at s, simp length-append at (ap length e))

pub big_in : (k n at : ℕ) (s rest : List ℕ) → 0 < k → n < 256 ^ k → drop at s ≡ big_of k n ++ rest → big_at k s at ≡ got n (at + k)
big_in k n at s rest h b e =
    rw (le-ltb (length s) (at + k) (reaches at k s (big_of k n) rest h (big_long k n) e))
    (ap (λ (m : ℕ). got m (at + k)) (ap big (slice_start at k s (big_of k n) rest (big_long k n) e) ∙ big_of_lem k n b))

-- what is known of a number that k bytes are read as
pub record Read (k : ℕ) (s : List ℕ) (at v p : ℕ) : Type 0 where
  pub ends : p ≡ at + k
  pub inside : p ≤ length s
  pub is : v ≡ big (slice at p s)

pub big_read : (k : ℕ) (s : List ℕ) (at v p : ℕ) → big_at k s at ≡ got v p → Read k s at v p
big_read k s at v p e =
    by_lt (length s) (at + k) (λ h. no_got (rw (lt-ltb (length s) (at + k) h) at e)) (λ h. found h (rw (le-ltb (length s) (at + k) h) at e))
  where
    found : at + k ≤ length s → got (big (slice at (at + k) s)) (at + k) ≡ got v p → Read k s at v p
    found h f =
        let q : at + k ≡ p = cc in
        let u : big (slice at (at + k) s) ≡ v = cc in
        record { ends = sym q; inside = omega arith; is = sym u ∙ ap (λ (m : ℕ). big (slice at m s)) q }

pub big_below_read : (k : ℕ) (s : List ℕ) (at v p : ℕ) → Bytes s → Read k s at v p → v < 256 ^ k
big_below_read k s at v p h r =
    let l = length-slice at p s r.inside in
    let e : length (slice at p s) ≡ k = omega (arith, r.ends) in
    subst (λ (m : ℕ). v < 256 ^ m) e (subst⁻¹ (λ (m : ℕ). m < 256 ^ length (slice at p s)) r.is (big_below (slice at p s) (bytes_slice at p s h)))

-- the k bytes of what was read are those that were read
pub big_bytes : (k : ℕ) (s : List ℕ) (at v p : ℕ) → Bytes s → Read k s at v p → big_of k v ≡ slice at p s
big_bytes k s at v p h r =
    let l = length-slice at p s r.inside in
    let e : k ≡ length (slice at p s) = omega (arith, r.ends) in
    ap₂ big_of e r.is ∙ of_big (slice at p s) (bytes_slice at p s h)

-- two inputs that agree up to the end
pub big_local : (k at : ℕ) (s t : List ℕ) (v p : ℕ) → big_at k s at ≡ got v p → take p t ≡ take p s → big_at k t at ≡ got v p
big_local k at s t v p e a =
    let r = big_read k s at v p e in
    let same : slice at p t ≡ slice at p s = ap (drop at) a in
    let l : p ≤ length t = as_long p s t r.inside a in
    let h : at + k ≤ length t = omega (arith, r.ends) in
    rw (le-ltb (length t) (at + k) h)
    (ap₂ got (ap (λ (m : ℕ). big (slice at m t)) (sym r.ends) ∙ ap big same ∙ sym r.is) (sym r.ends))
