-- Little-endian bytes: the number of a number's bytes is the number, and the bytes of some bytes' number are those bytes. Assumes nothing.
use Rattle.std.proofs.Common.{◌≡◌, ℕ, zero, suc, ◌+◌, ◌*◌, ◌/◌, ◌%◌, ◌^◌, ◌<◌, ◌≤◌, List, [], ◌∷◌, ◌++◌, length, get_or, take, drop, sym, refl, ap, ◌∙◌, subst, ap₂, div-lt_iff_lt-mul, pow-suc, arith, lit<, length-append, length-drop, get_or-drop, take_at, le-ltb, lt-ltb}
use mathlib.Core.Path.{subst⁻¹}
use lib.Seq.{slice, slice-cons, length-slice}
use Rattle.numbers.specs.Varint.{got}
use Rattle.numbers.specs.Fixed.{little, little_of, eight}
use Rattle.numbers.specs.Answers.{little_at}
use Rattle.numbers.proofs.Found.{Bytes, bytes_nil, bytes_cons, by_lt, take_drop, as_long, no_got}

pub little_below : (bs : List ℕ) → Bytes bs → little bs < 256 ^ length bs
little_below [] h = omega arith
little_below (b ∷ bs) h = rw pow-suc (omega (arith, h 0, little_below bs (λ i. h (suc i))))

pub length_of : (k n : ℕ) → length (little_of k n) ≡ k
length_of zero n = refl
length_of (suc k) n = ap suc (length_of k (n / 256))

pub little_of_lem : (k n : ℕ) → n < 256 ^ k → little (little_of k n) ≡ n
little_of_lem zero n h = omega arith
little_of_lem (suc k) n h =
    let d : n / 256 < 256 ^ k = (div-lt_iff_lt-mul (lit< tt)).1 (rw pow-suc at h) in
    rw (little_of_lem k (n / 256) d) (omega arith)

pub of_little : (bs : List ℕ) → Bytes bs → little_of (length bs) (little bs) ≡ bs
of_little [] h = refl
of_little (b ∷ bs) h =
    let l : b < 256 = h 0 in
    let low : (b + 256 * little bs) % 256 ≡ b = omega arith in
    let high : (b + 256 * little bs) / 256 ≡ little bs = omega arith in
    rw (low, high) (ap (λ (xs : List ℕ). b ∷ xs) (of_little bs (λ i. h (suc i))))

pub length_eight : (n : ℕ) → length (eight n) ≡ 8
unfolding eight
length_eight n = refl

pub bytes_of_lem : (k n : ℕ) → Bytes (little_of k n)
bytes_of_lem zero n = bytes_nil
bytes_of_lem (suc k) n = bytes_cons (n % 256) (little_of k (n / 256)) (omega arith) (bytes_of_lem k (n / 256))

bytes_take : (n : ℕ) (bs : List ℕ) → Bytes bs → Bytes (take n bs)
bytes_take zero bs h = bytes_nil
bytes_take (suc n) [] h = bytes_nil
bytes_take (suc n) (b ∷ bs) h = bytes_cons b (take n bs) (h 0) (bytes_take n bs (λ i. h (suc i)))

pub bytes_slice : (p e : ℕ) (s : List ℕ) → Bytes s → Bytes (slice p e s)
bytes_slice p e s h i = rw get_or-drop (bytes_take e s h (p + i))

-- the first byte's share of a part, and that of the first four
little_first : (s : List ℕ) (p q e : ℕ) → q ≡ p + 1 → p < e → e ≤ length s → little (slice p e s) ≡ get_or s p 0 + 256 * little (slice q e s)
little_first s p q e i h l = let j : q ≡ suc p = omega arith in rw (slice-cons p e s 0 h l, j)

pub little_four : (s : List ℕ) (at e : ℕ) → at + 4 ≤ e → e ≤ length s → little (slice at e s) ≡ get_or s at 0 + 2 ^ 8 * get_or s (at + 1) 0 + 2 ^ 16 * get_or s (at + 2) 0 + 2 ^ 24 * get_or s (at + 3) 0 + 2 ^ 32 * little (slice (at + 4) e s)
little_four s at e h l =
    let a = little_first s at (at + 1) e refl (omega arith) l in
    let b = little_first s (at + 1) (at + 2) e (omega arith) (omega arith) l in
    let c = little_first s (at + 2) (at + 3) e (omega arith) (omega arith) l in
    let d = little_first s (at + 3) (at + 4) e (omega arith) (omega arith) l in
    omega arith

-- the part that a known list starts
slice_start : (at k : ℕ) (s bs rest : List ℕ) → length bs ≡ k → drop at s ≡ bs ++ rest → slice at (at + k) s ≡ bs
slice_start at k s bs rest l e = sym (take_drop at k s) ∙ ap (take k) e ∙ take_at bs rest k l

-- k bytes are there, and more than none
reaches : (at k : ℕ) (s bs rest : List ℕ) → 0 < k → length bs ≡ k → drop at s ≡ bs ++ rest → at + k ≤ length s
reaches at k s bs rest h l e = omega (arith, length-drop at s, simp length-append at (ap length e))

-- Over how many bytes: what was written at a place is read there, and what is read depends on its own bytes alone.
pub little_in : (k n at : ℕ) (s rest : List ℕ) → 0 < k → n < 256 ^ k → drop at s ≡ little_of k n ++ rest → little_at k s at ≡ got n (at + k)
little_in k n at s rest h b e =
    rw (le-ltb (length s) (at + k) (reaches at k s (little_of k n) rest h (length_of k n) e))
    (ap (λ (m : ℕ). got m (at + k)) (ap little (slice_start at k s (little_of k n) rest (length_of k n) e) ∙ little_of_lem k n b))

-- what is known of a number that k bytes are read as
pub record Read (k : ℕ) (s : List ℕ) (at v p : ℕ) : Type 0 where
  pub ends : p ≡ at + k
  pub inside : p ≤ length s
  pub is : v ≡ little (slice at p s)

pub little_read : (k : ℕ) (s : List ℕ) (at v p : ℕ) → little_at k s at ≡ got v p → Read k s at v p
little_read k s at v p e =
    by_lt (length s) (at + k) (λ h. no_got (rw (lt-ltb (length s) (at + k) h) at e)) (λ h. found h (rw (le-ltb (length s) (at + k) h) at e))
  where
    found : at + k ≤ length s → got (little (slice at (at + k) s)) (at + k) ≡ got v p → Read k s at v p
    found h f =
        let q : at + k ≡ p = cc in
        let u : little (slice at (at + k) s) ≡ v = cc in
        record { ends = sym q; inside = omega arith; is = sym u ∙ ap (λ (m : ℕ). little (slice at m s)) q }

pub little_below_read : (k : ℕ) (s : List ℕ) (at v p : ℕ) → Bytes s → Read k s at v p → v < 256 ^ k
little_below_read k s at v p h r =
    let l = length-slice at p s r.inside in
    let e : length (slice at p s) ≡ k = omega (arith, r.ends) in
    subst (λ (m : ℕ). v < 256 ^ m) e (subst⁻¹ (λ (m : ℕ). m < 256 ^ length (slice at p s)) r.is (little_below (slice at p s) (bytes_slice at p s h)))

-- the k bytes of what was read are those that were read
pub little_bytes : (k : ℕ) (s : List ℕ) (at v p : ℕ) → Bytes s → Read k s at v p → little_of k v ≡ slice at p s
little_bytes k s at v p h r =
    let l = length-slice at p s r.inside in
    let e : k ≡ length (slice at p s) = omega (arith, r.ends) in
    ap₂ little_of e r.is ∙ of_little (slice at p s) (bytes_slice at p s h)

-- two inputs that agree up to the end
pub little_local : (k at : ℕ) (s t : List ℕ) (v p : ℕ) → little_at k s at ≡ got v p → take p t ≡ take p s → little_at k t at ≡ got v p
little_local k at s t v p e a =
    let r = little_read k s at v p e in
    let same : slice at p t ≡ slice at p s = ap (drop at) a in
    let l : p ≤ length t = as_long p s t r.inside a in
    let h : at + k ≤ length t = omega (arith, r.ends) in
    rw (le-ltb (length t) (at + k) h)
    (ap₂ got (ap (λ (m : ℕ). little (slice at m t)) (sym r.ends) ∙ ap little same ∙ sym r.is) (sym r.ends))
