-- The header's numbers, and parts of a list. Assumes nothing.
use mathlib.Core.Path.{◌≡◌, refl, sym, ap, ◌∙◌}
use mathlib.Core.List.{List, [], ◌∷◌, ◌++◌, append_assoc}
use Prim.Native.Nat.{ℕ, zero, suc, ◌+◌, ◌*◌, ◌^◌, ◌≤◌, ◌<◌}
use native.Mathlib.Omega.{arith}
use native.Mathlib.Nat.{add-zero}
use lib.ListN.{length, get_or, take, drop}
use lib.Seq.{slice, length-slice, take_at, take-take, take_all, take-append-add, drop-append-add, slice_empty}
use Rattle.numbers.specs.Fixed.{little, little_of, four}
use Rattle.numbers.proofs.Found.{Bytes}
use Rattle.numbers.proofs.Fixed.{little_below, little_of_lem, of_little, bytes_slice}
use Rattle.days.specs.Day.{number, words}
use Rattle.days.proofs.Ends.{length_four, slice_then}

-- parts
pub slice_join : (s : List ℕ) (a b c : ℕ) → a ≤ b → b ≤ c → slice a b s ++ slice b c s ≡ slice a c s
slice_join s a b c h l = ap (λ (t : List ℕ). drop a t ++ slice b c s) (sym (take-take b c s l)) ∙ slice_then (take c s) a b h

pub slice_whole : (s : List ℕ) → slice 0 (length s) s ≡ s
slice_whole s = take_all (length s) s (omega arith)

pub slice_behind : (p s : List ℕ) (n a b : ℕ) → length p ≡ n → slice (n + a) (n + b) (p ++ s) ≡ slice a b s
slice_behind p s n a b e = rw (← e) (ap (drop (length p + a)) (take-append-add p s b) ∙ drop-append-add p (take b s) a)

pub slice_middle : (p m s : List ℕ) (n : ℕ) → length p ≡ n → slice n (n + length m) (p ++ (m ++ s)) ≡ m
slice_middle p m s n e =
    ap (λ (i : ℕ). slice i (n + length m) (p ++ (m ++ s))) (sym (add-zero n))
    ∙ slice_behind p (m ++ s) n 0 (length m) e
    ∙ take_at m s (length m) refl

-- the numbers of a header
pub number_first : (n : ℕ) (s : List ℕ) → n < 256 ^ 4 → number (four n ++ s) 0 ≡ n
unfolding number four
number_first n s h = ap little (take_at (little_of 4 n) s 4 refl) ∙ little_of_lem 4 n h

pub number_behind : (n : ℕ) (s : List ℕ) (k : ℕ) → number (four n ++ s) (suc k) ≡ number s k
unfolding number
number_behind n s k =
    let p : 4 * suc k ≡ 4 + 4 * k = omega arith in
    let q : 4 + 4 * k + 4 ≡ 4 + (4 * k + 4) = omega arith in
    rw (p, q) (ap little (slice_behind (four n) s 4 (4 * k) (4 * k + 4) (length_four n)))

pub words_number : (ns s : List ℕ) (k : ℕ) → k < length ns → get_or ns k 0 < 256 ^ 4 → number (words ns ++ s) k ≡ get_or ns k 0
words_number [] s k h l = absurd (omega arith)
words_number (n ∷ ns) s zero h l = ap (λ (t : List ℕ). number t 0) (append_assoc (four n) (words ns) s) ∙ number_first n (words ns ++ s) l
words_number (n ∷ ns) s (suc k) h l =
    ap (λ (t : List ℕ). number t (suc k)) (append_assoc (four n) (words ns) s)
    ∙ number_behind n (words ns ++ s) k
    ∙ words_number ns s k (omega arith) l

-- n numbers of a file's header, from k on
abbrev pub numbers : List ℕ → ℕ → ℕ → List ℕ
numbers file zero k = []
numbers file (suc n) k = number file k ∷ numbers file n (k + 1)

pub number_below : (file : List ℕ) (k : ℕ) → Bytes file → 4 * k + 4 ≤ length file → number file k < 256 ^ 4
unfolding number
number_below file k b h =
    let l : length (slice (4 * k) (4 * k + 4) file) ≡ 4 = omega (arith, length-slice (4 * k) (4 * k + 4) file h) in
    rw l at (little_below (slice (4 * k) (4 * k + 4) file) (bytes_slice (4 * k) (4 * k + 4) file b))

pub four_number : (file : List ℕ) (k : ℕ) → Bytes file → 4 * k + 4 ≤ length file → four (number file k) ≡ slice (4 * k) (4 * k + 4) file
unfolding number four
four_number file k b h =
    let l : length (slice (4 * k) (4 * k + 4) file) ≡ 4 = omega (arith, length-slice (4 * k) (4 * k + 4) file h) in
    ap (λ (m : ℕ). little_of m (little (slice (4 * k) (4 * k + 4) file))) (sym l) ∙ of_little (slice (4 * k) (4 * k + 4) file) (bytes_slice (4 * k) (4 * k + 4) file b)

pub words_numbers : (file : List ℕ) (n k : ℕ) → Bytes file → 4 * (k + n) ≤ length file → words (numbers file n k) ≡ slice (4 * k) (4 * (k + n)) file
words_numbers file zero k b h = rw add-zero (sym (slice_empty (4 * k) file))
words_numbers file (suc n) k b h =
    let p : 4 * (k + 1) ≡ 4 * k + 4 = omega arith in
    let q : 4 * (k + 1 + n) ≡ 4 * (k + suc n) = omega arith in
    let rest : words (numbers file n (k + 1)) ≡ slice (4 * k + 4) (4 * (k + suc n)) file = rw (p, q) at (words_numbers file n (k + 1) b (omega arith)) in
    rw (four_number file k b (omega arith), rest) (slice_join file (4 * k) (4 * k + 4) (4 * (k + suc n)) (omega arith) (omega arith))
