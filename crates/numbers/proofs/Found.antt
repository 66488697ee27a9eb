-- What a number that was found tells of its bytes, and that it depends on them alone. Assumes nothing.
use Rattle.std.proofs.Common.{◌≡◌, ℕ, zero, suc, ◌+◌, ◌*◌, ◌%◌, ◌^◌, ◌<◌, ◌≤◌, ◌⊎◌, List, [], ◌∷◌, length, get_or, take, drop, sym, refl, ap, ◌∙◌, ap₂, inl, inr, mod-lt, suc-add, pow-suc, zero-add, arith, length-drop, length-take, length-take-le, pow_pos, le-ltb, lt-ltb}
use native.Mathlib.Decide.{dec_lt}
use lib.Seq.{take-nil}
use Rattle.types.specs.Refusals.{END, LONG_VARINT}
use Rattle.numbers.specs.Varint.{Found, got, refused, more, groups, keep, placed, varint_at}

-- each is a byte, as a slice's elements are known to be
abbrev pub Bytes : List ℕ → Type 0
Bytes bs = (i : ℕ) → get_or bs i 0 < 256

pub bytes_nil : Bytes []
bytes_nil i = omega arith

pub bytes_cons : (b : ℕ) (bs : List ℕ) → b < 256 → Bytes bs → Bytes (b ∷ bs)
bytes_cons b bs h g zero = h
bytes_cons b bs h g (suc i) = g i

-- by which of two numbers is the smaller
pub by_lt : {X : Type 0} (a b : ℕ) → (a < b → X) → (b ≤ a → X) → X
by_lt {X} a b f g = go (dec_lt a b)
  where
    go : Dec (a < b) → X
    go (yes h) = f h
    go (no h) = g (omega arith)

-- by whether a number takes one byte
pub by_size : {X : Type 0} (n : ℕ) → (n < 128 → X) → (128 ≤ n → X) → X
by_size n f g = by_lt n 128 f g

pub zero_one : {X : Type 0} → ◌≡◌ {A = ℕ} 0 1 → X
zero_one e = absurd (omega arith)

-- what is refused was not found
pub no_got : {X : Type 0} {why v n : ℕ} → refused why ≡ got v n → X
no_got e = zero_one (cc)

-- what is read behind a byte that is not the last
pub record Behind (x : Found ℕ) (c v n : ℕ) : Type 0 where
  pub value : ℕ
  pub used : ℕ
  pub is : x ≡ got value used
  pub one_more : n ≡ suc used
  pub above : v ≡ c + 128 * value

pub behind : (x : Found ℕ) (c v n : ℕ) → more c x ≡ got v n → Behind x c v n
behind (got w m) c v n e = record { value = w; used = m; is = refl; one_more = cc; above = cc }
behind (refused why) c v n e = no_got e

-- what is known of a number that at most k bytes are read as: how many it took, and how large it is
pub record Took (bs : List ℕ) (k v n : ℕ) : Type 0 where
  pub some : 0 < n
  pub inside : n ≤ length bs
  pub few : n ≤ k
  pub below : v < 128 ^ n

pub took : (k : ℕ) (bs : List ℕ) (v n : ℕ) → groups k bs ≡ got v n → Took bs k v n
took zero bs v n e = no_got e
took (suc k) [] v n e = no_got e
took (suc k) (b ∷ bs) v n e =
    by_size b
    (λ h.
    let f : got b 1 ≡ got v n = rw (lt-ltb b 128 h) at e in
    let one : 1 ≡ n = cc in
    let same : b ≡ v = cc in
    rw (← one, ← same) (record { some = omega arith; inside = omega arith; few = omega arith; below = h }))
    (λ h.
    let f = behind (groups k bs) (b % 128) v n (rw (le-ltb b 128 h) at e) in
    let t = took k bs f.value f.used f.is in
    let size : 128 ^ n ≡ 128 ^ f.used * 128 = ap (λ (m : ℕ). 128 ^ m) f.one_more ∙ pow-suc 128 f.used in
    record { some = omega arith; inside = omega arith; few = omega arith; below = omega arith })

-- a refusal comes from behind
refused_behind : (x : Found ℕ) (c why : ℕ) → more c x ≡ refused why → x ≡ refused why
refused_behind (got v n) c why e = no_got (sym e)
refused_behind (refused u) c why e = e

-- and is one of the two
pub which : (k : ℕ) (bs : List ℕ) (why : ℕ) → groups k bs ≡ refused why → (why ≡ END) ⊎ (why ≡ LONG_VARINT)
which zero bs why e = inr (cc)
which (suc k) [] why e = inl (cc)
which (suc k) (b ∷ bs) why e =
    by_size b
    (λ h.
    let f : got b 1 ≡ refused why = rw (lt-ltb b 128 h) at e in
    no_got (sym f))
    (λ h. which k bs why (refused_behind (groups k bs) (b % 128) why (rw (le-ltb b 128 h) at e)))

-- The number before its low bits were kept, and how many bytes it took.
pub record Kept (w at v p : ℕ) (x : Found ℕ) : Type 0 where
  pub value : ℕ
  pub used : ℕ
  pub is : x ≡ got value used
  pub ends : at + used ≡ p
  pub low : value % 2 ^ w ≡ v

pub kept : (w at v p : ℕ) (x : Found ℕ) → placed at (keep w x) ≡ got v p → Kept w at v p x
kept w at v p (got u n) e = record { value = u; used = n; is = refl; ends = cc; low = cc }
kept w at v p (refused why) e = no_got e

-- A number that was found at a place ends behind it, in the input, after at most k bytes, and has w bits.
pub record Within (w k : ℕ) (s : List ℕ) (at v p : ℕ) : Type 0 where
  pub past : at < p
  pub inside : p ≤ length s
  pub few : p ≤ at + k
  pub small : v < 2 ^ w

pub within : (w k : ℕ) (s : List ℕ) (at v p : ℕ) → varint_at w k s at ≡ got v p → Within w k s at v p
within w k s at v p e =
    let f = kept w at v p (groups k (drop at s)) e in
    let t = took k (drop at s) f.value f.used f.is in
    let l = length-drop at s in
    record { past = omega arith; inside = omega arith; few = omega arith; small = rw (← f.low) (mod-lt f.value (pow_pos w)) }

-- the empty list has no first byte
no_first : (k b : ℕ) (xs : List ℕ) (v n : ℕ) → groups (suc k) (b ∷ xs) ≡ got v n → take n [] ≡ take n (b ∷ xs) → ⊥
no_first k b xs v n e t =
    by_size b
    (λ h.
    let f : got b 1 ≡ got v n = rw (lt-ltb b 128 h) at e in
    let n-one : n ≡ 1 = cc in
    let u : ◌≡◌ {A = List ℕ} [] (b ∷ []) = rw n-one at t in
    zero_one (cc))
    (λ h.
    let f = behind (groups k xs) (b % 128) v n (rw (le-ltb b 128 h) at e) in
    let u : ◌≡◌ {A = List ℕ} [] (b ∷ take f.used xs) = rw f.one_more at t in
    zero_one (cc))

first : (k b y : ℕ) (xs ys : List ℕ) (v n : ℕ) → ((w m : ℕ) → groups k xs ≡ got w m → take m ys ≡ take m xs → groups k ys ≡ got w m) → groups (suc k) (b ∷ xs) ≡ got v n → take n (y ∷ ys) ≡ take n (b ∷ xs) → groups (suc k) (y ∷ ys) ≡ got v n
first k b y xs ys v n ih e t =
    by_size b
    (λ h.
    let f : got b 1 ≡ got v n = rw (lt-ltb b 128 h) at e in
    let n-one : n ≡ 1 = cc in
    let u : ◌≡◌ {A = List ℕ} (y ∷ []) (b ∷ []) = rw n-one at t in
    let same : y ≡ b = cc in
    rw (same, lt-ltb b 128 h) f)
    (λ h.
    let f = behind (groups k xs) (b % 128) v n (rw (le-ltb b 128 h) at e) in
    let u : ◌≡◌ {A = List ℕ} (y ∷ take f.used ys) (b ∷ take f.used xs) = rw f.one_more at t in
    let same : y ≡ b = cc in
    let tails : take f.used ys ≡ take f.used xs = cc in
    rw (same, le-ltb b 128 h, ih f.value f.used f.is tails) (ap₂ got (sym f.above) (sym f.one_more)))

-- bytes behind a number have no say in it
pub local : (k : ℕ) (xs ys : List ℕ) (v n : ℕ) → groups k xs ≡ got v n → take n ys ≡ take n xs → groups k ys ≡ got v n
local zero xs ys v n e t = e
local (suc k) [] ys v n e t = no_got e
local (suc k) (b ∷ xs) [] v n e t = absurd (no_first k b xs v n e t)
local (suc k) (b ∷ xs) (y ∷ ys) v n e t = first k b y xs ys v n (λ w m. local k xs ys w m) e t

pub take_drop : (m n : ℕ) (l : List ℕ) → take n (drop m l) ≡ drop m (take (m + n) l)
take_drop zero n l = rw zero-add
take_drop (suc m) n [] = rw (take-nil, take-nil)
take_drop (suc m) n (x ∷ l) = rw suc-add (take_drop m n l)

-- an input that agrees with one that reaches an end reaches it
pub as_long : (p : ℕ) (s t : List ℕ) → p ≤ length s → take p t ≡ take p s → p ≤ length t
as_long p s t h a = omega (arith, length-take p t, ap length a ∙ length-take-le p s h)

-- inputs that agree up to an end agree in the part that ends there
pub same_part : (at n p : ℕ) (s t : List ℕ) → at + n ≡ p → take p t ≡ take p s → take n (drop at t) ≡ take n (drop at s)
same_part at n p s t e a =
    take_drop at n t
    ∙ ap (λ (m : ℕ). drop at (take m t)) e
    ∙ ap (drop at) a
    ∙ ap (λ (m : ℕ). drop at (take m s)) (sym e)
    ∙ sym (take_drop at n s)

-- two inputs that agree up to the end of a number that the one has give the same answer
pub local_at : (w k at : ℕ) (s t : List ℕ) (v p : ℕ) → varint_at w k s at ≡ got v p → take p t ≡ take p s → varint_at w k t at ≡ got v p
local_at w k at s t v p e a =
    let f = kept w at v p (groups k (drop at s)) e in
    ap (λ (x : Found ℕ). placed at (keep w x)) (local k (drop at s) (drop at t) f.value f.used f.is (same_part at f.used p s t f.ends a))
    ∙ ap₂ got f.low f.ends

kept_refused : (w at why : ℕ) (x : Found ℕ) → placed at (keep w x) ≡ refused why → x ≡ refused why
kept_refused w at why (got v n) e = no_got (sym e)
kept_refused w at why (refused u) e = e

pub which_at : (w k : ℕ) (s : List ℕ) (at why : ℕ) → varint_at w k s at ≡ refused why → (why ≡ END) ⊎ (why ≡ LONG_VARINT)
which_at w k s at why e = which k (drop at s) why (kept_refused w at why (groups k (drop at s)) e)
