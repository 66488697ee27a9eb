-- The laws of reading a varint byte by byte, over the width: what a loop that adds up the groups has found so far and has still to find.
-- Assumes nothing.
use Rattle.std.proofs.Common.{◌≡◌, ℕ, suc, ◌+◌, ◌-◌, ◌*◌, ◌%◌, ◌^◌, ◌<◌, ◌≤◌, List, length, get_or, drop, sym, refl, ap, ◌∙◌, ap₂, suc-le-suc, zero-le, le_trans, mod-eq_of_lt, mul_assoc, mul_comm, one-mul, zero-add, mul-one, mul-add, add-one, arith, drop_of_length-le, drop-cons, pow-add, le-ltb, lt-ltb}
use native.Mathlib.Nat.{mod-add-mod, add-mod-mod}
use lib.Arith.{le-zero}
use Rattle.types.specs.Refusals.{END, LONG_VARINT}
use Rattle.numbers.specs.Varint.{Found, got, refused, more, groups, keep, placed, varint_at}

-- a count that is not 0, as the recursion takes it
pos_suc : {k : ℕ} → 0 < k → k ≡ suc (k - 1)
pos_suc h = omega arith

-- a number v that is read with a below it, in the low sh bits
abbrev pub onto : ℕ → ℕ → ℕ → Found ℕ → Found ℕ
onto w a sh (got v n) = got ((a + 2 ^ sh * v) % 2 ^ w) n
onto w a sh (refused why) = refused why

-- a is read so far, in sh bits; p is the next place, and k bytes may follow
abbrev pub run : ℕ → ℕ → ℕ → ℕ → List ℕ → ℕ → Found ℕ
run w a sh k s p = placed p (onto w a sh (groups k (drop p s)))

-- a with the group of the byte b above it, as the code adds it
abbrev pub added : ℕ → ℕ → ℕ → ℕ → ℕ
added w a sh b = (a + (b % 128 * 2 ^ sh) % 2 ^ w) % 2 ^ w

onto_start : (w : ℕ) (x : Found ℕ) → onto w 0 0 x ≡ keep w x
onto_start w (got v n) = ap (λ (m : ℕ). got (m % 2 ^ w) n) (zero-add (1 * v) ∙ one-mul v)
onto_start w (refused why) = refl

pub start : (w k : ℕ) (s : List ℕ) (at : ℕ) → run w 0 0 k s at ≡ varint_at w k s at
start w k s at = ap (placed at) (onto_start w (groups k (drop at s)))

-- sums under % M
sum_mod : (M a b y : ℕ) → ((a + b % M) % M + y) % M ≡ (b + (a + y)) % M
sum_mod M a b y =
    mod-add-mod (a + b % M) M y
    ∙ ap (λ (n : ℕ). n % M) (omega arith)
    ∙ mod-add-mod b M (a + y)

group_sum : (t r a v : ℕ) → r * t + (a + t * 128 * v) ≡ a + t * (r + 128 * v)
group_sum t r a v = omega (arith, mul-add t r (128 * v), mul_assoc t 128 v, mul_comm t r)

more_onto : (w a sh b p : ℕ) (x : Found ℕ) → placed p (onto w a sh (more (b % 128) x)) ≡ placed (p + 1) (onto w (added w a sh b) (sh + 7) x)
more_onto w a sh b p (got v n) =
    ap₂ got
    (sym (sum_mod (2 ^ w) a (b % 128 * 2 ^ sh) (2 ^ (sh + 7) * v)
    ∙ ap (λ (m : ℕ). m % 2 ^ w) (ap (λ (t : ℕ). b % 128 * 2 ^ sh + (a + t * v)) (pow-add 2 sh 7) ∙ group_sum (2 ^ sh) (b % 128) a v)))
    (omega arith)
more_onto w a sh b p (refused why) = refl

-- One turn of such a loop: it stands at p with k bytes allowed, of which b is the first, and a' is a with b's group.
-- Each law ends in what the loop had found to come, so that it goes before the invariant.
module _ (w a sh k : ℕ) (s : List ℕ) (p : ℕ) where
  pub spent : k ≤ 0 → refused LONG_VARINT ≡ run w a sh k s p
  spent h = rw (le-zero h)

  pub ended : 0 < k → length s ≤ p → refused END ≡ run w a sh k s p
  ended h e = rw (pos_suc h, drop_of_length-le s e)

module _ (w a sh k : ℕ) (s : List ℕ) (p b a' : ℕ) (h : 0 < k) (i : p < length s) (eb : b ≡ get_or s p 0) (ea : a' ≡ added w a sh b) where
  pub last : b < 128 → got a' (p + 1) ≡ run w a sh k s p
  last e =
      rw (pos_suc h, drop-cons s p 0 i, ← eb, lt-ltb b 128 e)
      (ap (λ (m : ℕ). got m (p + 1))
      (ea
      ∙ ap (λ (r : ℕ). (a + r * 2 ^ sh % 2 ^ w) % 2 ^ w) (mod-eq_of_lt e)
      ∙ add-mod-mod a (b * 2 ^ sh) (2 ^ w)
      ∙ ap (λ (m : ℕ). (a + m) % 2 ^ w) (mul_comm b (2 ^ sh))))

  pub next : 128 ≤ b → run w a' (sh + 7) (k - 1) s (p + 1) ≡ run w a sh k s p
  next e =
      rw ea
      (sym
      (ap (λ (j : ℕ). run w a sh j s p) (pos_suc h)
      ∙ rw (drop-cons s p 0 i, ← eb, le-ltb b 128 e)
      (more_onto w a sh b p (groups (k - 1) (drop (suc p) s)) ∙ rw add-one)))

-- The same from the invariant, through what an answer is made of: at a return or a turn's end of either width `search` finds the facts.
module _ {X : Type 0} (f : Found ℕ → X) (w m at a sh k : ℕ) (s : List ℕ) (p : ℕ) (inv : run w a sh k s p ≡ varint_at w m s at) where
  pub as_spent : k ≤ 0 → f (refused LONG_VARINT) ≡ f (varint_at w m s at)
  as_spent h = ap f (spent w a sh k s p h ∙ inv)

  pub as_ended : 0 < k → length s ≤ p → f (refused END) ≡ f (varint_at w m s at)
  as_ended h e = ap f (ended w a sh k s p h e ∙ inv)

  pub as_last : (b a' : ℕ) → 0 < k → p < length s → b ≡ get_or s p 0 → a' ≡ added w a sh b → b < 128 → f (got a' (p + 1)) ≡ f (varint_at w m s at)
  as_last b a' h i eb ea l = ap f (last w a sh k s p b a' h i eb ea l ∙ inv)

pub turned : (w m at a sh k : ℕ) (s : List ℕ) (p b a' : ℕ) → run w a sh k s p ≡ varint_at w m s at → 0 < k → p < length s → b ≡ get_or s p 0 → a' ≡ added w a sh b → 128 ≤ b → run w a' (sh + 7) (k - 1) s (p + 1) ≡ varint_at w m s at
turned w m at a sh k s p b a' inv h i eb ea l = next w a sh k s p b a' h i eb ea l ∙ inv

-- A first byte below 128 is the whole number, at once.
one_group : (w b : ℕ) → b < 2 ^ w → b < 128 → b ≡ added w 0 0 b
one_group w b wide l =
    sym
    (ap (λ (r : ℕ). (0 + r * 2 ^ 0 % 2 ^ w) % 2 ^ w) (mod-eq_of_lt l)
    ∙ ap (λ (r : ℕ). (0 + r % 2 ^ w) % 2 ^ w) (mul-one b)
    ∙ ap (λ (r : ℕ). (0 + r) % 2 ^ w) (mod-eq_of_lt wide)
    ∙ ap (λ (r : ℕ). r % 2 ^ w) (zero-add b)
    ∙ mod-eq_of_lt wide)

pub as_one : {X : Type 0} (f : Found ℕ → X) (w k : ℕ) → 128 ≤ 2 ^ w → (s : List ℕ) (at b : ℕ) → at < length s → b ≡ get_or s at 0 → b < 128 → f (got b (at + 1)) ≡ f (varint_at w (suc k) s at)
as_one f w k wide s at b i eb l = ap f (last w 0 0 (suc k) s at b b (suc-le-suc zero-le) i eb (one_group w b (le_trans l wide) l) l ∙ start w (suc k) s at)
