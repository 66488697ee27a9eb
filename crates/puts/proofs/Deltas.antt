-- The difference of two ids fits 32 bits, and what the short form makes of it. Assumes nothing.
use mathlib.Core.Path.{◌≡◌, refl}
use mathlib.Core.Bool.{true, false, cond}
use Prim.Native.Nat.{ℕ, zero, suc, ◌+◌, ◌≤◌, ◌<◌}
use native.Mathlib.Omega.{arith}
use borrow.Author.Rules.{sfits_of}
use borrow.Author.Tests.{lt-ltb, le-ltb, ltb-true, ltb-false}
use lib.Dec.{ltb, T}
use lib.IntN.{ℤ, pos, negsuc, ◌+ℤ◌, ◌-ℤ◌, neg_ℤ, nat_abs, sub_ℕ}
use lib.Signed.{mag, lt_z, non_neg}
use mir.Syntax.{w8, w16, w32}
use mir.Val.{SFits, Fits, to_z, of_z}
use mir.Facts.{to_z-of_z, sfits_widen}
use Rattle.numbers.proofs.Found.{by_lt, zero_one}
use Rattle.puts.specs.Bytes.{above, short_delta}

mag_sub : (a b : ℕ) → mag (sub_ℕ a b) ≤ a + b
mag_sub a b = by_lt a b (λ h. rw (lt-ltb a b h) (omega arith)) (λ h. rw (le-ltb a b h) (omega arith))

mag_add : (x y : ℤ) → mag (x +ℤ y) ≤ mag x + mag y + 1
mag_add (pos a) (pos b) = omega arith
mag_add (pos a) (negsuc b) = omega (arith, mag_sub a (suc b))
mag_add (negsuc a) (pos b) = omega (arith, mag_sub b (suc a))
mag_add (negsuc a) (negsuc b) = omega arith

mag_neg : (y : ℤ) → mag (neg_ℤ y) ≤ mag y + 1
mag_neg (pos zero) = omega arith
mag_neg (pos (suc n)) = omega arith
mag_neg (negsuc n) = omega arith

-- an i16 as an i32
pub wide : (z : ℤ) → SFits w16 z → to_z w32 (of_z w32 (to_z w16 (of_z w16 z))) ≡ z
wide z h = rw (to_z-of_z h) (to_z-of_z (sfits_widen {w = w16} {w' = w32} tt h))

pub wide_fits : (z : ℤ) → SFits w16 z → SFits w32 (to_z w16 (of_z w16 z))
wide_fits z h = rw (to_z-of_z h) (sfits_widen {w = w16} {w' = w32} tt h)

-- the short form's difference, of a difference
abbrev cut : ℕ → ℕ
cut n = cond (ltb n 15) n 0

low : (d : ℤ) → lt_z d (pos 1) ≡ true → 0 ≡ cut (above d)
low (pos n) t = let z : n ≡ 0 = omega (arith, ltb-true n 1 t) in rw z
low (negsuc n) t = refl

high : (d : ℤ) → lt_z (pos 14) d ≡ true → 0 ≡ cut (above d)
high (pos n) t = rw (le-ltb n 15 (omega (arith, ltb-true 14 n t)))
high (negsuc n) t = refl

pub record Mid (d : ℤ) : Type 0 where
  pub sign : T (non_neg d)
  pub small : nat_abs d < 15
  pub is : nat_abs d ≡ cut (above d)

mid : (d : ℤ) → lt_z d (pos 1) ≡ false → lt_z (pos 14) d ≡ false → Mid d
mid (pos n) t u =
    let h : n < 15 = omega (arith, ltb-false 14 n u) in
    record { sign = tt; small = h; is = rw (lt-ltb n 15 h) }
mid (negsuc n) t u = let z : ◌≡◌ {A = ℕ} 0 1 = cc in zero_one z

-- the code's difference, whose numbers pass through their bits
abbrev pub code_delta : ℤ → ℤ → ℤ
code_delta last id = to_z w32 (of_z w32 (to_z w16 (of_z w16 id))) -ℤ to_z w32 (of_z w32 (to_z w16 (of_z w16 last)))

module _ (last id : ℤ) (hl : SFits w16 last) (hi : SFits w16 id) where
  terms : code_delta last id ≡ id -ℤ last
  terms = rw (wide id hi, wide last hl)

  fits : SFits w32 (id -ℤ last)
  fits = record { sfits = omega (arith, mag_add id (neg_ℤ last), mag_neg last, hl.sfits, hi.sfits) }

  pub delta_fits : SFits w32 (code_delta last id)
  delta_fits = rw terms fits

  delta_is : to_z w32 (of_z w32 (code_delta last id)) ≡ id -ℤ last
  delta_is = rw terms (to_z-of_z fits)

  pub delta_low : lt_z (to_z w32 (of_z w32 (code_delta last id))) (pos 1) ≡ true → 0 ≡ short_delta last id
  unfolding short_delta
  delta_low t = low (id -ℤ last) (rw delta_is at t)

  pub delta_high : lt_z (pos 14) (to_z w32 (of_z w32 (code_delta last id))) ≡ true → 0 ≡ short_delta last id
  unfolding short_delta
  delta_high t = high (id -ℤ last) (rw delta_is at t)

  module _ (t : lt_z (to_z w32 (of_z w32 (code_delta last id))) (pos 1) ≡ false) (u : lt_z (pos 14) (to_z w32 (of_z w32 (code_delta last id))) ≡ false) where
    between : Mid (id -ℤ last)
    between = mid (id -ℤ last) (rw delta_is at t) (rw delta_is at u)

    pub delta_sign : T (non_neg (to_z w32 (of_z w32 (code_delta last id))))
    delta_sign = rw delta_is between.sign

    pub delta_cast : Fits w8 (nat_abs (to_z w32 (of_z w32 (code_delta last id))))
    delta_cast = rw delta_is (record { fits = omega (arith, between.small) })

    pub delta_mid : nat_abs (to_z w32 (of_z w32 (code_delta last id))) ≡ short_delta last id
    unfolding short_delta
    delta_mid = rw delta_is between.is

pub ruleset delta_cases = (wide_fits, delta_fits, delta_low, delta_high, delta_sign, delta_cast, delta_mid, to_z-of_z, sfits_of)

-- the short form's difference is at most 14
cut_below : (n : ℕ) → cut n < 15
cut_below n = by_lt n 15 (λ h. rw (lt-ltb n 15 h) h) (λ h. rw (le-ltb n 15 h) (omega arith))

pub delta_below : (last id : ℤ) → short_delta last id < 15
unfolding short_delta
delta_below last id = cut_below (above (id -ℤ last))
