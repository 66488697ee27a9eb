-- Zigzag at every width: the code's bits have the signed meaning that `zigzag` and `unzigzag` give. Assumes nothing.
use Rattle.std.proofs.Common.{◌≡◌, ℕ, suc, ◌+◌, ◌-◌, ◌*◌, ◌/◌, ◌%◌, ◌^◌, ◌<◌, Bool, true, false, ◌&&◌, T, ltb, leb, ℤ, pos, negsuc, nat_abs, sym, refl, ap, ◌∙◌, ⊎_elim, mod-eq_of_lt, arith, to_z-of_z, w8, w16, w32, w64, Fits, SFits, to_z, of_z, ltb-true, le-ltb, lt-ltb, eq-eqb, ne_eqb, leb-false, leb-true}
use lib.Signed.{le_z, non_neg, shr_z}
use lib.Bits.{bit_xor, xor_zero_r, xor_add_and, and_mask}
use mir.Syntax.{Width, w128}
use mir.Val.{bits, hbits}
use mir.Facts.{to_z_pos, to_z-neg, of_z-to_z}
use Rattle.std.proofs.Math.Nat.{zero-add, sub-zero, div-eq_of_lt, mod_self, add-mul-mod_self_left}
use Rattle.zigzag.specs.Zigzag.{zigzag, unzigzag, in_range16}
use Rattle.zigzag.specs.Laws.{parity}
pub use Rattle.zigzag.specs.Laws.{un_zig, zig_un}

-- a width's power is twice its half's
twice_half : (w : Width) → 2 ^ bits w ≡ 2 * 2 ^ hbits w
twice_half w8 = refl
twice_half w16 = refl
twice_half w32 = refl
twice_half w64 = refl
twice_half w128 = refl

pub half_lt : (w : Width) {n : ℕ} → n < 2 ^ bits w → n / 2 < 2 ^ hbits w
half_lt w h = omega (arith, twice_half w)

pub twice_lt : (w : Width) {n : ℕ} → n < 2 ^ hbits w → n * 2 + 1 < 2 ^ bits w
twice_lt w h = omega (arith, twice_half w)

-- to turn all k bits
xor_ones : (k x : ℕ) → x < 2 ^ k → bit_xor x (2 ^ k - 1) ≡ 2 ^ k - suc x
xor_ones k x h = omega (arith, xor_add_and x (2 ^ k - 1), and_mask x k, mod-eq_of_lt h)

-- The half, with every bit turned by the lowest: the code of `from_zigzag`
pub decoded : (w : Width) (n : ℕ) → Fits w n
    → to_z w (of_z w (to_z w (bit_xor (n / 2) ((0 + (2 ^ bits w - n % 2)) % 2 ^ bits w)))) ≡ unzigzag n
decoded w n h = ⊎_elim even odd (parity n)
  where
    even : n % 2 ≡ 0 → to_z w (of_z w (to_z w (bit_xor (n / 2) ((0 + (2 ^ bits w - n % 2)) % 2 ^ bits w)))) ≡ unzigzag n
    even e =
        let half : to_z w (n / 2) ≡ pos (n / 2) = to_z_pos w (half_lt w h.fits) in
        let none : (0 + (2 ^ bits w - n % 2)) % 2 ^ bits w ≡ 0 = rw (e, zero-add, sub-zero) (mod_self (2 ^ bits w)) in
        rw (none, xor_zero_r, eq-eqb (n % 2) 0 e, half) half

    odd : n % 2 ≡ 1 → to_z w (of_z w (to_z w (bit_xor (n / 2) ((0 + (2 ^ bits w - n % 2)) % 2 ^ bits w)))) ≡ unzigzag n
    odd e =
        let low : n / 2 < 2 ^ bits w = omega (arith, h.fits) in
        let turned : to_z w (2 ^ bits w - suc (n / 2)) ≡ negsuc (n / 2) = to_z-neg w (n / 2) (half_lt w h.fits) in
        let all : (0 + (2 ^ bits w - n % 2)) % 2 ^ bits w ≡ 2 ^ bits w - 1 = rw (e, zero-add) (mod-eq_of_lt (omega (arith, h.fits))) in
        rw (all, xor_ones (bits w) (n / 2) low, ne_eqb (n % 2) 0 (omega arith), turned) turned

-- twice the bits of a number below 0, wrapped
wrapped : (M k : ℕ) → k * 2 + 1 < M → (M - suc k) * 2 % M ≡ M - 2 * suc k
wrapped M k h =
    let e : (M - suc k) * 2 ≡ M - 2 * suc k + M * 1 = omega (arith, h) in
    rw e (add-mul-mod_self_left (M - 2 * suc k) M 1 ∙ mod-eq_of_lt (omega (arith, h)))

-- The doubled bits, with every bit turned by the sign: the code of `to_zigzag`
pub encoded : (w : Width) (z : ℤ) → SFits w z
    → of_z w (to_z w (bit_xor (of_z w z * 2 % 2 ^ bits w) (of_z w (shr_z (to_z w (of_z w z)) (2 ^ hbits w))))) ≡ zigzag z
encoded w (pos n) h =
    let small : n * 2 < 2 ^ bits w = omega (arith, twice_lt w h.sfits) in
    let fit : Fits w (n * 2) = record { fits = small } in
    rw (to_z_pos w h.sfits, div-eq_of_lt h.sfits, mod-eq_of_lt small, xor_zero_r, of_z-to_z fit) (omega arith)
encoded w (negsuc k) h =
    let small : k * 2 + 1 < 2 ^ bits w = twice_lt w h.sfits in
    let fit : Fits w (k * 2 + 1) = record { fits = small } in
    let m : (2 ^ bits w - suc k) * 2 % 2 ^ bits w ≡ 2 ^ bits w - 2 * suc k = wrapped (2 ^ bits w) k small in
    let x : bit_xor (2 ^ bits w - 2 * suc k) (2 ^ bits w - 1) ≡ k * 2 + 1 = xor_ones (bits w) (2 ^ bits w - 2 * suc k) (omega (arith, small)) ∙ omega (arith, small) in
    rw (to_z-neg w k h.sfits, div-eq_of_lt h.sfits, m, x, of_z-to_z fit) (omega arith)

pub ruleset codes = (decoded, encoded)

false_true : false ≡ true → ⊥
false_true e = let z : ◌≡◌ {A = ℕ} 0 1 = cc in omega arith

-- what a cast of a number not below 0 asks, for `search` in the crates above
module _ (w : Width) where
  pub up_sign : (z : ℤ) → SFits w z → le_z (pos 0) (to_z w (of_z w z)) ≡ true → T (non_neg (to_z w (of_z w z)))
  up_sign (pos k) h t = rw (to_z_pos w h.sfits) tt
  up_sign (negsuc k) h t = absurd (false_true (rw (to_z-of_z h) at t))

  pub up_cast : (z : ℤ) → SFits w z → le_z (pos 0) (to_z w (of_z w z)) ≡ true → Fits w (nat_abs (to_z w (of_z w z)))
  up_cast (pos k) h t = rw (to_z_pos w h.sfits) (record { fits = omega (arith, twice_lt w h.sfits) })
  up_cast (negsuc k) h t = absurd (false_true (rw (to_z-of_z h) at t))

-- a signed number of a width has a zigzag number of that width
pub zig_below : (w : Width) (z : ℤ) → SFits w z → zigzag z < 2 ^ bits w
zig_below w (pos n) h = omega (arith, twice_lt w h.sfits)
zig_below w (negsuc n) h = omega (arith, twice_lt w h.sfits)

-- the numbers of an i16 are those whose zigzag number has 16 bits: one test of an unsigned number tells
halved : (n m : ℕ) → m / 2 ≡ n → leb n 32767 ≡ ltb m 65536
halved n m h = go (leb n 32767) refl
  where
    go : (b : Bool) → leb n 32767 ≡ b → leb n 32767 ≡ ltb m 65536
    go true e = e ∙ sym (lt-ltb m 65536 (omega (arith, leb-true n 32767 e)))
    go false e = e ∙ sym (le-ltb m 65536 (omega (arith, leb-false n 32767 e)))

zig_range : (z : ℤ) → in_range16 z ≡ ltb (zigzag z) 65536
zig_range (pos n) = halved n (2 * n) (omega arith)
zig_range (negsuc n) = and_true (leb n 32767) ∙ halved n (2 * n + 1) (omega arith)
  where
    and_true : (b : Bool) → (b && true) ≡ b
    and_true true = refl
    and_true false = refl

pub range_exact : (n : ℕ) → in_range16 (unzigzag n) ≡ ltb n 65536
range_exact n = zig_range (unzigzag n) ∙ ap (λ (m : ℕ). ltb m 65536) (zig_un n)

pub in_range_lem : (z : ℤ) → SFits w16 z → in_range16 z ≡ true
in_range_lem z h = zig_range z ∙ lt-ltb (zigzag z) 65536 (zig_below w16 z h)

pub fits_range : (z : ℤ) → in_range16 z ≡ true → SFits w16 z
fits_range z e = small z (ltb-true (zigzag z) 65536 (sym (zig_range z) ∙ e))
  where
    small : (z : ℤ) → zigzag z < 65536 → SFits w16 z
    small (pos n) h = record { sfits = omega arith }
    small (negsuc n) h = record { sfits = omega arith }
