-- Zigzag there and back, both ways, at every width. Assumes nothing.
use Rattle.std.specs.Prelude.{◌≡◌, ℕ, zero, suc, ◌+◌, ◌*◌, ◌/◌, ◌%◌, ◌<◌, ◌⊎◌, ℤ, pos, negsuc, refl}
use Rattle.std.proofs.Common.{inl, inr, ⊎_elim, arith, eq-eqb, ne_eqb}
use Rattle.zigzag.specs.Zigzag.{zigzag, unzigzag}

pub parity : (n : ℕ) → (n % 2 ≡ 0) ⊎ (n % 2 ≡ 1)
parity n = go (n % 2) refl (omega arith)
  where
    go : (r : ℕ) → n % 2 ≡ r → r < 2 → (n % 2 ≡ 0) ⊎ (n % 2 ≡ 1)
    go zero e h = inl e
    go (suc zero) e h = inr e
    go (suc (suc r)) e h = absurd (omega arith)

-- a number is the one that its zigzag number gives
pub un_zig : (z : ℤ) → unzigzag (zigzag z) ≡ z
un_zig (pos n) =
    let e : 2 * n % 2 ≡ 0 = omega arith in
    let d : 2 * n / 2 ≡ n = omega arith in
    rw (e, d)
un_zig (negsuc n) =
    let e : (2 * n + 1) % 2 ≡ 1 = omega arith in
    let d : (2 * n + 1) / 2 ≡ n = omega arith in
    rw (e, d)

-- and a zigzag number is that of the number it gives
pub zig_un : (n : ℕ) → zigzag (unzigzag n) ≡ n
zig_un n = ⊎_elim (λ p. rw (eq-eqb (n % 2) 0 p) (omega arith)) (λ p. rw (ne_eqb (n % 2) 0 (omega arith)) (omega arith)) (parity n)
