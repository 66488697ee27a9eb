-- Laws of a lookup in a table whose rows are numbered from 0, and of what the last arm of a `match` on a number tells. Assumes nothing.
use mathlib.Core.Path.{◌≡◌}
use mathlib.Core.List.{List}
use mathlib.Core.Logic.{◌⊎◌, inl, inr, ⊎_elim}
use Prim.Native.Nat.{ℕ, zero, suc, ◌+◌, ◌≤◌, ◌<◌}
use native.Mathlib.Decide.{dec_lt}
use native.Mathlib.Omega.{arith}
use lib.ListN.{length, get_or, get_or-eq_default}

-- n is none of the k numbers from base on, as a `match` with an arm for each leaves it to its last arm
abbrev pub Misses : ℕ → ℕ → ℕ → Type 0
Misses base zero n = Unit {0}
Misses base (suc k) n = Misses base k n × (n ≡ base + k → ⊥)

pub missed : (base k n : ℕ) → Misses base k n → (n < base) ⊎ (base + k ≤ n)
missed base zero n m = go (dec_lt n base)
  where
    go : Dec (n < base) → (n < base) ⊎ (base + 0 ≤ n)
    go (yes h) = inl h
    go (no h) = inr (omega arith)
missed base (suc k) n m = ⊎_elim (λ h. inl h) (λ h. inr (omega (arith, h, m.1))) (missed base k n m.0)

-- behind its last row a table gives what stands for "none"
pub behind : {A : Type 0} (l : List A) (d : A) (k n : ℕ) → Misses 0 k n → length l ≤ k → d ≡ get_or l n d
behind l d k n m h = ⊎_elim (λ (z : n < 0). absurd (omega arith)) (λ (g : 0 + k ≤ n). rw (get_or-eq_default l d {n = n} (omega arith))) (missed 0 k n m)
