-- What limits in range are known to be, and that the defaults are. Assumes nothing.
use mathlib.Core.Path.{◌≡◌, refl}
use mathlib.Core.Bool.{Bool, true, false, ◌&&◌}
use Prim.Native.Nat.{ℕ, ◌≤◌}
use native.Mathlib.Omega.{arith}
use borrow.Author.Tests.{leb-true, le-leb}
use lib.Dec.{leb}
use Rattle.types.specs.Limits.{in_range, defaults}
use Rattle.types.specs.declared.TConfiguration.{TConfiguration}

pub record Ranged (lim : TConfiguration) : Type 0 where
  pub deep : lim.depth ≤ 64
  pub long : lim.string ≤ 2147483647
  pub large : lim.container ≤ 2147483647
  pub heavy : lim.message ≤ 2147483647

pub both : (a b : Bool) → (a && b) ≡ true → (a ≡ true) × (b ≡ true)
both true b e = (refl, e)
both false b e = let z : ◌≡◌ {A = ℕ} 0 1 = cc in absurd (omega arith)

pub ranged : (lim : TConfiguration) → in_range lim ≡ true → Ranged lim
unfolding in_range
ranged lim e =
    let m = both (leb lim.depth 64 && leb lim.string 2147483647 && leb lim.container 2147483647) (leb lim.message 2147483647) e in
    let r = both (leb lim.depth 64 && leb lim.string 2147483647) (leb lim.container 2147483647) m.0 in
    let d = both (leb lim.depth 64) (leb lim.string 2147483647) r.0 in
    record { deep = leb-true _ _ d.0; long = leb-true _ _ d.1; large = leb-true _ _ r.1; heavy = leb-true _ _ m.1 }

pub in_range_lem : (lim : TConfiguration) → Ranged lim → in_range lim ≡ true
unfolding in_range
in_range_lem lim r = rw (le-leb _ _ r.deep, le-leb _ _ r.long, le-leb _ _ r.large, le-leb _ _ r.heavy)

pub defaults_ranged : in_range defaults ≡ true
unfolding in_range defaults
defaults_ranged = refl
