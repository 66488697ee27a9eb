-- A character that the bytes' end cuts short is none. docs/PORT.md names the lemma. Assumes nothing.
use mathlib.Core.Path.{◌≡◌, refl}
use mathlib.Core.Bool.{Bool, true, false, cond}
use mathlib.Core.List.{List, [], ◌∷◌}
use Prim.Native.Nat.{ℕ, zero, suc, ◌+◌, ◌-◌, ◌*◌, ◌/◌, ◌%◌, ◌<◌}
use native.Mathlib.Omega.{arith}
use lib.Dec.{eqb}
use lib.ListN.{length, drop, length-drop}
use Rattle.utf8.specs.Utf8.{Char, none, tails}

same_none : (t : Bool) (x : Char) → x ≡ none → cond t x none ≡ none
same_none true x e = e
same_none false x e = refl

tail_short : (more least k n : ℕ) (bs : List ℕ) → length bs < k → tails more least k n bs ≡ none
unfolding tails
tail_short more least zero n bs h = absurd (omega arith)
tail_short more least (suc k) n [] h = refl
tail_short more least (suc k) n (b ∷ bs) h =
    same_none (eqb (b / 64) 2) (tails more least k (n * 64 + b % 64) bs) (tail_short more least k (n * 64 + b % 64) bs (omega arith))

-- fewer bytes are left than the first one asks for
pub cut_short_lem : (s : List ℕ) (at more least n : ℕ) → length s - at < suc more → at < length s → tails more least more n (drop (at + 1) s) ≡ none
cut_short_lem s at more least n h i = tail_short more least more n (drop (at + 1) s) (rw length-drop (omega arith))
