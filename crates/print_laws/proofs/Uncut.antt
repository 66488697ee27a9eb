-- "The printer's ceiling is 65,536": no longer input is printed and its message begins at the first byte, so that the ceiling cuts nothing off. A reader
-- that is put into such an input up to the ceiling finds what it finds without, and a missed byte is END. Assumes nothing.
use mathlib.Core.Path.{◌≡◌, refl, ap₂, ◌∙◌}
use mathlib.Core.Bool.{Bool, false}
use mathlib.Core.List.{List}
use Prim.Native.Nat.{ℕ, ◌≤◌}
use borrow.Author.Tests.{le-ltb}
use lib.ListN.{length}
use lib.Seq.{take_all}
use Rattle.numbers.specs.Varint.{Found, got, refused}
use Rattle.heads.specs.Reader.{Reader, read_at, read_to, missed}
use Rattle.printer.specs.Printing.{limits}

unmissed : {A : Type 0} (x : Found A) → missed false x ≡ x
unmissed (got a e) = refl
unmissed (refused why) = refl

pub uncut : {A : Type 0} (p : Reader A) (s : List ℕ) (at : ℕ) → length s ≤ 65536 → read_to p s limits.message at ≡ read_at p s at
unfolding read_to
uncut p s at h =
    ap₂ (λ (b : Bool) (l : List ℕ). missed b (read_at p l at)) (le-ltb limits.message (length s) h) (take_all limits.message s h)
    ∙ unmissed (read_at p s at)
