-- The steps of the check through the bytes: over a character. Assumes nothing.
use mathlib.Core.Path.{◌≡◌, refl, sym, ap, ◌∙◌}
use mathlib.Core.List.{List, ◌∷◌}
use mathlib.Core.Bool.{true, false}
use Prim.Native.Nat.{ℕ, suc, ◌+◌, ◌-◌, ◌≤◌, ◌<◌, zero-le, suc-le-suc}
use native.Mathlib.Omega.{arith}
use native.Mathlib.Numerals.{add-one}
use lib.ListN.{length, drop, get_or, drop_of_length-le, length-drop}
use lib.Seq.{drop-cons, drop-drop}
use Rattle.utf8.specs.Utf8.{Char, char, none, decode, past, utf8, width}
use Rattle.utf8.proofs.Laws.{utf8_char, utf8_none}
use Rattle.utf8.proofs.Rows.{ascii_first, spelt}

-- a character takes no more bytes than there are, and the check goes on behind it
module _ (b : ℕ) (bs : List ℕ) where
  width_fits : (x : Char) → decode (b ∷ bs) ≡ x → width x ≤ suc (length bs)
  width_fits (char n m) e = suc-le-suc (spelt b bs n m e).inside
  width_fits none e = zero-le

  width_goes : (x : Char) → decode (b ∷ bs) ≡ x → (width x ≡ 0 → ⊥) → utf8 (drop (width x) (b ∷ bs)) ≡ utf8 (b ∷ bs)
  width_goes (char n m) e h = sym (utf8_char b bs n m e)
  width_goes none e h = absurd (h refl)

  width_stops : (x : Char) → decode (b ∷ bs) ≡ x → width x ≡ 0 → utf8 (b ∷ bs) ≡ false
  width_stops (char n m) e h = absurd (omega arith)
  width_stops none e h = utf8_none b bs e

-- the same at a place of the bytes
module _ (s : List ℕ) (at n : ℕ) (i : at < length s) (w : n ≡ width (decode (drop at s))) where
  start : drop at s ≡ get_or s at 0 ∷ drop (suc at) s
  start = drop-cons s at 0 i

  taken : n ≡ width (decode (get_or s at 0 ∷ drop (suc at) s))
  taken = rw start at w

  pub fits : at + n ≤ length s
  fits =
      omega (arith, width_fits (get_or s at 0) (drop (suc at) s) _ refl, taken, length-drop (suc at) s)

  pub goes : (n ≡ 0 → ⊥) → utf8 (drop at s) ≡ utf8 s → utf8 (drop (at + n) s) ≡ utf8 s
  goes h inv = ap utf8 (sym (drop-drop n at s)) ∙ rw (w, start) (width_goes _ _ _ refl (λ e. h (taken ∙ e))) ∙ inv

  pub stops : n ≡ 0 → utf8 (drop at s) ≡ utf8 s → false ≡ utf8 s
  stops h inv = sym (rw start (width_stops _ _ _ refl (sym taken ∙ h))) ∙ inv

pub ends : (s : List ℕ) (at : ℕ) → length s ≤ at → utf8 (drop at s) ≡ utf8 s → true ≡ utf8 s
unfolding utf8 past
ends s at h inv = sym (ap utf8 (drop_of_length-le s h)) ∙ inv

-- over a byte below 128
module _ (s : List ℕ) (at : ℕ) (i : at < length s) (l : get_or s at 0 < 128) (inv : utf8 (drop at s) ≡ utf8 s) where
  pub one_goes : utf8 (drop (at + 1) s) ≡ utf8 s
  one_goes =
      rw add-one (sym (ascii_first (get_or s at 0) (drop (suc at) s) l))
      ∙ ap utf8 (sym (drop-cons s at 0 i))
      ∙ inv

  pub one_ends : length s - at < 2 → true ≡ utf8 s
  one_ends h = ends s (at + 1) (omega arith) one_goes

pub ruleset steps = (fits, goes, stops, one_goes, one_ends, ends)
