-- The messages cut from one slice by their ends: their file is the header made of the ends, then the slice. Assumes nothing.
use mathlib.Core.Path.{◌≡◌, refl, sym, ap, ap₂, ◌∙◌}
use mathlib.Core.Bool.{true}
use mathlib.Core.List.{List, [], ◌∷◌, ◌++◌}
use Prim.Native.Nat.{ℕ, zero, suc, ◌+◌, ◌-◌, ◌*◌, ◌≤◌, ◌<◌}
use native.Mathlib.Omega.{arith}
use borrow.Author.Tests.{lt-ltb, ltb-true, eqb-true, eq-eqb}
use lib.Dec.{ltb}
use lib.ListN.{length, get_or, take, drop, drop_of_length-le, length-append, take-append-drop}
use lib.Seq.{slice, length-slice, drop-drop}
use Rattle.numbers.specs.Fixed.{four}
use Rattle.numbers.proofs.Found.{take_drop}
use Rattle.days.specs.Day.{words, joined, starts, day_of}
use Rattle.days.specs.Write.{cut, up_to, moved, header_of}
use Rattle.days.proofs.Rules.{and_left, and_right, and_both}

pub length_four : (n : ℕ) → length (four n) ≡ 4
unfolding four
length_four n = refl

pub length_words : (ns : List ℕ) → length (words ns) ≡ 4 * length ns
length_words [] = refl
length_words (n ∷ ns) = omega (arith, length-append (four n) (words ns), length_four n, length_words ns)

pub length_moved : (base : ℕ) (ends : List ℕ) → length (moved base ends) ≡ length ends
length_moved base [] = refl
length_moved base (e ∷ es) = ap suc (length_moved base es)

pub length_header : (ends : List ℕ) → length (header_of ends) ≡ 4 * length ends + 8
unfolding header_of
length_header ends =
    omega (arith, length_words (length ends ∷ (4 * length ends + 8) ∷ moved (4 * length ends + 8) ends), length_moved (4 * length ends + 8) ends)

-- the ends rise, and none is past the last
pub up_first : (all at e : ℕ) (es : List ℕ) → up_to all at (e ∷ es) ≡ true → at < e
unfolding up_to
up_first all at e es h = ltb-true at e (and_left (ltb at e) (up_to all e es) h)

pub up_rest : (all at e : ℕ) (es : List ℕ) → up_to all at (e ∷ es) ≡ true → up_to all e es ≡ true
unfolding up_to
up_rest all at e es h = and_right (ltb at e) (up_to all e es) h

pub up_none : (all at : ℕ) → up_to all at [] ≡ true → at ≡ all
unfolding up_to
up_none all at h = eqb-true at all h

pub up_cons : (all at e : ℕ) (es : List ℕ) → at < e → up_to all e es ≡ true → up_to all at (e ∷ es) ≡ true
unfolding up_to
up_cons all at e es h u = and_both (ltb at e) (up_to all e es) (lt-ltb at e h) u

pub up_nil : (all at : ℕ) → at ≡ all → up_to all at [] ≡ true
unfolding up_to
up_nil all at h = eq-eqb at all h

pub up_all : (all at : ℕ) (ends : List ℕ) → up_to all at ends ≡ true → at ≤ all
up_all all at [] h = omega (arith, up_none all at h)
up_all all at (e ∷ es) h = omega (arith, up_first all at e es h, up_all all e es (up_rest all at e es h))

pub up_below : (all at : ℕ) (ends : List ℕ) → up_to all at ends ≡ true → (i : ℕ) → i < length ends → get_or ends i 0 ≤ all
up_below all at [] h i l = absurd (omega arith)
up_below all at (e ∷ es) h zero l = up_all all e es (up_rest all at e es h)
up_below all at (e ∷ es) h (suc i) l = up_below all e es (up_rest all at e es h) i (omega arith)

-- what is cut
pub slice_then : (s : List ℕ) (a e : ℕ) → a ≤ e → slice a e s ++ drop e s ≡ drop a s
slice_then s a e h =
    let q : a + (e - a) ≡ e = omega arith in
    let l : slice a e s ≡ take (e - a) (drop a s) = ap (λ (m : ℕ). slice a m s) (sym q) ∙ sym (take_drop a (e - a) s) in
    let r : drop e s ≡ drop (e - a) (drop a s) = ap (λ (m : ℕ). drop m s) (sym q) ∙ sym (drop-drop (e - a) a s) in
    ap₂ ◌++◌ l r ∙ take-append-drop (e - a) (drop a s)

pub length_cut : (at : ℕ) (bytes ends : List ℕ) → length (cut at bytes ends) ≡ length ends
length_cut at bytes [] = refl
length_cut at bytes (e ∷ es) = ap suc (length_cut e bytes es)

pub joined_cut : (at : ℕ) (bytes ends : List ℕ) → up_to (length bytes) at ends ≡ true → joined (cut at bytes ends) ≡ drop at bytes
joined_cut at bytes [] h = sym (drop_of_length-le bytes {i = at} (omega (arith, up_none (length bytes) at h)))
joined_cut at bytes (e ∷ es) h =
    ap (λ (xs : List ℕ). slice at e bytes ++ xs) (joined_cut e bytes es (up_rest (length bytes) at e es h))
    ∙ slice_then bytes at e (omega (arith, up_first (length bytes) at e es h))

pub starts_cut : (base at : ℕ) (bytes ends : List ℕ) → up_to (length bytes) at ends ≡ true → starts (base + at) (cut at bytes ends) ≡ (base + at) ∷ moved base ends
starts_cut base at bytes [] h = refl
starts_cut base at bytes (e ∷ es) h =
    let u = up_rest (length bytes) at e es h in
    let l = length-slice at e bytes (up_all (length bytes) e es u) in
    let q : base + at + length (slice at e bytes) ≡ base + e = omega (arith, up_first (length bytes) at e es h) in
    ap (λ (xs : List ℕ). (base + at) ∷ xs) (ap (λ (m : ℕ). starts m (cut e bytes es)) q ∙ starts_cut base e bytes es u)

pub day_ends : (bytes ends : List ℕ) → up_to (length bytes) 0 ends ≡ true → day_of (cut 0 bytes ends) ≡ header_of ends ++ bytes
unfolding day_of header_of
day_ends bytes ends h =
    let l = length_cut 0 bytes ends in
    let z : 4 * length ends + 8 + 0 ≡ 4 * length ends + 8 = omega arith in
    let s : starts (4 * length ends + 8) (cut 0 bytes ends) ≡ (4 * length ends + 8) ∷ moved (4 * length ends + 8) ends = rw z at (starts_cut (4 * length ends + 8) 0 bytes ends h) in
    rw (l, s, joined_cut 0 bytes ends h)
