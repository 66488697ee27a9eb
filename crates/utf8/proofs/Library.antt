-- What the library calls UTF-8 is what this crate's definitions call so. Assumes nothing.
use Rattle.std.proofs.Common.{◌≡◌, ℕ, List, [], ◌∷◌, ◌++◌, Bool, true, false, cond, ◌&&◌, ◌||◌, refl, sym, ap₂, ◌∙◌, arith}
use borrow.Author.Tests.{lt-ltb, le-ltb, le-leb, lt-leb}
use Rattle.std.specs.Prelude.{IsTrue, ◌↔◌}
use Rattle.std.specs.Str.{IsUtf8}
use lib.Utf8 as Std
use lib.Dec.{leb, ltb}
use Rattle.utf8.specs.Utf8.{scalar, encode, Scalars, encodes, utf8}
use Rattle.utf8.proofs.Laws.{by_less}
use Rattle.utf8.proofs.Rows.{and_both, passes_row, row_passes}

-- a number below 110000 is at most 10FFFF
below_top : (n : ℕ) → ltb n 0x110000 ≡ leb n 0x10FFFF
below_top n =
    by_less n 0x110000 (λ h. lt-ltb n 0x110000 h ∙ sym (le-leb n 0x10FFFF (omega arith)))
    (λ h. le-ltb n 0x110000 h ∙ sym (lt-leb n 0x10FFFF (omega arith)))

or_is : (a b : Bool) → cond a true b ≡ (a || b)
or_is true b = refl
or_is false b = refl

scalar_same : (n : ℕ) → Std.scalar n ≡ scalar n
unfolding scalar
scalar_same n = rw (← below_top n) (or_is (ltb n 0xD800) (leb 0xE000 n && ltb n 0x110000))

encode_same : (n : ℕ) → Std.encode n ≡ encode n
unfolding Std.encode encode
encode_same n = refl

encodes_same : (ns : List ℕ) → Std.encodes ns ≡ encodes ns
unfolding encodes
encodes_same [] = refl
encodes_same (n ∷ ns) = ap₂ (λ (a b : List ℕ). a ++ b) (encode_same n) (encodes_same ns)

scalars_all : (ns : List ℕ) → Std.scalars ns ≡ true → Scalars ns
unfolding Scalars
scalars_all [] e = tt
scalars_all (n ∷ ns) e = let h = and_both (Std.scalar n) (Std.scalars ns) e in (sym (scalar_same n) ∙ h.0, scalars_all ns h.1)

all_scalars : (ns : List ℕ) → Scalars ns → Std.scalars ns ≡ true
unfolding Scalars
all_scalars [] s = refl
all_scalars (n ∷ ns) s = rw (scalar_same n, s.0) (all_scalars ns s.1)

-- what the library takes for text passes, and nothing else
pub passes : (bs : List ℕ) → IsUtf8 bs → true ≡ utf8 bs
passes bs u = sym (row_passes bs (record { points = u.0; scalars = scalars_all u.0 u.1.0; spelt = sym u.1.1 ∙ encodes_same u.0 }))

text_of : (bs : List ℕ) → utf8 bs ≡ true → IsUtf8 bs
text_of bs e = let r = passes_row bs e in (r.points, (all_scalars r.points r.scalars, encodes_same r.points ∙ sym r.spelt))

pub refused : (bs : List ℕ) → (IsUtf8 bs → ⊥) → false ≡ utf8 bs
refused bs h = go (utf8 bs) refl
  where
    go : (b : Bool) → utf8 bs ≡ b → false ≡ b
    go true e = absurd (h (text_of bs e))
    go false e = refl

pub ruleset text_cases = (passes, refused)

-- an answer that is true of texts alone, and of each
pub just_texts : (bs : List ℕ) (r : Bool) → (IsTrue r ↔ IsUtf8 bs) → r ≡ utf8 bs
just_texts bs true h = passes bs (h.0 refl)
just_texts bs false h = refused bs (λ u. let t : false ≡ true = h.1 u in cc)
