-- What is wrong with arguments, at each return of the code, and what arguments that pass are like. Assumes nothing.
use mathlib.Core.Path.{◌≡◌, refl, sym, ◌∙◌}
use mathlib.Core.Bool.{Bool, true, false, cond}
use mathlib.Core.List.{List}
use Prim.Native.Nat.{ℕ, zero, suc, ◌≤◌, ◌<◌}
use native.Mathlib.Omega.{arith}
use borrow.Author.Rules.{sfits_of}
use borrow.Author.Tests.{eq-eqb, ne_eqb, le-leb, lt-leb, leb-true, leb-false}
use lib.Dec.{leb, T}
use lib.IntN.{ℤ, pos, negsuc, nat_abs}
use lib.ListN.{length}
use lib.Signed.{lt_z, le_z, non_neg}
use mir.Syntax.{w32}
use mir.Val.{Fits, SFits, to_z, of_z}
use mir.Facts.{to_z-of_z, Fits-nat_abs}
use Rattle.types.specs.Refusals.{BAD_TYPE, SIZE_LIMIT, NEGATIVE_SIZE, BAD_UTF8}
use Rattle.types.specs.Codes.{type_code}
use Rattle.types.specs.declared.TType.{TType}
use Rattle.types.specs.declared.TConfiguration.{TConfiguration}
use Rattle.utf8.specs.Utf8.{utf8}
use Rattle.numbers.proofs.Found.{zero_one}
use Rattle.zigzag.proofs.Zig.{up_sign, up_cast}
use Rattle.puts.specs.Bytes.{above}
use Rattle.puts.specs.Wrong.{or_else, length_wrong, text_wrong, field_wrong, count_wrong}

-- of two refusals neither is given where none is
pub both_none : (a b : ℕ) → or_else a b ≡ 0 → (a ≡ 0) × (b ≡ 0)
unfolding or_else
both_none zero b e = (refl, e)
both_none (suc a) b e = let z : suc a ≡ 0 = rw (ne_eqb (suc a) 0 (λ q. omega arith)) at e in absurd (omega arith)

-- lengths and texts
module _ (lim : TConfiguration) (bs : List ℕ) where
  pub length_over : lim.string < length bs → SIZE_LIMIT ≡ length_wrong lim bs
  unfolding length_wrong
  length_over h = rw (lt-leb _ _ h)

  pub length_well : length bs ≤ lim.string → 0 ≡ length_wrong lim bs
  unfolding length_wrong
  length_well h = rw (le-leb _ _ h)

  module _ (n : ℕ) (e : n ≡ length_wrong lim bs) where
    pub text_long : (n ≡ 0 → ⊥) → n ≡ text_wrong lim bs
    unfolding text_wrong or_else
    text_long h = rw (← e, ne_eqb n 0 h)

    module _ (h : n ≡ 0) (ok : Bool) (f : ok ≡ utf8 bs) where
      pub text_well : ok ≡ true → 0 ≡ text_wrong lim bs
      unfolding text_wrong or_else
      text_well t = rw (← e, eq-eqb n 0 h, ← f, t)

      pub text_bad : ok ≡ false → BAD_UTF8 ≡ text_wrong lim bs
      unfolding text_wrong or_else
      text_bad t = rw (← e, eq-eqb n 0 h, ← f, t)

pub ruleset length_cases = (length_over, length_well)

pub ruleset text_cases = (text_long, text_well, text_bad)

-- a length that passes is within its limit
within : (b : Bool) → cond b 0 SIZE_LIMIT ≡ 0 → b ≡ true
within true e = refl
within false e = absurd (omega arith)

pub length_fits : (lim : TConfiguration) (bs : List ℕ) → length_wrong lim bs ≡ 0 → length bs ≤ lim.string
unfolding length_wrong
length_fits lim bs e = leb-true _ _ (within (leb (length bs) lim.string) e)

pub text_fits : (lim : TConfiguration) (bs : List ℕ) → text_wrong lim bs ≡ 0 → length bs ≤ lim.string
unfolding text_wrong
text_fits lim bs e = length_fits lim bs (both_none (length_wrong lim bs) _ e).0

-- fields
module _ (t : TType) (c : ℕ) (e : c ≡ type_code t) where
  pub field_stop : c ≡ 0 → BAD_TYPE ≡ field_wrong t
  unfolding field_wrong
  field_stop h = rw (← e, eq-eqb c 0 h)

  pub field_well : (c ≡ 0 → ⊥) → 0 ≡ field_wrong t
  unfolding field_wrong
  field_well h = rw (← e, ne_eqb c 0 h)

pub ruleset field_cases = (field_stop, field_well)

-- counts
false_true : {X : Type 0} → ◌≡◌ {A = Bool} true false → X
false_true e = zero_one (cc)

is_above : (z : ℤ) → lt_z z (pos 0) ≡ false → nat_abs z ≡ above z
is_above (pos n) t = refl
is_above (negsuc n) t = false_true t

not_below : (z : ℤ) → lt_z z (pos 0) ≡ false → T (non_neg z)
not_below (pos n) t = tt
not_below (negsuc n) t = false_true t

is_above_too : (z : ℤ) → le_z (pos 0) z ≡ true → nat_abs z ≡ above z
is_above_too (pos n) t = refl
is_above_too (negsuc n) t = false_true (sym t)

above_none : (z : ℤ) → le_z (pos 0) z ≡ false → 0 ≡ above z
above_none (pos n) t = absurd (omega (arith, leb-false 0 n t))
above_none (negsuc n) t = refl

-- the count passes through its bits
module _ (z : ℤ) (s : SFits w32 z) where
  pub count_negative : (lim : TConfiguration) (t u : TType) → lt_z (to_z w32 (of_z w32 z)) (pos 0) ≡ true → NEGATIVE_SIZE ≡ count_wrong lim t u z
  unfolding count_wrong
  count_negative lim t u h = rw (rw (to_z-of_z s) at h)

  pub size_none : le_z (pos 0) (to_z w32 (of_z w32 z)) ≡ false → 0 ≡ above z
  size_none h = above_none z (rw (to_z-of_z s) at h)

  pub size_some : le_z (pos 0) (to_z w32 (of_z w32 z)) ≡ true → nat_abs (to_z w32 (of_z w32 z)) ≡ above z
  size_some h = let g : le_z (pos 0) z ≡ true = rw (to_z-of_z s) at h in rw (to_z-of_z s) (is_above_too z g)

  module _ (h : lt_z (to_z w32 (of_z w32 z)) (pos 0) ≡ false) where
    plain : lt_z z (pos 0) ≡ false
    plain = rw (to_z-of_z s) at h

    pub count_sign : T (non_neg (to_z w32 (of_z w32 z)))
    count_sign = rw (to_z-of_z s) (not_below z plain)

    pub count_cast : Fits w32 (nat_abs (to_z w32 (of_z w32 z)))
    count_cast = rw (to_z-of_z s) (Fits-nat_abs {w = w32} {w' = w32} tt s)

    count_size : nat_abs (to_z w32 (of_z w32 z)) ≡ above z
    count_size = rw (to_z-of_z s) (is_above z plain)

    module _ (lim : TConfiguration) (t u : TType) where
      pub count_zero : nat_abs (to_z w32 (of_z w32 z)) ≡ 0 → 0 ≡ count_wrong lim t u z
      unfolding count_wrong
      count_zero k = rw (plain, eq-eqb (above z) 0 (sym count_size ∙ k))

      module _ (k : nat_abs (to_z w32 (of_z w32 z)) ≡ 0 → ⊥) where
        some : (above z ≡ 0 → ⊥)
        some q = k (count_size ∙ q)

        module _ (c : ℕ) (e : c ≡ type_code t) where
          pub count_stop : c ≡ 0 → BAD_TYPE ≡ count_wrong lim t u z
          unfolding count_wrong
          count_stop q = rw (plain, ne_eqb (above z) 0 some, ← e, eq-eqb c 0 q)

          module _ (q : c ≡ 0 → ⊥) (d : ℕ) (f : d ≡ type_code u) where
            pub count_stop_2 : d ≡ 0 → BAD_TYPE ≡ count_wrong lim t u z
            unfolding count_wrong
            count_stop_2 r = rw (plain, ne_eqb (above z) 0 some, ← e, ne_eqb c 0 q, ← f, eq-eqb d 0 r)

            module _ (r : d ≡ 0 → ⊥) where
              pub count_over : lim.container < nat_abs (to_z w32 (of_z w32 z)) → SIZE_LIMIT ≡ count_wrong lim t u z
              unfolding count_wrong
              count_over l =
                  rw (plain, ne_eqb (above z) 0 some, ← e, ne_eqb c 0 q, ← f, ne_eqb d 0 r, lt-leb (above z) lim.container (rw count_size at l))

              pub count_well : nat_abs (to_z w32 (of_z w32 z)) ≤ lim.container → 0 ≡ count_wrong lim t u z
              unfolding count_wrong
              count_well l =
                  rw (plain, ne_eqb (above z) 0 some, ← e, ne_eqb c 0 q, ← f, ne_eqb d 0 r, le-leb (above z) lim.container (rw count_size at l))

pub ruleset count_cases = (count_negative, count_sign, count_cast, count_zero, count_stop, count_stop_2, count_over, count_well, sfits_of)

pub ruleset size_cases = (size_none, size_some, up_sign, up_cast, sfits_of)
