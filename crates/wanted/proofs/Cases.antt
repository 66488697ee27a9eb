-- The list of wanted ids: what the code knows at each return and each turn of its loops. Assumes nothing.
use mathlib.Core.Path.{◌≡◌, refl, sym, ap, ◌∙◌}
use mathlib.Core.Bool.{Bool, true, false}
use mathlib.Core.List.{List, ◌∷◌}
use Prim.Native.Nat.{ℕ, ◌+◌, ◌^◌, ◌≤◌, ◌<◌}
use native.Mathlib.Numerals.{add-one}
use native.Mathlib.Omega.{arith}
use borrow.Author.Tests.{eq-eqb, ne_eqb, eqb-true, eqb-false, le-leb, lt-leb}
use lib.Dec.{eqb, ltb}
use lib.IntN.{ℤ, pos, negsuc}
use lib.Signed.{mag}
use lib.ListN.{length, get_or, drop, drop_of_length-le}
use lib.Seq.{drop-cons}
use mir.Syntax.{w16}
use mir.Val.{SFits, to_z, of_z}
use mir.Facts.{to_z-of_z}
use borrow.Author.Rules.{sfits_of}
use Rattle.types.specs.Codes.{type_code, type_by_number}
use Rattle.types.specs.declared.FieldId.{FieldId}
use Rattle.types.specs.declared.TType.{TType}
use Rattle.types.specs.declared.TypeRead.{TypeRead}
use Rattle.types.specs.declared.TypeRead.TheVariants as R
use Rattle.wanted.specs.Wanted.{same_id, among, distinct, fielded, wantable, wantables, listed}

-- two ids are the same where the numbers are
pub is_same : (a b : ℤ) → same_id a b ≡ true → a ≡ b
unfolding same_id
is_same (pos a) (pos b) e = ap pos (eqb-true a b e)
is_same (pos a) (negsuc b) e = let z : ◌≡◌ {A = ℕ} 0 1 = cc in absurd (omega arith)
is_same (negsuc a) (pos b) e = let z : ◌≡◌ {A = ℕ} 0 1 = cc in absurd (omega arith)
is_same (negsuc a) (negsuc b) e = ap negsuc (eqb-true a b e)

pub same_self : (a : ℤ) → same_id a a ≡ true
unfolding same_id
same_self (pos a) = eq-eqb a a refl
same_self (negsuc a) = eq-eqb a a refl

pub same_is : (a b : ℤ) → a ≡ b → same_id a b ≡ true
same_is a b e = ap (same_id a) (sym e) ∙ same_self a

pub not_same : (a b : ℤ) → (a ≡ b → ⊥) → same_id a b ≡ false
not_same a b n = go (same_id a b) refl
  where
    go : (x : Bool) → same_id a b ≡ x → same_id a b ≡ false
    go true e = absurd (n (is_same a b e))
    go false e = e

-- the next of a list
pub next : {A : Type 0} (xs : List A) (j : ℕ) (d : A) → j < length xs → drop j xs ≡ get_or xs j d ∷ drop (j + 1) xs
next xs j d h = rw add-one (drop-cons xs j d h)

-- same_id: the code compares the two's complement patterns of the ids
module _ (a b : FieldId) (f : SFits w16 a.0) (g : SFits w16 b.0) where
  pub ids_same : eqb (of_z w16 a.0) (of_z w16 b.0) ≡ same_id a.0 b.0
  ids_same = go (eqb (of_z w16 a.0) (of_z w16 b.0)) refl
    where
      go : (x : Bool) → eqb (of_z w16 a.0) (of_z w16 b.0) ≡ x → eqb (of_z w16 a.0) (of_z w16 b.0) ≡ same_id a.0 b.0
      go true e =
          let p : of_z w16 a.0 ≡ of_z w16 b.0 = eqb-true (of_z w16 a.0) (of_z w16 b.0) e in
          let q : to_z w16 (of_z w16 a.0) ≡ to_z w16 (of_z w16 b.0) = ap (to_z w16) p in
          e ∙ sym (same_is a.0 b.0 (sym (to_z-of_z f) ∙ q ∙ to_z-of_z g))
      go false e = e ∙ sym (not_same a.0 b.0 (λ q. eqb-false (of_z w16 a.0) (of_z w16 b.0) e (ap (of_z w16) q)))

-- an id as the slice holds it
pub held : (z : ℤ) → mag z < 2 ^ 15 → to_z w16 (of_z w16 z) ≡ z
held z m = to_z-of_z (sfits_of {w = w16} {z = z} m)

-- among_ids
module _ (id : ℤ) (ids : List ℤ) (from j : ℕ) (inv : among id (drop j ids) ≡ among id (drop from ids)) where
  module _ (h : j < length ids) (m : mag (get_or ids j (pos 0)) < 2 ^ 15) (b : Bool) (f : b ≡ same_id id (to_z w16 (of_z w16 (get_or ids j (pos 0))))) where
    told : b ≡ same_id id (get_or ids j (pos 0))
    told = f ∙ ap (same_id id) (held (get_or ids j (pos 0)) m)

    pub among_here : b ≡ true → true ≡ among id (drop from ids)
    unfolding among
    among_here e = sym (sym inv ∙ ap (among id) (next ids j (pos 0) h) ∙ rw (sym told ∙ e))

    pub among_on : b ≡ false → among id (drop (j + 1) ids) ≡ among id (drop from ids)
    unfolding among
    among_on e = sym (sym inv ∙ ap (among id) (next ids j (pos 0) h) ∙ rw (sym told ∙ e))

  pub among_end : length ids ≤ j → false ≡ among id (drop from ids)
  unfolding among
  among_end h = sym (sym inv ∙ ap (among id) (drop_of_length-le ids h))

pub ruleset among_cases = (among_here, among_on, among_end, to_z-of_z, sfits_of)

-- are_distinct
module _ (ids : List ℤ) (j : ℕ) (inv : distinct (drop j ids) ≡ distinct ids) where
  module _ (h : j < length ids) (m : mag (get_or ids j (pos 0)) < 2 ^ 15) (b : Bool) (f : b ≡ among (to_z w16 (of_z w16 (get_or ids j (pos 0)))) (drop (j + 1) ids)) where
    found : b ≡ among (get_or ids j (pos 0)) (drop (j + 1) ids)
    found = f ∙ ap (λ (z : ℤ). among z (drop (j + 1) ids)) (held (get_or ids j (pos 0)) m)

    pub twice : b ≡ true → false ≡ distinct ids
    unfolding distinct
    twice e = sym (sym inv ∙ ap distinct (next ids j (pos 0) h) ∙ rw (sym found ∙ e))

    pub once : b ≡ false → distinct (drop (j + 1) ids) ≡ distinct ids
    unfolding distinct
    once e = sym (sym inv ∙ ap distinct (next ids j (pos 0) h) ∙ rw (sym found ∙ e))

  pub distinct_end : length ids ≤ j → true ≡ distinct ids
  unfolding distinct
  distinct_end h = sym (sym inv ∙ ap distinct (drop_of_length-le ids h))

pub ruleset distinct_cases = (twice, once, distinct_end, to_z-of_z, sfits_of)

-- is_wantable
module _ (k : ℕ) (r : TypeRead) (f : r ≡ type_by_number k) where
  pub typeless : (why : ℕ) → r ≡ R.Refused why → false ≡ wantable k
  unfolding wantable
  typeless why e = ap fielded (sym e ∙ f)

  module _ (t : TType) (e : r ≡ R.Got t) (c : ℕ) (g : c ≡ type_code t) where
    pub of_type_lem : ltb 0 c ≡ wantable k
    unfolding wantable
    of_type_lem = ap (ltb 0) g ∙ ap fielded (sym e ∙ f)

pub ruleset wantable_cases = (typeless, of_type_lem)

-- are_wantable
module _ (ks : List ℕ) (j : ℕ) (inv : wantables (drop j ks) ≡ wantables ks) where
  module _ (h : j < length ks) (b : Bool) (f : b ≡ wantable (get_or ks j 0)) where
    pub unwanted : b ≡ false → false ≡ wantables ks
    unfolding wantables
    unwanted e = sym (sym inv ∙ ap wantables (next ks j 0 h) ∙ rw (sym f ∙ e))

    pub wanted_on : b ≡ true → wantables (drop (j + 1) ks) ≡ wantables ks
    unfolding wantables
    wanted_on e = sym (sym inv ∙ ap wantables (next ks j 0 h) ∙ rw (sym f ∙ e))

  pub wantables_end : length ks ≤ j → true ≡ wantables ks
  unfolding wantables
  wantables_end h = sym (sym inv ∙ ap wantables (drop_of_length-le ks h))

pub ruleset wantables_cases = (unwanted, wanted_on, wantables_end)

-- is_listed
module _ (ids : List ℤ) (ks : List ℕ) where
  pub unequal : (length ids ≡ length ks → ⊥) → false ≡ listed ids ks
  unfolding listed
  unequal n = rw (ne_eqb (length ids) (length ks) n)

  module _ (e : length ids ≡ length ks) where
    pub too_many : 64 < length ids → false ≡ listed ids ks
    unfolding listed
    too_many l = rw (eq-eqb (length ids) (length ks) e, lt-leb (length ids) 64 l)

    module _ (l : length ids ≤ 64) (b : Bool) (f : b ≡ distinct ids) where
      pub repeated : b ≡ false → false ≡ listed ids ks
      unfolding listed
      repeated g = rw (eq-eqb (length ids) (length ks) e, le-leb (length ids) 64 l, sym f ∙ g)

      pub all_listed : (c : Bool) → b ≡ true → c ≡ wantables ks → c ≡ listed ids ks
      unfolding listed
      all_listed c g w = rw (eq-eqb (length ids) (length ks) e, le-leb (length ids) 64 l, sym f ∙ g) w

pub ruleset listed_cases = (unequal, too_many, repeated, all_listed)
