-- A field's header: its code, its id, and what the calls answer at each of their returns. Assumes nothing.
use mathlib.Core.Path.{◌≡◌, refl, sym, ap, subst, ◌∙◌}
use mathlib.Core.Bool.{true, false, cond}
use mathlib.Core.List.{List, [], ◌∷◌}
use Prim.Native.Nat.{ℕ, zero, suc, ◌+◌, ◌-◌, ◌*◌, ◌/◌, ◌%◌, ◌≤◌, ◌<◌, ◌^◌}
use native.Mathlib.Omega.{arith}
use borrow.Author.Rules.{sfits_of}
use borrow.Author.Tests.{lt-ltb, le-ltb, ltb-false, eq-eqb, ne_eqb}
use lib.Dec.{eqb, ltb}
use lib.IntN.{ℤ, pos, negsuc, ◌+ℤ◌}
use lib.ListN.{length, get_or, drop, get_or-eq_default}
use lib.Signed.{mag, lt_z}
use mir.Syntax.{w8, w16, w32}
use mir.Val.{Fits, SFits, to_z, of_z}
use mir.Facts.{to_z-of_z, to_z_pos, sfits_widen}
use Rattle.types.specs.Refusals.{END, BAD_TYPE, FIELD_ID}
use Rattle.types.specs.Codes.{numbered, truth_code, type_by_number, as_field, field_type}
use Rattle.types.specs.declared.TType.{TType}
use Rattle.types.specs.declared.TypeRead.{TypeRead}
use Rattle.types.specs.declared.TypeRead.TheVariants as R
use Rattle.types.specs.declared.FieldType.{FieldType}
use Rattle.types.specs.declared.FieldType.TheVariants as FT
use Rattle.types.proofs.Codes.{number_is}
use Rattle.tables.specs.Rows.{field_no, field_row, row_type}
use Rattle.numbers.specs.Varint.{Found, got, refused}
use Rattle.numbers.specs.Answers.{signed16_at}
use Rattle.numbers.specs.declared.Int16.{Int16}
use Rattle.numbers.specs.declared.Int16.TheVariants as N16
use Rattle.numbers.proofs.Found.{by_lt}
use Rattle.heads.specs.Reader.{read_at}
use Rattle.heads.specs.Heads.{int16, field_id, of_type, field}
use Rattle.heads.specs.Answers.{place, id_of, to_field, field_at, head_of, head_at, head_with, long_at}
use Rattle.heads.specs.declared.FieldHead.{FieldHead}
use Rattle.heads.specs.declared.FieldHead.TheVariants as F
use Rattle.heads.proofs.Steps.{step, stop_at, done_at, refuse_at, byte_at, byte_out}
use Rattle.heads.proofs.Cases.{is_16, no_16}

-- every row of a table holds a type
abbrev Filled : List TypeRead → Type 0
Filled [] = Unit {0}
Filled (R.Got t ∷ l) = Filled l
Filled (R.Refused why ∷ l) = ⊥

filled : (l : List TypeRead) (n : ℕ) → Filled l → n < length l → (t : TType) × (get_or l n (R.Refused BAD_TYPE) ≡ R.Got t)
filled [] n f h = absurd (omega arith)
filled (R.Got t ∷ l) zero f h = (t, refl)
filled (R.Got t ∷ l) (suc n) f h = filled l n f (omega arith)
filled (R.Refused why ∷ l) n f h = absurd f

-- the codes of a field: 0 and those above 13 apart, each is a bool's or another type's
abbrev Typed : FieldType → Type 0
Typed FT.Stop = ⊥
Typed (FT.Truth b) = Unit {0}
Typed (FT.Kind t) = Unit {0}
Typed (FT.Refused why) = ⊥

module _ (n : ℕ) where
  pub code_stop : n ≡ 0 → field_type n ≡ FT.Stop
  unfolding field_type
  code_stop h = rw h

  pub code_truth : 0 < n → n < 3 → field_type n ≡ FT.Truth (eqb n 1)
  unfolding field_type
  code_truth h k = go n refl
    where
      go : (m : ℕ) → n ≡ m → field_type n ≡ FT.Truth (eqb n 1)
      go zero e = absurd (omega arith)
      go (suc zero) e = rw e
      go (suc (suc zero)) e = rw e
      go (suc (suc (suc m))) e = absurd (omega arith)

  pub code_else : 3 ≤ n → field_type n ≡ as_field (type_by_number n)
  unfolding field_type
  code_else h = rw (ne_eqb n 0 (λ z. omega arith), ne_eqb n 1 (λ z. omega arith), ne_eqb n 2 (λ z. omega arith))

  pub code_none : 13 < n → field_type n ≡ FT.Refused BAD_TYPE
  unfolding type_by_number
  code_none h = code_else (omega arith) ∙ ap as_field (get_or-eq_default numbered (R.Refused BAD_TYPE) {n = n} h)

  code_kind : 3 ≤ n → n ≤ 13 → (t : TType) × (type_by_number n ≡ R.Got t)
  unfolding type_by_number
  code_kind h k = let e : n ≡ suc (suc (suc (n - 3))) = omega arith in rw e (filled (drop 3 numbered) (n - 3) tt (omega arith))

  pub code_typed : (n ≡ 0 → ⊥) → n ≤ 13 → Typed (field_type n)
  code_typed h k =
      by_lt n 3 (λ l. rw (code_truth (omega arith) l) tt) (λ l. rw (code_else l, (code_kind l k).1) tt)

-- the four kinds of code, each with its row
data Row (b n : ℕ) : Type 0 where
  ends : b % 16 ≡ 0 → n ≡ 256 * (b / 16) → Row b n
  truth : 0 < b % 16 → b % 16 < 3 → n ≡ 1 + 65536 * (b % 16) + 256 * (b / 16) → Row b n
  kind : 3 ≤ b % 16 → b % 16 ≤ 13 → n ≡ b % 16 + 256 * (b / 16) → Row b n
  none : 13 < b % 16 → n ≡ 15 + 256 * (b / 16) → Row b n

truth_no : (c : ℕ) → 0 < c → c < 3 → truth_code (eqb c 1) ≡ c
unfolding truth_code
truth_no zero h k = absurd (omega arith)
truth_no (suc zero) h k = refl
truth_no (suc (suc zero)) h k = refl
truth_no (suc (suc (suc c))) h k = absurd (omega arith)

kind_no : (c : ℕ) (t : TType) → type_by_number c ≡ R.Got t → 3 ≤ c → field_no (field_type c) ≡ c
kind_no c t e h = rw (code_else c h, e) (sym (number_is c t e))

row_of : (b : ℕ) → Row b (field_row b)
unfolding field_row
row_of b = go b (b % 16) refl
  where
    go : (a c : ℕ) → a % 16 ≡ c → Row a (field_no (field_type (a % 16)) + 256 * (a / 16))
    go a c e =
        by_lt c 1
        (λ h. let z : a % 16 ≡ 0 = omega arith in ends z (rw (code_stop (a % 16) z) (omega arith)))
        (λ h. by_lt c 3
        (λ k. truth (omega arith) (omega arith) (rw (code_truth (a % 16) (omega arith) (omega arith), truth_no (a % 16) (omega arith) (omega arith)) (omega arith)))
        (λ k. by_lt 13 c
        (λ l. none (omega arith) (rw (code_none (a % 16) (omega arith)) refl))
        (λ l. kind (omega arith) (omega arith) (rw (kind_no (a % 16) _ (code_kind (a % 16) (omega arith) (omega arith)).1 (omega arith)) refl))))

-- what the code asks of a row n of the byte b
module _ (b n : ℕ) (h : b < 256) (e : n ≡ field_row b) where
  its_row : Row b n
  its_row = subst (Row b) (sym e) (row_of b)

  whole : n / 256 ≡ b / 16 → n / 256 % 256 ≡ b / 16
  whole k = rw k (omega arith)

  pub row_delta : n / 256 % 256 ≡ b / 16
  row_delta = go its_row
    where
      go : Row b n → n / 256 % 256 ≡ b / 16
      go (ends c g) = whole (omega arith)
      go (truth c d g) = let k : n / 256 ≡ b / 16 + 256 * (b % 16) = omega arith in rw k (omega arith)
      go (kind c d g) = whole (omega arith)
      go (none c g) = whole (omega arith)

  pub row_ends : n % 256 ≡ 0 → b % 16 ≡ 0
  row_ends z = go its_row
    where
      go : Row b n → b % 16 ≡ 0
      go (ends c g) = c
      go (truth c d g) = absurd (omega arith)
      go (kind c d g) = absurd (omega arith)
      go (none c g) = absurd (omega arith)

  pub row_goes_on : (n % 256 ≡ 0 → ⊥) → b % 16 ≡ 0 → ⊥
  row_goes_on z y = go its_row
    where
      go : Row b n → ⊥
      go (ends c g) = z (omega arith)
      go (truth c d g) = omega arith
      go (kind c d g) = omega arith
      go (none c g) = omega arith

  pub row_none : 13 < n % 256 → 13 < b % 16
  row_none z = go its_row
    where
      go : Row b n → 13 < b % 16
      go (ends c g) = absurd (omega arith)
      go (truth c d g) = absurd (omega arith)
      go (kind c d g) = absurd (omega arith)
      go (none c g) = c

  pub row_typed : (n % 256 ≡ 0 → ⊥) → n % 256 ≤ 13 → (0 < b % 16) × (b % 16 ≤ 13) × (row_type n ≡ field_type (b % 16))
  unfolding row_type
  row_typed y z = go its_row
    where
      go : Row b n → (0 < b % 16) × (b % 16 ≤ 13) × (cond (ltb (n % 256) 3) (FT.Truth (eqb (n / 65536) 1)) (as_field (type_by_number (n % 256))) ≡ field_type (b % 16))
      go (ends c g) = absurd (y (omega arith))
      go (truth c d g) =
          let k : n % 256 ≡ 1 = omega arith in
          let l : n / 65536 ≡ b % 16 = omega arith in
          (c, omega arith, rw (k, l, code_truth (b % 16) c d))
      go (kind c d g) =
          let k : n % 256 ≡ b % 16 = omega arith in
          (omega arith, d, rw (k, le-ltb (b % 16) 3 c, code_else (b % 16) c))
      go (none c g) = absurd (omega arith)

-- headed
module _ (row : ℕ) (id : ℤ) (at : ℕ) where
  pub head_bool : row % 256 < 3 → F.Bool (eqb (row / 65536) 1) (id_of id) (place at) ≡ head_at row id at
  unfolding head_at row_type
  head_bool h = rw (lt-ltb (row % 256) 3 h)

  module _ (h : 3 ≤ row % 256) (r : TypeRead) (e : r ≡ type_by_number (row % 256)) where
    pub head_value : (t : TType) → r ≡ R.Got t → F.Value t (id_of id) (place at) ≡ head_at row id at
    unfolding head_at row_type
    head_value t g = rw (le-ltb (row % 256) 3 h, ← e, g)

    pub head_refused : (why : ℕ) → r ≡ R.Refused why → F.Refused why ≡ head_at row id at
    unfolding head_at row_type
    head_refused why g = rw (le-ltb (row % 256) 3 h, ← e, g)

pub ruleset head_cases = (head_bool, head_value, head_refused, to_z-of_z, sfits_of)

-- long_field: the id reaches the call through its bits, as z
module _ (s : List ℕ) (row at : ℕ) (r : Int16) (e : r ≡ signed16_at s at) where
  pub long_got : (id z : ℤ) (p : ℕ) (q : FieldHead) → r ≡ N16.Got id p → q ≡ head_at row z p → z ≡ id → q ≡ long_at s row at
  unfolding long_at
  long_got id z p q g h i = h ∙ rw (is_16 s at r e id p g, i)

  pub long_refused : (why : ℕ) → r ≡ N16.Refused why → F.Refused why ≡ long_at s row at
  unfolding long_at
  long_refused why g = rw (no_16 s at r e why g)

pub ruleset long_cases = (long_got, long_refused, to_z-of_z, sfits_of)

-- the id: the signed sum of a last id and a delta below 16 fits an i32, and where it is not above 32767 an i16
lt_bound : (d : ℕ) → d < 16 → d < 2 ^ 31
lt_bound d h = omega arith

mag_add : (z : ℤ) (d : ℕ) → mag (z +ℤ pos d) ≤ mag z + d
mag_add (pos a) d = omega arith
mag_add (negsuc a) d =
    by_lt d (suc a) (λ h. rw (lt-ltb d (suc a) h) (omega arith)) (λ h. rw (le-ltb d (suc a) h) (omega arith))

pub sum16 : (last : ℤ) (delta : ℕ) → SFits w16 last → delta < 16 → lt_z (pos 32767) (last +ℤ pos delta) ≡ false → SFits w16 (last +ℤ pos delta)
sum16 (pos a) d hl hd t = record { sfits = omega (arith, ltb-false 32767 (a + d) t) }
sum16 (negsuc a) d hl hd t =
    by_lt d (suc a)
    (λ h. rw (lt-ltb d (suc a) h) (record { sfits = omega (arith, hl.sfits) }))
    (λ h. rw (le-ltb d (suc a) h) (record { sfits = omega arith }))

-- the code's sum, whose numbers pass through their bits
abbrev pub code_sum : ℤ → ℕ → ℤ
code_sum last delta = to_z w32 (of_z w32 (to_z w16 (of_z w16 last))) +ℤ to_z w32 delta

pub id_wide : (last : ℤ) → SFits w16 last → SFits w32 (to_z w16 (of_z w16 last))
id_wide last hl = rw (to_z-of_z hl) (sfits_widen {w = w16} {w' = w32} tt hl)

module _ (last : ℤ) (delta : ℕ) (hl : SFits w16 last) (hd : delta < 16) where
  terms : code_sum last delta ≡ last +ℤ pos delta
  terms = rw (to_z-of_z hl, to_z-of_z (sfits_widen {w = w16} {w' = w32} tt hl), to_z_pos w32 (lt_bound delta hd))

  sum32 : SFits w32 (last +ℤ pos delta)
  sum32 = record { sfits = omega (arith, mag_add last delta, hl.sfits) }

  pub id_is : to_z w32 (of_z w32 (code_sum last delta)) ≡ last +ℤ pos delta
  id_is = rw terms (to_z-of_z sum32)

  pub id_fits : SFits w32 (code_sum last delta)
  id_fits = rw terms sum32

  pub id_back : lt_z (pos 32767) (to_z w32 (of_z w32 (code_sum last delta))) ≡ false → SFits w16 (to_z w32 (of_z w32 (code_sum last delta)))
  id_back t = rw id_is (sum16 last delta hl hd (rw id_is at t))

-- a type's field has the id that is found behind the first byte
found_head : (row : ℕ) (x : FieldType) → row_type row ≡ x → (f : Found ℤ) (id : ℤ) (e : ℕ) → f ≡ got id e → head_with row f ≡ head_of x id e
unfolding head_at
found_head row x g f id e h = rw (h, g)

id_then : (s : List ℕ) (last : ℤ) (delta row at : ℕ) (x : FieldType) → row_type row ≡ x → Typed x → to_field (read_at (of_type last delta x) s at) ≡ head_with row (read_at (field_id last delta) s at)
id_then s last delta row at x g t = go (read_at (field_id last delta) s at) refl x g t
  where
    go : (f : Found ℤ) → read_at (field_id last delta) s at ≡ f → (y : FieldType) → row_type row ≡ y → Typed y → to_field (read_at (of_type last delta y) s at) ≡ head_with row (read_at (field_id last delta) s at)
    go f k FT.Stop h u = absurd u
    go (got id e) k (FT.Truth b) h u = ap to_field (step _ _ s at _ _ k ∙ done_at s _ _) ∙ sym (found_head row _ h _ id e k)
    go (got id e) k (FT.Kind t) h u = ap to_field (step _ _ s at _ _ k ∙ done_at s _ _) ∙ sym (found_head row _ h _ id e k)
    go (refused why) k (FT.Truth b) h u = ap to_field (stop_at _ _ s at _ k) ∙ sym (ap (head_with row) k)
    go (refused why) k (FT.Kind t) h u = ap to_field (stop_at _ _ s at _ k) ∙ sym (ap (head_with row) k)
    go f k (FT.Refused why) h u = absurd u

-- read_field_begin
module _ (s : List ℕ) (last : ℤ) (at : ℕ) where
  pub field_end : length s ≤ at → F.Refused END ≡ field_at s last at
  unfolding field_at field
  field_end h = sym (ap to_field (stop_at _ _ s at END (byte_out s at h)))

  module _ (h : at < length s) where
    by_type_lem : (x : FieldType) → field_type (get_or s at 0 % 16) ≡ x → field_at s last at ≡ to_field (read_at (of_type last (get_or s at 0 / 16) x) s (at + 1))
    unfolding field_at field
    by_type_lem x g = ap to_field (step _ _ s at _ _ (byte_at s at h) ∙ ap (λ (y : FieldType). read_at (of_type last (get_or s at 0 / 16) y) s (at + 1)) g)

    -- the first byte's row
    module _ (row : ℕ) (w : row ≡ field_row (get_or s at 0)) (f : get_or s at 0 < 256) where
      pub field_stop : row % 256 ≡ 0 → F.Stop (place (at + 1)) ≡ field_at s last at
      field_stop z = sym (by_type_lem FT.Stop (code_stop _ (row_ends _ row f w z)) ∙ ap to_field (done_at s _ _))

      pub field_untyped : 13 < row % 256 → F.Refused BAD_TYPE ≡ field_at s last at
      field_untyped z = sym (by_type_lem (FT.Refused BAD_TYPE) (code_none _ (row_none _ row f w z)) ∙ ap to_field (refuse_at s _ _))

      module _ (n : row % 256 ≡ 0 → ⊥) (m : row % 256 ≤ 13) where
        is_typed : Typed (field_type (get_or s at 0 % 16))
        is_typed = code_typed _ (λ z. omega (arith, (row_typed _ row f w n m).0)) (row_typed _ row f w n m).1

        by_id : (g : Found ℤ) → read_at (field_id last (row / 256 % 256)) s (at + 1) ≡ g → head_with row g ≡ field_at s last at
        by_id g k =
            sym
            (by_type_lem _ refl
            ∙ id_then s last _ row (at + 1) _ (row_typed _ row f w n m).2 is_typed
            ∙ ap (head_with row) (ap (λ (d : ℕ). read_at (field_id last d) s (at + 1)) (sym (row_delta _ row f w)) ∙ k))

        pub field_long : (q : FieldHead) → row / 256 % 256 ≡ 0 → q ≡ long_at s row (at + 1) → q ≡ field_at s last at
        unfolding long_at field_id
        field_long q d e = e ∙ by_id (read_at int16 s (at + 1)) (rw (eq-eqb (row / 256 % 256) 0 d))

        module _ (hl : SFits w16 last) (hd : row / 256 % 256 < 16) (d : row / 256 % 256 ≡ 0 → ⊥) where
          pub field_over : lt_z (pos 32767) (to_z w32 (of_z w32 (code_sum last (row / 256 % 256)))) ≡ true → F.Refused FIELD_ID ≡ field_at s last at
          unfolding field_id
          field_over t = by_id (refused FIELD_ID) (rw (ne_eqb (row / 256 % 256) 0 d, rw (id_is last _ hl hd) at t) (refuse_at s _ _))

          -- the sum reaches the call through its bits, as z
          pub field_short : (q : FieldHead) (z : ℤ) → lt_z (pos 32767) (to_z w32 (of_z w32 (code_sum last (row / 256 % 256)))) ≡ false → q ≡ head_at row z (at + 1) → z ≡ to_z w32 (of_z w32 (code_sum last (row / 256 % 256))) → q ≡ field_at s last at
          unfolding field_id
          field_short q z t e i =
              e
              ∙ rw (i, id_is last _ hl hd)
              (by_id (got (last +ℤ pos (row / 256 % 256)) (at + 1)) (rw (ne_eqb (row / 256 % 256) 0 d, rw (id_is last _ hl hd) at t) (done_at s _ _)))

-- a byte, and the delta of its row
pub byte_below : (s : List ℕ) (at : ℕ) → ((i : ℕ) → Fits w8 (get_or s i 0)) → get_or s at 0 < 256
byte_below s at h = omega (arith, (h at).fits)

pub delta_four : (s : List ℕ) (at row : ℕ) → ((i : ℕ) → Fits w8 (get_or s i 0)) → row ≡ field_row (get_or s at 0) → row / 256 % 256 < 16
delta_four s at row h e = rw (row_delta (get_or s at 0) row (byte_below s at h) e) (omega (arith, (h at).fits))

-- a byte's high 4 bits
pub high_four : (s : List ℕ) (at : ℕ) → ((i : ℕ) → Fits w8 (get_or s i 0)) → get_or s at 0 / 16 < 16
high_four s at h = omega (arith, (h at).fits)

pub delta_wide : (delta : ℕ) → delta < 16 → SFits w32 (pos delta)
delta_wide delta h = record { sfits = omega arith }

pub ruleset field_cases = (byte_below, delta_four, delta_wide, field_end, field_stop, field_untyped, field_long, id_wide, id_fits, id_back, field_over, field_short, to_z-of_z, sfits_of)
