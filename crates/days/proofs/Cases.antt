-- The cases of the code, one for each answer and each turn of a loop, for `search`. Assumes nothing.
use mathlib.Core.Path.{◌≡◌, refl, sym, ap, subst, ◌∙◌}
use mathlib.Core.Bool.{Bool, true, false, ◌&&◌}
use mathlib.Core.List.{List, []}
use Prim.Native.Nat.{ℕ, ◌+◌, ◌-◌, ◌*◌, ◌/◌, ◌%◌, ◌^◌, ◌≤◌, ◌<◌}
use native.Mathlib.Omega.{arith}
use native.Mathlib.Numerals.{add-one}
use borrow.Author.Tests.{lt-ltb, le-ltb, le-leb, lt-leb, leb-true}
use lib.Dec.{eqb, leb, ltb, lit<}
use lib.ListN.{length, get_or, take, drop, drop_of_length-le}
use lib.Seq.{sets, slice, drop-cons}
use mir.Syntax.{w32, w64}
use mir.Val.{Fits}
use Rattle.numbers.proofs.Found.{by_lt, zero_one, take_drop}
use Rattle.numbers.specs.Fixed.{four}
use Rattle.numbers.specs.Answers.{bits32_at, put_at}
use Rattle.numbers.specs.declared.Bits32.{Bits32}
use Rattle.numbers.specs.declared.Bits32.TheVariants as B32
use Rattle.numbers.proofs.Put.{put_in}
use Rattle.numbers.proofs.Cases.{length_four}
use Rattle.days.specs.Day.{number, Day, accepted, check_of, message_of, part_of}
use Rattle.days.specs.Write.{up_to, fitting}
use Rattle.days.specs.declared.Checked.{Checked}
use Rattle.days.specs.declared.Checked.TheVariants as C
use Rattle.days.specs.declared.Part.{Part}
use Rattle.days.specs.declared.Part.TheVariants as P
use Rattle.days.proofs.Rules.{by_bool, and_left, and_right, is_day, day_is, within}

-- a number of the header, read: its four bytes are there
module _ (s : List ℕ) (k : ℕ) (r : Bits32) (e : r ≡ bits32_at s (4 * k)) (h : 4 * k + 4 ≤ length s) where
  read_there : r ≡ B32.Got (number s k) (4 * k + 4)
  unfolding bits32_at number
  read_there = e ∙ rw (le-ltb (length s) (4 * k + 4) h)

  pub number_got : (v p : ℕ) → r ≡ B32.Got v p → v ≡ number s k
  number_got v p g = let same : B32.Got v p ≡ B32.Got (number s k) (4 * k + 4) = sym g ∙ read_there in cc

  pub number_none : (why : ℕ) → r ≡ B32.Refused why → 0 ≡ number s k
  number_none why g = let no : B32.Refused why ≡ B32.Got (number s k) (4 * k + 4) = sym g ∙ read_there in let z : ◌≡◌ {A = ℕ} 0 1 = cc in absurd (omega arith)

pub number_below : (v : ℕ) → Fits w32 v → v < 0x1_0000_0000
number_below v f = f.fits

pub zero_below : 0 < 0x1_0000_0000
zero_below = lit< tt

pub ruleset number_cases = (number_got, number_none, number_below, zero_below)

-- and put: the low 32 bits have the same four bytes
-- (each law on its own variables, so that `omega` meets small numbers)
down32 : (n q r : ℕ) → n ≡ 2 ^ 32 * q + r → (n / 256 ≡ 2 ^ 24 * q + r / 256) × (r % 256 ≡ n % 256)
down32 n q r e = (omega arith, omega arith)

down24 : (n q r : ℕ) → n ≡ 2 ^ 24 * q + r → (n / 256 ≡ 2 ^ 16 * q + r / 256) × (r % 256 ≡ n % 256)
down24 n q r e = (omega arith, omega arith)

down16 : (n q r : ℕ) → n ≡ 2 ^ 16 * q + r → (n / 256 ≡ 2 ^ 8 * q + r / 256) × (r % 256 ≡ n % 256)
down16 n q r e = (omega arith, omega arith)

down8 : (n q r : ℕ) → n ≡ 2 ^ 8 * q + r → r % 256 ≡ n % 256
down8 n q r e = omega arith

four_low : (n : ℕ) → four (n % 2 ^ 32) ≡ four n
unfolding four
four_low n =
    let q = n / 2 ^ 32 in
    let r = n % 2 ^ 32 in
    let a = down32 n q r (omega arith) in
    let b = down24 (n / 256) q (r / 256) a.0 in
    let c = down16 (n / 256 / 256) q (r / 256 / 256) b.0 in
    let d = down8 (n / 256 / 256 / 256) q (r / 256 / 256 / 256) c.0 in
    rw (a.1, b.1, c.1, d)

pub number_put : (out after : List ℕ) (k n : ℕ) → 4 * k + 4 ≤ length out → after ≡ put_at out (4 * k) (four (n % 2 ^ 32)) → after ≡ sets out (4 * k) (four n)
number_put out after k n h e = e ∙ ap (put_at out (4 * k)) (four_low n) ∙ sym (put_in out (4 * k) (four n) (subst (λ (m : ℕ). 4 * k + m ≤ length out) (length_four n) h))

-- a file that breaks a rule is refused, one that keeps them all is not
pub check_no : (file : List ℕ) → (Day file → ⊥) → C.Refused 18 ≡ check_of file
unfolding check_of
check_no file h = by_bool (accepted file) (λ t. absurd (h (is_day file t))) (λ f. rw f)

pub check_yes : (file : List ℕ) → Day file → C.Count (number file 0) ≡ check_of file
unfolding check_of
check_yes file d = rw (day_is file d)

-- the header
pub bad_tiny : (file : List ℕ) → length file < 8 → C.Refused 18 ≡ check_of file
bad_tiny file h = check_no file (λ d. omega (arith, d.there))

module _ (file : List ℕ) (n : ℕ) (e : n ≡ number file 0) where
  pub bad_many : 4096 < n → C.Refused 18 ≡ check_of file
  bad_many h = check_no file (λ d. omega (arith, d.few))

  pub bad_header : length file < 4 * n + 8 → C.Refused 18 ≡ check_of file
  bad_header h = check_no file (λ d. omega (arith, d.there))

  pub bad_first : (last : ℕ) → last ≡ number file 1 → (last ≡ 4 * n + 8 → ⊥) → C.Refused 18 ≡ check_of file
  bad_first last f h = check_no file (λ d. h (omega (arith, d.first)))

-- the first i offsets rise, and the one behind them is last
pub record Checking (file : List ℕ) (n last i : ℕ) : Type 0 where
  pub there : 4 * n + 8 ≤ length file
  pub count : n ≡ number file 0
  pub few : n ≤ 4096
  pub first : number file 1 ≡ 4 * n + 8
  pub last_is : last ≡ number file (i + 1)
  pub some : i ≤ n
  pub up : (k : ℕ) → k < i → number file (k + 1) < number file (k + 2)

pub check_begun : (file : List ℕ) (n last : ℕ) → n ≡ number file 0 → n ≤ 4096 → 4 * n + 8 ≤ length file → last ≡ number file 1 → last ≡ 4 * n + 8 → Checking file n last 0
check_begun file n last e f t l g =
    record { there = t; count = e; few = f; first = sym l ∙ g; last_is = l; some = omega arith; up = λ k h. absurd (omega arith) }

module _ (file : List ℕ) (n last i : ℕ) (st : Checking file n last i) where
  pub check_place : i < n → Fits w64 (i + 2)
  check_place h = record { fits = omega (arith, st.few) }

  pub check_in : i < n → 4 * (i + 2) + 4 ≤ length file
  check_in h = omega (arith, st.there)

  pub check_one : i < n → Fits w64 (i + 1)
  check_one h = record { fits = omega (arith, st.few) }

  pub check_low : (next : ℕ) → i < n → next ≡ number file (i + 2) → next ≤ last → C.Refused 18 ≡ check_of file
  check_low next h e l = check_no file (λ d. omega (arith, st.last_is, d.rising i (omega (arith, st.count))))

  pub check_next : (next : ℕ) → i < n → next ≡ number file (i + 2) → last < next → Checking file n next (i + 1)
  check_next next h e l =
      let q : i + 1 + 1 ≡ i + 2 = omega arith in
      record {
        there = st.there;
        count = st.count;
        few = st.few;
        first = st.first;
        last_is = rw q e;
        some = omega arith;
        up = λ k m. by_lt k i (λ a. st.up k a) (λ b. let p : k ≡ i = omega arith in rw p (omega (arith, st.last_is)));
      }

  module _ (h : n ≤ i) where
    end : number file (i + 1) ≡ number file (number file 0 + 1)
    end = let p : i + 1 ≡ number file 0 + 1 = omega (arith, st.some, st.count) in ap (number file) p

    pub check_long : (last ≡ length file → ⊥) → C.Refused 18 ≡ check_of file
    check_long g = check_no file (λ d. g (st.last_is ∙ end ∙ d.last))

    pub check_done : last ≡ length file → C.Count n ≡ check_of file
    check_done g =
        ap C.Count st.count
        ∙ check_yes file
        (record {
          there = omega (arith, st.there, st.count);
          few = omega (arith, st.few, st.count);
          first = omega (arith, st.first, st.count);
          rising = λ k m. st.up k (omega (arith, st.count));
          last = sym end ∙ sym st.last_is ∙ g;
        })

pub ruleset check_cases = (bad_tiny, bad_many, bad_header, bad_first, check_begun, check_place, check_in, check_one, check_low, check_next, check_long, check_done)

-- the ends: those from i on rise from the place
pub up_end : (all at : ℕ) (ends : List ℕ) (i : ℕ) → length ends ≤ i → up_to all at (drop i ends) ≡ eqb at all
unfolding up_to
up_end all at ends i h = rw (drop_of_length-le ends h)

pub up_more : (all at : ℕ) (ends : List ℕ) (i : ℕ) → i < length ends → up_to all at (drop i ends) ≡ (ltb at (get_or ends i 0) && up_to all (get_or ends i 0) (drop (i + 1) ends))
unfolding up_to
up_more all at ends i h = rw (drop-cons ends i 0 h, add-one)

module _ (ends : List ℕ) (all at i : ℕ) (e : up_to all 0 ends ≡ up_to all at (drop i ends)) where
  pub rise_no : (end : ℕ) → i < length ends → end ≡ get_or ends i 0 → end ≤ at → false ≡ up_to all 0 ends
  rise_no end h f l = sym (e ∙ up_more all at ends i h ∙ rw (le-ltb at (get_or ends i 0) (omega arith)))

  pub rise_next : (end : ℕ) → i < length ends → end ≡ get_or ends i 0 → at < end → up_to all 0 ends ≡ up_to all end (drop (i + 1) ends)
  rise_next end h f l = e ∙ up_more all at ends i h ∙ rw (lt-ltb at (get_or ends i 0) (omega arith), f)

  pub rise_done : length ends ≤ i → eqb at all ≡ up_to all 0 ends
  rise_done h = sym (e ∙ up_end all at ends i h)

pub rise_begun : (all : ℕ) (ends : List ℕ) → up_to all 0 ends ≡ up_to all 0 (drop 0 ends)
rise_begun all ends = refl

pub ruleset rise_cases = (rise_no, rise_next, rise_done, rise_begun)

-- whether the messages make a day
pub record Fitting (bytes ends : List ℕ) : Type 0 where
  pub few : length ends ≤ 4096
  pub up : up_to (length bytes) 0 ends ≡ true
  pub small : 4 * length ends + 8 + length bytes ≤ 4294967295

pub fits_is : (bytes ends : List ℕ) → fitting bytes ends ≡ true → Fitting bytes ends
unfolding fitting
fits_is bytes ends e =
    let f = and_right (leb (length ends) 4096) (up_to (length bytes) 0 ends && leb (4 * length ends + 8 + length bytes) 4294967295) e in
    record {
      few = leb-true (length ends) 4096 (and_left (leb (length ends) 4096) (up_to (length bytes) 0 ends && leb (4 * length ends + 8 + length bytes) 4294967295) e);
      up = and_left (up_to (length bytes) 0 ends) (leb (4 * length ends + 8 + length bytes) 4294967295) f;
      small = leb-true (4 * length ends + 8 + length bytes) 4294967295 (and_right (up_to (length bytes) 0 ends) (leb (4 * length ends + 8 + length bytes) 4294967295) f);
    }

module _ (bytes ends : List ℕ) where
  pub fit_many : 4096 < length ends → false ≡ fitting bytes ends
  unfolding fitting
  fit_many h = rw (lt-leb (length ends) 4096 h)

  pub fit_long : length ends ≤ 4096 → 4294967295 - (4 * length ends + 8) < length bytes → false ≡ fitting bytes ends
  fit_long h l = by_bool (fitting bytes ends) (λ t. absurd (omega (arith, (fits_is bytes ends t).small))) (λ f. sym f)

  pub fit_rest : (r : Bool) → length ends ≤ 4096 → length bytes ≤ 4294967295 - (4 * length ends + 8) → r ≡ up_to (length bytes) 0 ends → r ≡ fitting bytes ends
  unfolding fitting
  fit_rest r h l e =
      let k : 4 * length ends + 8 + length bytes ≤ 4294967295 = omega arith in
      rw (le-leb (length ends) 4096 h, le-leb (4 * length ends + 8 + length bytes) 4294967295 k, ← e) (by_bool r (λ t. rw t) (λ f. rw f))

pub ruleset fit_cases = (fit_many, fit_long, fit_rest)

-- the answers are told apart
no_count : {X : Type 0} {n why : ℕ} → C.Count n ≡ C.Refused why → X
no_count e = zero_one (cc)

same_why : {p q : ℕ} → C.Refused p ≡ C.Refused q → p ≡ q
same_why e = cc

same_count : {p q : ℕ} → C.Count p ≡ C.Count q → p ≡ q
same_count e = cc

no_at : {X : Type 0} {a b why : ℕ} → P.Refused why ≡ P.At a b → X
no_at e = zero_one (cc)

same_start : {a b c d : ℕ} → P.At a b ≡ P.At c d → a ≡ c
same_start e = cc

same_end : {a b c d : ℕ} → P.At a b ≡ P.At c d → b ≡ d
same_end e = cc

-- a message by its number
module _ (file : List ℕ) (k : ℕ) (r : Checked) (e : r ≡ check_of file) where
  pub message_bad : (why : ℕ) → r ≡ C.Refused why → P.Refused why ≡ message_of file k
  unfolding check_of message_of
  message_bad why g = by_bool (accepted file) (λ t. no_count (rw t at (sym e ∙ g))) (λ f. let same : 18 ≡ why = same_why (rw f at (sym e ∙ g)) in rw f (ap P.Refused (sym same)))

  module _ (n : ℕ) (g : r ≡ C.Count n) where
    counted : Day file × (n ≡ number file 0)
    unfolding check_of
    counted = by_bool (accepted file) (λ t. (is_day file t, sym (same_count (rw t at (sym e ∙ g))))) (λ f. no_count (sym (rw f at (sym e ∙ g))))

    pub message_past : n ≤ k → P.Refused 18 ≡ message_of file k
    unfolding message_of
    message_past h = rw (day_is file counted.0, le-ltb k (number file 0) (omega (arith, counted.1)))

    module _ (h : k < n) where
      pub message_one : Fits w64 (k + 1)
      message_one = record { fits = omega (arith, counted.0.few, counted.1) }

      pub message_two : Fits w64 (k + 2)
      message_two = record { fits = omega (arith, counted.0.few, counted.1) }

      pub message_in : 4 * (k + 1) + 4 ≤ length file
      message_in = omega (arith, counted.0.there, counted.1)

      pub message_behind : 4 * (k + 2) + 4 ≤ length file
      message_behind = omega (arith, counted.0.there, counted.1)

      pub message_at_lem : (a b : ℕ) → a ≡ number file (k + 1) → b ≡ number file (k + 2) → P.At a b ≡ message_of file k
      unfolding message_of
      message_at_lem a b f i = rw (day_is file counted.0, lt-ltb k (number file 0) (omega (arith, counted.1)), f, i)

pub ruleset message_cases = (message_bad, message_past, message_one, message_two, message_in, message_behind, message_at_lem)

-- and its part of the file
module _ (file : List ℕ) (k : ℕ) (r : Part) (e : r ≡ message_of file k) where
  module _ (a b : ℕ) (g : r ≡ P.At a b) where
    pub placed : Day file × ((k < number file 0) × ((a ≡ number file (k + 1)) × (b ≡ number file (k + 2))))
    unfolding message_of
    placed =
        by_bool (accepted file)
        (λ t.
        by_lt k (number file 0)
        (λ h. let f : P.At (number file (k + 1)) (number file (k + 2)) ≡ P.At a b = rw (t, lt-ltb k (number file 0) h) at (sym e ∙ g) in (is_day file t, (h, (sym (same_start f), sym (same_end f)))))
        (λ h. no_at (rw (t, le-ltb k (number file 0) h) at (sym e ∙ g))))
        (λ f. no_at (rw f at (sym e ∙ g)))

    pub part_order : a ≤ b
    part_order = omega (arith, placed.0.rising k placed.1.0, placed.1.1.0, placed.1.1.1)

    pub part_in : b ≤ length file
    part_in = let q : k + 1 + 1 ≡ k + 2 = omega arith in omega (arith, rw q at (within file placed.0 (k + 1) (omega (arith, placed.1.0))), placed.1.1.1)

    pub part_is : take (b - a) (drop a file) ≡ part_of file (message_of file k)
    part_is =
        let q : a + (b - a) ≡ b = omega (arith, part_order) in
        take_drop a (b - a) file ∙ ap (λ (m : ℕ). slice a m file) q ∙ ap (part_of file) (sym g ∙ e)

  pub part_none : (why : ℕ) → r ≡ P.Refused why → [] ≡ part_of file (message_of file k)
  part_none why g = ap (part_of file) (sym g ∙ e)

pub ruleset part_cases = (part_order, part_in, part_is, part_none)
