-- What the calls answer at each of their returns, from what they know there. Assumes nothing.
use mathlib.Core.Path.{◌≡◌, refl, sym, ap, ap₂, ◌∙◌}
use mathlib.Core.Bool.{Bool, true, false, cond}
use mathlib.Core.List.{List, []}
use mathlib.Core.Logic.{◌⊎◌, inl, inr, ⊎_elim}
use Prim.Native.Nat.{ℕ, zero, suc, ◌+◌, ◌-◌, ◌/◌, ◌%◌, ◌^◌, ◌≤◌, ◌<◌}
use native.Mathlib.Nat.{add-zero}
use native.Mathlib.Omega.{arith}
use native.Mathlib.Decide.{dec_lt}
use borrow.Author.Rules.{sfits_of}
use borrow.Author.Tests.{eq-eqb, ne_eqb, lt-ltb, le-ltb, le-leb, lt-leb, ltb-true}
use lib.Dec.{leb, ltb, eqb}
use lib.ListN.{length, get_or, take, drop, length-drop}
use lib.Seq.{length-take-le}
use lib.IntN.{ℤ}
use mir.Syntax.{w8, w32, w64}
use mir.Val.{to_z, Fits}
use mir.Facts.{to_z-of_z}
use Rattle.types.specs.Refusals.{END, BAD_VERSION, BAD_BOOL, SIZE_LIMIT, NEGATIVE_SIZE, BAD_UTF8, RANGE}
use Rattle.types.specs.Codes.{type_code, type_by_number, element_type, message_by_number}
use Rattle.types.specs.declared.TType.{TType}
use Rattle.types.specs.declared.TType.TheVariants as T
use Rattle.types.specs.declared.TypeRead.{TypeRead}
use Rattle.types.specs.declared.TypeRead.TheVariants as R
use Rattle.types.specs.declared.Place.{Place}
use Rattle.types.specs.declared.TMessageType.{TMessageType}
use Rattle.types.specs.declared.MessageTypeRead.{MessageTypeRead}
use Rattle.types.specs.declared.MessageTypeRead.TheVariants as MR
use Rattle.types.specs.declared.TConfiguration.{TConfiguration}
use Rattle.tables.specs.Rows.{element_no, list_row}
use Rattle.numbers.specs.Varint.{Found, got, refused, placed, varint, varint_at}
use Rattle.zigzag.specs.Zigzag.{unzigzag, in_range16}
use Rattle.numbers.specs.Fixed.{little}
use Rattle.numbers.specs.Answers.{as32, as64, as16, as_bits, signed16, varint32_at, varint64_at, signed16_at, little_at, bits64_at}
use Rattle.numbers.specs.declared.Varint32.{Varint32}
use Rattle.numbers.specs.declared.Varint32.TheVariants as V32
use Rattle.numbers.specs.declared.Varint64.{Varint64}
use Rattle.numbers.specs.declared.Varint64.TheVariants as V64
use Rattle.numbers.specs.declared.Int16.{Int16}
use Rattle.numbers.specs.declared.Int16.TheVariants as N16
use Rattle.numbers.specs.declared.Bits64.{Bits64}
use Rattle.numbers.specs.declared.Bits64.TheVariants as B64
use Rattle.numbers.proofs.Got.{found32, found64, within32}
use Rattle.numbers.proofs.Found.{take_drop, within}
use Rattle.utf8.specs.Utf8.{utf8}
use Rattle.heads.specs.Reader.{done, onward, and_then, provided, some, read_at}
use Rattle.heads.specs.Heads.{int8, number32, number64, int16, int32, int64, double, uuid, truth, binary, text, typed, counted, listed, items, mapped, pairs, message_typed, named, versioned, message}
use Rattle.heads.specs.Answers.{place, seq_of, to_i8, int8_at, to_i16, int16_at, to_i32, int32_at, to_i64, int64_at, to_double, double_at, to_bool, truth_at, to_part, some_at, uuid_at, binary_at, text_at, count_why, to_list, listed_at, items_at, to_map, mapped_at, pairs_at, to_message, named_at, kind_at, message_at}
use Rattle.heads.specs.declared.I8Read.TheVariants as I8
use Rattle.heads.specs.declared.I16Read.TheVariants as I16
use Rattle.heads.specs.declared.I32Read.TheVariants as I32
use Rattle.heads.specs.declared.I64Read.TheVariants as I64
use Rattle.heads.specs.declared.DoubleRead.TheVariants as D
use Rattle.heads.specs.declared.BoolRead.TheVariants as B
use Rattle.heads.specs.declared.PartRead.{PartRead}
use Rattle.heads.specs.declared.PartRead.TheVariants as P
use Rattle.heads.specs.declared.ListHead.{ListHead}
use Rattle.heads.specs.declared.ListHead.TheVariants as L
use Rattle.heads.specs.declared.MapHead.{MapHead}
use Rattle.heads.specs.declared.MapHead.TheVariants as M
use Rattle.heads.specs.declared.MessageHead.{MessageHead}
use Rattle.heads.specs.declared.MessageHead.TheVariants as H
use Rattle.types.proofs.Tables.{Misses, missed}
use Rattle.heads.proofs.Lawful.{not_both}
use Rattle.heads.proofs.Steps.{step, stop_at, split, done_at, refuse_at, byte_at, byte_out, provided_yes, provided_no}

-- read_i8
module _ (s : List ℕ) (at : ℕ) where
  pub i8_end : length s ≤ at → I8.Refused END ≡ int8_at s at
  unfolding int8_at int8
  i8_end h = sym (ap to_i8 (stop_at _ _ s at END (byte_out s at h)))

  pub i8_got : (z : ℤ) → at < length s → z ≡ to_z w8 (get_or s at 0) → I8.Got z (place (at + 1)) ≡ int8_at s at
  unfolding int8_at int8
  i8_got z h e = ap (λ (y : ℤ). I8.Got y (place (at + 1))) e ∙ sym (ap to_i8 (step _ _ s at _ _ (byte_at s at h) ∙ done_at s _ _))

pub ruleset i8_cases = (i8_end, i8_got, to_z-of_z, sfits_of)

-- the numbers' own answers, as readers at a place
not32 : (x : Found ℕ) (why : ℕ) → as32 x ≡ V32.Refused why → x ≡ refused why
not32 (got u q) why e = let z : ◌≡◌ {A = ℕ} 0 1 = cc in absurd (omega arith)
not32 (refused u) why e = cc

not64 : (x : Found ℕ) (why : ℕ) → as64 x ≡ V64.Refused why → x ≡ refused why
not64 (got u q) why e = let z : ◌≡◌ {A = ℕ} 0 1 = cc in absurd (omega arith)
not64 (refused u) why e = cc

module _ (s : List ℕ) (at : ℕ) (r : Varint32) (e : r ≡ varint32_at s at) where
  pub is_32 : (n p : ℕ) → r ≡ V32.Got n p → read_at number32 s at ≡ got n p
  unfolding read_at number32
  is_32 n p g = found32 s at n p (sym e ∙ g)

  pub no_32 : (why : ℕ) → r ≡ V32.Refused why → read_at number32 s at ≡ refused why
  unfolding read_at number32 varint32_at
  no_32 why g = not32 (varint_at 32 5 s at) why (sym e ∙ g)

  -- read_i32
  pub i32_got : (n p : ℕ) (z : ℤ) → r ≡ V32.Got n p → z ≡ unzigzag n → I32.Got z (place p) ≡ int32_at s at
  unfolding int32_at int32
  i32_got n p z g k = ap (λ (y : ℤ). I32.Got y (place p)) k ∙ sym (ap to_i32 (step _ _ s at _ _ (is_32 n p g) ∙ done_at s _ _))

  pub i32_refused : (why : ℕ) → r ≡ V32.Refused why → I32.Refused why ≡ int32_at s at
  unfolding int32_at int32
  i32_refused why g = sym (ap to_i32 (stop_at _ _ s at _ (no_32 why g)))

pub ruleset i32_cases = (i32_got, i32_refused, to_z-of_z, sfits_of)

-- read_i64
module _ (s : List ℕ) (at : ℕ) (r : Varint64) (e : r ≡ varint64_at s at) where
  is_64 : (n p : ℕ) → r ≡ V64.Got n p → read_at number64 s at ≡ got n p
  unfolding read_at number64
  is_64 n p g = found64 s at n p (sym e ∙ g)

  no_64 : (why : ℕ) → r ≡ V64.Refused why → read_at number64 s at ≡ refused why
  unfolding read_at number64 varint64_at
  no_64 why g = not64 (varint_at 64 10 s at) why (sym e ∙ g)

  pub i64_got : (n p : ℕ) (z : ℤ) → r ≡ V64.Got n p → z ≡ unzigzag n → I64.Got z (place p) ≡ int64_at s at
  unfolding int64_at int64
  i64_got n p z g k = ap (λ (y : ℤ). I64.Got y (place p)) k ∙ sym (ap to_i64 (step _ _ s at _ _ (is_64 n p g) ∙ done_at s _ _))

  pub i64_refused : (why : ℕ) → r ≡ V64.Refused why → I64.Refused why ≡ int64_at s at
  unfolding int64_at int64
  i64_refused why g = sym (ap to_i64 (stop_at _ _ s at _ (no_64 why g)))

pub ruleset i64_cases = (i64_got, i64_refused, to_z-of_z, sfits_of)

-- read_i16
-- as a reader, and as numbers has it
ranged : (at : ℕ) (z : ℤ) (n : ℕ) (bs : List ℕ) → placed at (placed n (provided (in_range16 z) RANGE (done z) bs)) ≡ cond (in_range16 z) (got z (at + n)) (refused RANGE)
unfolding provided done
ranged at z n bs = go (in_range16 z)
  where
    go : (b : Bool) → placed at (placed n (cond b (got z 0) (refused RANGE))) ≡ cond b (got z (at + n)) (refused RANGE)
    go true = ap (got z) (omega arith)
    go false = refl

placed_16 : (at : ℕ) (bs : List ℕ) → placed at (int16 bs) ≡ signed16 (placed at (varint 32 5 bs))
unfolding int16 int32 and_then done number32
placed_16 at bs = go (varint 32 5 bs)
  where
    go : (x : Found ℕ) → placed at (onward (λ z. provided (in_range16 z) RANGE (done z)) bs (onward (λ n. done (unzigzag n)) bs x)) ≡ signed16 (placed at x)
    go (got v n) = ranged at (unzigzag v) (n + 0) (drop (n + 0) bs) ∙ ap (λ (m : ℕ). signed16 (got v m)) (omega arith)
    go (refused why) = refl

is16 : (x : Found ℤ) (z : ℤ) (p : ℕ) → as16 x ≡ N16.Got z p → x ≡ got z p
is16 (got y q) z p e = cc
is16 (refused why) z p e = let z' : ◌≡◌ {A = ℕ} 0 1 = cc in absurd (omega arith)

not16 : (x : Found ℤ) (why : ℕ) → as16 x ≡ N16.Refused why → x ≡ refused why
not16 (got y q) why e = let z : ◌≡◌ {A = ℕ} 0 1 = cc in absurd (omega arith)
not16 (refused u) why e = cc

module _ (s : List ℕ) (at : ℕ) (r : Int16) (e : r ≡ signed16_at s at) where
  pub is_16 : (z : ℤ) (p : ℕ) → r ≡ N16.Got z p → read_at int16 s at ≡ got z p
  unfolding read_at signed16_at
  is_16 z p g = placed_16 at (drop at s) ∙ is16 (signed16 (varint_at 32 5 s at)) z p (sym e ∙ g)

  pub no_16 : (why : ℕ) → r ≡ N16.Refused why → read_at int16 s at ≡ refused why
  unfolding read_at signed16_at
  no_16 why g = placed_16 at (drop at s) ∙ not16 (signed16 (varint_at 32 5 s at)) why (sym e ∙ g)

  pub i16_got : (z : ℤ) (p : ℕ) → r ≡ N16.Got z p → I16.Got z (place p) ≡ int16_at s at
  unfolding int16_at
  i16_got z p g = sym (ap to_i16 (is_16 z p g))

  pub i16_refused : (why : ℕ) → r ≡ N16.Refused why → I16.Refused why ≡ int16_at s at
  unfolding int16_at
  i16_refused why g = sym (ap to_i16 (no_16 why g))

pub ruleset i16_cases = (i16_got, i16_refused, to_z-of_z, sfits_of)

-- the next n bytes at a place
module _ (s : List ℕ) (n at : ℕ) where
  pub some_at_lem : at ≤ length s → n ≤ length s - at → read_at (some n) s at ≡ got (take n (drop at s)) (at + n)
  unfolding read_at some
  some_at_lem h k = rw (le-leb n (length (drop at s)) (omega (arith, length-drop at s)))

  pub some_out : length s - at < n → read_at (some n) s at ≡ refused END
  unfolding read_at some
  some_out h = rw (lt-leb n (length (drop at s)) (omega (arith, length-drop at s)))

  pub part_out : length s - at < n → P.Refused END ≡ some_at s n at
  unfolding some_at
  part_out h = sym (ap to_part (some_out h))

  pub part_got : at ≤ length s → n ≤ length s - at → P.Got (place at) (place (at + n)) ≡ some_at s n at
  unfolding some_at
  part_got h k =
      let fit : length (take n (drop at s)) ≡ n = length-take-le n (drop at s) (omega (arith, length-drop at s)) in
      let back : at ≡ at + n - length (take n (drop at s)) = omega arith in
      ap (λ (m : ℕ). P.Got (place m) (place (at + n))) back ∙ sym (ap to_part (some_at_lem h k))

  pub part_fits : at ≤ length s → n ≤ length s - at → length s < 2 ^ 64 → Fits w64 (at + n)
  part_fits h k l = record { fits = omega arith }

pub ruleset some_cases = (part_out, part_got, part_fits)

-- read_uuid
module _ (s : List ℕ) (at : ℕ) where
  pub uuid_out : length s < at → P.Refused END ≡ uuid_at s at
  unfolding uuid_at uuid
  uuid_out h = sym (ap to_part (some_out s 16 at (omega arith)))

  pub uuid_is : (r : PartRead) → r ≡ some_at s 16 at → r ≡ uuid_at s at
  unfolding uuid_at uuid some_at
  uuid_is r e = e

pub ruleset uuid_cases = (uuid_out, uuid_is)

-- read_double
is_bits : (x : Found ℕ) (v p : ℕ) → as_bits x ≡ B64.Got v p → x ≡ got v p
is_bits (got u q) v p e = cc
is_bits (refused why) v p e = let z : ◌≡◌ {A = ℕ} 0 1 = cc in absurd (omega arith)

not_bits : (x : Found ℕ) (why : ℕ) → as_bits x ≡ B64.Refused why → x ≡ refused why
not_bits (got u q) why e = let z : ◌≡◌ {A = ℕ} 0 1 = cc in absurd (omega arith)
not_bits (refused u) why e = cc

double_at_lem : (s : List ℕ) (at : ℕ) → read_at double s at ≡ little_at 8 s at
unfolding double
double_at_lem s at = go (dec_lt (length s) (at + 8))
  where
    go : Dec (length s < at + 8) → read_at double s at ≡ little_at 8 s at
    go (yes h) = rw (lt-ltb (length s) (at + 8) h) (stop_at _ _ s at _ (some_out s 8 at (omega arith)))
    go (no h) =
        rw (le-ltb (length s) (at + 8) (omega arith))
        (step _ _ s at _ _ (some_at_lem s 8 at (omega arith) (omega arith))
        ∙ done_at s _ _
        ∙ ap (λ (l : List ℕ). got (little l) (at + 8)) (take_drop at 8 s))

module _ (s : List ℕ) (at : ℕ) (r : Bits64) (e : r ≡ bits64_at s at) where
  pub double_got : (n p : ℕ) → r ≡ B64.Got n p → D.Got n (place p) ≡ double_at s at
  unfolding double_at bits64_at
  double_got n p g = sym (ap to_double (double_at_lem s at ∙ is_bits (little_at 8 s at) n p (sym e ∙ g)))

  pub double_refused : (why : ℕ) → r ≡ B64.Refused why → D.Refused why ≡ double_at s at
  unfolding double_at bits64_at
  double_refused why g = sym (ap to_double (double_at_lem s at ∙ not_bits (little_at 8 s at) why (sym e ∙ g)))

pub ruleset double_cases = (double_got, double_refused)

-- read_bool
module _ (s : List ℕ) (at : ℕ) where
  pub truth_end : length s ≤ at → B.Refused END ≡ truth_at s at
  unfolding truth_at truth
  truth_end h = sym (ap to_bool (stop_at _ _ s at END (byte_out s at h)))

  module _ (h : at < length s) where
    judged : truth_at s at ≡ to_bool (read_at (provided (ltb (get_or s at 0) 3) BAD_BOOL (done (eqb (get_or s at 0) 1))) s (at + 1))
    unfolding truth_at truth
    judged = ap to_bool (step _ _ s at _ _ (byte_at s at h))

    said : (b : ℕ) → b < 3 → get_or s at 0 ≡ b → B.Got (eqb b 1) (place (at + 1)) ≡ truth_at s at
    said b k e = sym (judged ∙ rw e (ap to_bool (provided_yes s _ _ _ _ (lt-ltb b 3 k) ∙ done_at s _ _)))

    pub truth_zero : get_or s at 0 ≡ 0 → B.Got false (place (at + 1)) ≡ truth_at s at
    truth_zero e = said 0 (omega arith) e

    pub truth_one : get_or s at 0 ≡ 1 → B.Got true (place (at + 1)) ≡ truth_at s at
    truth_one e = said 1 (omega arith) e

    pub truth_two : get_or s at 0 ≡ 2 → B.Got false (place (at + 1)) ≡ truth_at s at
    truth_two e = said 2 (omega arith) e

    pub truth_else : Misses 0 3 (get_or s at 0) → B.Refused BAD_BOOL ≡ truth_at s at
    truth_else m =
        let big : 3 ≤ get_or s at 0 = ⊎_elim (λ (z : get_or s at 0 < 0). absurd (omega arith)) (λ (z : 0 + 3 ≤ get_or s at 0). omega arith) (missed 0 3 (get_or s at 0) m) in
        sym (judged ∙ ap to_bool (provided_no s _ _ _ _ (le-ltb (get_or s at 0) 3 big)))

pub ruleset truth_cases = (truth_end, truth_zero, truth_one, truth_two, truth_else)

-- read_bytes
module _ (s : List ℕ) (lim : TConfiguration) (at : ℕ) (r : Varint32) (e : r ≡ varint32_at s at) where
  pub bytes_refused : (why : ℕ) → r ≡ V32.Refused why → P.Refused why ≡ binary_at s lim at
  unfolding binary_at binary
  bytes_refused why g = sym (ap to_part (stop_at _ _ s at _ (no_32 s at r e why g)))

  module _ (n p : ℕ) (g : r ≡ V32.Got n p) where
    pub bytes_long : lim.string < n → P.Refused SIZE_LIMIT ≡ binary_at s lim at
    unfolding binary_at binary
    bytes_long h = sym (ap to_part (step _ _ s at _ _ (is_32 s at r e n p g) ∙ provided_no s p _ _ _ (lt-leb n lim.string h)))

    pub bytes_some : (q : PartRead) → n ≤ lim.string → q ≡ some_at s n p → q ≡ binary_at s lim at
    unfolding binary_at binary some_at
    bytes_some q h k = k ∙ sym (ap to_part (step _ _ s at _ _ (is_32 s at r e n p g) ∙ provided_yes s p _ _ _ (le-leb n lim.string h)))

    pub bytes_from : p ≤ length s
    bytes_from = (within32 s at n p (sym e ∙ g)).inside

pub ruleset bytes_cases = (bytes_refused, bytes_long, bytes_some, bytes_from)

-- read_string: which bytes a binary's are
pub record Part (s : List ℕ) (bs : List ℕ) (e : ℕ) : Type 0 where
  pub behind : length bs ≤ e
  pub inside : e ≤ length s
  pub is : bs ≡ take (length bs) (drop (e - length bs) s)

some_part : (s : List ℕ) (n at : ℕ) (bs : List ℕ) (e : ℕ) → at ≤ length s → read_at (some n) s at ≡ got bs e → Part s bs e
some_part s n at bs e h f = go (dec_lt (length s - at) n)
  where
    go : Dec (length s - at < n) → Part s bs e
    go (yes k) = not_both (sym (some_out s n at k) ∙ f)
    go (no k) =
        let g : got (take n (drop at s)) (at + n) ≡ got bs e = sym (some_at_lem s n at h (omega arith)) ∙ f in
        let l : bs ≡ take n (drop at s) = cc in
        let ee : e ≡ at + n = cc in
        let fit : length bs ≡ n = ap length l ∙ length-take-le n (drop at s) (omega (arith, length-drop at s)) in
        let start : e - length bs ≡ at = omega arith in
        record { behind = omega arith; inside = omega arith; is = l ∙ ap₂ (λ (m p : ℕ). take m (drop p s)) (sym fit) (sym start) }

number32_inside : (s : List ℕ) (at n m : ℕ) → read_at number32 s at ≡ got n m → m ≤ length s
unfolding read_at number32
number32_inside s at n m e = (within 32 5 s at n m e).inside

binary_part : (s : List ℕ) (lim : TConfiguration) (at : ℕ) (bs : List ℕ) (e : ℕ) → read_at (binary lim) s at ≡ got bs e → Part s bs e
unfolding binary
binary_part s lim at bs e f = go (leb g.0 lim.string) refl
  where
    g : (n : ℕ) × (m : ℕ) × (read_at number32 s at ≡ got n m) × (read_at (provided (leb n lim.string) SIZE_LIMIT (some n)) s m ≡ got bs e)
    g = split number32 (λ n. provided (leb n lim.string) SIZE_LIMIT (some n)) s at bs e f

    go : (b : Bool) → leb g.0 lim.string ≡ b → Part s bs e
    go true h = some_part s g.0 g.1 bs e (number32_inside s at g.0 g.1 g.2) (sym (provided_yes s g.1 _ _ _ h) ∙ g.3)
    go false h = not_both (sym (provided_no s g.1 _ _ _ h) ∙ g.3)

pub is_part : (x : Found (List ℕ)) (a z : Place) → to_part x ≡ P.Got a z → (bs : List ℕ) × (x ≡ got bs z.0) × (a.0 ≡ z.0 - length bs)
is_part (got bs e) a z f =
    let zz : place e ≡ z = cc in
    let aa : place (e - length bs) ≡ a = cc in
    let ze : e ≡ z.0 = ap (λ (q : Place). q.0) zz in
    (bs, ap (got bs) ze, sym (ap (λ (q : Place). q.0) aa) ∙ ap (λ (m : ℕ). m - length bs) ze)
is_part (refused why) a z f = let o : ◌≡◌ {A = ℕ} 0 1 = cc in absurd (omega arith)

pub no_part : (x : Found (List ℕ)) (why : ℕ) → to_part x ≡ P.Refused why → x ≡ refused why
no_part (got bs e) why f = let o : ◌≡◌ {A = ℕ} 0 1 = cc in absurd (omega arith)
no_part (refused u) why f = cc

module _ (s : List ℕ) (lim : TConfiguration) (at : ℕ) (q : PartRead) (e : q ≡ binary_at s lim at) where
  pub text_refused : (why : ℕ) → q ≡ P.Refused why → P.Refused why ≡ text_at s lim at
  unfolding text_at text binary_at
  text_refused why g = sym (ap to_part (stop_at _ _ s at _ (no_part (read_at (binary lim) s at) why (sym e ∙ g))))

  module _ (a z : Place) (g : q ≡ P.Got a z) where
    bytes_found : (bs : List ℕ) × (read_at (binary lim) s at ≡ got bs z.0) × (a.0 ≡ z.0 - length bs)
    unfolding binary_at
    bytes_found = is_part (read_at (binary lim) s at) a z (sym e ∙ g)

    the_part : Part s bytes_found.0 z.0
    the_part = binary_part s lim at bytes_found.0 z.0 bytes_found.1

    pub text_order : a.0 ≤ z.0
    text_order = omega (arith, bytes_found.2)

    pub text_inside : z.0 ≤ length s
    text_inside = the_part.inside

    these : take (z.0 - a.0) (drop a.0 s) ≡ bytes_found.0
    these =
        let n : z.0 - a.0 ≡ length bytes_found.0 = omega (arith, bytes_found.2, the_part.behind) in
        ap₂ (λ (m p : ℕ). take m (drop p s)) n bytes_found.2 ∙ sym the_part.is

    judged_text : read_at (text lim) s at ≡ read_at (provided (utf8 bytes_found.0) BAD_UTF8 (done bytes_found.0)) s z.0
    unfolding text
    judged_text = step _ _ s at _ _ bytes_found.1

    whole : to_part (got bytes_found.0 z.0) ≡ P.Got a z
    whole = ap (λ (m : ℕ). P.Got (place m) z) (sym bytes_found.2)

    module _ (u : Bool) (f : u ≡ utf8 (take (z.0 - a.0) (drop a.0 s))) where
      pub text_yes : u ≡ true → P.Got a z ≡ text_at s lim at
      unfolding text_at
      text_yes h = sym (ap to_part (judged_text ∙ provided_yes s _ _ _ _ (sym (ap utf8 these) ∙ sym f ∙ h) ∙ done_at s _ _) ∙ whole)

      pub text_no : u ≡ false → P.Refused BAD_UTF8 ≡ text_at s lim at
      unfolding text_at
      text_no h = sym (ap to_part (judged_text ∙ provided_no s _ _ _ _ (sym (ap utf8 these) ∙ sym f ∙ h)))

pub ruleset text_cases = (text_refused, text_order, text_inside, text_yes, text_no)

-- counts
module _ (lim : TConfiguration) (n : ℕ) where
  pub count_negative : 2147483647 < n → NEGATIVE_SIZE ≡ count_why lim n
  unfolding count_why counted provided
  count_negative h = rw (lt-leb n 2147483647 h)

  pub count_over : n ≤ 2147483647 → lim.container < n → SIZE_LIMIT ≡ count_why lim n
  unfolding count_why counted provided
  count_over h k = rw (le-leb n 2147483647 h, lt-leb n lim.container k)

  pub count_well : n ≤ 2147483647 → n ≤ lim.container → 0 ≡ count_why lim n
  unfolding count_why counted provided done
  count_well h k = rw (le-leb n 2147483647 h, le-leb n lim.container k)

  -- a count passes or is refused, whatever the bytes
  module _ (why : ℕ) (e : why ≡ count_why lim n) (bs : List ℕ) where
    by_tests : (a b : Bool) → leb n 2147483647 ≡ a → leb n lim.container ≡ b → (why ≡ 0 → counted lim n bs ≡ got n 0) × ((why ≡ 0 → ⊥) → counted lim n bs ≡ refused why)
    unfolding count_why counted provided done
    by_tests true true f g = rw (f, g) ((λ z. refl), (λ z. absurd (z (rw (f, g) at e))))
    by_tests true false f g = let w : why ≡ SIZE_LIMIT = rw (f, g) at e in rw (f, g) ((λ z. absurd (omega arith)), (λ z. ap refused (sym w)))
    by_tests false b f g = let w : why ≡ NEGATIVE_SIZE = rw f at e in rw f ((λ z. absurd (omega arith)), (λ z. ap refused (sym w)))

    pub count_got : why ≡ 0 → counted lim n bs ≡ got n 0
    count_got z = (by_tests (leb n 2147483647) (leb n lim.container) refl refl).0 z

    pub count_no : (why ≡ 0 → ⊥) → counted lim n bs ≡ refused why
    count_no z = (by_tests (leb n 2147483647) (leb n lim.container) refl refl).1 z

-- at a place
module _ (s : List ℕ) (lim : TConfiguration) (n at why : ℕ) (e : why ≡ count_why lim n) where
  counted_well : why ≡ 0 → read_at (counted lim n) s at ≡ got n at
  unfolding read_at
  counted_well z = rw (count_got lim n why e (drop at s) z, add-zero)

  uncounted : (why ≡ 0 → ⊥) → read_at (counted lim n) s at ≡ refused why
  unfolding read_at
  uncounted z = rw (count_no lim n why e (drop at s) z)

pub ruleset count_cases = (count_negative, count_over, count_well)

-- a list's header
module _ (lim : TConfiguration) (t : TType) (n : ℕ) (why : ℕ) (e : why ≡ count_why lim n) where
  pub listed_no : (at : ℕ) → (why ≡ 0 → ⊥) → L.Refused why ≡ listed_at lim t n at
  unfolding listed_at listed and_then
  listed_no at z = rw (count_no lim n why e [] z)

  pub listed_yes : (at : ℕ) → why ≡ 0 → L.Got t n (place at) ≡ listed_at lim t n at
  unfolding listed_at listed and_then done
  listed_yes at z = rw (count_got lim n why e [] z, add-zero)

pub ruleset listed_cases = (listed_no, listed_yes)

by_zero : (n : ℕ) → (n ≡ 0) ⊎ (n ≡ 0 → ⊥)
by_zero zero = inl refl
by_zero (suc n) = inr (λ e. omega arith)

-- whatever the bytes
listed_at_lem : (s : List ℕ) (lim : TConfiguration) (t : TType) (n at : ℕ) → to_list (read_at (listed lim t n) s at) ≡ listed_at lim t n at
unfolding listed
listed_at_lem s lim t n at = go (by_zero (count_why lim n))
  where
    go : (count_why lim n ≡ 0) ⊎ (count_why lim n ≡ 0 → ⊥) → to_list (read_at (and_then (counted lim n) (λ m. done (t, m))) s at) ≡ listed_at lim t n at
    go (inl z) = ap to_list (step _ _ s at _ _ (counted_well s lim n at (count_why lim n) refl z) ∙ done_at s _ _) ∙ listed_yes lim t n (count_why lim n) refl at z
    go (inr z) = ap to_list (stop_at _ _ s at _ (uncounted s lim n at (count_why lim n) refl z)) ∙ listed_no lim t n (count_why lim n) refl at z

-- a container's type by its code
module _ (s : List ℕ) (code at : ℕ) (r : TypeRead) (e : r ≡ element_type code) where
  typed_yes : (t : TType) → r ≡ R.Got t → read_at (typed (element_type code)) s at ≡ got t at
  typed_yes t g = ap (λ (x : TypeRead). read_at (typed x) s at) (sym e ∙ g) ∙ done_at s at t

  typed_no : (why : ℕ) → r ≡ R.Refused why → read_at (typed (element_type code)) s at ≡ refused why
  typed_no why g = ap (λ (x : TypeRead). read_at (typed x) s at) (sym e ∙ g) ∙ refuse_at s at why

-- a list's first byte by the table: a type by its number in the row is the one that the code's rule gives, and the count is the high 4 bits
abbrev Element : ℕ → Type 0
Element c = (type_by_number (element_no (element_type c)) ≡ element_type c) × (ltb (element_no (element_type c)) 16 ≡ true)

-- all codes, by computing each
element : (c : ℕ) → c < 16 → Element c
unfolding element_type type_by_number type_code
element zero h = (refl, refl)
element (suc zero) h = (refl, refl)
element (suc (suc zero)) h = (refl, refl)
element (suc (suc (suc zero))) h = (refl, refl)
element (suc (suc (suc (suc zero)))) h = (refl, refl)
element (suc (suc (suc (suc (suc zero))))) h = (refl, refl)
element (suc (suc (suc (suc (suc (suc zero)))))) h = (refl, refl)
element (suc (suc (suc (suc (suc (suc (suc zero))))))) h = (refl, refl)
element (suc (suc (suc (suc (suc (suc (suc (suc zero)))))))) h = (refl, refl)
element (suc (suc (suc (suc (suc (suc (suc (suc (suc zero))))))))) h = (refl, refl)
element (suc (suc (suc (suc (suc (suc (suc (suc (suc (suc zero)))))))))) h = (refl, refl)
element (suc (suc (suc (suc (suc (suc (suc (suc (suc (suc (suc zero))))))))))) h = (refl, refl)
element (suc (suc (suc (suc (suc (suc (suc (suc (suc (suc (suc (suc zero)))))))))))) h = (refl, refl)
element (suc (suc (suc (suc (suc (suc (suc (suc (suc (suc (suc (suc (suc zero))))))))))))) h = (refl, refl)
element (suc (suc (suc (suc (suc (suc (suc (suc (suc (suc (suc (suc (suc (suc zero)))))))))))))) h = (refl, refl)
element (suc (suc (suc (suc (suc (suc (suc (suc (suc (suc (suc (suc (suc (suc (suc zero))))))))))))))) h = (refl, refl)
element (suc (suc (suc (suc (suc (suc (suc (suc (suc (suc (suc (suc (suc (suc (suc (suc c)))))))))))))))) h = absurd (omega arith)

module _ (b row : ℕ) (e : row ≡ list_row b) where
  row_small : element_no (element_type (b % 16)) < 16
  row_small = ltb-true _ 16 (element (b % 16) (omega arith)).1

  row_count : row / 256 ≡ b / 16
  unfolding list_row
  row_count = rw e (omega (arith, row_small))

  row_element : (r : TypeRead) → r ≡ type_by_number (row % 256) → r ≡ element_type (b % 16)
  unfolding list_row
  row_element r f = let k : row % 256 ≡ element_no (element_type (b % 16)) = rw e (omega (arith, row_small)) in f ∙ ap type_by_number k ∙ (element (b % 16) (omega arith)).0

-- read_list_begin
module _ (s : List ℕ) (lim : TConfiguration) (at : ℕ) where
  pub list_end : length s ≤ at → L.Refused END ≡ items_at s lim at
  unfolding items_at items
  list_end h = sym (ap to_list (stop_at _ _ s at END (byte_out s at h)))

  module _ (h : at < length s) (row : ℕ) (w : row ≡ list_row (get_or s at 0)) (r : TypeRead) (z : r ≡ type_by_number (row % 256)) where
    e : r ≡ element_type (get_or s at 0 % 16)
    e = row_element _ row w r z

    pub list_untyped : (why : ℕ) → r ≡ R.Refused why → L.Refused why ≡ items_at s lim at
    unfolding items_at items
    list_untyped why g = sym (ap to_list (step _ _ s at _ _ (byte_at s at h) ∙ stop_at _ _ s _ _ (typed_no s _ (at + 1) r e why g)))

    module _ (t : TType) (g : r ≡ R.Got t) where
      sized : items_at s lim at ≡ to_list (read_at (and_then (cond (ltb (row / 256) 15) (done (row / 256)) number32) (listed lim t)) s (at + 1))
      unfolding items_at items
      sized = rw (row_count _ row w) (ap to_list (step _ _ s at _ _ (byte_at s at h) ∙ step _ _ s _ _ _ (typed_yes s _ (at + 1) r e t g)))

      pub list_short : (q : ListHead) → row / 256 < 15 → q ≡ listed_at lim t (row / 256) (at + 1) → q ≡ items_at s lim at
      list_short q k f = f ∙ sym (sized ∙ rw (lt-ltb _ 15 k) (ap to_list (step _ _ s _ _ _ (done_at s (at + 1) (row / 256))) ∙ listed_at_lem s lim t _ _))

      module _ (k : 15 ≤ row / 256) (v : Varint32) (x : v ≡ varint32_at s (at + 1)) where
        pub list_uncounted : (why : ℕ) → v ≡ V32.Refused why → L.Refused why ≡ items_at s lim at
        list_uncounted why y = sym (sized ∙ rw (le-ltb _ 15 k) (ap to_list (stop_at _ _ s _ _ (no_32 s (at + 1) v x why y))))

        pub list_long : (n p : ℕ) (q : ListHead) → v ≡ V32.Got n p → q ≡ listed_at lim t n p → q ≡ items_at s lim at
        list_long n p q y f = f ∙ sym (sized ∙ rw (le-ltb _ 15 k) (ap to_list (step _ _ s _ _ _ (is_32 s (at + 1) v x n p y)) ∙ listed_at_lem s lim t n p))

pub ruleset list_cases = (list_end, list_untyped, list_short, list_uncounted, list_long)

-- a map's header
module _ (s : List ℕ) (lim : TConfiguration) (n at : ℕ) where
  pub mapped_end : length s ≤ at → M.Refused END ≡ mapped_at s lim n at
  unfolding mapped_at mapped
  mapped_end h = sym (ap to_map (stop_at _ _ s at END (byte_out s at h)))

  module _ (h : at < length s) (r : TypeRead) (e : r ≡ element_type (get_or s at 0 / 16)) where
    pub mapped_keyless : (why : ℕ) → r ≡ R.Refused why → M.Refused why ≡ mapped_at s lim n at
    unfolding mapped_at mapped
    mapped_keyless why g = sym (ap to_map (step _ _ s at _ _ (byte_at s at h) ∙ stop_at _ _ s _ _ (typed_no s _ (at + 1) r e why g)))

    module _ (k : TType) (g : r ≡ R.Got k) (q : TypeRead) (f : q ≡ element_type (get_or s at 0 % 16)) where
      pub mapped_valueless : (why : ℕ) → q ≡ R.Refused why → M.Refused why ≡ mapped_at s lim n at
      unfolding mapped_at mapped
      mapped_valueless why x = sym (ap to_map (step _ _ s at _ _ (byte_at s at h) ∙ step _ _ s _ _ _ (typed_yes s _ (at + 1) r e k g) ∙ stop_at _ _ s _ _ (typed_no s _ (at + 1) q f why x)))

      module _ (v : TType) (x : q ≡ R.Got v) (why : ℕ) (c : why ≡ count_why lim n) where
        pub mapped_no : (why ≡ 0 → ⊥) → M.Refused why ≡ mapped_at s lim n at
        unfolding mapped_at mapped
        mapped_no z = sym (ap to_map (step _ _ s at _ _ (byte_at s at h) ∙ step _ _ s _ _ _ (typed_yes s _ (at + 1) r e k g) ∙ step _ _ s _ _ _ (typed_yes s _ (at + 1) q f v x) ∙ stop_at _ _ s _ _ (uncounted s lim n (at + 1) why c z)))

        pub mapped_yes : why ≡ 0 → M.Got k v n (place (at + 1)) ≡ mapped_at s lim n at
        unfolding mapped_at mapped
        mapped_yes z = sym (ap to_map (step _ _ s at _ _ (byte_at s at h) ∙ step _ _ s _ _ _ (typed_yes s _ (at + 1) r e k g) ∙ step _ _ s _ _ _ (typed_yes s _ (at + 1) q f v x) ∙ step _ _ s _ _ _ (counted_well s lim n (at + 1) why c z) ∙ done_at s _ _))

pub ruleset mapped_cases = (mapped_end, mapped_keyless, mapped_valueless, mapped_no, mapped_yes)

-- read_map_begin
module _ (s : List ℕ) (lim : TConfiguration) (at : ℕ) (r : Varint32) (e : r ≡ varint32_at s at) where
  pub map_refused : (why : ℕ) → r ≡ V32.Refused why → M.Refused why ≡ pairs_at s lim at
  unfolding pairs_at pairs
  map_refused why g = sym (ap to_map (stop_at _ _ s at _ (no_32 s at r e why g)))

  module _ (n p : ℕ) (g : r ≡ V32.Got n p) where
    behind_count : pairs_at s lim at ≡ to_map (read_at (cond (eqb n 0) (done (T.Stop, T.Stop, 0)) (mapped lim n)) s p)
    unfolding pairs_at pairs
    behind_count = ap to_map (step _ _ s at _ _ (is_32 s at r e n p g))

    pub map_empty : n ≡ 0 → M.Got T.Stop T.Stop 0 (place p) ≡ pairs_at s lim at
    map_empty z = sym (behind_count ∙ rw (eq-eqb n 0 z) (ap to_map (done_at s p _)))

    pub map_pairs : (q : MapHead) → (n ≡ 0 → ⊥) → q ≡ mapped_at s lim n p → q ≡ pairs_at s lim at
    unfolding mapped_at
    map_pairs q z f = f ∙ sym (behind_count ∙ rw (ne_eqb n 0 z))

pub ruleset map_cases = (map_refused, map_empty, map_pairs)

-- a message: the sequence number and the name
module _ (s : List ℕ) (lim : TConfiguration) (m : TMessageType) (at : ℕ) (r : Varint32) (e : r ≡ varint32_at s at) where
  pub named_uncounted : (why : ℕ) → r ≡ V32.Refused why → H.Refused why ≡ named_at s lim m at
  unfolding named_at named
  named_uncounted why g = sym (ap to_message (stop_at _ _ s at _ (no_32 s at r e why g)))

  module _ (n p : ℕ) (g : r ≡ V32.Got n p) (q : PartRead) (f : q ≡ text_at s lim p) where
    pub named_refused : (why : ℕ) → q ≡ P.Refused why → H.Refused why ≡ named_at s lim m at
    unfolding named_at named text_at
    named_refused why x = sym (ap to_message (step _ _ s at _ _ (is_32 s at r e n p g) ∙ stop_at _ _ s _ _ (no_part (read_at (text lim) s p) why (sym f ∙ x))))

    pub named_got : (a z : Place) (i : ℤ) → q ≡ P.Got a z → i ≡ to_z w32 n → H.Got m (seq_of i) a z ≡ named_at s lim m at
    unfolding named_at named text_at
    named_got a z i x k =
        let b = is_part (read_at (text lim) s p) a z (sym f ∙ x) in
        ap₂ (λ (j : ℤ) (c : ℕ). H.Got m (seq_of j) (place c) z) k b.2
        ∙ sym (ap to_message (step _ _ s at _ _ (is_32 s at r e n p g) ∙ step _ _ s _ _ _ b.1 ∙ done_at s _ _))

pub ruleset named_cases = (named_uncounted, named_refused, named_got, to_z-of_z, sfits_of)

-- the second byte
module _ (s : List ℕ) (lim : TConfiguration) (at : ℕ) where
  pub kind_end : length s ≤ at → H.Refused END ≡ kind_at s lim at
  unfolding kind_at versioned
  kind_end h = sym (ap to_message (stop_at _ _ s at END (byte_out s at h)))

  module _ (h : at < length s) where
    pub kind_version : (get_or s at 0 % 32 ≡ 1 → ⊥) → H.Refused BAD_VERSION ≡ kind_at s lim at
    unfolding kind_at versioned
    kind_version v = sym (ap to_message (step _ _ s at _ _ (byte_at s at h) ∙ provided_no s _ _ _ _ (ne_eqb _ 1 v)))

    module _ (v : get_or s at 0 % 32 ≡ 1) (r : MessageTypeRead) (e : r ≡ message_by_number (get_or s at 0 / 32)) where
      by_kind : (x : MessageTypeRead) → r ≡ x → kind_at s lim at ≡ to_message (read_at (and_then (message_typed x) (named lim)) s (at + 1))
      unfolding kind_at versioned
      by_kind x g =
          ap to_message
          (step _ _ s at _ _ (byte_at s at h)
          ∙ provided_yes s _ _ _ _ (eq-eqb _ 1 v)
          ∙ ap (λ (y : MessageTypeRead). read_at (and_then (message_typed y) (named lim)) s (at + 1)) (sym e ∙ g))

      pub kind_refused : (why : ℕ) → r ≡ MR.Refused why → H.Refused why ≡ kind_at s lim at
      kind_refused why g = sym (by_kind (MR.Refused why) g ∙ ap to_message (stop_at _ _ s _ _ (refuse_at s _ _)))

      pub kind_named : (m : TMessageType) (q : MessageHead) → r ≡ MR.Got m → q ≡ named_at s lim m (at + 1) → q ≡ kind_at s lim at
      unfolding named_at
      kind_named m q g f = f ∙ sym (by_kind (MR.Got m) g ∙ ap to_message (step _ _ s _ _ _ (done_at s _ m)))

pub ruleset kind_cases = (kind_end, kind_version, kind_refused, kind_named)

-- read_message_begin
module _ (s : List ℕ) (lim : TConfiguration) (at : ℕ) where
  pub message_end : length s ≤ at → H.Refused END ≡ message_at s lim at
  unfolding message_at message
  message_end h = sym (ap to_message (stop_at _ _ s at END (byte_out s at h)))

  pub message_not : at < length s → (get_or s at 0 ≡ 130 → ⊥) → H.Refused BAD_VERSION ≡ message_at s lim at
  unfolding message_at message
  message_not h v = sym (ap to_message (step _ _ s at _ _ (byte_at s at h) ∙ provided_no s _ _ _ _ (ne_eqb _ 130 v)))

  pub message_is : (q : MessageHead) → at < length s → get_or s at 0 ≡ 130 → q ≡ kind_at s lim (at + 1) → q ≡ message_at s lim at
  unfolding message_at message kind_at
  message_is q h v f = f ∙ sym (ap to_message (step _ _ s at _ _ (byte_at s at h) ∙ provided_yes s _ _ _ _ (eq-eqb _ 130 v)))

pub ruleset message_cases = (message_end, message_not, message_is)
