-- What each function knows at its returns. Assumes nothing.
use mathlib.Core.Path.{◌≡◌, refl, sym, ap, ap₂, ◌∙◌}
use mathlib.Core.Bool.{Bool, true, false, cond}
use mathlib.Core.Logic.{⊎_elim}
use mathlib.Core.List.{List}
use Prim.Native.Nat.{ℕ, ◌+◌, ◌-◌, ◌/◌, ◌%◌, ◌≤◌, ◌<◌}
use native.Mathlib.Nat.{add-zero}
use native.Mathlib.Decide.{dec_lt}
use native.Mathlib.Omega.{arith}
use borrow.Author.Tests.{lt-ltb, le-ltb, le-leb, lt-leb, eq-eqb, ne_eqb}
use lib.Dec.{eqb, leb, ltb}
use lib.IntN.{ℤ, pos}
use lib.ListN.{length, get_or, take, drop, length-drop}
use lib.Seq.{length-take-le}
use mir.Syntax.{w16, w32, w64}
use mir.Val.{to_z}
use borrow.Author.Rules.{sfits_of}
use mir.Facts.{to_z-of_z}
use Rattle.types.specs.Refusals.{END, BAD_BOOL, BAD_VERSION, SIZE_LIMIT, NEGATIVE_SIZE, BAD_UTF8}
use Rattle.types.specs.Codes.{message_by_number}
use Rattle.types.specs.declared.Place.{Place}
use Rattle.types.specs.declared.TType.{TType}
use Rattle.types.specs.declared.TypeRead.{TypeRead}
use Rattle.types.specs.declared.TypeRead.TheVariants as R
use Rattle.types.specs.declared.TMessageType.{TMessageType}
use Rattle.types.specs.declared.MessageTypeRead.{MessageTypeRead}
use Rattle.types.specs.declared.MessageTypeRead.TheVariants as MR
use Rattle.types.specs.declared.TConfiguration.{TConfiguration}
use Rattle.types.proofs.Tables.{Misses, missed}
use Rattle.numbers.specs.Varint.{Found, got, refused}
use Rattle.numbers.specs.Answers.{as_bits32, as_bits}
use Rattle.numbers.specs.declared.Bits32.{Bits32}
use Rattle.numbers.specs.declared.Bits32.TheVariants as B32
use Rattle.numbers.specs.declared.Bits64.{Bits64}
use Rattle.numbers.specs.declared.Bits64.TheVariants as B64
use Rattle.numbers.proofs.Found.{take_drop, zero_one, by_lt}
use Rattle.big_endian.specs.Big.{big}
use Rattle.big_endian.specs.Answers.{as_bits16, big_at, word16_at, word32_at, word64_at}
use Rattle.big_endian.specs.declared.Bits16.{Bits16}
use Rattle.big_endian.specs.declared.Bits16.TheVariants as B16
use Rattle.utf8.specs.Utf8.{utf8}
use Rattle.heads.specs.Reader.{Reader, done, and_then, provided, some, read_at}
use Rattle.heads.specs.Heads.{typed, counted, listed, Field, stop, value, message_typed}
use Rattle.heads.specs.Answers.{place, id_of, seq_of, to_i16, to_i32, to_i64, to_double, to_bool, to_part, some_at, count_why, to_list, to_map, to_field}
use Rattle.heads.specs.declared.I16Read.{I16Read}
use Rattle.heads.specs.declared.I16Read.TheVariants as I16
use Rattle.heads.specs.declared.I32Read.TheVariants as I32
use Rattle.heads.specs.declared.I64Read.TheVariants as I64
use Rattle.heads.specs.declared.DoubleRead.TheVariants as D
use Rattle.heads.specs.declared.BoolRead.TheVariants as B
use Rattle.heads.specs.declared.PartRead.{PartRead}
use Rattle.heads.specs.declared.PartRead.TheVariants as P
use Rattle.heads.specs.declared.ListHead.TheVariants as L
use Rattle.heads.specs.declared.MapHead.{MapHead}
use Rattle.heads.specs.declared.MapHead.TheVariants as M
use Rattle.heads.specs.declared.FieldHead.TheVariants as F
use Rattle.heads.proofs.Lawful.{not_both}
use Rattle.heads.proofs.Steps.{step, stop_at, split, done_at, refuse_at, byte_at, byte_out, provided_yes, provided_no}
use Rattle.heads.proofs.Cases.{some_at_lem, some_out, count_got, count_no, is_part, no_part}
use Rattle.binary_codes.specs.Codes.{by_binary_code}
use Rattle.protocols.specs.Answers.{truth_at, int16_at, int32_at, int64_at, double_at, binary_at, items_at, pairs_at, field_at}
use Rattle.binary_heads.specs.Heads.{number, int16, int32, int64, double, truth, sized, binary, text, kind, items, paired, pairs, field, sequenced, named, message}
use Rattle.binary_heads.specs.Words as words
use Rattle.binary_heads.specs.Answers.{text_at, to_kind, kind_at, sized_at, paired_at, to_message, named_at, message_at}
use Rattle.binary_heads.specs.declared.KindRead.{KindRead}
use Rattle.binary_heads.specs.declared.KindRead.TheVariants as K
use Rattle.binary_heads.specs.declared.MessageHead.{MessageHead}
use Rattle.binary_heads.specs.declared.MessageHead.TheVariants as H

-- the number of k bytes at a place, as big_endian has it
pub number_at : (k : ℕ) (s : List ℕ) (at : ℕ) → 0 < k → read_at (number k) s at ≡ big_at k s at
unfolding number
number_at k s at z =
    by_lt (length s) (at + k)
    (λ h. rw (lt-ltb (length s) (at + k) h) (stop_at _ _ s at _ (some_out s k at (omega arith))))
    (λ h. rw (le-ltb (length s) (at + k) h)
    (step _ _ s at _ _ (some_at_lem s k at (omega arith) (omega arith))
    ∙ done_at s _ _
    ∙ ap (λ (l : List ℕ). got (big l) (at + k)) (take_drop at k s)))

-- where it ends
number_end : (k : ℕ) (s : List ℕ) (at n p : ℕ) → 0 < k → read_at (number k) s at ≡ got n p → (p ≡ at + k) × (p ≤ length s)
number_end k s at n p z e =
    by_lt (length s) (at + k)
    (λ h. not_both (sym (ap (λ (b : Bool). cond b (refused END) (got (big (drop at (take (at + k) s))) (at + k))) (lt-ltb (length s) (at + k) h)) ∙ sym (number_at k s at z) ∙ e))
    (λ h.
    let f : got (big (drop at (take (at + k) s))) (at + k) ≡ got n p = sym (ap (λ (b : Bool). cond b (refused END) (got (big (drop at (take (at + k) s))) (at + k))) (le-ltb (length s) (at + k) h)) ∙ sym (number_at k s at z) ∙ e in
    let q : at + k ≡ p = cc in
    (sym q, omega (arith, q)))

-- an answer of big_endian's, as what was found
is16 : (x : Found ℕ) (v p : ℕ) → as_bits16 x ≡ B16.Got v p → x ≡ got v p
is16 (got u q) v p e = cc
is16 (refused why) v p e = zero_one (cc)

not16 : (x : Found ℕ) (why : ℕ) → as_bits16 x ≡ B16.Refused why → x ≡ refused why
not16 (got u q) why e = zero_one (cc)
not16 (refused u) why e = cc

is32 : (x : Found ℕ) (v p : ℕ) → as_bits32 x ≡ B32.Got v p → x ≡ got v p
is32 (got u q) v p e = cc
is32 (refused why) v p e = zero_one (cc)

not32 : (x : Found ℕ) (why : ℕ) → as_bits32 x ≡ B32.Refused why → x ≡ refused why
not32 (got u q) why e = zero_one (cc)
not32 (refused u) why e = cc

is64 : (x : Found ℕ) (v p : ℕ) → as_bits x ≡ B64.Got v p → x ≡ got v p
is64 (got u q) v p e = cc
is64 (refused why) v p e = zero_one (cc)

not64 : (x : Found ℕ) (why : ℕ) → as_bits x ≡ B64.Refused why → x ≡ refused why
not64 (got u q) why e = zero_one (cc)
not64 (refused u) why e = cc

-- read_i16
module _ (s : List ℕ) (at : ℕ) (r : Bits16) (e : r ≡ word16_at s at) where
  is_16 : (n p : ℕ) → r ≡ B16.Got n p → read_at (number 2) s at ≡ got n p
  unfolding word16_at
  is_16 n p g = number_at 2 s at (omega arith) ∙ is16 (big_at 2 s at) n p (sym e ∙ g)

  no_16 : (why : ℕ) → r ≡ B16.Refused why → read_at (number 2) s at ≡ refused why
  unfolding word16_at
  no_16 why g = number_at 2 s at (omega arith) ∙ not16 (big_at 2 s at) why (sym e ∙ g)

  pub i16_got : (n p : ℕ) (z : ℤ) → r ≡ B16.Got n p → z ≡ to_z w16 n → I16.Got z (place p) ≡ int16_at words.binary s at
  unfolding int16_at int16
  i16_got n p z g k = ap (λ (y : ℤ). I16.Got y (place p)) k ∙ sym (ap to_i16 (step _ _ s at _ _ (is_16 n p g) ∙ done_at s _ _))

  pub i16_refused : (why : ℕ) → r ≡ B16.Refused why → I16.Refused why ≡ int16_at words.binary s at
  unfolding int16_at int16
  i16_refused why g = sym (ap to_i16 (stop_at _ _ s at _ (no_16 why g)))

pub ruleset i16_cases = (i16_got, i16_refused, to_z-of_z, sfits_of)

-- read_i32
module _ (s : List ℕ) (at : ℕ) (r : Bits32) (e : r ≡ word32_at s at) where
  is_32 : (n p : ℕ) → r ≡ B32.Got n p → read_at (number 4) s at ≡ got n p
  unfolding word32_at
  is_32 n p g = number_at 4 s at (omega arith) ∙ is32 (big_at 4 s at) n p (sym e ∙ g)

  no_32 : (why : ℕ) → r ≡ B32.Refused why → read_at (number 4) s at ≡ refused why
  unfolding word32_at
  no_32 why g = number_at 4 s at (omega arith) ∙ not32 (big_at 4 s at) why (sym e ∙ g)

  pub i32_got : (n p : ℕ) (z : ℤ) → r ≡ B32.Got n p → z ≡ to_z w32 n → I32.Got z (place p) ≡ int32_at words.binary s at
  unfolding int32_at int32
  i32_got n p z g k = ap (λ (y : ℤ). I32.Got y (place p)) k ∙ sym (ap to_i32 (step _ _ s at _ _ (is_32 n p g) ∙ done_at s _ _))

  pub i32_refused : (why : ℕ) → r ≡ B32.Refused why → I32.Refused why ≡ int32_at words.binary s at
  unfolding int32_at int32
  i32_refused why g = sym (ap to_i32 (stop_at _ _ s at _ (no_32 why g)))

pub ruleset i32_cases = (i32_got, i32_refused, to_z-of_z, sfits_of)

-- read_i64, read_double
module _ (s : List ℕ) (at : ℕ) (r : Bits64) (e : r ≡ word64_at s at) where
  is_64 : (n p : ℕ) → r ≡ B64.Got n p → read_at (number 8) s at ≡ got n p
  unfolding word64_at
  is_64 n p g = number_at 8 s at (omega arith) ∙ is64 (big_at 8 s at) n p (sym e ∙ g)

  no_64 : (why : ℕ) → r ≡ B64.Refused why → read_at (number 8) s at ≡ refused why
  unfolding word64_at
  no_64 why g = number_at 8 s at (omega arith) ∙ not64 (big_at 8 s at) why (sym e ∙ g)

  pub i64_got : (n p : ℕ) (z : ℤ) → r ≡ B64.Got n p → z ≡ to_z w64 n → I64.Got z (place p) ≡ int64_at words.binary s at
  unfolding int64_at int64
  i64_got n p z g k = ap (λ (y : ℤ). I64.Got y (place p)) k ∙ sym (ap to_i64 (step _ _ s at _ _ (is_64 n p g) ∙ done_at s _ _))

  pub i64_refused : (why : ℕ) → r ≡ B64.Refused why → I64.Refused why ≡ int64_at words.binary s at
  unfolding int64_at int64
  i64_refused why g = sym (ap to_i64 (stop_at _ _ s at _ (no_64 why g)))

  pub double_got : (n p : ℕ) → r ≡ B64.Got n p → D.Got n (place p) ≡ double_at words.binary s at
  unfolding double_at double
  double_got n p g = sym (ap to_double (is_64 n p g))

  pub double_refused : (why : ℕ) → r ≡ B64.Refused why → D.Refused why ≡ double_at words.binary s at
  unfolding double_at double
  double_refused why g = sym (ap to_double (no_64 why g))

pub ruleset i64_cases = (i64_got, i64_refused, to_z-of_z, sfits_of)

pub ruleset double_cases = (double_got, double_refused)

-- read_bool
module _ (s : List ℕ) (at : ℕ) where
  pub truth_end : length s ≤ at → B.Refused END ≡ truth_at words.binary s at
  unfolding truth_at truth
  truth_end h = sym (ap to_bool (stop_at _ _ s at END (byte_out s at h)))

  module _ (h : at < length s) where
    judged : truth_at words.binary s at ≡ to_bool (read_at (provided (ltb (get_or s at 0) 2) BAD_BOOL (done (eqb (get_or s at 0) 1))) s (at + 1))
    unfolding truth_at truth
    judged = ap to_bool (step _ _ s at _ _ (byte_at s at h))

    said : (b : ℕ) → b < 2 → get_or s at 0 ≡ b → B.Got (eqb b 1) (place (at + 1)) ≡ truth_at words.binary s at
    said b k e = sym (judged ∙ rw e (ap to_bool (provided_yes s _ _ _ _ (lt-ltb b 2 k) ∙ done_at s _ _)))

    pub truth_zero : get_or s at 0 ≡ 0 → B.Got false (place (at + 1)) ≡ truth_at words.binary s at
    truth_zero e = said 0 (omega arith) e

    pub truth_one : get_or s at 0 ≡ 1 → B.Got true (place (at + 1)) ≡ truth_at words.binary s at
    truth_one e = said 1 (omega arith) e

    pub truth_else : Misses 0 2 (get_or s at 0) → B.Refused BAD_BOOL ≡ truth_at words.binary s at
    truth_else m =
        let large : 2 ≤ get_or s at 0 = ⊎_elim (λ (z : get_or s at 0 < 0). absurd (omega arith)) (λ (z : 0 + 2 ≤ get_or s at 0). omega arith) (missed 0 2 (get_or s at 0) m) in
        sym (judged ∙ ap to_bool (provided_no s _ _ _ _ (le-ltb (get_or s at 0) 2 large)))

pub ruleset truth_cases = (truth_end, truth_zero, truth_one, truth_else)

-- sized
module _ (s : List ℕ) (lim : TConfiguration) (n at : ℕ) where
  pub sized_negative : 2147483647 < n → P.Refused NEGATIVE_SIZE ≡ sized_at s lim n at
  unfolding sized_at sized
  sized_negative h = sym (ap to_part (provided_no s at _ _ _ (lt-leb n 2147483647 h)))

  pub sized_long : n ≤ 2147483647 → lim.string < n → P.Refused SIZE_LIMIT ≡ sized_at s lim n at
  unfolding sized_at sized
  sized_long h k = sym (ap to_part (provided_yes s at _ _ _ (le-leb n 2147483647 h) ∙ provided_no s at _ _ _ (lt-leb n lim.string k)))

  pub sized_some : (q : PartRead) → n ≤ 2147483647 → n ≤ lim.string → q ≡ some_at s n at → q ≡ sized_at s lim n at
  unfolding sized_at sized some_at
  sized_some q h k e = e ∙ sym (ap to_part (provided_yes s at _ _ _ (le-leb n 2147483647 h) ∙ provided_yes s at _ _ _ (le-leb n lim.string k)))

pub ruleset sized_cases = (sized_negative, sized_long, sized_some)

-- read_bytes
module _ (s : List ℕ) (lim : TConfiguration) (at : ℕ) (r : Bits32) (e : r ≡ word32_at s at) where
  pub bytes_refused : (why : ℕ) → r ≡ B32.Refused why → P.Refused why ≡ binary_at words.binary s lim at
  unfolding binary_at binary
  bytes_refused why g = sym (ap to_part (stop_at _ _ s at _ (no_32 s at r e why g)))

  module _ (n p : ℕ) (g : r ≡ B32.Got n p) where
    pub bytes_some : (q : PartRead) → q ≡ sized_at s lim n p → q ≡ binary_at words.binary s lim at
    unfolding binary_at binary sized_at
    bytes_some q k = k ∙ sym (ap to_part (step _ _ s at _ _ (is_32 s at r e n p g)))

    pub bytes_from : p ≤ length s
    bytes_from = (number_end 4 s at n p (omega arith) (is_32 s at r e n p g)).1

pub ruleset bytes_cases = (bytes_refused, bytes_some, bytes_from)

-- read_string: which bytes a binary's are
pub record Part (s : List ℕ) (bs : List ℕ) (e : ℕ) : Type 0 where
  pub behind : length bs ≤ e
  pub inside : e ≤ length s
  pub is : bs ≡ take (length bs) (drop (e - length bs) s)

some_part : (s : List ℕ) (n at : ℕ) (bs : List ℕ) (e : ℕ) → at ≤ length s → read_at (some n) s at ≡ got bs e → Part s bs e
some_part s n at bs e h f = go (dec_lt (length s - at) n)
  where
    go : Dec (length s - at < n) → Part s bs e
    go (yes k) = not_both (sym (some_out s n at k) ∙ f)
    go (no k) =
        let g : got (take n (drop at s)) (at + n) ≡ got bs e = sym (some_at_lem s n at h (omega arith)) ∙ f in
        let l : bs ≡ take n (drop at s) = cc in
        let ee : e ≡ at + n = cc in
        let fit : length bs ≡ n = ap length l ∙ length-take-le n (drop at s) (omega (arith, length-drop at s)) in
        let start : e - length bs ≡ at = omega arith in
        record { behind = omega arith; inside = omega arith; is = l ∙ ap₂ (λ (m p : ℕ). take m (drop p s)) (sym fit) (sym start) }

sized_part : (s : List ℕ) (lim : TConfiguration) (n at : ℕ) (bs : List ℕ) (e : ℕ) → at ≤ length s → read_at (sized lim n) s at ≡ got bs e → Part s bs e
unfolding sized
sized_part s lim n at bs e h f = go (leb n 2147483647) (leb n lim.string) refl refl
  where
    go : (a b : Bool) → leb n 2147483647 ≡ a → leb n lim.string ≡ b → Part s bs e
    go true true x y = some_part s n at bs e h (sym (provided_yes s at _ _ _ x ∙ provided_yes s at _ _ _ y) ∙ f)
    go true false x y = not_both (sym (provided_yes s at _ _ _ x ∙ provided_no s at _ _ _ y) ∙ f)
    go false b x y = not_both (sym (provided_no s at _ _ _ x) ∙ f)

binary_part : (s : List ℕ) (lim : TConfiguration) (at : ℕ) (bs : List ℕ) (e : ℕ) → read_at (binary lim) s at ≡ got bs e → Part s bs e
unfolding binary
binary_part s lim at bs e f =
    let g = split (number 4) (sized lim) s at bs e f in
    sized_part s lim g.0 g.1 bs e (number_end 4 s at g.0 g.1 (omega arith) g.2).1 g.3

module _ (s : List ℕ) (lim : TConfiguration) (at : ℕ) (q : PartRead) (e : q ≡ binary_at words.binary s lim at) where
  pub text_refused : (why : ℕ) → q ≡ P.Refused why → P.Refused why ≡ text_at s lim at
  unfolding text_at text binary_at
  text_refused why g = sym (ap to_part (stop_at _ _ s at _ (no_part (read_at (binary lim) s at) why (sym e ∙ g))))

  module _ (a z : Place) (g : q ≡ P.Got a z) where
    bytes_found : (bs : List ℕ) × (read_at (binary lim) s at ≡ got bs z.0) × (a.0 ≡ z.0 - length bs)
    unfolding binary_at
    bytes_found = is_part (read_at (binary lim) s at) a z (sym e ∙ g)

    the_part : Part s bytes_found.0 z.0
    the_part = binary_part s lim at bytes_found.0 z.0 bytes_found.1

    pub text_order : a.0 ≤ z.0
    text_order = omega (arith, bytes_found.2)

    pub text_inside : z.0 ≤ length s
    text_inside = the_part.inside

    these : take (z.0 - a.0) (drop a.0 s) ≡ bytes_found.0
    these =
        let n : z.0 - a.0 ≡ length bytes_found.0 = omega (arith, bytes_found.2, the_part.behind) in
        ap₂ (λ (m p : ℕ). take m (drop p s)) n bytes_found.2 ∙ sym the_part.is

    judged_text : read_at (text lim) s at ≡ read_at (provided (utf8 bytes_found.0) BAD_UTF8 (done bytes_found.0)) s z.0
    unfolding text
    judged_text = step _ _ s at _ _ bytes_found.1

    whole : to_part (got bytes_found.0 z.0) ≡ P.Got a z
    whole = ap (λ (m : ℕ). P.Got (place m) z) (sym bytes_found.2)

    module _ (u : Bool) (f : u ≡ utf8 (take (z.0 - a.0) (drop a.0 s))) where
      pub text_yes : u ≡ true → P.Got a z ≡ text_at s lim at
      unfolding text_at
      text_yes h = sym (ap to_part (judged_text ∙ provided_yes s _ _ _ _ (sym (ap utf8 these) ∙ sym f ∙ h) ∙ done_at s _ _) ∙ whole)

      pub text_no : u ≡ false → P.Refused BAD_UTF8 ≡ text_at s lim at
      unfolding text_at
      text_no h = sym (ap to_part (judged_text ∙ provided_no s _ _ _ _ (sym (ap utf8 these) ∙ sym f ∙ h)))

pub ruleset text_cases = (text_refused, text_order, text_inside, text_yes, text_no)

-- read_kind
typed_yes : (s : List ℕ) (code at : ℕ) (r : TypeRead) → r ≡ by_binary_code code → (t : TType) → r ≡ R.Got t → read_at (typed (by_binary_code code)) s at ≡ got t at
typed_yes s code at r e t g = ap (λ (x : TypeRead). read_at (typed x) s at) (sym e ∙ g) ∙ done_at s at t

typed_no : (s : List ℕ) (code at : ℕ) (r : TypeRead) → r ≡ by_binary_code code → (why : ℕ) → r ≡ R.Refused why → read_at (typed (by_binary_code code)) s at ≡ refused why
typed_no s code at r e why g = ap (λ (x : TypeRead). read_at (typed x) s at) (sym e ∙ g) ∙ refuse_at s at why

module _ (s : List ℕ) (at : ℕ) where
  pub kind_end : length s ≤ at → K.Refused END ≡ kind_at s at
  unfolding kind_at kind
  kind_end h = sym (ap to_kind (stop_at _ _ s at END (byte_out s at h)))

  module _ (h : at < length s) (r : TypeRead) (e : r ≡ by_binary_code (get_or s at 0)) where
    pub kind_none : (why : ℕ) → r ≡ R.Refused why → K.Refused why ≡ kind_at s at
    unfolding kind_at kind
    kind_none why g = sym (ap to_kind (step _ _ s at _ _ (byte_at s at h) ∙ typed_no s _ (at + 1) r e why g))

    pub kind_got : (t : TType) → r ≡ R.Got t → K.Got t (place (at + 1)) ≡ kind_at s at
    unfolding kind_at kind
    kind_got t g = sym (ap to_kind (step _ _ s at _ _ (byte_at s at h) ∙ typed_yes s _ (at + 1) r e t g))

pub ruleset kind_cases = (kind_end, kind_none, kind_got)

is_kind : (x : Found TType) (t : TType) (p : Place) → to_kind x ≡ K.Got t p → x ≡ got t p.0
is_kind (got u e) t p f =
    let k : u ≡ t = cc in
    let q : place e ≡ p = cc in
    ap₂ got k (ap (λ (y : Place). y.0) q)
is_kind (refused why) t p f = zero_one (cc)

no_kind : (x : Found TType) (why : ℕ) → to_kind x ≡ K.Refused why → x ≡ refused why
no_kind (got u e) why f = zero_one (cc)
no_kind (refused y) why f = let q : y ≡ why = cc in ap refused q

module _ (s : List ℕ) (at : ℕ) (r : KindRead) (e : r ≡ kind_at s at) where
  kind_read : (t : TType) (p : Place) → r ≡ K.Got t p → read_at kind s at ≡ got t p.0
  unfolding kind_at
  kind_read t p g = is_kind (read_at kind s at) t p (sym e ∙ g)

  kind_not : (why : ℕ) → r ≡ K.Refused why → read_at kind s at ≡ refused why
  unfolding kind_at
  kind_not why g = no_kind (read_at kind s at) why (sym e ∙ g)

-- counts, at a place
module _ (s : List ℕ) (lim : TConfiguration) (n at why : ℕ) (e : why ≡ count_why lim n) where
  counted_well : why ≡ 0 → read_at (counted lim n) s at ≡ got n at
  unfolding read_at
  counted_well z = rw (count_got lim n why e (drop at s) z, add-zero)

  uncounted : (why ≡ 0 → ⊥) → read_at (counted lim n) s at ≡ refused why
  unfolding read_at
  uncounted z = rw (count_no lim n why e (drop at s) z)

-- list_header
module _ (s : List ℕ) (lim : TConfiguration) (at : ℕ) (k : KindRead) (x : k ≡ kind_at s at) where
  pub list_untyped : (why : ℕ) → k ≡ K.Refused why → L.Refused why ≡ items_at words.binary s lim at
  unfolding items_at items
  list_untyped why g = sym (ap to_list (stop_at _ _ s at _ (kind_not s at k x why g)))

  module _ (t : TType) (p : Place) (g : k ≡ K.Got t p) (r : Bits32) (e : r ≡ word32_at s p.0) where
    pub list_uncounted : (why : ℕ) → r ≡ B32.Refused why → L.Refused why ≡ items_at words.binary s lim at
    unfolding items_at items
    list_uncounted why f = sym (ap to_list (step _ _ s at _ _ (kind_read s at k x t p g) ∙ stop_at _ _ s _ _ (no_32 s p.0 r e why f)))

    module _ (n q : ℕ) (f : r ≡ B32.Got n q) (why : ℕ) (c : why ≡ count_why lim n) where
      pub list_no : (why ≡ 0 → ⊥) → L.Refused why ≡ items_at words.binary s lim at
      unfolding items_at items listed
      list_no z = sym (ap to_list (step _ _ s at _ _ (kind_read s at k x t p g) ∙ step _ _ s _ _ _ (is_32 s p.0 r e n q f) ∙ stop_at _ _ s _ _ (uncounted s lim n q why c z)))

      pub list_yes : why ≡ 0 → L.Got t n (place q) ≡ items_at words.binary s lim at
      unfolding items_at items listed
      list_yes z = sym (ap to_list (step _ _ s at _ _ (kind_read s at k x t p g) ∙ step _ _ s _ _ _ (is_32 s p.0 r e n q f) ∙ step _ _ s _ _ _ (counted_well s lim n q why c z) ∙ done_at s _ _))

pub ruleset list_cases = (list_untyped, list_uncounted, list_no, list_yes)

-- paired
module _ (s : List ℕ) (lim : TConfiguration) (k v : TType) (at : ℕ) (r : Bits32) (e : r ≡ word32_at s at) where
  pub paired_uncounted : (why : ℕ) → r ≡ B32.Refused why → M.Refused why ≡ paired_at s lim k v at
  unfolding paired_at paired
  paired_uncounted why f = sym (ap to_map (stop_at _ _ s _ _ (no_32 s at r e why f)))

  module _ (n q : ℕ) (f : r ≡ B32.Got n q) (why : ℕ) (c : why ≡ count_why lim n) where
    pub paired_no : (why ≡ 0 → ⊥) → M.Refused why ≡ paired_at s lim k v at
    unfolding paired_at paired
    paired_no z = sym (ap to_map (step _ _ s _ _ _ (is_32 s at r e n q f) ∙ stop_at _ _ s _ _ (uncounted s lim n q why c z)))

    pub paired_yes : why ≡ 0 → M.Got k v n (place q) ≡ paired_at s lim k v at
    unfolding paired_at paired
    paired_yes z = sym (ap to_map (step _ _ s _ _ _ (is_32 s at r e n q f) ∙ step _ _ s _ _ _ (counted_well s lim n q why c z) ∙ done_at s _ _))

pub ruleset paired_cases = (paired_uncounted, paired_no, paired_yes)

-- map_header
module _ (s : List ℕ) (lim : TConfiguration) (at : ℕ) (r : KindRead) (x : r ≡ kind_at s at) where
  pub map_keyless : (why : ℕ) → r ≡ K.Refused why → M.Refused why ≡ pairs_at words.binary s lim at
  unfolding pairs_at pairs
  map_keyless why g = sym (ap to_map (stop_at _ _ s at _ (kind_not s at r x why g)))

  module _ (k : TType) (p : Place) (g : r ≡ K.Got k p) (q : KindRead) (y : q ≡ kind_at s p.0) where
    pub map_valueless : (why : ℕ) → q ≡ K.Refused why → M.Refused why ≡ pairs_at words.binary s lim at
    unfolding pairs_at pairs
    map_valueless why f = sym (ap to_map (step _ _ s at _ _ (kind_read s at r x k p g) ∙ stop_at _ _ s _ _ (kind_not s p.0 q y why f)))

    pub map_paired : (v : TType) (d : Place) (h : MapHead) → q ≡ K.Got v d → h ≡ paired_at s lim k v d.0 → h ≡ pairs_at words.binary s lim at
    unfolding pairs_at pairs paired_at
    map_paired v d h f c = c ∙ sym (ap to_map (step _ _ s at _ _ (kind_read s at r x k p g) ∙ step _ _ s _ _ _ (kind_read s p.0 q y v d f)))

pub ruleset map_cases = (map_keyless, map_valueless, map_paired)

-- read_field_begin
is_i16 : (x : Found ℤ) (z : ℤ) (p : Place) → to_i16 x ≡ I16.Got z p → x ≡ got z p.0
is_i16 (got u e) z p f =
    let k : u ≡ z = cc in
    let q : place e ≡ p = cc in
    ap₂ got k (ap (λ (y : Place). y.0) q)
is_i16 (refused why) z p f = zero_one (cc)

no_i16 : (x : Found ℤ) (why : ℕ) → to_i16 x ≡ I16.Refused why → x ≡ refused why
no_i16 (got u e) why f = zero_one (cc)
no_i16 (refused y) why f = let q : y ≡ why = cc in ap refused q

-- behind the code of a field's type
abbrev identified : ℕ → Reader Field
identified b = and_then (typed (by_binary_code b)) (λ t. and_then int16 (λ id. done (value t id)))

module _ (s : List ℕ) (at : ℕ) where
  pub field_end : length s ≤ at → F.Refused END ≡ field_at words.binary s (pos 0) at
  unfolding field_at field
  field_end h = sym (ap to_field (stop_at _ _ s at END (byte_out s at h)))

  module _ (h : at < length s) where
    by_code : (c : Bool) → eqb (get_or s at 0) 0 ≡ c → field_at words.binary s (pos 0) at ≡ to_field (read_at (cond c (done stop) (identified (get_or s at 0))) s (at + 1))
    unfolding field_at field
    by_code c e = ap to_field (step _ _ s at _ _ (byte_at s at h) ∙ ap (λ (d : Bool). read_at (cond d (done stop) (identified (get_or s at 0))) s (at + 1)) e)

    pub field_stop : get_or s at 0 ≡ 0 → F.Stop (place (at + 1)) ≡ field_at words.binary s (pos 0) at
    field_stop z = sym (by_code true (eq-eqb (get_or s at 0) 0 z) ∙ ap to_field (done_at s _ _))

    module _ (z : get_or s at 0 ≡ 0 → ⊥) (r : TypeRead) (e : r ≡ by_binary_code (get_or s at 0)) where
      behind_code : field_at words.binary s (pos 0) at ≡ to_field (read_at (identified (get_or s at 0)) s (at + 1))
      behind_code = by_code false (ne_eqb (get_or s at 0) 0 z)

      pub field_untyped : (why : ℕ) → r ≡ R.Refused why → F.Refused why ≡ field_at words.binary s (pos 0) at
      field_untyped why g = sym (behind_code ∙ ap to_field (stop_at _ _ s _ _ (typed_no s _ (at + 1) r e why g)))

      module _ (t : TType) (g : r ≡ R.Got t) (q : I16Read) (x : q ≡ int16_at words.binary s (at + 1)) where
        pub field_nameless : (why : ℕ) → q ≡ I16.Refused why → F.Refused why ≡ field_at words.binary s (pos 0) at
        unfolding int16_at
        field_nameless why f = sym (behind_code ∙ ap to_field (step _ _ s _ _ _ (typed_yes s _ (at + 1) r e t g) ∙ stop_at _ _ s _ _ (no_i16 (read_at int16 s (at + 1)) why (sym x ∙ f))))

        pub field_got : (id : ℤ) (p : Place) → q ≡ I16.Got id p → F.Value t (id_of id) p ≡ field_at words.binary s (pos 0) at
        unfolding int16_at
        field_got id p f = sym (behind_code ∙ ap to_field (step _ _ s _ _ _ (typed_yes s _ (at + 1) r e t g) ∙ step _ _ s _ _ _ (is_i16 (read_at int16 s (at + 1)) id p (sym x ∙ f)) ∙ done_at s _ _))

pub ruleset field_cases = (field_end, field_stop, field_untyped, field_nameless, field_got, to_z-of_z, sfits_of)

-- named
module _ (s : List ℕ) (lim : TConfiguration) (m : TMessageType) (at : ℕ) (q : PartRead) (f : q ≡ text_at s lim at) where
  pub named_refused : (why : ℕ) → q ≡ P.Refused why → H.Refused why ≡ named_at s lim m at
  unfolding named_at named text_at
  named_refused why x = sym (ap to_message (stop_at _ _ s at _ (no_part (read_at (text lim) s at) why (sym f ∙ x))))

  module _ (a z : Place) (x : q ≡ P.Got a z) (r : Bits32) (e : r ≡ word32_at s z.0) where
    pub named_unnumbered : (why : ℕ) → r ≡ B32.Refused why → H.Refused why ≡ named_at s lim m at
    unfolding named_at named text_at sequenced
    named_unnumbered why g =
        let b = is_part (read_at (text lim) s at) a z (sym f ∙ x) in
        sym (ap to_message (step _ _ s at _ _ b.1 ∙ stop_at _ _ s _ _ (no_32 s z.0 r e why g)))

    pub named_got : (n p : ℕ) (i : ℤ) → r ≡ B32.Got n p → i ≡ to_z w32 n → H.Got m (seq_of i) a z (place p) ≡ named_at s lim m at
    unfolding named_at named text_at sequenced
    named_got n p i g k =
        let b = is_part (read_at (text lim) s at) a z (sym f ∙ x) in
        let d = number_end 4 s z.0 n p (omega arith) (is_32 s z.0 r e n p g) in
        let y : z.0 ≡ p - 4 = omega (arith, d.0) in
        ap₂ (λ (j : ℤ) (c : ℕ). H.Got m (seq_of j) (place c) z (place p)) k b.2
        ∙ ap (λ (c : ℕ). H.Got m (seq_of (to_z w32 n)) (place (c - length b.0)) (place c) (place p)) y
        ∙ sym (ap to_message (step _ _ s at _ _ b.1 ∙ step _ _ s _ _ _ (is_32 s z.0 r e n p g) ∙ done_at s _ _))

pub ruleset named_cases = (named_refused, named_unnumbered, named_got, to_z-of_z, sfits_of)

-- read_message_begin
module _ (s : List ℕ) (lim : TConfiguration) (at : ℕ) (r : Bits32) (e : r ≡ word32_at s at) where
  pub message_refused : (why : ℕ) → r ≡ B32.Refused why → H.Refused why ≡ message_at s lim at
  unfolding message_at message
  message_refused why g = sym (ap to_message (stop_at _ _ s at _ (no_32 s at r e why g)))

  module _ (n p : ℕ) (g : r ≡ B32.Got n p) where
    pub message_version : (n / 65536 ≡ 0x8001 → ⊥) → H.Refused BAD_VERSION ≡ message_at s lim at
    unfolding message_at message
    message_version v = sym (ap to_message (step _ _ s at _ _ (is_32 s at r e n p g) ∙ provided_no s _ _ _ _ (ne_eqb (n / 65536) 0x8001 v)))

    module _ (v : n / 65536 ≡ 0x8001) (q : MessageTypeRead) (x : q ≡ message_by_number (n % 256)) where
      by_kind : (y : MessageTypeRead) → q ≡ y → message_at s lim at ≡ to_message (read_at (and_then (message_typed y) (named lim)) s p)
      unfolding message_at message
      by_kind y f =
          ap to_message
          (step _ _ s at _ _ (is_32 s at r e n p g)
          ∙ provided_yes s _ _ _ _ (eq-eqb (n / 65536) 0x8001 v)
          ∙ ap (λ (z : MessageTypeRead). read_at (and_then (message_typed z) (named lim)) s p) (sym x ∙ f))

      pub message_untyped : (why : ℕ) → q ≡ MR.Refused why → H.Refused why ≡ message_at s lim at
      message_untyped why f = sym (by_kind (MR.Refused why) f ∙ ap to_message (stop_at _ _ s _ _ (refuse_at s _ _)))

      pub message_named : (m : TMessageType) (h : MessageHead) → q ≡ MR.Got m → h ≡ named_at s lim m p → h ≡ message_at s lim at
      unfolding named_at
      message_named m h f c = c ∙ sym (by_kind (MR.Got m) f ∙ ap to_message (step _ _ s _ _ _ (done_at s _ m)))

pub ruleset message_cases = (message_refused, message_version, message_untyped, message_named)
