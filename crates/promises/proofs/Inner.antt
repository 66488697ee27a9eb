-- Which numbers the functions behind the calls give, by the number of each answer. Assumes nothing.
use mathlib.Core.Path.{◌≡◌, refl, ap, ◌∙◌}
use mathlib.Core.Bool.{Bool, true, false, cond}
use mathlib.Core.List.{List}
use Prim.Native.Nat.{ℕ, ◌+◌}
use lib.IntN.{ℤ}
use lib.ListN.{drop}
use lib.Dec.{ltb}
use Rattle.types.specs.Refusals.{BAD_DAY}
use Rattle.types.specs.declared.TType.{TType}
use Rattle.types.specs.declared.TConfiguration.{TConfiguration}
use Rattle.types.specs.Value.{Tree}
use Rattle.numbers.specs.Varint.{Found, got, refused, placed}
use Rattle.heads.specs.Reader.{Reader, read_at}
use Rattle.heads.specs.Heads.{int8, int16, int32, int64, double, uuid, truth, binary, text, items_head, pairs_head, Field, stop, bool, value, field, Message, message}
use Rattle.heads.specs.Answers.{to_i8, to_i16, to_i32, to_i64, to_double, to_bool, to_part, to_list, to_map, to_field, to_message, int8_at, int16_at, int32_at, int64_at, double_at, truth_at, uuid_at, binary_at, text_at, items_head_at, pairs_head_at, field_at, message_at}
use Rattle.input.proofs.Refusals.{Told, plain_given, int8_told, int16_told, int32_told, int64_told, double_told, uuid_told, truth_told, binary_told, text_told, items_head_told, pairs_head_told, field_told, message_told_lem}
use Rattle.skip.specs.Value.{value_of}
use Rattle.skip.specs.Skip.{passed, past, skip_of}
use Rattle.skip.proofs.Told.{value_told_lem}
use Rattle.days.specs.declared.Checked.TheVariants as C
use Rattle.days.specs.declared.Part.TheVariants as P
use Rattle.days.specs.Day.{accepted, check_of, message_of, number}
use Rattle.heads.specs.Numbers.{number_i8_read, number_i16_read, number_i32_read, number_i64_read, number_double_read, number_bool_read, number_part_read, number_list_head, number_map_head, number_field_head, number_message_head}
use Rattle.skip.specs.Numbers.{number_skipped}
use Rattle.days.specs.Numbers.{number_checked, number_part}
use Rattle.promises.specs.Promises.{reader_gives}
use Rattle.promises.proofs.Reader.{gives}

-- what a reader finds at a place, as any enum whose number is the refusal's
abbrev number_of : {A : Type 0} → Found A → ℕ
number_of (got a e) = 0
number_of (refused why) = why

inner : {A R : Type 0} (p : Reader A) → Told p → (to : Found A → R) (num : R → ℕ) → ((x : Found A) → num (to x) ≡ number_of x) → (s : List ℕ) (at : ℕ) → reader_gives (num (to (read_at p s at))) ≡ true
unfolding read_at
inner {A} p told to num fit s at = ap reader_gives (fit (placed at (p (drop at s)))) ∙ go (p (drop at s)) refl
  where
    go : (x : Found A) → p (drop at s) ≡ x → reader_gives (number_of (placed at x)) ≡ true
    go (got a n) q = refl
    go (refused why) q = gives why (plain_given why (told (drop at s) why q).is_shown.one)

module _ (s : List ℕ) (at : ℕ) where
  pub i8_gives : reader_gives (number_i8_read (int8_at s at)) ≡ true
  unfolding int8_at
  i8_gives = inner int8 int8_told to_i8 number_i8_read fit s at
    where
      fit : (x : Found ℤ) → number_i8_read (to_i8 x) ≡ number_of x
      fit (got z e) = refl
      fit (refused why) = refl

  pub i16_gives : reader_gives (number_i16_read (int16_at s at)) ≡ true
  unfolding int16_at
  i16_gives = inner int16 int16_told to_i16 number_i16_read fit s at
    where
      fit : (x : Found ℤ) → number_i16_read (to_i16 x) ≡ number_of x
      fit (got z e) = refl
      fit (refused why) = refl

  pub i32_gives : reader_gives (number_i32_read (int32_at s at)) ≡ true
  unfolding int32_at
  i32_gives = inner int32 int32_told to_i32 number_i32_read fit s at
    where
      fit : (x : Found ℤ) → number_i32_read (to_i32 x) ≡ number_of x
      fit (got z e) = refl
      fit (refused why) = refl

  pub i64_gives : reader_gives (number_i64_read (int64_at s at)) ≡ true
  unfolding int64_at
  i64_gives = inner int64 int64_told to_i64 number_i64_read fit s at
    where
      fit : (x : Found ℤ) → number_i64_read (to_i64 x) ≡ number_of x
      fit (got z e) = refl
      fit (refused why) = refl

  pub double_gives : reader_gives (number_double_read (double_at s at)) ≡ true
  unfolding double_at
  double_gives = inner double double_told to_double number_double_read fit s at
    where
      fit : (x : Found ℕ) → number_double_read (to_double x) ≡ number_of x
      fit (got z e) = refl
      fit (refused why) = refl

  pub bool_gives : reader_gives (number_bool_read (truth_at s at)) ≡ true
  unfolding truth_at
  bool_gives = inner truth truth_told to_bool number_bool_read fit s at
    where
      fit : (x : Found Bool) → number_bool_read (to_bool x) ≡ number_of x
      fit (got z e) = refl
      fit (refused why) = refl

  part_fits : (x : Found (List ℕ)) → number_part_read (to_part x) ≡ number_of x
  part_fits (got z e) = refl
  part_fits (refused why) = refl

  pub uuid_gives : reader_gives (number_part_read (uuid_at s at)) ≡ true
  unfolding uuid_at
  uuid_gives = inner uuid uuid_told to_part number_part_read part_fits s at

  pub field_gives : (last : ℤ) → reader_gives (number_field_head (field_at s last at)) ≡ true
  unfolding field_at
  field_gives last = inner (field last) (field_told last) to_field number_field_head fit s at
    where
      fit : (x : Found Field) → number_field_head (to_field x) ≡ number_of x
      fit (got stop e) = refl
      fit (got (bool b id) e) = refl
      fit (got (value t id) e) = refl
      fit (refused why) = refl

  module _ (lim : TConfiguration) where
    pub binary_gives : reader_gives (number_part_read (binary_at s lim at)) ≡ true
    unfolding binary_at
    binary_gives = inner (binary lim) (binary_told lim) to_part number_part_read part_fits s at

    pub text_gives : reader_gives (number_part_read (text_at s lim at)) ≡ true
    unfolding text_at
    text_gives = inner (text lim) (text_told lim) to_part number_part_read part_fits s at

    pub list_gives : reader_gives (number_list_head (items_head_at s lim at)) ≡ true
    unfolding items_head_at
    list_gives = inner (items_head lim) (items_head_told lim) to_list number_list_head fit s at
      where
        fit : (x : Found (TType × ℕ)) → number_list_head (to_list x) ≡ number_of x
        fit (got z e) = refl
        fit (refused why) = refl

    pub map_gives : reader_gives (number_map_head (pairs_head_at s lim at)) ≡ true
    unfolding pairs_head_at
    map_gives = inner (pairs_head lim) (pairs_head_told lim) to_map number_map_head fit s at
      where
        fit : (x : Found (TType × TType × ℕ)) → number_map_head (to_map x) ≡ number_of x
        fit (got z e) = refl
        fit (refused why) = refl

    pub message_gives : reader_gives (number_message_head (message_at s lim at)) ≡ true
    unfolding message_at
    message_gives = inner (message lim) (message_told_lem lim) to_message number_message_head fit s at
      where
        fit : (x : Found Message) → number_message_head (to_message x) ≡ number_of x
        fit (got z e) = refl
        fit (refused why) = refl

    pub skip_gives : (room : ℕ) (ty : TType) → reader_gives (number_skipped (skip_of s lim room ty at)) ≡ true
    unfolding skip_of past
    skip_gives room ty = inner (value_of lim room ty) (value_told_lem lim room ty) passed number_skipped fit s at
      where
        fit : (x : Found Tree) → number_skipped (passed x) ≡ number_of x
        fit (got z e) = refl
        fit (refused why) = refl

-- a day file's check and its messages: 18 and no other
pub check_gives : (file : List ℕ) → (number_checked (check_of file) ≡ 0 → ⊥) → number_checked (check_of file) ≡ BAD_DAY
unfolding check_of
check_gives file h = go (accepted file) h
  where
    go : (b : Bool) → (number_checked (cond b (C.Count (number file 0)) (C.Refused BAD_DAY)) ≡ 0 → ⊥) → number_checked (cond b (C.Count (number file 0)) (C.Refused BAD_DAY)) ≡ BAD_DAY
    go true f = absurd (f refl)
    go false f = refl

pub part_gives : (file : List ℕ) (k : ℕ) → (number_part (message_of file k) ≡ 0 → ⊥) → number_part (message_of file k) ≡ BAD_DAY
unfolding message_of
part_gives file k h = go (accepted file) (ltb k (number file 0)) h
  where
    go : (a b : Bool) → (number_part (cond a (cond b (P.At (number file (k + 1)) (number file (k + 2))) (P.Refused BAD_DAY)) (P.Refused BAD_DAY)) ≡ 0 → ⊥) → number_part (cond a (cond b (P.At (number file (k + 1)) (number file (k + 2))) (P.Refused BAD_DAY)) (P.Refused BAD_DAY)) ≡ BAD_DAY
    go true true f = absurd (f refl)
    go true false f = refl
    go false b f = refl
