-- Every reader of a scalar and of a header is lawful, and takes at least a byte. Assumes nothing.
use mathlib.Core.Path.{◌≡◌, refl, sym, ap, ap₂, subst, ◌∙◌}
use mathlib.Core.Bool.{Bool, true, false, cond}
use mathlib.Core.List.{List, ◌++◌}
use Prim.Native.Nat.{ℕ, ◌/◌, ◌%◌, ◌≤◌, ◌<◌}
use native.Mathlib.Omega.{arith}
use lib.Dec.{eqb, leb, ltb}
use lib.IntN.{ℤ, pos, ◌+ℤ◌}
use lib.Signed.{lt_z}
use lib.ListN.{length, take}
use lib.Seq.{length-take-le, take_at}
use Rattle.types.specs.Refusals.{RANGE}
use Rattle.types.specs.Codes.{element_type, field_type, message_by_number}
use Rattle.types.specs.declared.TType.{TType}
use Rattle.types.specs.declared.TypeRead.{TypeRead}
use Rattle.types.specs.declared.TypeRead.TheVariants as R
use Rattle.types.specs.declared.FieldType.{FieldType}
use Rattle.types.specs.declared.FieldType.TheVariants as FT
use Rattle.types.specs.declared.TMessageType.{TMessageType}
use Rattle.types.specs.declared.MessageTypeRead.{MessageTypeRead}
use Rattle.types.specs.declared.MessageTypeRead.TheVariants as MR
use Rattle.types.specs.declared.TConfiguration.{TConfiguration}
use Rattle.numbers.specs.Varint.{Found, got, refused, groups, keep, varint}
use Rattle.zigzag.specs.Zigzag.{unzigzag, in_range16}
use Rattle.numbers.proofs.Found.{took, local}
use Rattle.heads.specs.Reader.{Reader, done, refuse, and_then, provided, some}
use Rattle.heads.specs.Heads.{int8, number32, number64, int16, int32, int64, double, uuid, truth, binary, text, typed, counted, listed, items, mapped, pairs, field_id, of_type, field, message_typed, named, versioned, message}
use Rattle.heads.proofs.Lawful.{Lawful, Takes, Both, both, not_both, done_lawful, refuse_lawful, then_lawful, provided_lawful, byte_lawful, some_lawful, byte_takes, then_takes}

-- varints
kept : (w : ℕ) (x : Found ℕ) (v n : ℕ) → keep w x ≡ got v n → (u : ℕ) × (x ≡ got u n)
kept w (got u m) v n e = (u, ap (got u) (cc))
kept w (refused why) v n e = not_both e

module _ (w k : ℕ) (bs : List ℕ) (v n : ℕ) (e : varint w k bs ≡ got v n) where
  varint_ends : n ≤ length bs
  varint_ends = let f = kept w (groups k bs) v n e in (took k bs f.0 n f.1).inside

  varint_takes : 0 < n
  varint_takes = let f = kept w (groups k bs) v n e in (took k bs f.0 n f.1).some

  varint_front : (rest : List ℕ) → varint w k (take n bs ++ rest) ≡ got v n
  varint_front rest =
      let f = kept w (groups k bs) v n e in
      let g : groups k (take n bs ++ rest) ≡ got f.0 n = local k bs (take n bs ++ rest) f.0 n f.1 (take_at (take n bs) rest n (length-take-le n bs varint_ends)) in
      ap (keep w) (g ∙ sym f.1) ∙ e

varint_lawful : (w k : ℕ) → Lawful (varint w k)
varint_lawful w k = record { ends = varint_ends w k; front = varint_front w k }

pub number32_lawful : Lawful number32
unfolding number32
number32_lawful = varint_lawful 32 5

pub number64_lawful : Lawful number64
unfolding number64
number64_lawful = varint_lawful 64 10

pub number32_takes : Takes number32
unfolding number32
number32_takes = varint_takes 32 5

pub number64_takes : Takes number64
unfolding number64
number64_takes = varint_takes 64 10

-- scalars
pub int8_lawful : Lawful int8
unfolding int8
int8_lawful = then_lawful _ _ byte_lawful (λ b. done_lawful _)

pub int8_takes : Takes int8
unfolding int8
int8_takes = then_takes _ _ byte_takes

pub int32_lawful : Lawful int32
unfolding int32
int32_lawful = then_lawful _ _ number32_lawful (λ n. done_lawful _)

pub int32_takes : Takes int32
unfolding int32
int32_takes = then_takes _ _ number32_takes

pub int64_lawful : Lawful int64
unfolding int64
int64_lawful = then_lawful _ _ number64_lawful (λ n. done_lawful _)

pub int64_takes : Takes int64
unfolding int64
int64_takes = then_takes _ _ number64_takes

pub int16_lawful : Lawful int16
unfolding int16
int16_lawful = then_lawful _ _ int32_lawful (λ z. provided_lawful _ _ _ (done_lawful _))

pub int16_takes : Takes int16
unfolding int16
int16_takes = then_takes _ _ int32_takes

-- the varint that an i32 was
pub record Unzigged (bs : List ℕ) (z : ℤ) (n : ℕ) : Type 0 where
  pub value : ℕ
  pub read : number32 bs ≡ got value n
  pub is : z ≡ unzigzag value

pub was32 : (bs : List ℕ) (z : ℤ) (n : ℕ) → int32 bs ≡ got z n → Unzigged bs z n
unfolding int32 and_then done
was32 bs z n e =
    let f = both (number32 bs) (λ (v : ℕ). done (unzigzag v)) bs z n e in
    let none : f.more ≡ 0 = cc in
    record { value = f.one; read = f.first ∙ ap (got f.one) (omega (arith, f.all)); is = cc }

-- an i16 is an i32 within its range
pub was16 : (bs : List ℕ) (z : ℤ) (n : ℕ) → int16 bs ≡ got z n → (int32 bs ≡ got z n) × (in_range16 z ≡ true)
unfolding int16 and_then provided done
was16 bs z n e = let f = both (int32 bs) _ bs z n e in go f (in_range16 f.one) refl f.second
  where
    go : (f : Both (int32 bs) (λ y. provided (in_range16 y) RANGE (done y)) bs z n) (b : Bool) → in_range16 f.one ≡ b → cond b (got f.one 0) (refused RANGE) ≡ got z f.more → (int32 bs ≡ got z n) × (in_range16 z ≡ true)
    go f true t g =
        let none : f.more ≡ 0 = cc in
        let same : f.one ≡ z = cc in
        (f.first ∙ ap₂ got same (omega (arith, f.all)), subst (λ (y : ℤ). in_range16 y ≡ true) same t)
    go f false t g = not_both g

some_takes : (k : ℕ) → 0 < k → Takes (some k)
unfolding some
some_takes k h bs cs n e = go (leb k (length bs)) refl
  where
    go : (t : Bool) → leb k (length bs) ≡ t → 0 < n
    go true f = let g : got (take k bs) k ≡ got cs n = rw f at e in let z : k ≡ n = cc in omega arith
    go false f = not_both (rw f at e)

pub double_lawful : Lawful double
unfolding double
double_lawful = then_lawful _ _ (some_lawful 8) (λ bs. done_lawful _)

pub double_takes : Takes double
unfolding double
double_takes = then_takes _ _ (some_takes 8 (omega arith))

pub uuid_lawful : Lawful uuid
unfolding uuid
uuid_lawful = some_lawful 16

pub uuid_takes : Takes uuid
unfolding uuid
uuid_takes = some_takes 16 (omega arith)

pub truth_lawful : Lawful truth
unfolding truth
truth_lawful = then_lawful _ _ byte_lawful (λ b. provided_lawful _ _ _ (done_lawful _))

pub truth_takes : Takes truth
unfolding truth
truth_takes = then_takes _ _ byte_takes

-- strings and headers
module _ (lim : TConfiguration) where
  pub binary_lawful : Lawful (binary lim)
  unfolding binary
  binary_lawful = then_lawful _ _ number32_lawful (λ n. provided_lawful _ _ _ (some_lawful n))

  pub binary_takes : Takes (binary lim)
  unfolding binary
  binary_takes = then_takes _ _ number32_takes

  pub text_lawful : Lawful (text lim)
  unfolding text
  text_lawful = then_lawful _ _ binary_lawful (λ bs. provided_lawful _ _ _ (done_lawful _))

  typed_lawful : (r : TypeRead) → Lawful (typed r)
  typed_lawful (R.Got t) = done_lawful t
  typed_lawful (R.Refused why) = refuse_lawful why

  counted_lawful : (n : ℕ) → Lawful (counted lim n)
  unfolding counted
  counted_lawful n = provided_lawful _ _ _ (provided_lawful _ _ _ (done_lawful n))

  pub listed_lawful : (t : TType) (n : ℕ) → Lawful (listed lim t n)
  unfolding listed
  listed_lawful t n = then_lawful _ _ (counted_lawful n) (λ m. done_lawful _)

  count_lawful : (b : Bool) (n : ℕ) → Lawful (cond b (done n) number32)
  count_lawful true n = done_lawful n
  count_lawful false n = number32_lawful

  pub items_lawful : Lawful (items lim)
  unfolding items
  items_lawful =
      then_lawful _ _ byte_lawful
      (λ b. then_lawful _ _ (typed_lawful (element_type (b % 16)))
      (λ t. then_lawful _ _ (count_lawful (ltb (b / 16) 15) (b / 16)) (λ n. listed_lawful t n)))

  pub items_takes : Takes (items lim)
  unfolding items
  items_takes = then_takes _ _ byte_takes

  pub mapped_lawful : (n : ℕ) → Lawful (mapped lim n)
  unfolding mapped
  mapped_lawful n =
      then_lawful _ _ byte_lawful
      (λ b. then_lawful _ _ (typed_lawful (element_type (b / 16)))
      (λ k. then_lawful _ _ (typed_lawful (element_type (b % 16)))
      (λ v. then_lawful _ _ (counted_lawful n) (λ m. done_lawful _))))

  behind_count : (b : Bool) (a : TType × TType × ℕ) (n : ℕ) → Lawful (cond b (done a) (mapped lim n))
  behind_count true a n = done_lawful a
  behind_count false a n = mapped_lawful n

  pub pairs_lawful : Lawful (pairs lim)
  unfolding pairs
  pairs_lawful = then_lawful _ _ number32_lawful (λ n. behind_count (eqb n 0) _ n)

  pub pairs_takes : Takes (pairs lim)
  unfolding pairs
  pairs_takes = then_takes _ _ number32_takes

  kind_lawful : (r : MessageTypeRead) → Lawful (message_typed r)
  kind_lawful (MR.Got m) = done_lawful m
  kind_lawful (MR.Refused why) = refuse_lawful why

  pub named_lawful : (m : TMessageType) → Lawful (named lim m)
  unfolding named
  named_lawful m = then_lawful _ _ number32_lawful (λ n. then_lawful _ _ text_lawful (λ name. done_lawful _))

  pub versioned_lawful : Lawful (versioned lim)
  unfolding versioned
  versioned_lawful = then_lawful _ _ byte_lawful (λ b. provided_lawful _ _ _ (then_lawful _ _ (kind_lawful (message_by_number (b / 32))) (λ m. named_lawful m)))

  pub message_lawful : Lawful (message lim)
  unfolding message
  message_lawful = then_lawful _ _ byte_lawful (λ b. provided_lawful _ _ _ versioned_lawful)

  pub message_takes : Takes (message lim)
  unfolding message
  message_takes = then_takes _ _ byte_takes

-- fields
id_lawful : (a b : Bool) (y : Reader ℤ) (why : ℕ) (z : ℤ) → Lawful y → Lawful (cond a y (cond b (refuse why) (done z)))
id_lawful true b y why z ly = ly
id_lawful false true y why z ly = refuse_lawful why
id_lawful false false y why z ly = done_lawful z

module _ (last : ℤ) where
  pub field_id_lawful : (delta : ℕ) → Lawful (field_id last delta)
  unfolding field_id
  field_id_lawful delta = id_lawful (eqb delta 0) (lt_z (pos 32767) (last +ℤ pos delta)) int16 _ _ int16_lawful

  of_type_lawful : (delta : ℕ) (r : FieldType) → Lawful (of_type last delta r)
  of_type_lawful delta FT.Stop = done_lawful _
  of_type_lawful delta (FT.Truth b) = then_lawful _ _ (field_id_lawful delta) (λ id. done_lawful _)
  of_type_lawful delta (FT.Kind t) = then_lawful _ _ (field_id_lawful delta) (λ id. done_lawful _)
  of_type_lawful delta (FT.Refused why) = refuse_lawful why

  pub field_lawful : Lawful (field last)
  unfolding field
  field_lawful = then_lawful _ _ byte_lawful (λ b. of_type_lawful (b / 16) (field_type (b % 16)))

  pub field_takes : Takes (field last)
  unfolding field
  field_takes = then_takes _ _ byte_takes
