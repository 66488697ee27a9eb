-- The refusals of the readers of scalars and headers: none reads as an answer, as BAD STATE, as OUT OF TURN or as MESSAGE SIZE. Assumes nothing.
use mathlib.Core.Path.{◌≡◌, refl, sym, ap, subst, ◌∙◌}
use mathlib.Core.Bool.{Bool, true, false, cond, ◌&&◌, ◌||◌}
use mathlib.Core.List.{List, [], ◌∷◌}
use mathlib.Core.Logic.{⊎_elim}
use Prim.Native.Nat.{ℕ, zero, suc, ◌/◌, ◌%◌, ◌<◌}
use native.Mathlib.Omega.{arith}
use borrow.Author.Tests.{eq-eqb}
use lib.Dec.{eqb, leb, ltb}
use lib.IntN.{ℤ, pos, ◌+ℤ◌}
use lib.Signed.{lt_z}
use lib.ListN.{length, get_or, drop}
use Rattle.types.specs.Refusals.{END, BAD_VERSION, BAD_MESSAGE_TYPE, BAD_TYPE, BAD_BOOL, LONG_VARINT, FIELD_ID, SIZE_LIMIT, NEGATIVE_SIZE, BAD_UTF8, OUT_OF_TURN, NO_ROOM, BAD_STATE, BAD_LIST, RANGE, MESSAGE_SIZE}
use Rattle.types.specs.Codes.{numbered, type_by_number, element_type, as_field, field_type, messages, message_by_number}
use Rattle.types.specs.declared.TType.{TType}
use Rattle.types.specs.declared.TType.TheVariants as T
use Rattle.types.specs.declared.TypeRead.{TypeRead}
use Rattle.types.specs.declared.TypeRead.TheVariants as R
use Rattle.types.specs.declared.FieldType.{FieldType}
use Rattle.types.specs.declared.FieldType.TheVariants as FT
use Rattle.types.specs.declared.TMessageType.{TMessageType}
use Rattle.types.specs.declared.MessageTypeRead.{MessageTypeRead}
use Rattle.types.specs.declared.MessageTypeRead.TheVariants as MR
use Rattle.types.specs.declared.TConfiguration.{TConfiguration}
use Rattle.numbers.specs.Varint.{Found, got, refused, groups, keep, varint}
use Rattle.numbers.proofs.Found.{which}
use Rattle.heads.specs.Reader.{Reader, done, refuse, and_then, provided, byte, some, ahead, backed, missing}
use Rattle.heads.specs.Heads.{int8, number32, number64, int16, int32, int64, double, uuid, truth, binary, text, typed, counted, listed, items, mapped, pairs, items_head, pairs_head, field_id, of_type, field, message_typed, named, versioned, message}
use Rattle.heads.proofs.Lawful.{not_both}
use Rattle.heads.proofs.Steps.{lost_at}

-- the numbers of what the input shows, or the call's arguments: END to BAD UTF-8, NO ROOM, BAD LIST, RANGE and MESSAGE SIZE
abbrev pub plain : ℕ → Bool
plain why = cond (ltb why OUT_OF_TURN) (ltb 0 why) (eqb why NO_ROOM || (eqb why BAD_LIST || (eqb why RANGE || eqb why MESSAGE_SIZE)))

-- a refusal by one of them: it is neither of the gate's two numbers
pub record Shown (why : ℕ) : Type 0 where
  pub one : plain why ≡ true
  pub some : 0 < why
  pub turnless : why ≡ OUT_OF_TURN → ⊥
  pub stateless : why ≡ BAD_STATE → ⊥

-- the computed test is enough
pub shown : (why : ℕ) → plain why ≡ true → Shown why
shown why h =
    record { one = h; some = some why h; turnless = λ e. no (subst plainly e h); stateless = λ e. no (subst plainly e h) }
  where
    plainly : ℕ → Type 0
    plainly n = plain n ≡ true

    no : false ≡ true → ⊥
    no e = let z : ◌≡◌ {A = ℕ} 0 1 = cc in omega arith

    some : (n : ℕ) → plain n ≡ true → 0 < n
    some zero e = absurd (no e)
    some (suc n) e = omega arith

-- what a call answers, as a number: 0 to 12, 14 to 17 and 19. 13 is not among them
abbrev pub can_give : ℕ → Bool
can_give n = ltb n 13 || (eqb n BAD_STATE || plain n)

pub plain_given : (why : ℕ) → plain why ≡ true → can_give why ≡ true
plain_given why h = go (ltb why 13) (eqb why BAD_STATE)
  where
    go : (a b : Bool) → (a || (b || plain why)) ≡ true
    go true b = refl
    go false true = refl
    go false false = h

pub never_13 : can_give 13 ≡ false
never_13 = refl

-- a reader's own: it knows of no ceiling
pub record Own (why : ℕ) : Type 0 where
  pub is_shown : Shown why
  pub sizeless : why ≡ MESSAGE_SIZE → ⊥

pub own : (why : ℕ) → plain why ≡ true → eqb why MESSAGE_SIZE ≡ false → Own why
own why h k =
    record {
      is_shown = shown why h;
      sizeless = λ e. let o : ◌≡◌ {A = Bool} true false = sym (eq-eqb why MESSAGE_SIZE e) ∙ k in let z : ◌≡◌ {A = ℕ} 0 1 = cc in omega arith;
    }

-- and it is shown, whether the ceiling turns it or not
pub shown_missing : (m : Bool) (why : ℕ) → Own why → Shown (missing m why)
shown_missing m why h = go (m && eqb why END)
  where
    go : (b : Bool) → Shown (cond b MESSAGE_SIZE why)
    go true = shown MESSAGE_SIZE refl
    go false = h.is_shown

abbrev pub Told : {A : Type 0} → Reader A → Type 0
Told {A} p = (bs : List ℕ) (why : ℕ) → p bs ≡ refused why → Own why

as_own : {A : Type 0} (w why : ℕ) → Own w → ◌≡◌ {A = Found A} (refused w) (refused why) → Own why
as_own w why h e = let z : w ≡ why = cc in subst Own z h

pub done_told : {A : Type 0} (a : A) → Told (done a)
unfolding done
done_told a bs why e = not_both (sym e)

pub refuse_told : {A : Type 0} (w : ℕ) → Own w → Told (refuse {A = A} w)
unfolding refuse
refuse_told {A} w h bs why e = as_own {A = A} w why h e

pub then_told : {A B : Type 0} (p : Reader A) (k : A → Reader B) → Told p → ((a : A) → Told (k a)) → Told (and_then p k)
unfolding and_then
then_told {A} {B} p k hp hk bs why e = go (p bs) refl
  where
    go : (x : Found A) → p bs ≡ x → Own why
    go (got a n) f = hk a (drop n bs) why (lost_at n (k a (drop n bs)) why (rw f at e))
    go (refused u) f =
        let g : ◌≡◌ {A = Found B} (refused u) (refused why) = rw f at e in
        let z : u ≡ why = cc in
        hp bs why (f ∙ ap refused z)

pub cond_told : {A : Type 0} (t : Bool) (p q : Reader A) → Told p → Told q → Told (cond t p q)
cond_told true p q hp hq = hp
cond_told false p q hp hq = hq

pub provided_told : {A : Type 0} (ok : Bool) (w : ℕ) (p : Reader A) → Own w → Told p → Told (provided ok w p)
unfolding provided
provided_told {A} true w p h hp bs why e = hp bs why e
provided_told {A} false w p h hp bs why e = as_own {A = A} w why h e

byte_told : Told byte
unfolding byte
byte_told [] why e = as_own {A = ℕ} END why (own END refl refl) e
byte_told (b ∷ bs) why e = not_both (sym e)

some_told : (n : ℕ) → Told (some n)
unfolding some
some_told n bs why e = go (leb n (length bs)) refl
  where
    go : (t : Bool) → leb n (length bs) ≡ t → Own why
    go true f = not_both (sym (rw f at e))
    go false f = as_own {A = List ℕ} END why (own END refl refl) (rw f at e)

ahead_told : {A : Type 0} (n : ℕ) (a : A) → Told (ahead n a)
unfolding ahead
ahead_told {A} n a bs why e = go (leb n (length bs)) refl
  where
    go : (t : Bool) → leb n (length bs) ≡ t → Own why
    go true f = not_both (sym (rw f at e))
    go false f = as_own {A = A} END why (own END refl refl) (rw f at e)

backed_told : {A : Type 0} (need : A → ℕ) (p : Reader A) → Told p → Told (backed need p)
unfolding backed
backed_told need p h = then_told p _ h (λ a. ahead_told (need a) a)

-- varints
whole : (w : ℕ) (x : Found ℕ) (why : ℕ) → keep w x ≡ refused why → x ≡ refused why
whole w (got v n) why e = not_both (sym e)
whole w (refused u) why e = e

varint_told : (w k : ℕ) → Told (varint w k)
varint_told w k bs why e =
    ⊎_elim
    (λ z. subst Own (sym z) (own END refl refl))
    (λ z. subst Own (sym z) (own LONG_VARINT refl refl))
    (which k bs why (whole w (groups k bs) why e))

number32_told : Told number32
unfolding number32
number32_told = varint_told 32 5

number64_told : Told number64
unfolding number64
number64_told = varint_told 64 10

-- a table's rows: where each is well, so is what is looked up
abbrev All : {X : Type 0} → (X → Type 0) → List X → Type 0
All P [] = Unit {0}
All P (x ∷ l) = P x × All P l

looked_up : {X : Type 0} (P : X → Type 0) (d : X) → P d → (l : List X) → All P l → (n : ℕ) → P (get_or l n d)
looked_up P d h [] a n = h
looked_up P d h (x ∷ l) a zero = a.0
looked_up P d h (x ∷ l) a (suc n) = looked_up P d h l a.1 n

abbrev Typed : TypeRead → Type 0
Typed (R.Got t) = Unit {0}
Typed (R.Refused w) = Own w

by_number : (n : ℕ) → Typed (type_by_number n)
unfolding type_by_number
by_number n = let no = own BAD_TYPE refl refl in looked_up Typed (R.Refused BAD_TYPE) no numbered (tt, (tt, (no, (tt, (tt, (tt, (tt, (tt, (tt, (tt, (tt, (tt, (tt, (tt, tt)))))))))))))) n

element_typed : (n : ℕ) → Typed (element_type n)
unfolding element_type
element_typed n = go (eqb n 2)
  where
    go : (b : Bool) → Typed (cond b (R.Got T.Bool) (type_by_number n))
    go true = tt
    go false = by_number n

typed_told : (r : TypeRead) → Typed r → Told (typed r)
typed_told (R.Got t) h = done_told t
typed_told (R.Refused w) h = refuse_told w h

abbrev Kind : FieldType → Type 0
Kind FT.Stop = Unit {0}
Kind (FT.Truth b) = Unit {0}
Kind (FT.Kind t) = Unit {0}
Kind (FT.Refused w) = Own w

as_field_lem : (r : TypeRead) → Typed r → Kind (as_field r)
as_field_lem (R.Got t) h = tt
as_field_lem (R.Refused w) h = h

field_kind_lem : (n : ℕ) → Kind (field_type n)
unfolding field_type
field_kind_lem n = go (eqb n 0) (eqb n 1) (eqb n 2)
  where
    go : (a b c : Bool) → Kind (cond a FT.Stop (cond b (FT.Truth true) (cond c (FT.Truth false) (as_field (type_by_number n)))))
    go true b c = tt
    go false true c = tt
    go false false true = tt
    go false false false = as_field_lem (type_by_number n) (by_number n)

abbrev Called : MessageTypeRead → Type 0
Called (MR.Got m) = Unit {0}
Called (MR.Refused w) = Own w

message_called : (n : ℕ) → Called (message_by_number n)
unfolding message_by_number
message_called n = let no = own BAD_MESSAGE_TYPE refl refl in looked_up Called (MR.Refused BAD_MESSAGE_TYPE) no messages (no, (tt, (tt, (tt, (tt, tt))))) n

called_told : (r : MessageTypeRead) → Called r → Told (message_typed r)
called_told (MR.Got m) h = done_told m
called_told (MR.Refused w) h = refuse_told w h

-- scalars
pub int8_told : Told int8
unfolding int8
int8_told = then_told _ _ byte_told (λ b. done_told _)

pub int32_told : Told int32
unfolding int32
int32_told = then_told _ _ number32_told (λ n. done_told _)

pub int16_told : Told int16
unfolding int16
int16_told = then_told _ _ int32_told (λ z. provided_told _ _ _ (own RANGE refl refl) (done_told _))

pub int64_told : Told int64
unfolding int64
int64_told = then_told _ _ number64_told (λ n. done_told _)

pub double_told : Told double
unfolding double
double_told = then_told _ _ (some_told 8) (λ bs. done_told _)

pub uuid_told : Told uuid
unfolding uuid
uuid_told = some_told 16

pub truth_told : Told truth
unfolding truth
truth_told = then_told _ _ byte_told (λ b. provided_told _ _ _ (own BAD_BOOL refl refl) (done_told _))

-- strings and headers
module _ (lim : TConfiguration) where
  pub binary_told : Told (binary lim)
  unfolding binary
  binary_told = then_told _ _ number32_told (λ n. provided_told _ _ _ (own SIZE_LIMIT refl refl) (some_told n))

  pub text_told : Told (text lim)
  unfolding text
  text_told = then_told _ _ binary_told (λ bs. provided_told _ _ _ (own BAD_UTF8 refl refl) (done_told _))

  counted_told : (n : ℕ) → Told (counted lim n)
  unfolding counted
  counted_told n =
      provided_told _ _ _ (own NEGATIVE_SIZE refl refl)
      (provided_told _ _ _ (own SIZE_LIMIT refl refl) (done_told n))

  listed_told : (t : TType) (n : ℕ) → Told (listed lim t n)
  unfolding listed
  listed_told t n = then_told _ _ (counted_told n) (λ m. done_told _)

  pub items_told_lem : Told (items lim)
  unfolding items
  items_told_lem =
      then_told _ _ byte_told
      (λ b. then_told _ _ (typed_told (element_type (b % 16)) (element_typed (b % 16)))
      (λ t. then_told _ _ (cond_told (ltb (b / 16) 15) _ _ (done_told (b / 16)) number32_told) (λ n. listed_told t n)))

  mapped_told : (n : ℕ) → Told (mapped lim n)
  unfolding mapped
  mapped_told n =
      then_told _ _ byte_told
      (λ b. then_told _ _ (typed_told (element_type (b / 16)) (element_typed (b / 16)))
      (λ k. then_told _ _ (typed_told (element_type (b % 16)) (element_typed (b % 16)))
      (λ v. then_told _ _ (counted_told n) (λ m. done_told _))))

  pub pairs_told_lem : Told (pairs lim)
  unfolding pairs
  pairs_told_lem = then_told _ _ number32_told (λ n. cond_told (eqb n 0) _ _ (done_told _) (mapped_told n))

  pub items_head_told : Told (items_head lim)
  unfolding items_head
  items_head_told = backed_told _ (items lim) items_told_lem

  pub pairs_head_told : Told (pairs_head lim)
  unfolding pairs_head
  pairs_head_told = backed_told _ (pairs lim) pairs_told_lem

  named_told : (m : TMessageType) → Told (named lim m)
  unfolding named
  named_told m = then_told _ _ number32_told (λ n. then_told _ _ text_told (λ name. done_told _))

  versioned_told : Told (versioned lim)
  unfolding versioned
  versioned_told =
      then_told _ _ byte_told
      (λ b. provided_told _ _ _ (own BAD_VERSION refl refl)
      (then_told _ _ (called_told (message_by_number (b / 32)) (message_called (b / 32))) (λ m. named_told m)))

  pub message_told_lem : Told (message lim)
  unfolding message
  message_told_lem = then_told _ _ byte_told (λ b. provided_told _ _ _ (own BAD_VERSION refl refl) versioned_told)

-- fields
module _ (last : ℤ) where
  id_told : (delta : ℕ) → Told (field_id last delta)
  unfolding field_id
  id_told delta =
      cond_told (eqb delta 0) _ _ int16_told
      (cond_told (lt_z (pos 32767) (last +ℤ pos delta)) _ _ (refuse_told _ (own FIELD_ID refl refl)) (done_told _))

  type_told : (delta : ℕ) (r : FieldType) → Kind r → Told (of_type last delta r)
  type_told delta FT.Stop h = done_told _
  type_told delta (FT.Truth b) h = then_told _ _ (id_told delta) (λ id. done_told _)
  type_told delta (FT.Kind t) h = then_told _ _ (id_told delta) (λ id. done_told _)
  type_told delta (FT.Refused w) h = refuse_told w h

  pub field_told : Told (field last)
  unfolding field
  field_told = then_told _ _ byte_told (λ b. type_told (b / 16) (field_type (b % 16)) (field_kind_lem (b % 16)))
