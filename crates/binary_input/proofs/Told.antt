-- The refusals of the binary protocol's readers: none reads as an answer, as BAD STATE, as OUT OF TURN or as MESSAGE SIZE. Assumes nothing.
use mathlib.Core.Path.{◌≡◌, refl, sym, subst}
use mathlib.Core.Bool.{Bool, true, false}
use mathlib.Core.List.{List, [], ◌∷◌}
use Prim.Native.Nat.{ℕ, zero, suc, ◌%◌}
use lib.Dec.{eqb, leb}
use lib.ListN.{length, get_or}
use Rattle.types.specs.Refusals.{END, BAD_VERSION, BAD_MESSAGE_TYPE, BAD_TYPE, BAD_BOOL, SIZE_LIMIT, NEGATIVE_SIZE, BAD_UTF8}
use Rattle.types.specs.Codes.{messages, message_by_number}
use Rattle.types.specs.declared.TypeRead.{TypeRead}
use Rattle.types.specs.declared.TypeRead.TheVariants as R
use Rattle.types.specs.declared.MessageTypeRead.{MessageTypeRead}
use Rattle.types.specs.declared.MessageTypeRead.TheVariants as MR
use Rattle.types.specs.declared.TConfiguration.{TConfiguration}
use Rattle.numbers.specs.Varint.{Found, refused}
use Rattle.heads.specs.Reader.{Reader, byte, some, ahead, backed}
use Rattle.heads.specs.Heads.{typed, counted, listed, message_typed}
use Rattle.heads.proofs.Lawful.{not_both}
use Rattle.input.proofs.Refusals.{Own, own, Told, done_told, refuse_told, then_told, cond_told, provided_told}
use Rattle.binary_codes.specs.Codes.{coded, by_binary_code}
use Rattle.protocols.specs.Words.{items_head, pairs_head}
use Rattle.binary_heads.specs.Heads.{number, int16, int32, int64, double, truth, sized, binary, text, kind, items, paired, pairs, field, sequenced, named, message}
use Rattle.binary_heads.specs.Words as words

as_end : {A : Type 0} (why : ℕ) → ◌≡◌ {A = Found A} (refused END) (refused why) → Own why
as_end why e = let z : END ≡ why = cc in subst Own z (own END refl refl)

byte_told : Told byte
unfolding byte
byte_told [] why e = as_end {A = ℕ} why e
byte_told (b ∷ bs) why e = not_both (sym e)

some_told : (n : ℕ) → Told (some n)
unfolding some
some_told n bs why e = go (leb n (length bs)) refl
  where
    go : (t : Bool) → leb n (length bs) ≡ t → Own why
    go true f = not_both (sym (rw f at e))
    go false f = as_end {A = List ℕ} why (rw f at e)

ahead_told : {A : Type 0} (n : ℕ) (a : A) → Told (ahead n a)
unfolding ahead
ahead_told {A} n a bs why e = go (leb n (length bs)) refl
  where
    go : (t : Bool) → leb n (length bs) ≡ t → Own why
    go true f = not_both (sym (rw f at e))
    go false f = as_end {A = A} why (rw f at e)

backed_told : {A : Type 0} (need : A → ℕ) (p : Reader A) → Told p → Told (backed need p)
unfolding backed
backed_told need p h = then_told p _ h (λ a. ahead_told (need a) a)

-- scalars
number_told_lem : (k : ℕ) → Told (number k)
unfolding number
number_told_lem k = then_told _ _ (some_told k) (λ bs. done_told _)

pub int16_told : Told int16
unfolding int16
int16_told = then_told _ _ (number_told_lem 2) (λ n. done_told _)

pub int32_told : Told int32
unfolding int32
int32_told = then_told _ _ (number_told_lem 4) (λ n. done_told _)

pub int64_told : Told int64
unfolding int64
int64_told = then_told _ _ (number_told_lem 8) (λ n. done_told _)

pub double_told : Told double
unfolding double
double_told = number_told_lem 8

pub truth_told : Told truth
unfolding truth
truth_told = then_told _ _ byte_told (λ b. provided_told _ _ _ (own BAD_BOOL refl refl) (done_told _))

-- a table's rows: where each is well, so is what is looked up
abbrev All : {X : Type 0} → (X → Type 0) → List X → Type 0
All P [] = Unit {0}
All P (x ∷ l) = P x × All P l

looked_up : {X : Type 0} (P : X → Type 0) (d : X) → P d → (l : List X) → All P l → (n : ℕ) → P (get_or l n d)
looked_up P d h [] a n = h
looked_up P d h (x ∷ l) a zero = a.0
looked_up P d h (x ∷ l) a (suc n) = looked_up P d h l a.1 n

abbrev Typed : TypeRead → Type 0
Typed (R.Got t) = Unit {0}
Typed (R.Refused w) = Own w

by_code : (n : ℕ) → Typed (by_binary_code n)
unfolding by_binary_code
by_code n =
    let no = own BAD_TYPE refl refl in
    looked_up Typed (R.Refused BAD_TYPE) no coded (tt, (no, (tt, (tt, (tt, (no, (tt, (no, (tt, (no, (tt, (tt, (tt, (tt, (tt, (tt, (tt, tt))))))))))))))))) n

typed_told : (r : TypeRead) → Typed r → Told (typed r)
typed_told (R.Got t) h = done_told t
typed_told (R.Refused w) h = refuse_told w h

kind_told : Told kind
unfolding kind
kind_told = then_told _ _ byte_told (λ b. typed_told (by_binary_code b) (by_code b))

pub field_told : Told field
unfolding field
field_told =
    then_told _ _ byte_told
    (λ b. cond_told (eqb b 0) _ _ (done_told _) (then_told _ _ (typed_told (by_binary_code b) (by_code b)) (λ t. then_told _ _ int16_told (λ id. done_told _))))

abbrev Called : MessageTypeRead → Type 0
Called (MR.Got m) = Unit {0}
Called (MR.Refused w) = Own w

message_called : (n : ℕ) → Called (message_by_number n)
unfolding message_by_number
message_called n = let no = own BAD_MESSAGE_TYPE refl refl in looked_up Called (MR.Refused BAD_MESSAGE_TYPE) no messages (no, (tt, (tt, (tt, (tt, tt))))) n

called_told : (r : MessageTypeRead) → Called r → Told (message_typed r)
called_told (MR.Got m) h = done_told m
called_told (MR.Refused w) h = refuse_told w h

-- strings and headers
module _ (lim : TConfiguration) where
  sized_told : (n : ℕ) → Told (sized lim n)
  unfolding sized
  sized_told n = provided_told _ _ _ (own NEGATIVE_SIZE refl refl) (provided_told _ _ _ (own SIZE_LIMIT refl refl) (some_told n))

  pub binary_told : Told (binary lim)
  unfolding binary
  binary_told = then_told _ _ (number_told_lem 4) sized_told

  pub text_told : Told (text lim)
  unfolding text
  text_told = then_told _ _ binary_told (λ bs. provided_told _ _ _ (own BAD_UTF8 refl refl) (done_told _))

  counted_told : (n : ℕ) → Told (counted lim n)
  unfolding counted
  counted_told n = provided_told _ _ _ (own NEGATIVE_SIZE refl refl) (provided_told _ _ _ (own SIZE_LIMIT refl refl) (done_told n))

  items_told_lem : Told (items lim)
  unfolding items listed
  items_told_lem = then_told _ _ kind_told (λ t. then_told _ _ (number_told_lem 4) (λ n. then_told _ _ (counted_told n) (λ m. done_told _)))

  pairs_told_lem : Told (pairs lim)
  unfolding pairs paired
  pairs_told_lem = then_told _ _ kind_told (λ k. then_told _ _ kind_told (λ v. then_told _ _ (number_told_lem 4) (λ n. then_told _ _ (counted_told n) (λ m. done_told _))))

  pub items_head_told : Told (items_head words.binary lim)
  items_head_told = backed_told _ (items lim) items_told_lem

  pub pairs_head_told : Told (pairs_head words.binary lim)
  pairs_head_told = backed_told _ (pairs lim) pairs_told_lem

  pub message_told_lem : Told (message lim)
  unfolding message named sequenced
  message_told_lem =
      then_told _ _ (number_told_lem 4)
      (λ n. provided_told _ _ _ (own BAD_VERSION refl refl)
      (then_told _ _ (called_told (message_by_number (n % 256)) (message_called (n % 256)))
      (λ m. then_told _ _ text_told (λ name. then_told _ _ (number_told_lem 4) (λ q. done_told _)))))
