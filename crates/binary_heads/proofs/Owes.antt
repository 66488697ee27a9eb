-- The binary protocol's words owe what the record asks: each is lawful and takes at least its type's least size. Assumes nothing.
use mathlib.Core.Path.{◌≡◌, refl}
use mathlib.Core.Bool.{Bool, true, false, cond}
use mathlib.Core.List.{List, []}
use Prim.Native.Nat.{ℕ, ◌+◌, ◌%◌, ◌≤◌, ◌<◌}
use native.Mathlib.Omega.{arith}
use lib.Dec.{eqb}
use lib.ListN.{drop}
use Rattle.types.specs.Refusals.{END}
use Rattle.types.specs.Codes.{message_by_number}
use Rattle.types.specs.declared.TType.{TType}
use Rattle.types.specs.declared.TType.TheVariants as T
use Rattle.types.specs.declared.TypeRead.{TypeRead}
use Rattle.types.specs.declared.TypeRead.TheVariants as R
use Rattle.types.specs.declared.TMessageType.{TMessageType}
use Rattle.types.specs.declared.MessageTypeRead.{MessageTypeRead}
use Rattle.types.specs.declared.MessageTypeRead.TheVariants as MR
use Rattle.types.specs.declared.TConfiguration.{TConfiguration}
use Rattle.numbers.specs.Varint.{got, refused}
use Rattle.heads.specs.Reader.{Reader, and_then, byte, some}
use Rattle.heads.specs.Heads.{uuid, typed, counted, Field, message_typed}
use Rattle.heads.proofs.Lawful.{Lawful, both, done_lawful, refuse_lawful, then_lawful, provided_lawful, byte_lawful, some_lawful, byte_takes, then_takes}
use Rattle.heads.proofs.Readers.{int8_lawful, int8_takes, uuid_lawful, listed_lawful}
use Rattle.skip.proofs.Sound.{unmade}
use Rattle.binary_codes.specs.Codes.{by_binary_code, least_size}
use Rattle.protocols.proofs.Owes.{Reads, Owes, reads}
use Rattle.protocols.proofs.Compact.{some_used}
use Rattle.binary_heads.specs.Heads.{number, int16, int32, int64, double, truth, sized, binary, text, kind, items, paired, pairs, field, sequenced, named, message}
use Rattle.binary_heads.specs.Words as words

-- a reader behind which another may take more
more : {A B : Type 0} (p : Reader A) (k : A → Reader B) (least : ℕ) → ((bs : List ℕ) (a : A) (n : ℕ) → p bs ≡ got a n → least ≤ n) → (bs : List ℕ) (b : B) (n : ℕ) → and_then p k bs ≡ got b n → least ≤ n
unfolding and_then
more p k least h bs b n e = let f = both (p bs) k bs b n e in omega (arith, f.all, h bs f.one f.used f.first)

-- two, one behind the other
sum : {A B : Type 0} (p : Reader A) (k : A → Reader B) (i j : ℕ) → ((bs : List ℕ) (a : A) (n : ℕ) → p bs ≡ got a n → i ≤ n) → ((a : A) (bs : List ℕ) (b : B) (n : ℕ) → k a bs ≡ got b n → j ≤ n) → (bs : List ℕ) (b : B) (n : ℕ) → and_then p k bs ≡ got b n → i + j ≤ n
unfolding and_then
sum p k i j h g bs b n e =
    let f = both (p bs) k bs b n e in
    omega (arith, f.all, h bs f.one f.used f.first, g f.one (drop f.used bs) b f.more f.second)

-- numbers
pub number_lawful : (k : ℕ) → Lawful (number k)
unfolding number
number_lawful k = then_lawful _ _ (some_lawful k) (λ bs. done_lawful _)

number_enough : (k : ℕ) (bs : List ℕ) (v n : ℕ) → number k bs ≡ got v n → k ≤ n
unfolding number
number_enough k bs v n e = let u = unmade (some k) _ bs v n e in omega (arith, some_used k bs u.0 n u.1)

int16_reads : Reads int16 2
unfolding int16
int16_reads = record { lawful = then_lawful _ _ (number_lawful 2) (λ n. done_lawful _); enough = more (number 2) _ 2 (number_enough 2) }

int32_reads : Reads int32 4
unfolding int32
int32_reads = record { lawful = then_lawful _ _ (number_lawful 4) (λ n. done_lawful _); enough = more (number 4) _ 4 (number_enough 4) }

int64_reads : Reads int64 8
unfolding int64
int64_reads = record { lawful = then_lawful _ _ (number_lawful 8) (λ n. done_lawful _); enough = more (number 8) _ 8 (number_enough 8) }

double_reads : Reads double 8
unfolding double
double_reads = record { lawful = number_lawful 8; enough = number_enough 8 }

truth_reads : Reads truth 1
unfolding truth
truth_reads = reads _ (then_lawful _ _ byte_lawful (λ b. provided_lawful _ _ _ (done_lawful _))) (then_takes _ _ byte_takes)

uuid_enough : (bs u : List ℕ) (n : ℕ) → uuid bs ≡ got u n → 16 ≤ n
unfolding uuid
uuid_enough bs u n e = omega (arith, some_used 16 bs u n e)

-- types
typed_lawful : (r : TypeRead) → Lawful (typed r)
typed_lawful (R.Got t) = done_lawful t
typed_lawful (R.Refused why) = refuse_lawful why

kind_reads : Reads kind 1
unfolding kind
kind_reads = reads _ (then_lawful _ _ byte_lawful (λ b. typed_lawful (by_binary_code b))) (then_takes _ _ byte_takes)

-- strings and headers
module _ (lim : TConfiguration) where
  sized_lawful : (n : ℕ) → Lawful (sized lim n)
  unfolding sized
  sized_lawful n = provided_lawful _ _ _ (provided_lawful _ _ _ (some_lawful n))

  binary_reads : Reads (binary lim) 4
  unfolding binary
  binary_reads = record { lawful = then_lawful _ _ (number_lawful 4) sized_lawful; enough = more (number 4) _ 4 (number_enough 4) }

  pub text_lawful : Lawful (text lim)
  unfolding text
  text_lawful = then_lawful _ _ binary_reads.lawful (λ bs. provided_lawful _ _ _ (done_lawful _))

  pub items_reads : Reads (items lim) 5
  unfolding items
  items_reads =
      record {
        lawful = then_lawful _ _ kind_reads.lawful (λ t. then_lawful _ _ (number_lawful 4) (λ n. listed_lawful lim t n));
        enough = sum kind _ 1 4 kind_reads.enough (λ t. more (number 4) _ 4 (number_enough 4));
      }

  counted_lawful : (n : ℕ) → Lawful (counted lim n)
  unfolding counted
  counted_lawful n = provided_lawful _ _ _ (provided_lawful _ _ _ (done_lawful n))

  paired_reads : (k v : TType) → Reads (paired lim k v) 4
  unfolding paired
  paired_reads k v =
      record {
        lawful = then_lawful _ _ (number_lawful 4) (λ n. then_lawful _ _ (counted_lawful n) (λ m. done_lawful _));
        enough = more (number 4) _ 4 (number_enough 4);
      }

  pub pairs_reads : Reads (pairs lim) 6
  unfolding pairs
  pairs_reads =
      record {
        lawful = then_lawful _ _ kind_reads.lawful (λ k. then_lawful _ _ kind_reads.lawful (λ v. (paired_reads k v).lawful));
        enough = sum kind _ 1 5 kind_reads.enough (λ k. sum kind _ 1 4 kind_reads.enough (λ v. (paired_reads k v).enough));
      }

  named_lawful : (m : TMessageType) → Lawful (named lim m)
  unfolding named sequenced
  named_lawful m = then_lawful _ _ text_lawful (λ name. then_lawful _ _ (number_lawful 4) (λ n. done_lawful _))

  message_kind_lem : (r : MessageTypeRead) → Lawful (message_typed r)
  message_kind_lem (MR.Got m) = done_lawful m
  message_kind_lem (MR.Refused why) = refuse_lawful why

  pub message_lawful : Lawful (message lim)
  unfolding message
  message_lawful = then_lawful _ _ (number_lawful 4) (λ n. provided_lawful _ _ _ (then_lawful _ _ (message_kind_lem (message_by_number (n % 256))) named_lawful))

  pub message_enough : (bs : List ℕ) (a : _) (n : ℕ) → message lim bs ≡ got a n → 4 ≤ n
  unfolding message
  message_enough = more (number 4) _ 4 (number_enough 4)

-- fields
behind_code : (b : Bool) (p q : Reader Field) → Lawful p → Lawful q → Lawful (cond b p q)
behind_code true p q lp lq = lp
behind_code false p q lp lq = lq

field_reads : Reads field 1
unfolding field
field_reads =
    reads _
    (then_lawful _ _ byte_lawful
    (λ b. behind_code (eqb b 0) _ _ (done_lawful _)
    (then_lawful _ _ (typed_lawful (by_binary_code b)) (λ t. then_lawful _ _ int16_reads.lawful (λ id. done_lawful _)))))
    (then_takes _ _ byte_takes)

no_field : field [] ≡ refused END
unfolding field and_then byte
no_field = refl

at_least_one : (t : TType) → 0 < least_size t
at_least_one T.Stop = omega arith
at_least_one T.Bool = omega arith
at_least_one T.I08 = omega arith
at_least_one T.I16 = omega arith
at_least_one T.I32 = omega arith
at_least_one T.I64 = omega arith
at_least_one T.Double = omega arith
at_least_one T.String = omega arith
at_least_one T.List = omega arith
at_least_one T.Set = omega arith
at_least_one T.Map = omega arith
at_least_one T.Struct = omega arith
at_least_one T.Uuid = omega arith

pub binary_owes : Owes words.binary
binary_owes =
    record {
      truth = truth_reads;
      int8 = reads _ int8_lawful int8_takes;
      int16 = int16_reads;
      int32 = int32_reads;
      int64 = int64_reads;
      double = double_reads;
      uuid = record { lawful = uuid_lawful; enough = uuid_enough };
      binary = binary_reads;
      list = items_reads;
      set = items_reads;
      map = pairs_reads;
      field = λ last. field_reads;
      none = λ last. no_field;
      struct = omega arith;
      some = at_least_one;
    }
