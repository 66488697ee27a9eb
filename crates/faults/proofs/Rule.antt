-- What a law of tracked reading owes for each word: then it holds of every header. `R m A t p`: t is tracked, p the reader that it follows, m the longest path.
-- Assumes nothing.
use mathlib.Core.Path.{◌≡◌}
use mathlib.Core.Bool.{Bool, true, false, cond}
use mathlib.Core.List.{List}
use Prim.Native.Nat.{ℕ, zero, suc, ◌+◌, ◌*◌, ◌/◌, ◌%◌, ◌^◌, ◌≤◌}
use lib.Dec.{eqb, ltb}
use lib.ListN.{length}
use lib.IntN.{ℤ, pos, ◌+ℤ◌}
use lib.Signed.{lt_z}
use Rattle.types.specs.Refusals.{END, BAD_VERSION, BAD_BOOL, LONG_VARINT, FIELD_ID, SIZE_LIMIT, NEGATIVE_SIZE, BAD_UTF8, RANGE}
use Rattle.types.specs.Codes.{element_type, field_type, message_by_number}
use Rattle.types.specs.declared.TType.{TType}
use Rattle.types.specs.declared.TypeRead.{TypeRead}
use Rattle.types.specs.declared.TypeRead.TheVariants as TR
use Rattle.types.specs.declared.FieldType.{FieldType}
use Rattle.types.specs.declared.FieldType.TheVariants as F
use Rattle.types.specs.declared.TMessageType.{TMessageType}
use Rattle.types.specs.declared.MessageTypeRead.{MessageTypeRead}
use Rattle.types.specs.declared.MessageTypeRead.TheVariants as MR
use Rattle.types.specs.declared.TConfiguration.{TConfiguration}
use Rattle.numbers.specs.Varint as n
use Rattle.heads.specs.Reader as r
use Rattle.heads.specs.Reader.{Reader}
use Rattle.heads.specs.Heads as h
use Rattle.faults.specs.Tracked as t
use Rattle.faults.specs.Tracked.{Tracked, Step}
use Rattle.faults.specs.Heads as th
use Rattle.faults.proofs.Readers.{long_is, group_is, varint_is}

-- a bound has no say where it is no less than the bytes left
abbrev pub Enough : {A : Type 0} → (ℕ → Tracked A) → Type 0
Enough f = (j k : ℕ) (bs : List ℕ) → length bs ≤ j → length bs ≤ k → f j bs ≡ f k bs

-- what each word owes
pub record Rule (R : ℕ → (A : Type 0) → Tracked A → Reader A → Type 0) : Type 1 where
  pub done : (m : ℕ) {A : Type 0} (a : A) → R m _ (t.done a) (r.done a)
  pub refuse : (m : ℕ) {A : Type 0} (why : ℕ) → R m A (t.refuse why) (r.refuse why)
  pub missing : (m : ℕ) {A : Type 0} → R m A t.missing (r.refuse END)
  pub then : (m : ℕ) {A B : Type 0} (p : Tracked A) (q : Reader A) (k : A → Tracked B) (l : A → Reader B) → R m _ p q → ((a : A) → R m _ (k a) (l a)) → R m _ (t.and_then p k) (r.and_then q l)
  pub provided : (m : ℕ) {A : Type 0} (ok : Bool) (why : ℕ) (p : Tracked A) (q : Reader A) → R m _ p q → R m _ (t.provided ok why p) (r.provided ok why q)
  pub byte : (m : ℕ) → R m _ t.byte r.byte
  pub some : (m : ℕ) (n : ℕ) → R m _ (t.some n) (r.some n)
  pub ahead : (m : ℕ) {A : Type 0} (n : ℕ) (a : A) → R m _ (t.ahead n a) (r.ahead n a)
  pub labelled : (m : ℕ) {A : Type 0} (i : Step) (p : Tracked A) (q : Reader A) → R m _ p q → R (suc m) _ (t.labelled i p) q
  pub left : (m : ℕ) {A : Type 0} (f : ℕ → Tracked A) (g : ℕ → Reader A) → Enough f → ((n : ℕ) → R m _ (f n) (g n)) → R m _ (λ bs. f (length bs) bs) (λ bs. g (length bs) bs)
  pub same : (m : ℕ) {A : Type 0} (p : Tracked A) (q q' : Reader A) → R m _ p q → ((bs : List ℕ) → q bs ≡ q' bs) → R m _ p q'

module _ (R : ℕ → (A : Type 0) → Tracked A → Reader A → Type 0) (ru : Rule R) where
  choose : (m : ℕ) {A : Type 0} (c : Bool) (p p' : Tracked A) (q q' : Reader A) → R m _ p q → R m _ p' q' → R m _ (cond c p p') (cond c q q')
  choose m true p p' q q' a b = a
  choose m false p p' q q' a b = b

  -- made of what is read
  pub made : (m : ℕ) {A B : Type 0} (p : Tracked A) (q : Reader A) (g : A → B) → R m _ p q → R m _ (t.and_then p (λ a. t.done (g a))) (r.and_then q (λ a. r.done (g a)))
  made m p q g a = ru.then m p q _ _ a (λ x. ru.done m (g x))

  -- what calls for bytes ahead
  pub backed_r : (m : ℕ) {A : Type 0} (need : A → ℕ) (p : Tracked A) (q : Reader A) → R m _ p q → R m _ (t.backed need p) (r.backed need q)
  unfolding t.backed r.backed
  backed_r m need p q a = ru.then m p q _ _ a (λ x. ru.ahead m (need x) x)

  module _ (m : ℕ) where
    groups_r : (k : ℕ) → R m _ (th.groups k) (n.groups k)
    unfolding th.groups
    groups_r zero = ru.same m _ (r.refuse LONG_VARINT) _ (ru.refuse m LONG_VARINT) (long_is 0 LONG_VARINT)
    groups_r (suc k) =
        ru.same m _ _ _
        (ru.then m t.byte r.byte _ (λ b. cond (ltb b 128) (r.done b) (r.and_then (n.groups k) (λ v. r.done (b % 128 + 128 * v)))) (ru.byte m)
        (λ b. choose m (ltb b 128) _ _ _ _ (ru.done m b) (made m (th.groups k) (n.groups k) (λ v. b % 128 + 128 * v) (groups_r k))))
        (group_is k)

    varint_r : (w k : ℕ) → R m _ (th.varint w k) (n.varint w k)
    unfolding th.varint
    varint_r w k = ru.same m _ _ _ (made m (th.groups k) (n.groups k) (λ v. v % 2 ^ w) (groups_r k)) (varint_is w k)

    pub number32_r : R m _ th.number32 h.number32
    unfolding th.number32 h.number32
    number32_r = varint_r 32 5

    number64_r : R m _ th.number64 h.number64
    unfolding th.number64 h.number64
    number64_r = varint_r 64 10

    pub int8_r : R m _ th.int8 h.int8
    unfolding th.int8 h.int8
    int8_r = made m _ _ _ (ru.byte m)

    pub int32_r : R m _ th.int32 h.int32
    unfolding th.int32 h.int32
    int32_r = made m _ _ _ number32_r

    pub int64_r : R m _ th.int64 h.int64
    unfolding th.int64 h.int64
    int64_r = made m _ _ _ number64_r

    pub int16_r : R m _ th.int16 h.int16
    unfolding th.int16 h.int16
    int16_r = ru.then m _ _ _ _ int32_r (λ z. ru.provided m _ RANGE _ _ (ru.done m z))

    pub double_r : R m _ th.double h.double
    unfolding th.double h.double
    double_r = made m _ _ _ (ru.some m 8)

    pub uuid_r : R m _ th.uuid h.uuid
    unfolding th.uuid h.uuid
    uuid_r = ru.some m 16

    pub truth_r : R m _ th.truth h.truth
    unfolding th.truth h.truth
    truth_r = ru.then m _ _ _ _ (ru.byte m) (λ b. ru.provided m _ BAD_BOOL _ _ (ru.done m _))

    pub binary_r : (lim : TConfiguration) → R m _ (th.binary lim) (h.binary lim)
    unfolding th.binary h.binary
    binary_r lim = ru.then m _ _ _ _ number32_r (λ n. ru.provided m _ SIZE_LIMIT _ _ (ru.some m n))

    pub text_r : (lim : TConfiguration) → R m _ (th.text lim) (h.text lim)
    unfolding th.text h.text
    text_r lim = ru.then m _ _ _ _ (binary_r lim) (λ bs. ru.provided m _ BAD_UTF8 _ _ (ru.done m bs))

    typed_r : (x : TypeRead) → R m _ (th.typed x) (h.typed x)
    typed_r (TR.Got ty) = ru.done m ty
    typed_r (TR.Refused why) = ru.refuse m why

    counted_r : (lim : TConfiguration) (n : ℕ) → R m _ (th.counted lim n) (h.counted lim n)
    unfolding th.counted h.counted
    counted_r lim n = ru.provided m _ NEGATIVE_SIZE _ _ (ru.provided m _ SIZE_LIMIT _ _ (ru.done m n))

    listed_r : (lim : TConfiguration) (ty : TType) (n : ℕ) → R m _ (th.listed lim ty n) (h.listed lim ty n)
    unfolding th.listed h.listed
    listed_r lim ty n = made m _ _ _ (counted_r lim n)

    pub items_r : (lim : TConfiguration) → R m _ (th.items lim) (h.items lim)
    unfolding th.items h.items
    items_r lim =
        ru.then m _ _ _ _ (ru.byte m)
        (λ b. ru.then m _ _ _ _ (typed_r (element_type (b % 16)))
        (λ ty. ru.then m _ _ _ _ (choose m (ltb (b / 16) 15) _ _ _ _ (ru.done m (b / 16)) number32_r) (listed_r lim ty)))

    mapped_r : (lim : TConfiguration) (n : ℕ) → R m _ (th.mapped lim n) (h.mapped lim n)
    unfolding th.mapped h.mapped
    mapped_r lim n =
        ru.then m _ _ _ _ (ru.byte m)
        (λ b. ru.then m _ _ _ _ (typed_r (element_type (b / 16)))
        (λ k. ru.then m _ _ _ _ (typed_r (element_type (b % 16))) (λ v. made m _ _ _ (counted_r lim n))))

    pub pairs_r : (lim : TConfiguration) → R m _ (th.pairs lim) (h.pairs lim)
    unfolding th.pairs h.pairs
    pairs_r lim = ru.then m _ _ _ _ number32_r (λ n. choose m (eqb n 0) _ _ _ _ (ru.done m _) (mapped_r lim n))

    pub items_head_r : (lim : TConfiguration) → R m _ (th.items_head lim) (h.items_head lim)
    unfolding th.items_head h.items_head
    items_head_r lim = backed_r m _ _ _ (items_r lim)

    pub pairs_head_r : (lim : TConfiguration) → R m _ (th.pairs_head lim) (h.pairs_head lim)
    unfolding th.pairs_head h.pairs_head
    pairs_head_r lim = backed_r m _ _ _ (pairs_r lim)

    field_id_r : (last : ℤ) (delta : ℕ) → R m _ (th.field_id last delta) (h.field_id last delta)
    unfolding th.field_id h.field_id
    field_id_r last delta =
        choose m (eqb delta 0) _ _ _ _ int16_r (choose m (lt_z (pos 32767) (last +ℤ pos delta)) _ _ _ _ (ru.refuse m FIELD_ID) (ru.done m _))

    of_type_r : (last : ℤ) (delta : ℕ) (x : FieldType) → R m _ (th.of_type last delta x) (h.of_type last delta x)
    of_type_r last delta F.Stop = ru.done m _
    of_type_r last delta (F.Truth b) = made m _ _ _ (field_id_r last delta)
    of_type_r last delta (F.Kind ty) = made m _ _ _ (field_id_r last delta)
    of_type_r last delta (F.Refused why) = ru.refuse m why

    pub field_r : (last : ℤ) → R m _ (th.field last) (h.field last)
    unfolding th.field h.field
    field_r last = ru.then m _ _ _ _ (ru.byte m) (λ b. of_type_r last (b / 16) (field_type (b % 16)))

    message_typed_r : (x : MessageTypeRead) → R m _ (th.message_typed x) (h.message_typed x)
    message_typed_r (MR.Got k) = ru.done m k
    message_typed_r (MR.Refused why) = ru.refuse m why

    named_r : (lim : TConfiguration) (k : TMessageType) → R m _ (th.named lim k) (h.named lim k)
    unfolding th.named h.named
    named_r lim k = ru.then m _ _ _ _ number32_r (λ n. made m _ _ _ (text_r lim))

    versioned_r : (lim : TConfiguration) → R m _ (th.versioned lim) (h.versioned lim)
    unfolding th.versioned h.versioned
    versioned_r lim =
        ru.then m _ _ _ _ (ru.byte m)
        (λ b. ru.provided m _ BAD_VERSION _ _ (ru.then m _ _ _ _ (message_typed_r (message_by_number (b / 32))) (named_r lim)))

    pub message_r : (lim : TConfiguration) → R m _ (th.message lim) (h.message lim)
    unfolding th.message h.message
    message_r lim = ru.then m _ _ _ _ (ru.byte m) (λ b. ru.provided m _ BAD_VERSION _ _ (versioned_r lim))
