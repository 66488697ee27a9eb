-- Plans tell, over a whole frame, what readers read: word by word, header by header, and for skip as a whole. Assumes nothing.
use mathlib.Core.Path.{◌≡◌, refl, sym, ap, ◌∙◌}
use mathlib.Core.Bool.{Bool, true, false, cond}
use mathlib.Core.List.{List, [], ◌∷◌}
use Prim.Native.Nat.{ℕ, zero, suc, ◌+◌, ◌*◌, ◌/◌, ◌%◌, ◌^◌}
use native.Mathlib.Omega.{arith}
use borrow.Author.Tests.{le-leb}
use lib.Dec.{leb, ltb, eqb}
use lib.IntN.{ℤ, pos, ◌+ℤ◌}
use lib.Signed.{lt_z}
use lib.ListN.{length, take, drop, length-drop}
use Rattle.types.specs.Refusals.{END, BAD_TYPE, FIELD_ID, LONG_VARINT, DEPTH, RANGE}
use Rattle.types.specs.Codes.{element_type, field_type}
use Rattle.types.specs.declared.TType.{TType}
use Rattle.types.specs.declared.TType.TheVariants as T
use Rattle.types.specs.declared.TypeRead.{TypeRead}
use Rattle.types.specs.declared.TypeRead.TheVariants as R
use Rattle.types.specs.declared.FieldType.{FieldType}
use Rattle.types.specs.declared.FieldType.TheVariants as F
use Rattle.types.specs.declared.TConfiguration.{TConfiguration}
use Rattle.types.specs.Value as val
use Rattle.types.specs.Value.{Tree, Trees, Pairs}
use Rattle.zigzag.specs.Zigzag.{in_range16}
use Rattle.numbers.specs.Varint as num
use Rattle.numbers.specs.Varint.{Found, placed, more, keep, varint}
use Rattle.heads.specs.Reader as r
use Rattle.heads.specs.Reader.{Reader}
use Rattle.heads.specs.Heads as h
use Rattle.heads.specs.Heads.{Field, stop, bool, value, least_size}
use Rattle.skip.specs.Walk as w
use Rattle.skip.specs.Walk.{Entry}
use Rattle.skip.specs.Value as v
use Rattle.skip.specs.Value.{startable, fields_of}
use Rattle.frame.specs.Ask.{got, refused, passing, Plan, done, refuse, and_then, provided, byte, some, ahead, backed, Told, ends, refuses, behind, told}
use Rattle.frame.specs.Plans.{groups, number32, int32, int16, typed, counted, listed, items, mapped, pairs, items_head, pairs_head, field_id, of_type, field, Passed, number, short, truth, binary, many, many_pairs, after, walk, fields, sequence, Boxes, shut, roomy, shaped, skip_plan}
use Rattle.frame.proofs.Asks.{told_passing, further, told_then}

-- what a reader found, told; g is what is kept of the value
abbrev pub as_told : {A B : Type 0} → (A → B) → Found A → Told B
as_told g (num.got a n) = ends (g a) n
as_told g (num.refused why) = refuses why

-- over a whole frame the plan tells what the reader reads
unfoldable pub Follows : {A B : Type 0} → (A → B) → Plan B → Reader A → Type 0
Follows g p q = (bs : List ℕ) → told (p (length bs)) bs ≡ as_told g (q bs)

abbrev same : {A : Type 0} → A → A
same a = a

abbrev none : {A : Type 0} → A → Passed
none a = tt

told_placed : {A B : Type 0} (g : A → B) (n : ℕ) (x : Found A) → behind n (as_told g x) ≡ as_told g (placed n x)
told_placed g n (num.got a m) = refl
told_placed g n (num.refused why) = refl

module _ {A B C D : Type 0} (g : A → B) (f : C → D) where
  onwards : (k : B → Plan D) (k' : A → Reader C) (bs : List ℕ) (x : Found A) → ((a : A) → Follows f (k (g a)) (k' a)) → further k (length bs) bs (as_told g x) ≡ as_told f (r.onward k' bs x)
  unfolding Follows
  onwards k k' bs (num.got a n) e =
      ap (λ (l : ℕ). behind n (told (k (g a) l) (drop n bs))) (sym (length-drop n bs)) ∙ ap (behind n) (e a (drop n bs)) ∙ told_placed f n (k' a (drop n bs))
  onwards k k' bs (num.refused why) e = refl

  pub then_follows : (p : Plan B) (p' : Reader A) (k : B → Plan D) (k' : A → Reader C) → Follows g p p' → ((a : A) → Follows f (k (g a)) (k' a)) → Follows f (and_then p k) (r.and_then p' k')
  unfolding Follows r.and_then
  then_follows p p' k k' e e' bs = told_then p k (length bs) bs ∙ ap (further k (length bs) bs) (e bs) ∙ onwards k k' bs (p' bs) e'

module _ {A B : Type 0} (g : A → B) where
  pub done_follows : (a : A) → Follows g (done (g a)) (r.done a)
  unfolding Follows done r.done told
  done_follows a bs = refl

  pub refuse_follows : (why : ℕ) → Follows g (refuse why) (r.refuse why)
  unfolding Follows refuse r.refuse told
  refuse_follows why bs = refl

  pub provided_follows : (ok : Bool) (why : ℕ) (p : Plan B) (p' : Reader A) → Follows g p p' → Follows g (provided ok why p) (r.provided ok why p')
  unfolding Follows provided r.provided told
  provided_follows true why p p' e bs = e bs
  provided_follows false why p p' e bs = refl

  pub cond_follows : (ok : Bool) (p q : Plan B) (p' q' : Reader A) → Follows g p p' → Follows g q q' → Follows g (cond ok p q) (cond ok p' q')
  cond_follows true p q p' q' e f = e
  cond_follows false p q p' q' e f = f

pub byte_follows : Follows same byte r.byte
unfolding Follows byte r.byte told
byte_follows [] = refl
byte_follows (b ∷ bs) = refl

-- bytes that must be ahead
pub ahead_follows : {A : Type 0} (n : ℕ) (a : A) → Follows same (ahead n a) (r.ahead n a)
unfolding Follows ahead r.ahead told
ahead_follows n a bs = go (leb n (length bs))
  where
    go : (ok : Bool) → told (cond ok (got a) (refused END)) bs ≡ as_told same (cond ok (num.got a 0) (num.refused END))
    go true = refl
    go false = refl

pub backed_follows : {A : Type 0} (need : A → ℕ) (p : Plan A) (q : Reader A) → Follows same p q → Follows same (backed need p) (r.backed need q)
unfolding backed r.backed
backed_follows need p q e = then_follows same same p q _ _ e (λ a. ahead_follows (need a) a)

-- bytes passed over: the reader has them, the plan only how many
pub some_follows : (n : ℕ) → Follows none (some n) (r.some n)
unfolding Follows some r.some told
some_follows n bs = go (leb n (length bs))
  where
    go : (ok : Bool) → told (cond ok (passing n (got tt)) (refused END)) bs ≡ as_told none (cond ok (num.got (take n bs) n) (num.refused END))
    go true = told_passing n (got tt) bs ∙ ap (ends tt) (omega arith)
    go false = refl

-- what is made of a value has no say
made : {A B : Type 0} (g : A → B) (bs : List ℕ) (x : Found A) → as_told none x ≡ as_told none (r.onward (λ a. r.done (g a)) bs x)
unfolding r.done
made g bs (num.got a n) = ap (ends tt) (omega arith)
made g bs (num.refused why) = refl

kept : {A : Type 0} (bs : List ℕ) (x : Found A) → x ≡ r.onward (λ a. r.done a) bs x
unfolding r.done
kept bs (num.got a n) = ap (num.got a) (omega arith)
kept bs (num.refused why) = refl

pub making_follows : {A B : Type 0} (p : Plan Passed) (q : Reader A) (g : A → B) → Follows none p q → Follows none p (r.and_then q (λ a. r.done (g a)))
unfolding Follows r.and_then
making_follows p q g e bs = e bs ∙ made g bs (q bs)

-- numbers, by their groups
grouped : (k : ℕ) (b : ℕ) (bs : List ℕ) (small : Bool) (x : Found ℕ) → x ≡ num.groups k bs
    → cond small (num.got b 1) (more (b % 128) x) ≡ placed 1 (cond small (r.done b bs) (r.onward (λ v. r.done (b % 128 + 128 * v)) bs x))
unfolding r.done
grouped k b bs true x e = refl
grouped k b bs false (num.got v n) e = ap (num.got (b % 128 + 128 * v)) (omega arith)
grouped k b bs false (num.refused why) e = refl

pick : (b k : ℕ) → Reader ℕ
pick b k = cond (ltb b 128) (r.done b) (r.and_then (num.groups k) (λ v. r.done (b % 128 + 128 * v)))

pick_at : (b k : ℕ) (bs : List ℕ) (small : Bool) → cond small (r.done b) (r.and_then (num.groups k) (λ v. r.done (b % 128 + 128 * v))) bs ≡ cond small (r.done b bs) (r.onward (λ v. r.done (b % 128 + 128 * v)) bs (num.groups k bs))
unfolding r.and_then
pick_at b k bs true = refl
pick_at b k bs false = refl

groups_is : (k : ℕ) (bs : List ℕ) → num.groups (suc k) bs ≡ r.and_then r.byte (λ b. pick b k) bs
unfolding r.and_then r.byte pick
groups_is k [] = refl
groups_is k (b ∷ bs) = grouped k b bs (ltb b 128) (num.groups k bs) refl ∙ ap (placed 1) (sym (pick_at b k bs (ltb b 128)))

-- a reader that reads the same may stand in its place
pub by_reader : {A B : Type 0} (g : A → B) (p : Plan B) (q q' : Reader A) → ((bs : List ℕ) → q bs ≡ q' bs) → Follows g p q' → Follows g p q
unfolding Follows
by_reader g p q q' e f bs = f bs ∙ ap (as_told g) (sym (e bs))

refused_follows : Follows same (refuse LONG_VARINT) (num.groups 0)
unfolding Follows refuse told
refused_follows bs = refl

pub groups_follows : (k : ℕ) → Follows same (groups k) (num.groups k)
unfolding pick
groups_follows zero = refused_follows
groups_follows (suc k) =
    by_reader same _ _ _ (groups_is k)
    (then_follows same same byte r.byte _ _ byte_follows
    (λ b. cond_follows same (ltb b 128) _ _ _ _ (done_follows same b) (then_follows same same (groups k) (num.groups k) _ _ (groups_follows k) (λ v. done_follows same _))))

keep_is : (w : ℕ) (bs : List ℕ) (x : Found ℕ) → keep w x ≡ r.onward (λ v. r.done (v % 2 ^ w)) bs x
unfolding r.done
keep_is w bs (num.got v n) = ap (num.got (v % 2 ^ w)) (omega arith)
keep_is w bs (num.refused why) = refl

varint_is : (w k : ℕ) (bs : List ℕ) → varint w k bs ≡ r.and_then (num.groups k) (λ v. r.done (v % 2 ^ w)) bs
unfolding r.and_then
varint_is w k bs = keep_is w bs (num.groups k bs)

pub number32_follows : Follows same number32 h.number32
unfolding number32 h.number32
number32_follows = by_reader same _ _ _ (varint_is 32 5) (then_follows same same (groups 5) (num.groups 5) _ _ (groups_follows 5) (λ v. done_follows same _))

int32_is : Follows same int32 h.int32
unfolding int32 h.int32
int32_is = then_follows same same number32 h.number32 _ _ number32_follows (λ n. done_follows same _)

pub int16_follows : Follows same int16 h.int16
unfolding int16 h.int16
int16_follows = then_follows same same int32 h.int32 _ _ int32_is (λ z. provided_follows same (in_range16 z) RANGE _ _ (done_follows same z))

-- headers
typed_follows : (x : TypeRead) → Follows same (typed x) (h.typed x)
typed_follows (R.Got t) = done_follows same t
typed_follows (R.Refused why) = refuse_follows same why

counted_follows : (lim : TConfiguration) (n : ℕ) → Follows same (counted lim n) (h.counted lim n)
unfolding counted h.counted
counted_follows lim n = provided_follows same _ _ _ _ (provided_follows same _ _ _ _ (done_follows same n))

listed_follows : (lim : TConfiguration) (t : TType) (n : ℕ) → Follows same (listed lim t n) (h.listed lim t n)
unfolding listed h.listed
listed_follows lim t n = then_follows same same _ _ _ _ (counted_follows lim n) (λ m. done_follows same _)

pub items_follows : (lim : TConfiguration) → Follows same (items lim) (h.items lim)
unfolding items h.items
items_follows lim =
    then_follows same same _ _ _ _ byte_follows
    (λ b. then_follows same same _ _ _ _ (typed_follows (element_type (b % 16)))
    (λ t. then_follows same same _ _ _ _ (cond_follows same (ltb (b / 16) 15) _ _ _ _ (done_follows same (b / 16)) number32_follows) (listed_follows lim t)))

mapped_follows : (lim : TConfiguration) (n : ℕ) → Follows same (mapped lim n) (h.mapped lim n)
unfolding mapped h.mapped
mapped_follows lim n =
    then_follows same same _ _ _ _ byte_follows
    (λ b. then_follows same same _ _ _ _ (typed_follows (element_type (b / 16)))
    (λ k. then_follows same same _ _ _ _ (typed_follows (element_type (b % 16)))
    (λ v. then_follows same same _ _ _ _ (counted_follows lim n) (λ m. done_follows same _))))

pub pairs_follows : (lim : TConfiguration) → Follows same (pairs lim) (h.pairs lim)
unfolding pairs h.pairs
pairs_follows lim =
    then_follows same same _ _ _ _ number32_follows (λ n. cond_follows same (eqb n 0) _ _ _ _ (done_follows same _) (mapped_follows lim n))

items_head_follows : (lim : TConfiguration) → Follows same (items_head lim) (h.items_head lim)
unfolding items_head h.items_head
items_head_follows lim = backed_follows _ _ _ (items_follows lim)

pairs_head_follows : (lim : TConfiguration) → Follows same (pairs_head lim) (h.pairs_head lim)
unfolding pairs_head h.pairs_head
pairs_head_follows lim = backed_follows _ _ _ (pairs_follows lim)

field_id_follows : (last : ℤ) (delta : ℕ) → Follows same (field_id last delta) (h.field_id last delta)
unfolding field_id h.field_id
field_id_follows last delta =
    cond_follows same (eqb delta 0) _ _ _ _ int16_follows (cond_follows same (lt_z (pos 32767) (last +ℤ pos delta)) _ _ _ _ (refuse_follows same FIELD_ID) (done_follows same _))

of_type_follows : (last : ℤ) (delta : ℕ) (x : FieldType) → Follows same (of_type last delta x) (h.of_type last delta x)
of_type_follows last delta F.Stop = done_follows same _
of_type_follows last delta (F.Truth b) = then_follows same same _ _ _ _ (field_id_follows last delta) (λ id. done_follows same _)
of_type_follows last delta (F.Kind t) = then_follows same same _ _ _ _ (field_id_follows last delta) (λ id. done_follows same _)
of_type_follows last delta (F.Refused why) = refuse_follows same why

pub field_follows : (last : ℤ) → Follows same (field last) (h.field last)
unfolding field h.field
field_follows last = then_follows same same _ _ _ _ byte_follows (λ b. of_type_follows last (b / 16) (field_type (b % 16)))

-- values, passed over
one_follows : Follows none (some 1) r.byte
unfolding Follows some r.byte told
one_follows [] = refl
one_follows (b ∷ bs) = rw (le-leb 1 (length (b ∷ bs)) (omega arith))

number_follows : (w k : ℕ) → Follows none (number k) (varint w k)
unfolding number
number_follows w k = by_reader none _ _ _ (varint_is w k) (then_follows same none (groups k) (num.groups k) _ _ (groups_follows k) (λ v. done_follows none _))

number32_passed : Follows none (number 5) h.number32
unfolding h.number32
number32_passed = number_follows 32 5

number64_passed : Follows none (number 10) h.number64
unfolding h.number64
number64_passed = number_follows 64 10

truth_follows : Follows none truth h.truth
unfolding truth h.truth
truth_follows = then_follows same none _ _ _ _ byte_follows (λ b. provided_follows none (ltb b 3) _ _ _ (done_follows none (eqb b 1)))

binary_follows : (lim : TConfiguration) → Follows none (binary lim) (h.binary lim)
unfolding binary h.binary
binary_follows lim = then_follows same none _ _ _ _ number32_follows (λ n. provided_follows none (leb n lim.string) _ _ _ (some_follows n))

int8_follows : Follows none (some 1) h.int8
unfolding h.int8
int8_follows = making_follows _ _ _ one_follows

done_is : (bs : List ℕ) → h.int16 bs ≡ r.and_then h.int16 (λ z. r.done z) bs
unfolding r.and_then
done_is bs = kept bs (h.int16 bs)

int16_passed : Follows none short h.int16
unfolding short
int16_passed = by_reader none _ _ _ done_is (then_follows same none _ _ _ _ int16_follows (λ z. done_follows none _))

int32_follows : Follows none (number 5) h.int32
unfolding h.int32
int32_follows = making_follows _ _ _ number32_passed

int64_follows : Follows none (number 10) h.int64
unfolding h.int64
int64_follows = making_follows _ _ _ number64_passed

double_follows : Follows none (some 8) h.double
unfolding h.double
double_follows = making_follows _ _ _ (some_follows 8)

uuid_follows : Follows none (some 16) h.uuid
unfolding h.uuid
uuid_follows = some_follows 16

many_follows : (p : Plan Passed) (q : Reader Tree) → Follows none p q → (n : ℕ) → Follows none (many p n) (v.many q n)
unfolding many v.many
many_follows p q e zero = done_follows none _
many_follows p q e (suc n) = then_follows none none _ _ _ _ e (λ t. making_follows _ _ _ (many_follows p q e n))

many_pairs_follows : (p p' : Plan Passed) (q q' : Reader Tree) → Follows none p q → Follows none p' q' → (n : ℕ) → Follows none (many_pairs p p' n) (v.many_pairs q q' n)
unfolding many_pairs v.many_pairs
many_pairs_follows p p' q q' e e' zero = done_follows none _
many_pairs_follows p p' q q' e e' (suc n) =
    then_follows none none _ _ _ _ e (λ k. then_follows none none _ _ _ _ e' (λ t. making_follows _ _ _ (many_pairs_follows p p' q q' e e' n)))

-- the walk: its sizes have no say
sized_told : {A B : Type 0} (g : A → B) (x : Found A) → as_told g x ≡ as_told (λ (a : A × ℕ). g a.0) (w.with_size x)
sized_told g (num.got a n) = refl
sized_told g (num.refused why) = refl

sizing_follows : {A B : Type 0} (g : A → B) (p : Plan B) (q : Reader A) → Follows g p q → Follows (λ (a : A × ℕ). g a.0) p (w.sizing q)
unfolding Follows w.sizing
sizing_follows g p q e bs = e bs ∙ sized_told g (q bs)

module _ (f : TType → Plan Passed) (f' : TType → Reader Tree) (e : (t : TType) → Follows none (f t) (f' t)) where
  after_follows : (go : ℤ → Plan Passed) (go' : ℤ → Reader (List (Entry Tree))) → ((id : ℤ) → Follows none (go id) (go' id)) → (x : Field) (n : ℕ) → Follows none (after f go x) (w.behind val.truth f' go' x n)
  after_follows go go' i stop n = done_follows none _
  after_follows go go' i (bool b id) n = making_follows _ _ _ (i id)
  after_follows go go' i (value t id) n = then_follows none none _ _ _ _ (sizing_follows none _ _ (e t)) (λ u. making_follows _ _ _ (i id))

  walk_follows : (k : ℕ) (last : ℤ) → Follows none (walk f k last) (w.walk val.truth f' k last)
  unfolding walk w.walk
  walk_follows zero last = refuse_follows none END
  walk_follows (suc k) last =
      then_follows (λ (a : Field × ℕ). a.0) none _ _ _ _ (sizing_follows same _ _ (field_follows last)) (λ a. after_follows (walk f k) (w.walk val.truth f' k) (walk_follows k) a.0 a.1)

  fields_follows : (last : ℤ) → Follows none (fields f last) (w.fields val.truth f' last)
  unfolding Follows fields w.fields
  fields_follows last bs = walk_follows (length bs) last bs

-- the four that hold others
record Boxed (b : Boxes) (b' : v.Boxes) : Type 0 where
  list : Follows none b.sequence b'.list
  set : Follows none b.sequence b'.set
  map : Follows none b.map b'.map
  struct : Follows none b.struct b'.struct

module _ (lim : TConfiguration) where
  sequence_follows : (f : TType → Plan Passed) (f' : TType → Reader Tree) → ((t : TType) → Follows none (f t) (f' t)) → (g : TType → Trees → Tree)
      → Follows none (sequence lim f) (r.and_then (h.items_head lim) (λ x. r.provided (startable x.0 x.1) BAD_TYPE (r.and_then (v.many (f' x.0) x.1) (λ ts. r.done (g x.0 ts)))))
  sequence_follows f f' e g =
      then_follows same none _ _ _ _ (items_head_follows lim)
      (λ x. provided_follows none (startable x.0 x.1) BAD_TYPE _ _ (making_follows _ _ _ (many_follows (f x.0) (f' x.0) (e x.0) x.1)))

  roomy_follows : (f : TType → Plan Passed) (f' : TType → Reader Tree) → ((t : TType) → Follows none (f t) (f' t)) → Boxed (roomy lim f) (v.roomy lim f')
  roomy_follows f f' e =
      record {
        list = sequence_follows f f' e val.list;
        set = sequence_follows f f' e val.set;
        map =
            then_follows same none _ _ _ _ (pairs_head_follows lim)
            (λ x. provided_follows none _ BAD_TYPE _ _ (provided_follows none _ BAD_TYPE _ _
            (making_follows _ _ _ (many_pairs_follows (f x.0) (f x.1) (f' x.0) (f' x.1) (e x.0) (e x.1) x.2))));
        struct = making_follows _ _ _ (fields_follows f f' e (pos 0));
      }

  shut_follows : Boxed shut v.shut
  shut_follows = record { list = refuse_follows none DEPTH; set = refuse_follows none DEPTH; map = refuse_follows none DEPTH; struct = refuse_follows none DEPTH }

  shaped_follows : (b : Boxes) (b' : v.Boxes) → Boxed b b' → (t : TType) → Follows none (shaped lim b t) (v.shaped lim b' t)
  shaped_follows b b' e T.Stop = refuse_follows none BAD_TYPE
  shaped_follows b b' e T.Bool = making_follows _ _ _ truth_follows
  shaped_follows b b' e T.I08 = making_follows _ _ _ int8_follows
  shaped_follows b b' e T.I16 = making_follows _ _ _ int16_passed
  shaped_follows b b' e T.I32 = making_follows _ _ _ int32_follows
  shaped_follows b b' e T.I64 = making_follows _ _ _ int64_follows
  shaped_follows b b' e T.Double = making_follows _ _ _ double_follows
  shaped_follows b b' e T.String = making_follows _ _ _ (binary_follows lim)
  shaped_follows b b' e T.List = e.list
  shaped_follows b b' e T.Set = e.set
  shaped_follows b b' e T.Map = e.map
  shaped_follows b b' e T.Struct = e.struct
  shaped_follows b b' e T.Uuid = making_follows _ _ _ uuid_follows

  -- skip as a plan, over a whole frame, is skip
  pub skip_follows : (room : ℕ) (t : TType) → Follows none (skip_plan lim room t) (v.value_of lim room t)
  unfolding skip_plan v.value_of
  skip_follows zero t = shaped_follows shut v.shut shut_follows t
  skip_follows (suc room) t = shaped_follows _ _ (roomy_follows (skip_plan lim room) (v.value_of lim room) (skip_follows room)) t
