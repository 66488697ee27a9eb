-- Where skip gives DEPTH: exactly where more room would change the answer. An answer that is not DEPTH is the one with any room more, and with more levels than
-- there are bytes DEPTH is never given, since every level has a byte of its own. Assumes nothing.
use mathlib.Core.Path.{◌≡◌, refl, sym, ap, ◌∙◌}
use mathlib.Core.Bool.{Bool, true, false, cond}
use mathlib.Core.Logic.{◌⊎◌, ◌↔◌, inl, inr, ⊎_elim}
use mathlib.Core.List.{List, [], ◌∷◌}
use Prim.Native.Nat.{ℕ, zero, suc, ◌+◌, ◌/◌, ◌%◌, ◌≤◌, ◌<◌}
use native.Mathlib.Omega.{arith}
use lib.Dec.{eqb, leb, ltb}
use lib.IntN.{ℤ, pos, ◌+ℤ◌}
use lib.Signed.{lt_z}
use lib.ListN.{length, get_or, drop, take, length-drop}
use Rattle.types.specs.Refusals.{END, BAD_TYPE, BAD_BOOL, LONG_VARINT, FIELD_ID, SIZE_LIMIT, NEGATIVE_SIZE, DEPTH, RANGE}
use Rattle.types.specs.Codes.{numbered, type_by_number, element_type, as_field, field_type}
use Rattle.types.specs.declared.TType.{TType}
use Rattle.types.specs.declared.TType.TheVariants as T
use Rattle.types.specs.declared.TypeRead.{TypeRead}
use Rattle.types.specs.declared.TypeRead.TheVariants as R
use Rattle.types.specs.declared.FieldType.{FieldType}
use Rattle.types.specs.declared.FieldType.TheVariants as F
use Rattle.types.specs.declared.TConfiguration.{TConfiguration}
use Rattle.types.specs.Value as val
use Rattle.types.specs.Value.{Tree, Trees, no_trees, tree, Pairs, no_pairs, pair}
use Rattle.numbers.specs.Varint.{Found, got, refused, groups, keep, varint, placed}
use Rattle.numbers.proofs.Found.{which}
use Rattle.heads.specs.Reader.{Reader, done, refuse, onward, and_then, provided, byte, some, ahead, backed, read_at}
use Rattle.heads.specs.Heads.{int8, number32, number64, int16, int32, int64, double, uuid, truth, binary, typed, counted, listed, items, mapped, pairs, items_head, pairs_head, field_id, of_type, Field, stop, bool, value, field}
use Rattle.heads.proofs.Lawful.{not_both, Takes}
use Rattle.heads.proofs.Readers.{field_lawful, field_takes}
use Rattle.heads.proofs.Ahead.{items_head_fair, items_head_takes, pairs_head_fair, pairs_head_takes}
use Rattle.skip.specs.Walk.{Entry, with_size, sizing, behind, walk, fields}
use Rattle.skip.specs.Skip.{passed, past, skip_of}
use Rattle.skip.specs.declared.Skipped.TheVariants as S
use Rattle.skip.proofs.Lawfuls.{sizing_lawful, sizing_takes}
use Rattle.skip.specs.Value.{many, many_pairs, Boxes, shut, roomy, shaped, value_of}

-- q answers as p does, unless p says DEPTH
abbrev pub Under : {A : Type 0} → Reader A → Reader A → Type 0
Under p q = (bs : List ℕ) → (p bs ≡ refused DEPTH) ⊎ (q bs ≡ p bs)

same : {A : Type 0} (p : Reader A) → Under p p
same p bs = inr refl

module _ {A B : Type 0} (p q : Reader A) (k l : A → Reader B) (u : Under p q) (v : (a : A) → Under (k a) (l a)) where
  then_under : Under (and_then p k) (and_then q l)
  unfolding and_then
  then_under bs = ⊎_elim (λ e. inl (ap (onward k bs) e)) (λ e. go (p bs) refl e) (u bs)
    where
      go : (x : Found A) → p bs ≡ x → q bs ≡ p bs → (onward k bs (p bs) ≡ refused DEPTH) ⊎ (onward l bs (q bs) ≡ onward k bs (p bs))
      go (got a n) f e =
          ⊎_elim
          (λ d. inl (ap (onward k bs) f ∙ ap (placed n) d))
          (λ d. inr (ap (onward l bs) (e ∙ f) ∙ ap (placed n) d ∙ sym (ap (onward k bs) f)))
          (v a (drop n bs))
      go (refused why) f e = inr (ap (onward l bs) (e ∙ f) ∙ sym (ap (onward k bs) f))

provided_under : {A : Type 0} (ok : Bool) (why : ℕ) (p q : Reader A) → Under p q → Under (provided ok why p) (provided ok why q)
unfolding provided
provided_under true why p q u bs = u bs
provided_under false why p q u bs = inr refl

sizing_under : {A : Type 0} (p q : Reader A) → Under p q → Under (sizing p) (sizing q)
unfolding sizing
sizing_under p q u bs = ⊎_elim (λ e. inl (ap with_size e)) (λ e. inr (ap with_size e)) (u bs)

many_under : (p q : Reader Tree) → Under p q → (n : ℕ) → Under (many p n) (many q n)
unfolding many
many_under p q u zero = same _
many_under p q u (suc n) = then_under p q _ _ u (λ t. then_under (many p n) (many q n) _ _ (many_under p q u n) (λ ts. same _))

pairs_under : (p q p' q' : Reader Tree) → Under p q → Under p' q' → (n : ℕ) → Under (many_pairs p p' n) (many_pairs q q' n)
unfolding many_pairs
pairs_under p q p' q' u v zero = same _
pairs_under p q p' q' u v (suc n) = then_under p q _ _ u (λ k. then_under p' q' _ _ v (λ w. then_under (many_pairs p p' n) (many_pairs q q' n) _ _ (pairs_under p q p' q' u v n) (λ ps. same _)))

module _ (f g : TType → Reader Tree) (u : (t : TType) → Under (f t) (g t)) where
  behind_under : (go on : ℤ → Reader (List (Entry Tree))) → ((id : ℤ) → Under (go id) (on id)) → (x : Field) (h : ℕ) → Under (behind val.truth f go x h) (behind val.truth g on x h)
  behind_under go on v stop h = same _
  behind_under go on v (bool b id) h = then_under (go id) (on id) _ _ (v id) (λ fs. same _)
  behind_under go on v (value t id) h = then_under (sizing (f t)) (sizing (g t)) _ _ (sizing_under (f t) (g t) (u t)) (λ w. then_under (go id) (on id) _ _ (v id) (λ fs. same _))

  walk_under : (k : ℕ) (last : ℤ) → Under (walk val.truth f k last) (walk val.truth g k last)
  unfolding walk
  walk_under zero last = same _
  walk_under (suc k) last = then_under (sizing (field last)) (sizing (field last)) _ _ (same _) (λ h. behind_under (walk val.truth f k) (walk val.truth g k) (walk_under k) h.0 h.1)

  fields_under : (last : ℤ) → Under (fields val.truth f last) (fields val.truth g last)
  unfolding fields
  fields_under last bs = walk_under (length bs) last bs

  record Boxing (b c : Boxes) : Type 0 where
    list : Under b.list c.list
    set : Under b.set c.set
    map : Under b.map c.map
    struct : Under b.struct c.struct

  roomy_under : (lim : TConfiguration) → Boxing (roomy lim f) (roomy lim g)
  roomy_under lim =
      record {
        list = then_under (items_head lim) (items_head lim) _ _ (same _) (λ h. provided_under _ BAD_TYPE _ _ (then_under (many (f h.0) h.1) (many (g h.0) h.1) _ _ (many_under (f h.0) (g h.0) (u h.0) h.1) (λ ts. same _)));
        set = then_under (items_head lim) (items_head lim) _ _ (same _) (λ h. provided_under _ BAD_TYPE _ _ (then_under (many (f h.0) h.1) (many (g h.0) h.1) _ _ (many_under (f h.0) (g h.0) (u h.0) h.1) (λ ts. same _)));
        map = then_under (pairs_head lim) (pairs_head lim) _ _ (same _) (λ h. provided_under _ BAD_TYPE _ _ (provided_under _ BAD_TYPE _ _ (then_under (many_pairs (f h.0) (f h.1) h.2) (many_pairs (g h.0) (g h.1) h.2) _ _ (pairs_under (f h.0) (g h.0) (f h.1) (g h.1) (u h.0) (u h.1) h.2) (λ ps. same _))));
        struct = then_under (fields val.truth f (pos 0)) (fields val.truth g (pos 0)) _ _ (fields_under (pos 0)) (λ fs. same _);
      }

-- of each type, from boxes to boxes
shaped_under : (f g : TType → Reader Tree) (u : (t : TType) → Under (f t) (g t)) (lim : TConfiguration) (ty : TType) → Under (shaped lim (roomy lim f) ty) (shaped lim (roomy lim g) ty)
shaped_under f g u lim T.Stop = same _
shaped_under f g u lim T.Bool = same _
shaped_under f g u lim T.I08 = same _
shaped_under f g u lim T.I16 = same _
shaped_under f g u lim T.I32 = same _
shaped_under f g u lim T.I64 = same _
shaped_under f g u lim T.Double = same _
shaped_under f g u lim T.String = same _
shaped_under f g u lim T.List = (roomy_under f g u lim).list
shaped_under f g u lim T.Set = (roomy_under f g u lim).set
shaped_under f g u lim T.Map = (roomy_under f g u lim).map
shaped_under f g u lim T.Struct = (roomy_under f g u lim).struct
shaped_under f g u lim T.Uuid = same _

-- no room: DEPTH, or no container
shut_under : (lim : TConfiguration) (box : Boxes) (ty : TType) → Under (shaped lim shut ty) (shaped lim box ty)
unfolding refuse
shut_under lim box T.Stop bs = inr refl
shut_under lim box T.Bool bs = inr refl
shut_under lim box T.I08 bs = inr refl
shut_under lim box T.I16 bs = inr refl
shut_under lim box T.I32 bs = inr refl
shut_under lim box T.I64 bs = inr refl
shut_under lim box T.Double bs = inr refl
shut_under lim box T.String bs = inr refl
shut_under lim box T.List bs = inl refl
shut_under lim box T.Set bs = inl refl
shut_under lim box T.Map bs = inl refl
shut_under lim box T.Struct bs = inl refl
shut_under lim box T.Uuid bs = inr refl

pub value_under_lem : (lim : TConfiguration) (room more : ℕ) → room ≤ more → (ty : TType) → Under (value_of lim room ty) (value_of lim more ty)
unfolding value_of
value_under_lem lim zero zero h ty = same _
value_under_lem lim zero (suc m) h ty = shut_under lim (roomy lim (value_of lim m)) ty
value_under_lem lim (suc r) zero h ty = absurd (omega arith)
value_under_lem lim (suc r) (suc m) h ty = shaped_under (value_of lim r) (value_of lim m) (value_under_lem lim r m (omega arith)) lim ty

-- DEPTH is no refusal of what holds no other value, nor of a header.
abbrev pub Never : {A : Type 0} → Reader A → Type 0
Never p = (bs : List ℕ) (why : ℕ) → p bs ≡ refused why → why ≡ DEPTH → ⊥

module _ {A : Type 0} where
  done_never : (a : A) → Never (done a)
  unfolding done
  done_never a bs why e d = not_both (sym e)

  refuse_never : (w : ℕ) → (w ≡ DEPTH → ⊥) → Never (refuse {A = A} w)
  unfolding refuse
  refuse_never w h bs why e d = let q : w ≡ why = cc in h (q ∙ d)

  provided_never : (ok : Bool) (w : ℕ) (p : Reader A) → (w ≡ DEPTH → ⊥) → Never p → Never (provided ok w p)
  unfolding provided
  provided_never true w p h n bs why e d = n bs why e d
  provided_never false w p h n bs why e d = let q : w ≡ why = cc in h (q ∙ d)

  cond_never : (b : Bool) (p q : Reader A) → Never p → Never q → Never (cond b p q)
  cond_never true p q m n = m
  cond_never false p q m n = n

  ahead_never : (n : ℕ) (a : A) → Never (ahead n a)
  unfolding ahead
  ahead_never n a bs why e d = go (leb n (length bs)) e
    where
      go : (b : Bool) → cond b (got a 0) (refused END) ≡ refused why → ⊥
      go true f = not_both (sym f)
      go false f = let q : END ≡ why = cc in omega (arith, q, d)

then_never : {A B : Type 0} (p : Reader A) (k : A → Reader B) → Never p → ((a : A) → Never (k a)) → Never (and_then p k)
unfolding and_then
then_never {A} {B} p k m n bs why e d = go (p bs) refl e
  where
    later : (i : ℕ) (y : Found B) → placed i y ≡ refused why → y ≡ refused why
    later i (got b j) f = not_both (sym f)
    later i (refused w) f = f

    go : (x : Found A) → p bs ≡ x → onward k bs x ≡ refused why → ⊥
    go (got a i) f g = n a (drop i bs) why (later i (k a (drop i bs)) g) d
    go (refused w) f g = let q : w ≡ why = cc in m bs why (f ∙ ap refused q) d

backed_never : {A : Type 0} (need : A → ℕ) (p : Reader A) → Never p → Never (backed need p)
unfolding backed
backed_never need p n = then_never p _ n (λ a. ahead_never (need a) a)

byte_never : Never byte
unfolding byte
byte_never [] why e d = let q : END ≡ why = cc in omega (arith, q, d)
byte_never (b ∷ bs) why e d = not_both (sym e)

some_never : (n : ℕ) → Never (some n)
unfolding some
some_never n bs why e d = go (leb n (length bs)) e
  where
    go : (b : Bool) → cond b (got (take n bs) n) (refused END) ≡ refused why → ⊥
    go true f = not_both (sym f)
    go false f = let q : END ≡ why = cc in omega (arith, q, d)

varint_never : (w k : ℕ) → Never (varint w k)
varint_never w k bs why e d = go (groups k bs) refl e
  where
    go : (x : Found ℕ) → groups k bs ≡ x → keep w x ≡ refused why → ⊥
    go (got v n) f g = not_both (sym g)
    go (refused u) f g =
        let q : u ≡ why = cc in
        ⊎_elim (λ (z : u ≡ END). omega (arith, q, d)) (λ (z : u ≡ LONG_VARINT). omega (arith, q, d)) (which k bs u f)

number32_never : Never number32
unfolding number32
number32_never = varint_never 32 5

number64_never : Never number64
unfolding number64
number64_never = varint_never 64 10

int8_never : Never int8
unfolding int8
int8_never = then_never byte _ byte_never (λ b. done_never _)

int32_never : Never int32
unfolding int32
int32_never = then_never number32 _ number32_never (λ n. done_never _)

int64_never : Never int64
unfolding int64
int64_never = then_never number64 _ number64_never (λ n. done_never _)

int16_never : Never int16
unfolding int16
int16_never = then_never int32 _ int32_never (λ z. provided_never _ RANGE _ (λ e. omega arith) (done_never _))

double_never : Never double
unfolding double
double_never = then_never (some 8) _ (some_never 8) (λ bs. done_never _)

uuid_never : Never uuid
unfolding uuid
uuid_never = some_never 16

truth_never : Never truth
unfolding truth
truth_never = then_never byte _ byte_never (λ b. provided_never _ BAD_BOOL _ (λ e. omega arith) (done_never _))

binary_never : (lim : TConfiguration) → Never (binary lim)
unfolding binary
binary_never lim = then_never number32 _ number32_never (λ n. provided_never _ SIZE_LIMIT _ (λ e. omega arith) (some_never n))

-- a code without a type is BAD TYPE
abbrev Typeless : TypeRead → Type 0
Typeless (R.Got t) = Unit {0}
Typeless (R.Refused why) = why ≡ BAD_TYPE

numbered_typeless : (n : ℕ) → Typeless (get_or numbered n (R.Refused BAD_TYPE))
numbered_typeless zero = tt
numbered_typeless (suc zero) = tt
numbered_typeless (suc (suc zero)) = refl
numbered_typeless (suc (suc (suc zero))) = tt
numbered_typeless (suc (suc (suc (suc zero)))) = tt
numbered_typeless (suc (suc (suc (suc (suc zero))))) = tt
numbered_typeless (suc (suc (suc (suc (suc (suc zero)))))) = tt
numbered_typeless (suc (suc (suc (suc (suc (suc (suc zero))))))) = tt
numbered_typeless (suc (suc (suc (suc (suc (suc (suc (suc zero)))))))) = tt
numbered_typeless (suc (suc (suc (suc (suc (suc (suc (suc (suc zero))))))))) = tt
numbered_typeless (suc (suc (suc (suc (suc (suc (suc (suc (suc (suc zero)))))))))) = tt
numbered_typeless (suc (suc (suc (suc (suc (suc (suc (suc (suc (suc (suc zero))))))))))) = tt
numbered_typeless (suc (suc (suc (suc (suc (suc (suc (suc (suc (suc (suc (suc zero)))))))))))) = tt
numbered_typeless (suc (suc (suc (suc (suc (suc (suc (suc (suc (suc (suc (suc (suc zero))))))))))))) = tt
numbered_typeless (suc (suc (suc (suc (suc (suc (suc (suc (suc (suc (suc (suc (suc (suc n)))))))))))))) = refl

typed_never : (x : TypeRead) → Typeless x → Never (typed x)
typed_never (R.Got t) h = done_never t
typed_never (R.Refused why) h = refuse_never why (λ e. omega (arith, h, e))

element_never : (n : ℕ) → Never (typed (element_type n))
unfolding element_type type_by_number
element_never n = go (eqb n 2)
  where
    go : (b : Bool) → Never (typed (cond b (R.Got T.Bool) (get_or numbered n (R.Refused BAD_TYPE))))
    go true = done_never T.Bool
    go false = typed_never (get_or numbered n (R.Refused BAD_TYPE)) (numbered_typeless n)

counted_never : (lim : TConfiguration) (n : ℕ) → Never (counted lim n)
unfolding counted
counted_never lim n = provided_never _ NEGATIVE_SIZE _ (λ e. omega arith) (provided_never _ SIZE_LIMIT _ (λ e. omega arith) (done_never n))

items_never : (lim : TConfiguration) → Never (items_head lim)
unfolding items_head items listed
items_never lim =
    backed_never _ (items lim)
    (then_never byte _ byte_never
    (λ b. then_never (typed (element_type (b % 16))) _ (element_never (b % 16))
    (λ t. then_never _ (listed lim t) (cond_never (ltb (b / 16) 15) (done (b / 16)) number32 (done_never _) number32_never) (λ n. then_never (counted lim n) _ (counted_never lim n) (λ m. done_never _)))))

pairs_never : (lim : TConfiguration) → Never (pairs_head lim)
unfolding pairs_head pairs mapped
pairs_never lim =
    backed_never _ (pairs lim)
    (then_never number32 _ number32_never
    (λ n. cond_never (eqb n 0) _ (mapped lim n) (done_never _)
    (then_never byte _ byte_never
    (λ b. then_never (typed (element_type (b / 16))) _ (element_never (b / 16))
    (λ k. then_never (typed (element_type (b % 16))) _ (element_never (b % 16))
    (λ v. then_never (counted lim n) _ (counted_never lim n) (λ m. done_never _)))))))

abbrev Fieldless : FieldType → Type 0
Fieldless F.Stop = Unit {0}
Fieldless (F.Truth b) = Unit {0}
Fieldless (F.Kind t) = Unit {0}
Fieldless (F.Refused why) = why ≡ BAD_TYPE

fieldless : (x : TypeRead) → Typeless x → Fieldless (as_field x)
fieldless (R.Got t) h = tt
fieldless (R.Refused why) h = h

field_typeless : (n : ℕ) → Fieldless (field_type n)
unfolding field_type type_by_number
field_typeless n = go (eqb n 0) (eqb n 1) (eqb n 2)
  where
    go : (a b c : Bool) → Fieldless (cond a F.Stop (cond b (F.Truth true) (cond c (F.Truth false) (as_field (get_or numbered n (R.Refused BAD_TYPE))))))
    go true b c = tt
    go false true c = tt
    go false false true = tt
    go false false false = fieldless (get_or numbered n (R.Refused BAD_TYPE)) (numbered_typeless n)

id_never : (last : ℤ) (delta : ℕ) → Never (field_id last delta)
unfolding field_id
id_never last delta = cond_never (eqb delta 0) int16 _ int16_never (cond_never (lt_z (pos 32767) (last +ℤ pos delta)) (refuse FIELD_ID) _ (refuse_never FIELD_ID (λ e. omega arith)) (done_never _))

field_never : (last : ℤ) → Never (field last)
unfolding field
field_never last = then_never byte _ byte_never (λ b. go (b / 16) (field_type (b % 16)) (field_typeless (b % 16)))
  where
    go : (delta : ℕ) (t : FieldType) → Fieldless t → Never (of_type last delta t)
    go delta F.Stop h = done_never _
    go delta (F.Truth b) h = then_never (field_id last delta) _ (id_never last delta) (λ id. done_never _)
    go delta (F.Kind t) h = then_never (field_id last delta) _ (id_never last delta) (λ id. done_never _)
    go delta (F.Refused why) h = refuse_never why (λ e. omega (arith, h, e))

-- Nor is it one of a value in at most m bytes with more than m levels of room.
abbrev pub NeverIn : {A : Type 0} → ℕ → Reader A → Type 0
NeverIn m p = (bs : List ℕ) → length bs ≤ m → (why : ℕ) → p bs ≡ refused why → why ≡ DEPTH → ⊥

never_in : {A : Type 0} (m : ℕ) (p : Reader A) → Never p → NeverIn m p
never_in m p n bs l why e d = n bs why e d

module _ {A B : Type 0} (p : Reader A) (k : A → Reader B) where
  later : (why i : ℕ) (y : Found B) → placed i y ≡ refused why → y ≡ refused why
  later why i (got b j) f = not_both (sym f)
  later why i (refused w) f = f

  -- the second on no more bytes than the first
  then_in : (m : ℕ) → NeverIn m p → ((a : A) → NeverIn m (k a)) → NeverIn m (and_then p k)
  unfolding and_then
  then_in m u v bs l why e d = go (p bs) refl e
    where
      go : (x : Found A) → p bs ≡ x → onward k bs x ≡ refused why → ⊥
      go (got a i) f g = v a (drop i bs) (omega (arith, length-drop i bs)) why (later why i (k a (drop i bs)) g) d
      go (refused w) f g = let q : w ≡ why = cc in u bs l why (f ∙ ap refused q) d

  -- a header, which takes a byte: what is behind it has one fewer
  head_in : (m : ℕ) → Never p → Takes p → ((bs : List ℕ) (a : A) (n : ℕ) → p bs ≡ got a n → n ≤ length bs) → ((a : A) (r : ℕ) → r < m → NeverIn r (k a)) → NeverIn m (and_then p k)
  unfolding and_then
  head_in m u t ends v bs l why e d = go (p bs) refl e
    where
      go : (x : Found A) → p bs ≡ x → onward k bs x ≡ refused why → ⊥
      go (got a i) f g =
          let some = t bs a i f in
          let all = ends bs a i f in
          v a (length (drop i bs)) (omega (arith, length-drop i bs)) (drop i bs) (omega arith) why (later why i (k a (drop i bs)) g) d
      go (refused w) f g = let q : w ≡ why = cc in u bs why (f ∙ ap refused q) d

provided_in : {A : Type 0} (m : ℕ) (ok : Bool) (w : ℕ) (p : Reader A) → (w ≡ DEPTH → ⊥) → NeverIn m p → NeverIn m (provided ok w p)
unfolding provided
provided_in m true w p h n bs l why e d = n bs l why e d
provided_in m false w p h n bs l why e d = let q : w ≡ why = cc in h (q ∙ d)

sizing_in : {A : Type 0} (m : ℕ) (p : Reader A) → NeverIn m p → NeverIn m (sizing p)
unfolding sizing
sizing_in {A} m p n bs l why e d = go (p bs) refl e
  where
    go : (x : Found A) → p bs ≡ x → with_size x ≡ refused why → ⊥
    go (got a i) f g = not_both (sym g)
    go (refused w) f g = let q : w ≡ why = cc in n bs l why (f ∙ ap refused q) d

many_in : (m : ℕ) (p : Reader Tree) → NeverIn m p → (n : ℕ) → NeverIn m (many p n)
unfolding many
many_in m p u zero = never_in m _ (done_never no_trees)
many_in m p u (suc n) = then_in p _ m u (λ t. then_in (many p n) _ m (many_in m p u n) (λ ts. never_in m _ (done_never (tree t ts))))

pairs_in : (m : ℕ) (p q : Reader Tree) → NeverIn m p → NeverIn m q → (n : ℕ) → NeverIn m (many_pairs p q n)
unfolding many_pairs
pairs_in m p q u v zero = never_in m _ (done_never no_pairs)
pairs_in m p q u v (suc n) = then_in p _ m u (λ k. then_in q _ m v (λ w. then_in (many_pairs p q n) _ m (pairs_in m p q u v n) (λ ps. never_in m _ (done_never (pair k w ps)))))

module _ (f : TType → Reader Tree) (m : ℕ) (u : (t : TType) (r : ℕ) → r < m → NeverIn r (f t)) where
  behind_in : (go : ℤ → Reader (List (Entry Tree))) (r : ℕ) → r < m → ((id : ℤ) → NeverIn r (go id)) → (x : Field) (h : ℕ) → NeverIn r (behind val.truth f go x h)
  behind_in go r l v stop h = never_in r _ (done_never [])
  behind_in go r l v (bool b id) h = then_in (go id) _ r (v id) (λ fs. never_in r _ (done_never _))
  behind_in go r l v (value t id) h = then_in (sizing (f t)) _ r (sizing_in r (f t) (u t r l)) (λ w. then_in (go id) _ r (v id) (λ fs. never_in r _ (done_never _)))

  sized_never : (last : ℤ) → Never (sizing (field last))
  sized_never last bs why e d = sizing_in (length bs) (field last) (never_in (length bs) (field last) (field_never last)) bs (omega arith) why e d

  walk_in : (k : ℕ) (last : ℤ) (r : ℕ) → r ≤ m → NeverIn r (walk val.truth f k last)
  unfolding walk
  walk_in zero last r l = never_in r _ (refuse_never END (λ e. omega arith))
  walk_in (suc k) last r l =
      head_in (sizing (field last)) _ r (sized_never last) (sizing_takes (field last) (field_takes last)) (sizing_lawful (field last) (field_lawful last)).ends
      (λ h i j. behind_in (walk val.truth f k) i (omega arith) (λ id. walk_in k id i (omega arith)) h.0 h.1)

  fields_in : (last : ℤ) → NeverIn m (fields val.truth f last)
  unfolding fields
  fields_in last bs l why e d = walk_in (length bs) last m (omega arith) bs l why e d

  shaped_in : (lim : TConfiguration) (ty : TType) → NeverIn m (shaped lim (roomy lim f) ty)
  shaped_in lim T.Stop = never_in m _ (refuse_never BAD_TYPE (λ e. omega arith))
  shaped_in lim T.Bool = never_in m _ (then_never truth _ truth_never (λ b. done_never _))
  shaped_in lim T.I08 = never_in m _ (then_never int8 _ int8_never (λ z. done_never _))
  shaped_in lim T.I16 = never_in m _ (then_never int16 _ int16_never (λ z. done_never _))
  shaped_in lim T.I32 = never_in m _ (then_never int32 _ int32_never (λ z. done_never _))
  shaped_in lim T.I64 = never_in m _ (then_never int64 _ int64_never (λ z. done_never _))
  shaped_in lim T.Double = never_in m _ (then_never double _ double_never (λ n. done_never _))
  shaped_in lim T.String = never_in m _ (then_never (binary lim) _ (binary_never lim) (λ bs. done_never _))
  shaped_in lim T.List = head_in (items_head lim) _ m (items_never lim) (items_head_takes lim) (items_head_fair lim).ends (λ h r l. provided_in r _ BAD_TYPE _ (λ e. omega arith) (then_in (many (f h.0) h.1) _ r (many_in r (f h.0) (u h.0 r l) h.1) (λ ts. never_in r _ (done_never _))))
  shaped_in lim T.Set = head_in (items_head lim) _ m (items_never lim) (items_head_takes lim) (items_head_fair lim).ends (λ h r l. provided_in r _ BAD_TYPE _ (λ e. omega arith) (then_in (many (f h.0) h.1) _ r (many_in r (f h.0) (u h.0 r l) h.1) (λ ts. never_in r _ (done_never _))))
  shaped_in lim T.Map = head_in (pairs_head lim) _ m (pairs_never lim) (pairs_head_takes lim) (pairs_head_fair lim).ends (λ h r l. provided_in r _ BAD_TYPE _ (λ e. omega arith) (provided_in r _ BAD_TYPE _ (λ e. omega arith) (then_in (many_pairs (f h.0) (f h.1) h.2) _ r (pairs_in r (f h.0) (f h.1) (u h.0 r l) (u h.1 r l) h.2) (λ ps. never_in r _ (done_never _)))))
  shaped_in lim T.Struct = then_in (fields val.truth f (pos 0)) _ m (fields_in (pos 0)) (λ fs. never_in m _ (done_never _))
  shaped_in lim T.Uuid = never_in m _ (then_never uuid _ uuid_never (λ x. done_never _))

value_in : (lim : TConfiguration) (room : ℕ) (ty : TType) (r : ℕ) → r < room → NeverIn r (value_of lim room ty)
unfolding value_of
value_in lim zero ty r l = absurd (omega arith)
value_in lim (suc room) ty r l = shaped_in (value_of lim room) r (λ t i h. value_in lim room t i (omega arith)) lim ty

-- with as many levels as there are bytes, and one more, it is never given
pub never_deep : (lim : TConfiguration) (ty : TType) (bs : List ℕ) (room : ℕ) → length bs < room → value_of lim room ty bs ≡ refused DEPTH → ⊥
never_deep lim ty bs room h e = value_in lim room ty (length bs) h bs (omega arith) DEPTH e refl

-- exactly where more room would change the answer
pub skip_deep : (s : List ℕ) (lim : TConfiguration) (room : ℕ) (ty : TType) (at : ℕ) → (skip_of s lim room ty at ≡ S.Refused DEPTH) ↔ (skip_of s lim (room + suc (length s)) ty at ≡ skip_of s lim room ty at → ⊥)
unfolding skip_of past read_at
skip_deep s lim room ty at = (from, to)
  where
    shown : (x : Found Tree) → passed (placed at x) ≡ S.Refused DEPTH → x ≡ refused DEPTH
    shown (got t n) e = let z : ◌≡◌ {A = ℕ} 0 1 = cc in absurd (omega arith)
    shown (refused w) e = let q : w ≡ DEPTH = cc in ap refused q

    from : passed (placed at (value_of lim room ty (drop at s))) ≡ S.Refused DEPTH → passed (placed at (value_of lim (room + suc (length s)) ty (drop at s))) ≡ passed (placed at (value_of lim room ty (drop at s))) → ⊥
    from e f = never_deep lim ty (drop at s) (room + suc (length s)) (omega (arith, length-drop at s)) (shown (value_of lim (room + suc (length s)) ty (drop at s)) (f ∙ e))

    to : (passed (placed at (value_of lim (room + suc (length s)) ty (drop at s))) ≡ passed (placed at (value_of lim room ty (drop at s))) → ⊥) → passed (placed at (value_of lim room ty (drop at s))) ≡ S.Refused DEPTH
    to f =
        ⊎_elim
        (λ e. ap (λ (x : Found Tree). passed (placed at x)) e)
        (λ e. absurd (f (ap (λ (x : Found Tree). passed (placed at x)) e)))
        (value_under_lem lim room (room + suc (length s)) (omega arith) ty (drop at s))
