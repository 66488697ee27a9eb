-- Well-formed bytes give a value within the limits: its lengths and counts, each number in its type's range, each value of the type its header declares, and its
-- nesting. With `spelt` (laws), which goes the other way, "within the limits" is exact. Assumes nothing.
use mathlib.Core.Path.{◌≡◌, refl, sym, ap, subst, ◌∙◌}
use mathlib.Core.Bool.{Bool, true, false, cond}
use mathlib.Core.Logic.{⊎_elim}
use mathlib.Core.List.{List, [], ◌∷◌, ◌++◌}
use Prim.Native.Nat.{ℕ, suc, ◌+◌, ◌-◌, ◌/◌, ◌%◌, ◌^◌, ◌≤◌, ◌<◌}
use native.Mathlib.Omega.{arith}
use borrow.Author.Tests.{leb-true, ltb-false}
use lib.Dec.{eqb, leb, ltb}
use lib.IntN.{ℤ, pos, negsuc, ◌+ℤ◌}
use lib.Signed.{lt_z}
use lib.ListN.{length, take, drop, take-append-drop}
use lib.Seq.{slice, length-take-le}
use mir.Syntax.{Width, w8, w16, w32, w64}
use mir.Val.{SFits, to_z, bits}
use mir.Facts.{sfits_to_z}
use Rattle.types.specs.Refusals.{END, FIELD_ID, NEGATIVE_SIZE, SIZE_LIMIT}
use Rattle.types.specs.Codes.{element_type, field_type}
use Rattle.types.specs.declared.TType.{TType}
use Rattle.types.specs.declared.TType.TheVariants as T
use Rattle.types.specs.declared.FieldType.{FieldType}
use Rattle.types.specs.declared.FieldType.TheVariants as F
use Rattle.types.specs.declared.TConfiguration.{TConfiguration}
use Rattle.types.specs.Value as val
use Rattle.types.specs.Value.{Tree, Trees, no_trees, tree, Pairs, no_pairs, pair, Fields, no_fields, type_of, size, size_p, Sized, SizedAll, SizedPairs, SizedFields, Bytes, Typed, TypedAll, TypedPairs, TypedFields, Within}
use Rattle.zigzag.specs.Zigzag.{unzigzag}
use Rattle.zigzag.proofs.Zig.{half_lt, fits_range}
use Rattle.numbers.specs.Varint.{got, refused, placed, varint}
use Rattle.numbers.specs.Fixed.{little}
use Rattle.numbers.proofs.Found as num
use Rattle.numbers.proofs.Fixed.{little_below}
use Rattle.heads.specs.Reader.{Reader, done, refuse, and_then, provided, byte, some}
use Rattle.heads.specs.Heads.{int8, number32, number64, int16, int32, int64, double, uuid, binary, typed, counted, listed, items, mapped, pairs, field_id, of_type, Field, stop, bool, value, field}
use Rattle.heads.specs.Spells.{Spells, SpellsAll, SpellsPairs, SpellsFields, Formed}
use Rattle.heads.proofs.Lawful.{not_both, Both, both}
use Rattle.heads.proofs.Readers.{was16, was32}
use Rattle.laws.proofs.Nested.{nested}

-- bytes, by recursion and by place
pub by_place : (bs : List ℕ) → Bytes bs → num.Bytes bs
unfolding Bytes
by_place [] h = num.bytes_nil
by_place (b ∷ bs) h = num.bytes_cons b bs h.0 (by_place bs h.1)

pub by_list : (bs : List ℕ) → num.Bytes bs → Bytes bs
unfolding Bytes
by_list [] h = tt
by_list (b ∷ bs) h = (h 0, by_list bs (λ i. h (suc i)))

pub both_bytes : (a b : List ℕ) → Bytes (a ++ b) → Bytes a × Bytes b
unfolding Bytes
both_bytes [] b h = (tt, h)
both_bytes (x ∷ a) b h = let r = both_bytes a b h.1 in ((h.0, r.0), r.1)

first_bytes : (n : ℕ) (bs : List ℕ) → Bytes bs → Bytes (take n bs)
first_bytes n bs h = (both_bytes (take n bs) (drop n bs) (subst Bytes (sym (take-append-drop n bs)) h)).0

later_bytes : (n : ℕ) (bs : List ℕ) → Bytes bs → Bytes (drop n bs)
later_bytes n bs h = (both_bytes (take n bs) (drop n bs) (subst Bytes (sym (take-append-drop n bs)) h)).1

-- what was found in a reader's bytes: a then b
module _ {A B : Type 0} (p : Reader A) (k : A → Reader B) (bs : List ℕ) (b : B) (n : ℕ) where
  parts : and_then p k bs ≡ got b n → Both (p bs) k bs b n
  unfolding and_then
  parts e = both (p bs) k bs b n e

-- a value for no byte is that value
is_done : {A : Type 0} (a b : A) (bs : List ℕ) (n : ℕ) → done a bs ≡ got b n → a ≡ b
unfolding done
is_done a b bs n e = cc

-- a test that was passed
passed : {A : Type 0} (ok : Bool) (why : ℕ) (p : Reader A) (bs : List ℕ) (a : A) (n : ℕ) → provided ok why p bs ≡ got a n → (ok ≡ true) × (p bs ≡ got a n)
unfolding provided
passed true why p bs a n e = (refl, e)
passed false why p bs a n e = not_both e

-- numbers
int8_fits : (bs : List ℕ) (z : ℤ) (n : ℕ) → int8 bs ≡ got z n → Bytes bs → SFits w8 z
unfolding int8 and_then byte done Bytes
int8_fits [] z n e h = not_both e
int8_fits (b ∷ bs) z n e h = let q : to_z w8 b ≡ z = cc in subst (SFits w8) q (sfits_to_z (record { fits = h.0 }))

unzigzag_fits : (w : Width) (n : ℕ) → n < 2 ^ bits w → SFits w (unzigzag n)
unzigzag_fits w n h = go (eqb (n % 2) 0)
  where
    go : (b : Bool) → SFits w (cond b (pos (n / 2)) (negsuc (n / 2)))
    go true = record { sfits = half_lt w h }
    go false = record { sfits = half_lt w h }

small : (w k : ℕ) (bs : List ℕ) (v n : ℕ) → varint w k bs ≡ got v n → v < 2 ^ w
small w k bs v n e = (num.within w k bs 0 v n (ap (placed 0) e ∙ ap (got v) (omega arith))).small

int32_fits : (bs : List ℕ) (z : ℤ) (n : ℕ) → int32 bs ≡ got z n → SFits w32 z
unfolding number32
int32_fits bs z n e = let u = was32 bs z n e in subst (SFits w32) (sym u.is) (unzigzag_fits w32 u.value (small 32 5 bs u.value n u.read))

int64_fits : (bs : List ℕ) (z : ℤ) (n : ℕ) → int64 bs ≡ got z n → SFits w64 z
unfolding int64 number64
int64_fits bs z n e =
    let f = parts number64 _ bs z n e in
    subst (SFits w64) (is_done (unzigzag f.one) z _ _ f.second) (unzigzag_fits w64 f.one (small 64 10 bs f.one f.used f.first))

int16_fits : (bs : List ℕ) (z : ℤ) (n : ℕ) → int16 bs ≡ got z n → SFits w16 z
int16_fits bs z n e = fits_range z (was16 bs z n e).1

-- so many bytes
record Part (n : ℕ) (bs cs : List ℕ) : Type 0 where
  long : length cs ≡ n
  bytes : Bytes bs → Bytes cs

some_part : (k : ℕ) (bs cs : List ℕ) (n : ℕ) → some k bs ≡ got cs n → Part k bs cs
unfolding some
some_part k bs cs n e = go (leb k (length bs)) refl e
  where
    go : (t : Bool) → leb k (length bs) ≡ t → cond t (got (take k bs) k) (refused END) ≡ got cs n → Part k bs cs
    go true f g =
        let q : take k bs ≡ cs = cc in
        subst (Part k bs) q (record { long = length-take-le k bs (leb-true k (length bs) f); bytes = first_bytes k bs })
    go false f g = not_both g

double_fits : (bs : List ℕ) (v n : ℕ) → double bs ≡ got v n → Bytes bs → v < 2 ^ 64
unfolding double
double_fits bs v n e h =
    let f = parts (some 8) _ bs v n e in
    let p = some_part 8 bs f.one f.used f.first in
    let q : little f.one ≡ v = is_done (little f.one) v _ _ f.second in
    let below = little_below f.one (by_place f.one (p.bytes h)) in
    let w : 256 ^ length f.one ≡ 2 ^ 64 = ap (λ (m : ℕ). 256 ^ m) p.long in
    omega arith

uuid_part_lem : (bs u : List ℕ) (n : ℕ) → uuid bs ≡ got u n → Bytes bs → (length u ≡ 16) × Bytes u
unfolding uuid
uuid_part_lem bs u n e h = let p = some_part 16 bs u n e in (p.long, p.bytes h)

binary_part : (lim : TConfiguration) (bs cs : List ℕ) (n : ℕ) → binary lim bs ≡ got cs n → Bytes bs → (length cs ≤ lim.string) × Bytes cs
unfolding binary
binary_part lim bs cs n e h =
    let f = parts number32 _ bs cs n e in
    let g = passed (leb f.one lim.string) SIZE_LIMIT (some f.one) (drop f.used bs) cs f.more f.second in
    let p = some_part f.one (drop f.used bs) cs f.more g.1 in
    (omega (arith, p.long, leb-true f.one lim.string g.0), p.bytes (later_bytes f.used bs h))

-- counts
counted_few : (lim : TConfiguration) (n : ℕ) (bs : List ℕ) (m k : ℕ) → counted lim n bs ≡ got m k → m ≤ lim.container
unfolding counted
counted_few lim n bs m k e =
    let f = passed (leb n 2147483647) NEGATIVE_SIZE _ bs m k e in
    let g = passed (leb n lim.container) SIZE_LIMIT (done n) bs m k f.1 in
    subst (λ (x : ℕ). x ≤ lim.container) (is_done n m bs k g.1) (leb-true n lim.container g.0)

listed_few : (lim : TConfiguration) (t : TType) (n : ℕ) (bs : List ℕ) (x : TType × ℕ) (k : ℕ) → listed lim t n bs ≡ got x k → x.1 ≤ lim.container
unfolding listed
listed_few lim t n bs x k e =
    let f = parts (counted lim n) _ bs x k e in
    let q : (t, f.one) ≡ x = is_done {A = TType × ℕ} (t, f.one) x _ _ f.second in
    subst (λ (y : TType × ℕ). y.1 ≤ lim.container) q (counted_few lim n bs f.one f.used f.first)

items_few : (lim : TConfiguration) (bs : List ℕ) (x : TType × ℕ) (n : ℕ) → items lim bs ≡ got x n → x.1 ≤ lim.container
unfolding items
items_few lim bs x n e =
    let f = parts byte _ bs x n e in
    let g = parts (typed (element_type (f.one % 16))) _ (drop f.used bs) x f.more f.second in
    let h = parts (cond (ltb (f.one / 16) 15) (done (f.one / 16)) number32) (listed lim g.one) (drop g.used (drop f.used bs)) x g.more g.second in
    listed_few lim g.one h.one _ x h.more h.second

abbrev Pairwise : Type 0
Pairwise = TType × TType × ℕ

mapped_few : (lim : TConfiguration) (n : ℕ) (bs : List ℕ) (x : Pairwise) (m : ℕ) → mapped lim n bs ≡ got x m → x.2 ≤ lim.container
unfolding mapped
mapped_few lim n bs x m e =
    let f = parts byte _ bs x m e in
    let g = parts (typed (element_type (f.one / 16))) _ _ x f.more f.second in
    let h = parts (typed (element_type (f.one % 16))) _ _ x g.more g.second in
    let i = parts (counted lim n) _ _ x h.more h.second in
    let q : (g.one, h.one, i.one) ≡ x = is_done {A = TType × TType × ℕ} (g.one, h.one, i.one) x _ _ i.second in
    subst (λ (y : TType × TType × ℕ). y.2 ≤ lim.container) q (counted_few lim n _ i.one i.used i.first)

pairs_few : (lim : TConfiguration) (bs : List ℕ) (x : Pairwise) (n : ℕ) → pairs lim bs ≡ got x n → x.2 ≤ lim.container
unfolding pairs
pairs_few lim bs x n e = let f = parts number32 _ bs x n e in go f (eqb f.one 0) f.second
  where
    go : (f : Both (number32 bs) (λ m. cond (eqb m 0) (done (T.Stop, T.Stop, 0)) (mapped lim m)) bs x n) (b : Bool) → cond b (done (T.Stop, T.Stop, 0)) (mapped lim f.one) (drop f.used bs) ≡ got x f.more → x.2 ≤ lim.container
    go f true g = subst (λ (y : TType × TType × ℕ). y.2 ≤ lim.container) (is_done {A = TType × TType × ℕ} (T.Stop, T.Stop, 0) x _ _ g) (omega arith)
    go f false g = mapped_few lim f.one (drop f.used bs) x f.more g

-- a field's id
above_last : (last : ℤ) (d : ℕ) → SFits w16 last → lt_z (pos 32767) (last +ℤ pos d) ≡ false → SFits w16 (last +ℤ pos d)
above_last (pos a) d h e = record { sfits = omega (arith, ltb-false 32767 (a + d) e) }
above_last (negsuc a) d h e = go (ltb d (suc a)) e
  where
    go : (b : Bool) → lt_z (pos 32767) (cond b (negsuc (suc a - suc d)) (pos (d - suc a))) ≡ false → SFits w16 (cond b (negsuc (suc a - suc d)) (pos (d - suc a)))
    go true f = record { sfits = omega (arith, h.sfits) }
    go false f = record { sfits = omega (arith, ltb-false 32767 (d - suc a) f) }

id_fits : (last : ℤ) (delta : ℕ) (bs : List ℕ) (id : ℤ) (n : ℕ) → SFits w16 last → field_id last delta bs ≡ got id n → SFits w16 id
unfolding field_id refuse
id_fits last delta bs id n h e = go (eqb delta 0) e
  where
    within : (b : Bool) → lt_z (pos 32767) (last +ℤ pos delta) ≡ b → cond b (refuse FIELD_ID) (done (last +ℤ pos delta)) bs ≡ got id n → SFits w16 id
    within true f g = not_both g
    within false f g = subst (SFits w16) (is_done (last +ℤ pos delta) id bs n g) (above_last last delta h f)

    go : (b : Bool) → cond b int16 (cond (lt_z (pos 32767) (last +ℤ pos delta)) (refuse FIELD_ID) (done (last +ℤ pos delta))) bs ≡ got id n → SFits w16 id
    go true g = int16_fits bs id n g
    go false g = within (lt_z (pos 32767) (last +ℤ pos delta)) refl g

no_refuse : {A X : Type 0} (why : ℕ) (bs : List ℕ) (a : A) (n : ℕ) → refuse why bs ≡ got a n → X
unfolding refuse
no_refuse why bs a n e = not_both e

abbrev pub IdFits : Field → Type 0
IdFits stop = Unit {0}
IdFits (bool b id) = SFits w16 id
IdFits (value t id) = SFits w16 id

pub field_fits : (last : ℤ) → SFits w16 last → (bs : List ℕ) (x : Field) (n : ℕ) → field last bs ≡ got x n → IdFits x
unfolding field
field_fits last h bs x n e = let f = parts byte _ bs x n e in go (f.one / 16) (field_type (f.one % 16)) (drop f.used bs) f.more f.second
  where
    go : (delta : ℕ) (t : FieldType) (cs : List ℕ) (m : ℕ) → of_type last delta t cs ≡ got x m → IdFits x
    go delta F.Stop cs m g = subst IdFits (is_done stop x cs m g) tt
    go delta (F.Truth b) cs m g =
        let f = parts (field_id last delta) _ cs x m g in
        subst IdFits (is_done (bool b f.one) x _ _ f.second) (id_fits last delta cs f.one f.used h f.first)
    go delta (F.Kind t) cs m g =
        let f = parts (field_id last delta) _ cs x m g in
        subst IdFits (is_done (value t f.one) x _ _ f.second) (id_fits last delta cs f.one f.used h f.first)
    go delta (F.Refused why) cs m g = no_refuse why cs x m g

-- the tree: of the type that was read, with lengths, counts and numbers in their ranges
pub record Good (lim : TConfiguration) (ty : TType) (t : Tree) : Type 0 where
  pub kind : type_of t ≡ ty
  pub sized : Sized lim t
  pub typed : Typed t

truth_good : (lim : TConfiguration) (t : Tree) (b : Bool) → t ≡ val.truth b → Sized lim t × Typed t
unfolding Sized Typed
truth_good lim t b e = rw e (tt, tt)

module _ (lim : TConfiguration) where
  mutual
    unfolding Spells SpellsAll SpellsPairs SpellsFields Sized SizedAll SizedPairs SizedFields Typed TypedAll TypedPairs TypedFields type_of size size_p

    pub good : (t : Tree) (room : ℕ) (ty : TType) (bs : List ℕ) → Spells t lim room ty bs → Bytes bs → Good lim ty t
    good (val.truth b) room ty bs s h = record { kind = sym s.0; sized = tt; typed = tt }
    good (val.i8 z) room ty bs s h = record { kind = sym s.0; sized = tt; typed = int8_fits bs z _ s.1 h }
    good (val.i16 z) room ty bs s h = record { kind = sym s.0; sized = tt; typed = int16_fits bs z _ s.1 }
    good (val.i32 z) room ty bs s h = record { kind = sym s.0; sized = tt; typed = int32_fits bs z _ s.1 }
    good (val.i64 z) room ty bs s h = record { kind = sym s.0; sized = tt; typed = int64_fits bs z _ s.1 }
    good (val.double n) room ty bs s h = record { kind = sym s.0; sized = tt; typed = double_fits bs n _ s.1 h }
    good (val.uuid u) room ty bs s h = record { kind = sym s.0; sized = tt; typed = uuid_part_lem bs u _ s.1 h }
    good (val.bytes cs) room ty bs s h = let p = binary_part lim bs cs _ s.1 h in record { kind = sym s.0; sized = p.0; typed = p.1 }
    good (val.list t ts) room ty bs s h =
        let two = both_bytes s.2.0 s.2.1 (subst Bytes s.2.4 h) in
        let g = good_all ts (room - 1) t s.2.1 s.2.3 two.1 in
        record { kind = sym s.0; sized = (items_few lim s.2.0 (t, size ts) _ s.2.2, g.0); typed = g.1 }
    good (val.set t ts) room ty bs s h =
        let two = both_bytes s.2.0 s.2.1 (subst Bytes s.2.4 h) in
        let g = good_all ts (room - 1) t s.2.1 s.2.3 two.1 in
        record { kind = sym s.0; sized = (items_few lim s.2.0 (t, size ts) _ s.2.2, g.0); typed = g.1 }
    good (val.map k v ps) room ty bs s h =
        let two = both_bytes s.2.0 s.2.1 (subst Bytes s.2.4 h) in
        let g = good_pairs ps (room - 1) k v s.2.1 s.2.3 two.1 in
        record { kind = sym s.0; sized = (pairs_few lim s.2.0 (k, v, size_p ps) _ s.2.2, g.0); typed = g.1 }
    good (val.struct fs) room ty bs s h =
        let g = good_fields fs (room - 1) (pos 0) bs (record { sfits = omega arith }) s.2 h in
        record { kind = sym s.0; sized = g.0; typed = g.1 }

    good_all : (ts : Trees) (room : ℕ) (ty : TType) (bs : List ℕ) → SpellsAll ts lim room ty bs → Bytes bs → SizedAll lim ts × TypedAll ty ts
    good_all no_trees room ty bs s h = (tt, tt)
    good_all (tree t ts) room ty bs s h =
        let two = both_bytes s.0 s.1 (subst Bytes s.4 h) in
        let g = good t room ty s.0 s.2 two.0 in
        let r = good_all ts room ty s.1 s.3 two.1 in
        ((g.sized, r.0), (g.kind, g.typed, r.1))

    good_pairs : (ps : Pairs) (room : ℕ) (k v : TType) (bs : List ℕ) → SpellsPairs ps lim room k v bs → Bytes bs → SizedPairs lim ps × TypedPairs k v ps
    good_pairs no_pairs room k v bs s h = (tt, tt)
    good_pairs (pair t u ps) room k v bs s h =
        let two = both_bytes s.0 (s.1 ++ s.2) (subst Bytes s.6 h) in
        let more = both_bytes s.1 s.2 two.1 in
        let f = good t room k s.0 s.3 two.0 in
        let g = good u room v s.1 s.4 more.0 in
        let r = good_pairs ps room k v s.2 s.5 more.1 in
        ((f.sized, g.sized, r.0), (f.kind, g.kind, f.typed, g.typed, r.1))

    good_fields : (fs : Fields) (room : ℕ) (last : ℤ) (bs : List ℕ) → SFits w16 last → SpellsFields fs lim room last bs → Bytes bs → SizedFields lim fs × TypedFields fs
    good_fields no_fields room last bs l s h = (tt, tt)
    good_fields (val.field id t fs) room last bs l s h =
        let two = both_bytes s.0 (s.1 ++ s.2) (subst Bytes s.5 h) in
        let more = both_bytes s.1 s.2 two.1 in
        let fits : SFits w16 id = ⊎_elim (λ b. field_fits last l s.0 (bool b.0 id) _ b.2) (λ v. field_fits last l s.0 (value v.0 id) _ v.1) s.3 in
        let own : Sized lim t × Typed t =
        ⊎_elim (λ b. truth_good lim t b.0 b.1) (λ v. let g = good t room v.0 s.1 v.2 more.0 in (g.sized, g.typed)) s.3
        in
        let r = good_fields fs room id s.2 fits s.4 more.1 in
        ((own.0, r.0), (fits, own.1, r.1))

pub formed_within : (s : List ℕ) (lim : TConfiguration) (depth room : ℕ) (ty : TType) (at e : ℕ) (f : Formed s lim room ty at e) → Bytes s → depth + room ≤ lim.depth → Within lim depth f.tree × (type_of f.tree ≡ ty)
formed_within s lim depth room ty at e f h d =
    let bs : List ℕ = slice at e s in
    let g = good lim f.tree room ty bs f.spelt (later_bytes at (take e s) (first_bytes e s h)) in
    (record { nested = omega (arith, nested lim f.tree room ty bs f.spelt); sized = g.sized; typed = g.typed }, g.kind)
