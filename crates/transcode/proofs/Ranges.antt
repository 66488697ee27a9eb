-- What is read is within the limits, over any protocol: its lengths and counts, each number in its type's range, each value of the type its header declares, and its
-- nesting, where its words give numbers in their ranges. (For the compact protocol alone promises/Within has it too.) Assumes nothing.
use mathlib.Core.Path.{◌≡◌, refl, sym, subst}
use mathlib.Core.Bool.{Bool, true, false, cond}
use mathlib.Core.Logic.{⊎_elim}
use mathlib.Core.List.{List, [], ◌∷◌, ◌++◌}
use Prim.Native.Nat.{ℕ, suc, ◌+◌, ◌-◌, ◌^◌, ◌≤◌, ◌<◌}
use native.Mathlib.Omega.{arith}
use borrow.Author.Tests.{leb-true}
use lib.Dec.{leb}
use lib.IntN.{ℤ, pos}
use lib.ListN.{length, take, drop, take-append-drop}
use lib.Seq.{length-take-le}
use mir.Syntax.{w8, w16, w32, w64}
use mir.Val.{SFits}
use Rattle.types.specs.Refusals.{END, NEGATIVE_SIZE, SIZE_LIMIT}
use Rattle.types.specs.declared.TType.{TType}
use Rattle.types.specs.declared.TConfiguration.{TConfiguration}
use Rattle.types.specs.Value as val
use Rattle.types.specs.Value.{Tree, Trees, no_trees, tree, Pairs, no_pairs, pair, Fields, no_fields, type_of, size, size_p, nesting, nesting_all, nesting_pairs, nesting_fields, Sized, SizedAll, SizedPairs, SizedFields, Bytes, Typed, TypedAll, TypedPairs, TypedFields, Within}
use Rattle.utf8.specs.Utf8.{utf8}
use Rattle.numbers.specs.Varint.{got, refused}
use Rattle.numbers.proofs.Found as num
use Rattle.heads.specs.Reader.{Reader, done, refuse, and_then, provided, some}
use Rattle.heads.specs.Heads.{counted, listed, Field, stop, bool, value, Message}
use Rattle.heads.proofs.Lawful.{not_both, Both, both}
use Rattle.protocols.specs.Words.{Words}
use Rattle.protocols.specs.Spells.{SpellsBy, SpellsAllBy, SpellsPairsBy, SpellsFieldsBy}

-- bytes, by recursion and by place
pub by_place : (bs : List ℕ) → Bytes bs → num.Bytes bs
unfolding Bytes
by_place [] h = num.bytes_nil
by_place (b ∷ bs) h = num.bytes_cons b bs h.0 (by_place bs h.1)

pub by_list : (bs : List ℕ) → num.Bytes bs → Bytes bs
unfolding Bytes
by_list [] h = tt
by_list (b ∷ bs) h = (h 0, by_list bs (λ i. h (suc i)))

pub both_bytes : (a b : List ℕ) → Bytes (a ++ b) → Bytes a × Bytes b
unfolding Bytes
both_bytes [] b h = (tt, h)
both_bytes (x ∷ a) b h = let r = both_bytes a b h.1 in ((h.0, r.0), r.1)

pub first_bytes : (n : ℕ) (bs : List ℕ) → Bytes bs → Bytes (take n bs)
first_bytes n bs h = (both_bytes (take n bs) (drop n bs) (subst Bytes (sym (take-append-drop n bs)) h)).0

pub later_bytes : (n : ℕ) (bs : List ℕ) → Bytes bs → Bytes (drop n bs)
later_bytes n bs h = (both_bytes (take n bs) (drop n bs) (subst Bytes (sym (take-append-drop n bs)) h)).1

-- what was found in a reader's bytes: a then b
module _ {A B : Type 0} (p : Reader A) (k : A → Reader B) (bs : List ℕ) (b : B) (n : ℕ) where
  pub parts : and_then p k bs ≡ got b n → Both (p bs) k bs b n
  unfolding and_then
  parts e = both (p bs) k bs b n e

-- a value for no byte is that value
pub is_done : {A : Type 0} (a b : A) (bs : List ℕ) (n : ℕ) → done a bs ≡ got b n → a ≡ b
unfolding done
is_done a b bs n e = cc

-- a test that was passed
pub passed : {A : Type 0} (ok : Bool) (why : ℕ) (p : Reader A) (bs : List ℕ) (a : A) (n : ℕ) → provided ok why p bs ≡ got a n → (ok ≡ true) × (p bs ≡ got a n)
unfolding provided
passed true why p bs a n e = (refl, e)
passed false why p bs a n e = not_both e

-- so many bytes
pub record Part (n : ℕ) (bs cs : List ℕ) : Type 0 where
  pub long : length cs ≡ n
  pub bytes : Bytes bs → Bytes cs

pub some_part : (k : ℕ) (bs cs : List ℕ) (n : ℕ) → some k bs ≡ got cs n → Part k bs cs
unfolding some
some_part k bs cs n e = go (leb k (length bs)) refl e
  where
    go : (t : Bool) → leb k (length bs) ≡ t → cond t (got (take k bs) k) (refused END) ≡ got cs n → Part k bs cs
    go true f g =
        let q : take k bs ≡ cs = cc in
        subst (Part k bs) q (record { long = length-take-le k bs (leb-true k (length bs) f); bytes = first_bytes k bs })
    go false f g = not_both g

-- counts
pub counted_few : (lim : TConfiguration) (n : ℕ) (bs : List ℕ) (m k : ℕ) → counted lim n bs ≡ got m k → m ≤ lim.container
unfolding counted
counted_few lim n bs m k e =
    let f = passed (leb n 2147483647) NEGATIVE_SIZE _ bs m k e in
    let g = passed (leb n lim.container) SIZE_LIMIT (done n) bs m k f.1 in
    subst (λ (x : ℕ). x ≤ lim.container) (is_done n m bs k g.1) (leb-true n lim.container g.0)

pub listed_few : (lim : TConfiguration) (t : TType) (n : ℕ) (bs : List ℕ) (x : TType × ℕ) (k : ℕ) → listed lim t n bs ≡ got x k → x.1 ≤ lim.container
unfolding listed
listed_few lim t n bs x k e =
    let f = parts (counted lim n) _ bs x k e in
    let q : (t, f.one) ≡ x = is_done {A = TType × ℕ} (t, f.one) x _ _ f.second in
    subst (λ (y : TType × ℕ). y.1 ≤ lim.container) q (counted_few lim n bs f.one f.used f.first)

pub no_refuse : {A X : Type 0} (why : ℕ) (bs : List ℕ) (a : A) (n : ℕ) → refuse why bs ≡ got a n → X
unfolding refuse
no_refuse why bs a n e = not_both e

abbrev pub IdFits : Field → Type 0
IdFits stop = Unit {0}
IdFits (bool b id) = SFits w16 id
IdFits (value t id) = SFits w16 id

-- what the words' answers are like, where the input is bytes
pub record Ranges (w : Words) : Type 0 where
  pub int8 : (bs : List ℕ) (z : ℤ) (n : ℕ) → w.int8 bs ≡ got z n → Bytes bs → SFits w8 z
  pub int16 : (bs : List ℕ) (z : ℤ) (n : ℕ) → w.int16 bs ≡ got z n → Bytes bs → SFits w16 z
  pub int32 : (bs : List ℕ) (z : ℤ) (n : ℕ) → w.int32 bs ≡ got z n → Bytes bs → SFits w32 z
  pub int64 : (bs : List ℕ) (z : ℤ) (n : ℕ) → w.int64 bs ≡ got z n → Bytes bs → SFits w64 z
  pub double : (bs : List ℕ) (v n : ℕ) → w.double bs ≡ got v n → Bytes bs → v < 2 ^ 64
  pub uuid : (bs u : List ℕ) (n : ℕ) → w.uuid bs ≡ got u n → Bytes bs → (length u ≡ 16) × Bytes u
  pub binary : (lim : TConfiguration) (bs cs : List ℕ) (n : ℕ) → w.binary lim bs ≡ got cs n → Bytes bs → (length cs ≤ lim.string) × Bytes cs
  pub items : (lim : TConfiguration) (bs : List ℕ) (x : TType × ℕ) (n : ℕ) → w.items lim bs ≡ got x n → x.1 ≤ lim.container
  pub pairs : (lim : TConfiguration) (bs : List ℕ) (x : TType × TType × ℕ) (n : ℕ) → w.pairs lim bs ≡ got x n → x.2 ≤ lim.container
  pub field : (last : ℤ) → SFits w16 last → (bs : List ℕ) (x : Field) (n : ℕ) → w.field last bs ≡ got x n → Bytes bs → IdFits x
  pub message : (lim : TConfiguration) (bs : List ℕ) (x : Message) (n : ℕ) → w.message lim bs ≡ got x n → Bytes bs → SFits w32 x.1 × (length x.2 ≤ lim.string) × (utf8 x.2 ≡ true)

-- the tree: of the type that was read, with lengths, counts and numbers in their ranges
pub record Good (lim : TConfiguration) (ty : TType) (t : Tree) : Type 0 where
  pub kind : type_of t ≡ ty
  pub sized : Sized lim t
  pub typed : Typed t

truth_good : (lim : TConfiguration) (t : Tree) (b : Bool) → t ≡ val.truth b → Sized lim t × Typed t
unfolding Sized Typed
truth_good lim t b e = rw e (tt, tt)

module _ (w : Words) (r : Ranges w) (lim : TConfiguration) where
  mutual
    unfolding SpellsBy SpellsAllBy SpellsPairsBy SpellsFieldsBy Sized SizedAll SizedPairs SizedFields Typed TypedAll TypedPairs TypedFields type_of size size_p

    pub good : (t : Tree) (room : ℕ) (ty : TType) (bs : List ℕ) → SpellsBy w t lim room ty bs → Bytes bs → Good lim ty t
    good (val.truth b) room ty bs s h = record { kind = sym s.0; sized = tt; typed = tt }
    good (val.i8 z) room ty bs s h = record { kind = sym s.0; sized = tt; typed = r.int8 bs z _ s.1 h }
    good (val.i16 z) room ty bs s h = record { kind = sym s.0; sized = tt; typed = r.int16 bs z _ s.1 h }
    good (val.i32 z) room ty bs s h = record { kind = sym s.0; sized = tt; typed = r.int32 bs z _ s.1 h }
    good (val.i64 z) room ty bs s h = record { kind = sym s.0; sized = tt; typed = r.int64 bs z _ s.1 h }
    good (val.double n) room ty bs s h = record { kind = sym s.0; sized = tt; typed = r.double bs n _ s.1 h }
    good (val.uuid u) room ty bs s h = record { kind = sym s.0; sized = tt; typed = r.uuid bs u _ s.1 h }
    good (val.bytes cs) room ty bs s h = let p = r.binary lim bs cs _ s.1 h in record { kind = sym s.0; sized = p.0; typed = p.1 }
    good (val.list t ts) room ty bs s h =
        let two = both_bytes s.2.0 s.2.1 (subst Bytes s.2.4 h) in
        let g = good_all ts (room - 1) t s.2.1 s.2.3 two.1 in
        record { kind = sym s.0; sized = (r.items lim s.2.0 (t, size ts) _ s.2.2, g.0); typed = g.1 }
    good (val.set t ts) room ty bs s h =
        let two = both_bytes s.2.0 s.2.1 (subst Bytes s.2.4 h) in
        let g = good_all ts (room - 1) t s.2.1 s.2.3 two.1 in
        record { kind = sym s.0; sized = (r.items lim s.2.0 (t, size ts) _ s.2.2, g.0); typed = g.1 }
    good (val.map k v ps) room ty bs s h =
        let two = both_bytes s.2.0 s.2.1 (subst Bytes s.2.4 h) in
        let g = good_pairs ps (room - 1) k v s.2.1 s.2.3 two.1 in
        record { kind = sym s.0; sized = (r.pairs lim s.2.0 (k, v, size_p ps) _ s.2.2, g.0); typed = g.1 }
    good (val.struct fs) room ty bs s h =
        let g = good_fields fs (room - 1) (pos 0) bs (record { sfits = omega arith }) s.2 h in
        record { kind = sym s.0; sized = g.0; typed = g.1 }

    good_all : (ts : Trees) (room : ℕ) (ty : TType) (bs : List ℕ) → SpellsAllBy w ts lim room ty bs → Bytes bs → SizedAll lim ts × TypedAll ty ts
    good_all no_trees room ty bs s h = (tt, tt)
    good_all (tree t ts) room ty bs s h =
        let two = both_bytes s.0 s.1 (subst Bytes s.4 h) in
        let g = good t room ty s.0 s.2 two.0 in
        let rest = good_all ts room ty s.1 s.3 two.1 in
        ((g.sized, rest.0), (g.kind, g.typed, rest.1))

    good_pairs : (ps : Pairs) (room : ℕ) (k v : TType) (bs : List ℕ) → SpellsPairsBy w ps lim room k v bs → Bytes bs → SizedPairs lim ps × TypedPairs k v ps
    good_pairs no_pairs room k v bs s h = (tt, tt)
    good_pairs (pair t u ps) room k v bs s h =
        let two = both_bytes s.0 (s.1 ++ s.2) (subst Bytes s.6 h) in
        let more = both_bytes s.1 s.2 two.1 in
        let f = good t room k s.0 s.3 two.0 in
        let g = good u room v s.1 s.4 more.0 in
        let rest = good_pairs ps room k v s.2 s.5 more.1 in
        ((f.sized, g.sized, rest.0), (f.kind, g.kind, f.typed, g.typed, rest.1))

    good_fields : (fs : Fields) (room : ℕ) (last : ℤ) (bs : List ℕ) → SFits w16 last → SpellsFieldsBy w fs lim room last bs → Bytes bs → SizedFields lim fs × TypedFields fs
    good_fields no_fields room last bs l s h = (tt, tt)
    good_fields (val.field id t fs) room last bs l s h =
        let two = both_bytes s.0 (s.1 ++ s.2) (subst Bytes s.5 h) in
        let more = both_bytes s.1 s.2 two.1 in
        let fits : SFits w16 id = ⊎_elim (λ b. r.field last l s.0 (bool b.0 id) _ b.2 two.0) (λ v. r.field last l s.0 (value v.0 id) _ v.1 two.0) s.3 in
        let own : Sized lim t × Typed t =
        ⊎_elim (λ b. truth_good lim t b.0 b.1) (λ v. let g = good t room v.0 s.1 v.2 more.0 in (g.sized, g.typed)) s.3
        in
        let rest = good_fields fs room id s.2 fits s.4 more.1 in
        ((own.0, rest.0), (fits, own.1, rest.1))

-- nested no deeper than there was room
-- a bool is nested in nothing
flat : (t : Tree) (b : Bool) (room : ℕ) → t ≡ val.truth b → nesting t ≤ room
unfolding nesting
flat t b room e = rw e (omega arith)

module _ (w : Words) (lim : TConfiguration) where
  mutual
    unfolding SpellsBy SpellsAllBy SpellsPairsBy SpellsFieldsBy nesting nesting_all nesting_pairs nesting_fields

    pub nested : (t : Tree) (room : ℕ) (ty : TType) (bs : List ℕ) → SpellsBy w t lim room ty bs → nesting t ≤ room
    nested (val.truth b) room ty bs s = omega arith
    nested (val.i8 z) room ty bs s = omega arith
    nested (val.i16 z) room ty bs s = omega arith
    nested (val.i32 z) room ty bs s = omega arith
    nested (val.i64 z) room ty bs s = omega arith
    nested (val.double n) room ty bs s = omega arith
    nested (val.uuid u) room ty bs s = omega arith
    nested (val.bytes cs) room ty bs s = omega arith
    nested (val.list t ts) room ty bs s = omega (arith, s.1, nested_all ts (room - 1) t s.2.1 s.2.3)
    nested (val.set t ts) room ty bs s = omega (arith, s.1, nested_all ts (room - 1) t s.2.1 s.2.3)
    nested (val.map k v ps) room ty bs s = omega (arith, s.1, nested_pairs ps (room - 1) k v s.2.1 s.2.3)
    nested (val.struct fs) room ty bs s = omega (arith, s.1, nested_fields fs (room - 1) (pos 0) bs s.2)

    nested_all : (ts : Trees) (room : ℕ) (ty : TType) (bs : List ℕ) → SpellsAllBy w ts lim room ty bs → nesting_all ts ≤ room
    nested_all no_trees room ty bs s = omega arith
    nested_all (tree t ts) room ty bs s = omega (arith, nested t room ty s.0 s.2, nested_all ts room ty s.1 s.3)

    nested_pairs : (ps : Pairs) (room : ℕ) (k v : TType) (bs : List ℕ) → SpellsPairsBy w ps lim room k v bs → nesting_pairs ps ≤ room
    nested_pairs no_pairs room k v bs s = omega arith
    nested_pairs (pair t u ps) room k v bs s = omega (arith, nested t room k s.0 s.3, nested u room v s.1 s.4, nested_pairs ps room k v s.2 s.5)

    nested_fields : (fs : Fields) (room : ℕ) (last : ℤ) (bs : List ℕ) → SpellsFieldsBy w fs lim room last bs → nesting_fields fs ≤ room
    nested_fields no_fields room last bs s = omega arith
    nested_fields (val.field id t fs) room last bs s =
        omega (arith, ⊎_elim (λ b. flat t b.0 room b.1) (λ v. nested t room v.0 s.1 v.2) s.3, nested_fields fs room id s.2 s.4)

pub spelt_within : (w : Words) (r : Ranges w) (lim : TConfiguration) (depth room : ℕ) (ty : TType) (t : Tree) (bs : List ℕ) → SpellsBy w t lim room ty bs → Bytes bs → depth + room ≤ lim.depth → Within lim depth t
spelt_within w r lim depth room ty t bs s h d =
    let g = good w r lim t room ty bs s h in
    record { nested = omega (arith, nested w lim t room ty bs s); sized = g.sized; typed = g.typed }
