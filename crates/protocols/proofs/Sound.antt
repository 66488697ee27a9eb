-- What is read by the words of a protocol is spelt by the bytes that it took. Assumes nothing.
use mathlib.Core.Path.{◌≡◌, refl, sym, ap, subst, ◌∙◌}
use mathlib.Core.Bool.{Bool, true, false}
use mathlib.Core.Logic.{inl, inr}
use mathlib.Core.List.{List, [], ◌∷◌, ◌++◌}
use Prim.Native.Nat.{ℕ, zero, suc, ◌+◌, ◌-◌, ◌≤◌, ◌<◌}
use native.Mathlib.Omega.{arith}
use lib.ListN.{length, take, drop, length-drop}
use lib.Seq.{take-add}
use lib.IntN.{ℤ, pos}
use Rattle.types.specs.Refusals.{BAD_TYPE, DEPTH}
use Rattle.types.specs.declared.TType.{TType}
use Rattle.types.specs.declared.TType.TheVariants as T
use Rattle.types.specs.declared.TConfiguration.{TConfiguration}
use Rattle.types.specs.Value as val
use Rattle.types.specs.Value.{Tree, Trees, no_trees, tree, Pairs, no_pairs, pair, Fields, no_fields, size, size_p}
use Rattle.numbers.specs.Varint.{got}
use Rattle.heads.specs.Reader.{Reader, done, refuse, and_then, provided, Whole}
use Rattle.heads.specs.Heads.{Field, stop, bool, value}
use Rattle.heads.proofs.Lawful.{Lawful, Both, both, not_both, whole_of}
use Rattle.heads.proofs.Ahead.{was_backed}
use Rattle.skip.specs.Walk.{Entry, sizing, behind}
use Rattle.skip.specs.Value.{many, many_pairs, fields_of, startable, Boxes, shut}
use Rattle.skip.proofs.Walks.{sized}
use Rattle.skip.proofs.Sound.{unmade}
use Rattle.protocols.specs.Words.{Words, items_head, pairs_head}
use Rattle.protocols.specs.Value.{fields_by, roomy_by, shaped_by, value_by}
use Rattle.protocols.specs.Spells.{SpellsBy, SpellsAllBy, SpellsPairsBy, SpellsFieldsBy}
use Rattle.protocols.proofs.Owes.{Owes}
use Rattle.protocols.proofs.Walks.{fields_step}

-- two readers, taken apart
apart : {A B : Type 0} (p : Reader A) (k : A → Reader B) (bs : List ℕ) (b : B) (n : ℕ) → and_then p k bs ≡ got b n → Both (p bs) k bs b n
unfolding and_then
apart p k bs b n e = both (p bs) k bs b n e

done_is : {A : Type 0} (a : A) (bs : List ℕ) (b : A) (n : ℕ) → done a bs ≡ got b n → (a ≡ b) × (n ≡ 0)
unfolding done
done_is a bs b n e = (cc, cc)

passed_test : {A : Type 0} (ok : Bool) (why : ℕ) (p : Reader A) (bs : List ℕ) (a : A) (n : ℕ) → provided ok why p bs ≡ got a n → p bs ≡ got a n
unfolding provided
passed_test true why p bs a n e = e
passed_test false why p bs a n e = not_both e

-- the bytes of three in a row
three : (a b c n : ℕ) (bs : List ℕ) → n ≡ a + (b + c) → take n bs ≡ take a bs ++ (take b (drop a bs) ++ take c (drop b (drop a bs)))
three a b c n bs q = ap (λ (k : ℕ). take k bs) q ∙ take-add a (b + c) bs ∙ ap (λ (l : List ℕ). take a bs ++ l) (take-add b c (drop a bs))

read_sized : {A : Type 0} (p : Reader A) (bs : List ℕ) (v : A × ℕ) (n : ℕ) → sizing p bs ≡ got v n → p bs ≡ got v.0 n
unfolding sizing
read_sized p bs v n e = sized (p bs) v n e

module _ (w : Words) (o : Owes w) where
  -- what a reader of trees gives is spelt
  abbrev pub Good : TConfiguration → ℕ → TType → Reader Tree → Type 0
  Good lim room ty p = (bs : List ℕ) (t : Tree) (n : ℕ) → p bs ≡ got t n → SpellsBy w t lim room ty (take n bs)

  leaf_good : {A : Type 0} (lim : TConfiguration) (room : ℕ) (ty : TType) (p : Reader A) → Lawful p → (g : A → Tree) → ((a : A) (bs : List ℕ) → Whole p a bs → SpellsBy w (g a) lim room ty bs) → Good lim room ty (and_then p (λ a. done (g a)))
  leaf_good lim room ty p lp g sp bs t n e =
      let u = unmade p g bs t n e in
      subst (λ (x : Tree). SpellsBy w x lim room ty (take n bs)) (sym u.2) (sp u.0 (take n bs) (whole_of p lp bs u.0 n u.1))

  -- elements in a row
  many_good : (lim : TConfiguration) (room : ℕ) (ty : TType) (p : Reader Tree) → Good lim room ty p → (k : ℕ) (bs : List ℕ) (ts : Trees) (n : ℕ) → many p k bs ≡ got ts n → SpellsAllBy w ts lim room ty (take n bs) × (size ts ≡ k)
  unfolding many SpellsAllBy size
  many_good lim room ty p gp zero bs ts n e =
      let d = done_is no_trees bs ts n e in
      subst (λ (x : Trees). SpellsAllBy w x lim room ty (take n bs) × (size x ≡ 0)) d.0 (ap (λ (m : ℕ). take m bs) d.1, refl)
  many_good lim room ty p gp (suc k) bs ts n e =
      let f = apart p (λ t. and_then (many p k) (λ us. done (tree t us))) bs ts n e in
      let u = unmade (many p k) (tree f.one) (drop f.used bs) ts f.more f.second in
      let r = many_good lim room ty p gp k (drop f.used bs) u.0 f.more u.1 in
      subst (λ (x : Trees). SpellsAllBy w x lim room ty (take n bs) × (size x ≡ suc k)) (sym u.2)
      ((take f.used bs, take f.more (drop f.used bs), gp bs f.one f.used f.first, r.0, ap (λ (m : ℕ). take m bs) f.all ∙ take-add f.used f.more bs), ap suc r.1)

  pairs_good : (lim : TConfiguration) (room : ℕ) (k v : TType) (p q : Reader Tree) → Good lim room k p → Good lim room v q → (m : ℕ) (bs : List ℕ) (ps : Pairs) (n : ℕ) → many_pairs p q m bs ≡ got ps n → SpellsPairsBy w ps lim room k v (take n bs) × (size_p ps ≡ m)
  unfolding many_pairs SpellsPairsBy size_p
  pairs_good lim room k v p q gp gq zero bs ps n e =
      let d = done_is no_pairs bs ps n e in
      subst (λ (x : Pairs). SpellsPairsBy w x lim room k v (take n bs) × (size_p x ≡ 0)) d.0 (ap (λ (j : ℕ). take j bs) d.1, refl)
  pairs_good lim room k v p q gp gq (suc m) bs ps n e =
      let f = apart p (λ t. and_then q (λ u. and_then (many_pairs p q m) (λ xs. done (pair t u xs)))) bs ps n e in
      let cs = drop f.used bs in
      let g = apart q (λ u. and_then (many_pairs p q m) (λ xs. done (pair f.one u xs))) cs ps f.more f.second in
      let u = unmade (many_pairs p q m) (pair f.one g.one) (drop g.used cs) ps g.more g.second in
      let r = pairs_good lim room k v p q gp gq m (drop g.used cs) u.0 g.more u.1 in
      subst (λ (x : Pairs). SpellsPairsBy w x lim room k v (take n bs) × (size_p x ≡ suc m)) (sym u.2)
      ((take f.used bs, take g.used cs, take g.more (drop g.used cs), gp bs f.one f.used f.first, gq cs g.one g.used g.first, r.0, three f.used g.used g.more n bs (f.all ∙ ap (λ (x : ℕ). f.used + x) g.all)), ap suc r.1)

  -- the fields_by w of a struct, by the bytes left
  module _ (lim : TConfiguration) (room : ℕ) (inner : TType → Reader Tree) (gi : (t : TType) → Good lim room t (inner t)) where
    Walked : ℤ → List ℕ → Type 0
    Walked last bs = (es : List (Entry Tree)) (n : ℕ) → fields_by w val.truth inner last bs ≡ got es n → SpellsFieldsBy w (fields_of es) lim room last (take n bs)

    -- behind a header of a bytes
    walked_behind : (last : ℤ) (bs : List ℕ) (x : Field) (a h : ℕ) → w.field last bs ≡ got x a → ((id : ℤ) (cs : List ℕ) → length cs ≤ length (drop a bs) → Walked id cs) → (es : List (Entry Tree)) (m n : ℕ) → behind val.truth inner (fields_by w val.truth inner) x h (drop a bs) ≡ got es m → n ≡ a + m → SpellsFieldsBy w (fields_of es) lim room last (take n bs)
    unfolding Walked SpellsFieldsBy
    walked_behind last bs stop a h e ih es m n f q =
        let d = done_is [] (drop a bs) es m f in
        let na : n ≡ a = omega (arith, q, d.1) in
        subst (λ (x : List (Entry Tree)). SpellsFieldsBy w (fields_of x) lim room last (take n bs)) d.0
        (subst (λ (k : ℕ). Whole (w.field last) stop (take k bs)) (sym na) (whole_of (w.field last) (o.field last).lawful bs stop a e))
    walked_behind last bs (bool b id) a h e ih es m n f q =
        let en : Entry Tree = record { id = id; what = val.truth b; head = h; size = 0 } in
        let u = unmade (fields_by w val.truth inner id) (λ fs. en ∷ fs) (drop a bs) es m f in
        subst (λ (x : List (Entry Tree)). SpellsFieldsBy w (fields_of x) lim room last (take n bs)) (sym u.2)
        (take a bs, [], take m (drop a bs), inl (b, refl, whole_of (w.field last) (o.field last).lawful bs (bool b id) a e, refl), ih id (drop a bs) (omega arith) u.0 m u.1, ap (λ (k : ℕ). take k bs) q ∙ take-add a m bs)
    walked_behind last bs (value t id) a h e ih es m n f q =
        let cs = drop a bs in
        let g = apart (sizing (inner t)) (λ v. and_then (fields_by w val.truth inner id) (λ fs. done (record { id = id; what = v.0; head = h; size = v.1 } ∷ fs))) cs es m f in
        let en : Entry Tree = record { id = id; what = g.one.0; head = h; size = g.one.1 } in
        let u = unmade (fields_by w val.truth inner id) (λ fs. en ∷ fs) (drop g.used cs) es g.more g.second in
        let v = read_sized (inner t) cs g.one g.used g.first in
        subst (λ (x : List (Entry Tree)). SpellsFieldsBy w (fields_of x) lim room last (take n bs)) (sym u.2)
        (take a bs, take g.used cs, take g.more (drop g.used cs), inr (t, whole_of (w.field last) (o.field last).lawful bs (value t id) a e, gi t cs g.one.0 g.used v), ih id (drop g.used cs) (omega (arith, length-drop g.used cs)) u.0 g.more u.1, three a g.used g.more n bs (q ∙ ap (λ (x : ℕ). a + x) g.all))

    -- a header first, then what stands behind it
    walked_step : (last : ℤ) (bs : List ℕ) → ((id : ℤ) (cs : List ℕ) → length cs < length bs → Walked id cs) → Walked last bs
    unfolding Walked
    walked_step last bs ih es n e =
        let f = apart (sizing (w.field last)) (λ v. behind val.truth inner (fields_by w val.truth inner) v.0 v.1) bs es n (sym (fields_step w o val.truth inner last bs) ∙ e) in
        let here = read_sized (w.field last) bs f.one f.used f.first in
        walked_behind last bs f.one.0 f.used f.one.1 here
        (λ id cs l. ih id cs (omega (arith, length-drop f.used bs, (o.field last).enough bs f.one.0 f.used here, (o.field last).lawful.ends bs f.one.0 f.used here)))
        es f.more n f.second f.all

    walked : (k : ℕ) (last : ℤ) (bs : List ℕ) → length bs ≤ k → Walked last bs
    walked zero last bs h = walked_step last bs (λ id cs l. absurd (omega arith))
    walked (suc k) last bs h = walked_step last bs (λ id cs l. walked k id cs (omega arith))

    fields_good : (last : ℤ) (bs : List ℕ) → Walked last bs
    fields_good last bs = walked (length bs) last bs (omega arith)

  -- the four that hold others
  one_less : (room : ℕ) → suc room - 1 ≡ room
  one_less room = omega arith

  pub record BoxesGood (lim : TConfiguration) (room : ℕ) (b : Boxes) : Type 0 where
    pub list : Good lim room T.List b.list
    pub set : Good lim room T.Set b.set
    pub map : Good lim room T.Map b.map
    pub struct : Good lim room T.Struct b.struct

  module _ (lim : TConfiguration) (room : ℕ) (inner : TType → Reader Tree) (gi : (t : TType) → Good lim room t (inner t)) where
    items_good : (ty : TType) (g : TType → Trees → Tree) → ((t : TType) (ts : Trees) (h b bs : List ℕ) → Whole (w.items lim) (t, size ts) h → SpellsAllBy w ts lim (suc room - 1) t b → bs ≡ h ++ b → SpellsBy w (g t ts) lim (suc room) ty bs) → Good lim (suc room) ty (and_then (items_head w lim) (λ h. provided (startable h.0 h.1) BAD_TYPE (and_then (many (inner h.0) h.1) (λ ts. done (g h.0 ts)))))
    items_good ty g sp bs t n e =
        let f = apart (items_head w lim) (λ h. provided (startable h.0 h.1) BAD_TYPE (and_then (many (inner h.0) h.1) (λ ts. done (g h.0 ts)))) bs t n e in
        let cs = drop f.used bs in
        let h = f.one in
        let u = unmade (many (inner h.0) h.1) (g h.0) cs t f.more (passed_test (startable h.0 h.1) BAD_TYPE _ cs t f.more f.second) in
        let r = many_good lim room h.0 (inner h.0) (gi h.0) h.1 cs u.0 f.more u.1 in
        subst (λ (x : Tree). SpellsBy w x lim (suc room) ty (take n bs)) (sym u.2)
        (sp h.0 u.0 (take f.used bs) (take f.more cs) (take n bs)
        (subst (λ (k : ℕ). Whole (w.items lim) (h.0, k) (take f.used bs)) (sym r.1) (whole_of (w.items lim) (o.list lim).lawful bs h f.used (was_backed _ (w.items lim) bs h f.used f.first).0))
        (subst (λ (k : ℕ). SpellsAllBy w u.0 lim k h.0 (take f.more cs)) (sym (one_less room)) r.0)
        (ap (λ (k : ℕ). take k bs) f.all ∙ take-add f.used f.more bs))

    list_good : Good lim (suc room) T.List (roomy_by w lim inner).list
    unfolding SpellsBy
    list_good = items_good T.List val.list (λ t ts h b bs w s q. (refl, omega arith, (h, b, w, s, q)))

    set_good : Good lim (suc room) T.Set (roomy_by w lim inner).set
    unfolding SpellsBy
    set_good = items_good T.Set val.set (λ t ts h b bs w s q. (refl, omega arith, (h, b, w, s, q)))

    map_good : Good lim (suc room) T.Map (roomy_by w lim inner).map
    unfolding SpellsBy
    map_good bs t n e =
        let f = apart (pairs_head w lim) (λ h. provided (startable h.0 h.2) BAD_TYPE (provided (startable h.1 h.2) BAD_TYPE (and_then (many_pairs (inner h.0) (inner h.1) h.2) (λ ps. done (val.map h.0 h.1 ps))))) bs t n e in
        let cs = drop f.used bs in
        let h = f.one in
        let u = unmade (many_pairs (inner h.0) (inner h.1) h.2) (val.map h.0 h.1) cs t f.more (passed_test (startable h.1 h.2) BAD_TYPE _ cs t f.more (passed_test (startable h.0 h.2) BAD_TYPE _ cs t f.more f.second)) in
        let r = pairs_good lim room h.0 h.1 (inner h.0) (inner h.1) (gi h.0) (gi h.1) h.2 cs u.0 f.more u.1 in
        subst (λ (x : Tree). SpellsBy w x lim (suc room) T.Map (take n bs)) (sym u.2) (
          refl,
          omega arith,
          (
            take f.used bs,
            take f.more cs,
            subst (λ (k : ℕ). Whole (w.pairs lim) (h.0, h.1, k) (take f.used bs)) (sym r.1) (whole_of (w.pairs lim) (o.map lim).lawful bs h f.used (was_backed _ (w.pairs lim) bs h f.used f.first).0),
            subst (λ (k : ℕ). SpellsPairsBy w u.0 lim k h.0 h.1 (take f.more cs)) (sym (one_less room)) r.0,
            ap (λ (k : ℕ). take k bs) f.all ∙ take-add f.used f.more bs,
          ),
        )

    struct_good : Good lim (suc room) T.Struct (roomy_by w lim inner).struct
    unfolding SpellsBy Walked
    struct_good bs t n e =
        let u = unmade (fields_by w val.truth inner (pos 0)) (λ es. val.struct (fields_of es)) bs t n e in
        subst (λ (x : Tree). SpellsBy w x lim (suc room) T.Struct (take n bs)) (sym u.2)
        (refl, omega arith, subst (λ (k : ℕ). SpellsFieldsBy w (fields_of u.0) lim k (pos 0) (take n bs)) (sym (one_less room)) (fields_good lim room inner gi (pos 0) bs u.0 n u.1))

    pub boxed_good : BoxesGood lim (suc room) (roomy_by w lim inner)
    boxed_good = record { list = list_good; set = set_good; map = map_good; struct = struct_good }

  refuse_good : (lim : TConfiguration) (room : ℕ) (ty : TType) (why : ℕ) → Good lim room ty (refuse why)
  unfolding refuse
  refuse_good lim room ty why bs t n e = not_both e

  pub shut_good : (lim : TConfiguration) (room : ℕ) → BoxesGood lim room shut
  shut_good lim room = record { list = refuse_good lim room T.List DEPTH; set = refuse_good lim room T.Set DEPTH; map = refuse_good lim room T.Map DEPTH; struct = refuse_good lim room T.Struct DEPTH }

  pub shaped_good : (lim : TConfiguration) (room : ℕ) (b : Boxes) → BoxesGood lim room b → (ty : TType) → Good lim room ty (shaped_by w lim b ty)
  unfolding SpellsBy
  shaped_good lim room b g T.Stop = refuse_good lim room T.Stop BAD_TYPE
  shaped_good lim room b g T.Bool = leaf_good lim room T.Bool w.truth o.truth.lawful val.truth (λ a bs w. (refl, w))
  shaped_good lim room b g T.I08 = leaf_good lim room T.I08 w.int8 o.int8.lawful val.i8 (λ a bs w. (refl, w))
  shaped_good lim room b g T.I16 = leaf_good lim room T.I16 w.int16 o.int16.lawful val.i16 (λ a bs w. (refl, w))
  shaped_good lim room b g T.I32 = leaf_good lim room T.I32 w.int32 o.int32.lawful val.i32 (λ a bs w. (refl, w))
  shaped_good lim room b g T.I64 = leaf_good lim room T.I64 w.int64 o.int64.lawful val.i64 (λ a bs w. (refl, w))
  shaped_good lim room b g T.Double = leaf_good lim room T.Double w.double o.double.lawful val.double (λ a bs w. (refl, w))
  shaped_good lim room b g T.String = leaf_good lim room T.String (w.binary lim) (o.binary lim).lawful val.bytes (λ a bs w. (refl, w))
  shaped_good lim room b g T.List = g.list
  shaped_good lim room b g T.Set = g.set
  shaped_good lim room b g T.Map = g.map
  shaped_good lim room b g T.Struct = g.struct
  shaped_good lim room b g T.Uuid = leaf_good lim room T.Uuid w.uuid o.uuid.lawful val.uuid (λ a bs w. (refl, w))

  -- by recursion on the room
  pub sound : (lim : TConfiguration) (room : ℕ) (ty : TType) → Good lim room ty (value_by w lim room ty)
  unfolding value_by
  sound lim zero ty = shaped_good lim zero shut (shut_good lim zero) ty
  sound lim (suc room) ty =
      shaped_good lim (suc room) (roomy_by w lim (value_by w lim room))
      (boxed_good lim room (value_by w lim room) (sound lim room)) ty
