-- Bytes that spell a value by the words of a protocol are read as it, whatever stands behind them. Assumes nothing.
use mathlib.Core.Path.{◌≡◌, refl, sym, ap, ap₂, subst, ◌∙◌}
use mathlib.Core.Bool.{Bool, true}
use mathlib.Core.Logic.{⊎_elim}
use mathlib.Core.List.{List, [], ◌∷◌, ◌++◌}
use Prim.Native.Nat.{ℕ, zero, suc, ◌+◌, ◌-◌, ◌*◌, ◌≤◌, ◌<◌}
use native.Mathlib.Nat.{add-zero}
use native.Mathlib.Omega.{arith}
use borrow.Author.Tests.{lt-ltb, ne_eqb}
use lib.ListN.{length, drop, length-append}
use lib.Seq.{drop-append_seam}
use lib.IntN.{ℤ, pos}
use Rattle.types.specs.Refusals.{BAD_TYPE}
use Rattle.types.specs.Codes.{type_code}
use Rattle.types.specs.declared.TType.{TType}
use Rattle.types.specs.declared.TType.TheVariants as T
use Rattle.types.specs.declared.TConfiguration.{TConfiguration}
use Rattle.types.specs.Value as val
use Rattle.types.specs.Value.{Tree, Trees, no_trees, tree, Pairs, no_pairs, pair, Fields, no_fields, type_of, size, size_p}
use Rattle.types.proofs.Value.{no_stop}
use Rattle.numbers.specs.Varint.{Found, got}
use Rattle.heads.specs.Reader.{Reader, done, and_then, provided, Whole}
use Rattle.heads.specs.Heads.{Field, stop, bool, value}
use Rattle.heads.proofs.Lawful.{Lawful, then_got, whole_front}
use Rattle.heads.proofs.Ahead.{is_backed}
use Rattle.skip.specs.Walk.{Entry, with_size, sizing}
use Rattle.skip.specs.Value.{many, many_pairs, fields_of, startable, Boxes, shut}
use Rattle.skip.specs.Leaves.{is_leaf}
use Rattle.skip.proofs.Complete.{joined, made}
use Rattle.skip.proofs.Leaf.{no_leaf}
use Rattle.skip.proofs.Past.{pos_suc}
use Rattle.protocols.specs.Words.{Words, items_head, pairs_head}
use Rattle.protocols.specs.Value.{fields_by, roomy_by, shaped_by, value_by}
use Rattle.protocols.specs.Spells.{SpellsBy, SpellsAllBy, SpellsPairsBy, SpellsFieldsBy}
use Rattle.protocols.proofs.Owes.{Owes}
use Rattle.protocols.proofs.Walks.{fields_step}
use Rattle.protocols.proofs.Least.{all_least, pairs_least}

leaf_read : {A : Type 0} (p : Reader A) → Lawful p → (g : A → Tree) (a : A) (bs rest : List ℕ) → Whole p a bs → and_then p (λ x. done (g x)) (bs ++ rest) ≡ got (g a) (length bs)
leaf_read p lp g a bs rest wh = made p g a (bs ++ rest) (length bs) (whole_front p lp bs a wh rest)

module _ (w : Words) where
  -- a type whose values hold no other is read in one way, whatever the room
  same_shape : (lim : TConfiguration) (b c : Boxes) (t : TType) → is_leaf t ≡ true → shaped_by w lim b t ≡ shaped_by w lim c t
  same_shape lim b c T.Stop e = refl
  same_shape lim b c T.Bool e = refl
  same_shape lim b c T.I08 e = refl
  same_shape lim b c T.I16 e = refl
  same_shape lim b c T.I32 e = refl
  same_shape lim b c T.I64 e = refl
  same_shape lim b c T.Double e = refl
  same_shape lim b c T.String e = refl
  same_shape lim b c T.List e = no_leaf e
  same_shape lim b c T.Set e = no_leaf e
  same_shape lim b c T.Map e = no_leaf e
  same_shape lim b c T.Struct e = no_leaf e
  same_shape lim b c T.Uuid e = refl

  pub flat : (lim : TConfiguration) (room : ℕ) (t : TType) → is_leaf t ≡ true → value_by w lim room t ≡ value_by w lim 0 t
  unfolding value_by
  flat lim zero t e = refl
  flat lim (suc room) t e = same_shape lim (roomy_by w lim (value_by w lim room)) shut t e

module _ (w : Words) (o : Owes w) where
  -- a leaf's type, with any room
  at_leaf : (lim : TConfiguration) (room : ℕ) (ty t : TType) (bs : List ℕ) (x : Found Tree) → ty ≡ t → is_leaf t ≡ true → value_by w lim 0 t bs ≡ x → value_by w lim room ty bs ≡ x
  at_leaf lim room ty t bs x e l f = ap (λ (u : TType). value_by w lim room u bs) e ∙ ap (λ (p : Reader Tree). p bs) (flat w lim room t l) ∙ f

  -- spelt bytes are of the tree's own type
  spelt_type : (t : Tree) (lim : TConfiguration) (room : ℕ) (ty : TType) (bs : List ℕ) → SpellsBy w t lim room ty bs → ty ≡ type_of t
  unfolding SpellsBy type_of
  spelt_type (val.truth b) lim room ty bs s = s.0
  spelt_type (val.i8 z) lim room ty bs s = s.0
  spelt_type (val.i16 z) lim room ty bs s = s.0
  spelt_type (val.i32 z) lim room ty bs s = s.0
  spelt_type (val.i64 z) lim room ty bs s = s.0
  spelt_type (val.double n) lim room ty bs s = s.0
  spelt_type (val.uuid u) lim room ty bs s = s.0
  spelt_type (val.bytes cs) lim room ty bs s = s.0
  spelt_type (val.list t ts) lim room ty bs s = s.0
  spelt_type (val.set t ts) lim room ty bs s = s.0
  spelt_type (val.map k v ps) lim room ty bs s = s.0
  spelt_type (val.struct fs) lim room ty bs s = s.0

  -- so elements that there are can begin
  starts : (t : Tree) (lim : TConfiguration) (room : ℕ) (ty : TType) (bs : List ℕ) (n : ℕ) → SpellsBy w t lim room ty bs → startable ty (suc n) ≡ true
  starts t lim room ty bs n s = rw (ne_eqb (suc n) 0 (λ z. omega arith)) (lt-ltb 0 (type_code ty) (rw (spelt_type t lim room ty bs s) (no_stop t)))

  all_start : (ts : Trees) (lim : TConfiguration) (room : ℕ) (ty : TType) (bs : List ℕ) → SpellsAllBy w ts lim room ty bs → startable ty (size ts) ≡ true
  unfolding SpellsAllBy size
  all_start no_trees lim room ty bs s = refl
  all_start (tree t ts) lim room ty bs s = starts t lim room ty s.0 (size ts) s.2

  pairs_start : (ps : Pairs) (lim : TConfiguration) (room : ℕ) (k v : TType) (bs : List ℕ) → SpellsPairsBy w ps lim room k v bs → (startable k (size_p ps) ≡ true) × (startable v (size_p ps) ≡ true)
  unfolding SpellsPairsBy size_p
  pairs_start no_pairs lim room k v bs s = (refl, refl)
  pairs_start (pair t u ps) lim room k v bs s = (starts t lim room k s.0 (size_p ps) s.3, starts u lim room v s.1 (size_p ps) s.4)

  provided_read : {A : Type 0} (ok : Bool) (why : ℕ) (p : Reader A) (bs : List ℕ) (x : Found A) → ok ≡ true → p bs ≡ x → provided ok why p bs ≡ x
  unfolding provided
  provided_read ok why p bs x e f = rw e f

  -- bytes that stand behind a header are ahead of it, whatever follows
  still : (h b rest : List ℕ) (n : ℕ) → n ≤ length b → n ≤ length (drop (length h) (h ++ (b ++ rest)))
  still h b rest n l = rw (drop-append_seam h (b ++ rest), length-append b rest) (omega arith)

  -- a list or a set, from its elements
  items_read : (lim : TConfiguration) (inner : TType → Reader Tree) (g : TType → Trees → Tree) (t : TType) (ts : Trees) (h b rest : List ℕ) → Whole (w.items lim) (t, size ts) h → startable t (size ts) ≡ true → size ts * w.least t ≤ length b → many (inner t) (size ts) (b ++ rest) ≡ got ts (length b) → and_then (items_head w lim) (λ x. provided (startable x.0 x.1) BAD_TYPE (and_then (many (inner x.0) x.1) (λ us. done (g x.0 us)))) ((h ++ b) ++ rest) ≡ got (g t ts) (length (h ++ b))
  items_read lim inner g t ts h b rest wh st l e =
      joined (items_head w lim) _ (t, size ts) (g t ts) h b rest
      (is_backed _ (w.items lim) (h ++ (b ++ rest)) (t, size ts) (length h) (whole_front (w.items lim) (o.list lim).lawful h (t, size ts) wh (b ++ rest)) (still h b rest (size ts * w.least t) l))
      (provided_read (startable t (size ts)) BAD_TYPE _ (b ++ rest) _ st (made (many (inner t) (size ts)) (g t) ts (b ++ rest) (length b) e))

  map_read : (lim : TConfiguration) (inner : TType → Reader Tree) (k v : TType) (ps : Pairs) (h b rest : List ℕ) → Whole (w.pairs lim) (k, v, size_p ps) h → startable k (size_p ps) ≡ true → startable v (size_p ps) ≡ true → size_p ps * w.least k + size_p ps * w.least v ≤ length b → many_pairs (inner k) (inner v) (size_p ps) (b ++ rest) ≡ got ps (length b) → (roomy_by w lim inner).map ((h ++ b) ++ rest) ≡ got (val.map k v ps) (length (h ++ b))
  map_read lim inner k v ps h b rest wh sk sv l e =
      joined (pairs_head w lim) _ (k, v, size_p ps) (val.map k v ps) h b rest
      (is_backed _ (w.pairs lim) (h ++ (b ++ rest)) (k, v, size_p ps) (length h) (whole_front (w.pairs lim) (o.map lim).lawful h (k, v, size_p ps) wh (b ++ rest)) (still h b rest (size_p ps * w.least k + size_p ps * w.least v) l))
      (provided_read (startable k (size_p ps)) BAD_TYPE _ (b ++ rest) _ sk
      (provided_read (startable v (size_p ps)) BAD_TYPE _ (b ++ rest) _ sv
      (made (many_pairs (inner k) (inner v) (size_p ps)) (val.map k v) ps (b ++ rest) (length b) e)))

  -- what reading fields gives
  pub record Fielded (inner : TType → Reader Tree) (last : ℤ) (fs : Fields) (bs : List ℕ) (n : ℕ) : Type 0 where
    pub entries : List (Entry Tree)
    pub read : fields_by w val.truth inner last bs ≡ got entries n
    pub are : fields_of entries ≡ fs

  sized_front : (last : ℤ) (x : Field) (h rest : List ℕ) → Whole (w.field last) x h → sizing (w.field last) (h ++ rest) ≡ got (x, length h) (length h)
  unfolding sizing
  sized_front last x h rest wh = ap with_size (whole_front (w.field last) (o.field last).lawful h x wh rest)

  module _ (inner : TType → Reader Tree) (last : ℤ) where
    fields_stop : (h rest : List ℕ) → Whole (w.field last) stop h → Fielded inner last no_fields (h ++ rest) (length h)
    unfolding done
    fields_stop h rest wh =
        record {
          entries = [];
          read =
              fields_step w o val.truth inner last (h ++ rest)
              ∙ then_got (sizing (w.field last)) _ (h ++ rest) (stop, length h) (length h) [] 0 (sized_front last stop h rest wh) refl
              ∙ ap (got []) (add-zero (length h));
          are = refl;
        }

    fields_bool : (x : Bool) (id : ℤ) (fs : Fields) (h b rest : List ℕ) → Whole (w.field last) (bool x id) h → Fielded inner id fs (b ++ rest) (length b) → Fielded inner last (val.field id (val.truth x) fs) ((h ++ b) ++ rest) (length (h ++ b))
    fields_bool x id fs h b rest wh f =
        record {
          entries = record { id = id; what = val.truth x; head = length h; size = 0 } ∷ f.entries;
          read =
              fields_step w o val.truth inner last ((h ++ b) ++ rest)
              ∙ joined (sizing (w.field last)) _ (bool x id, length h) _ h b rest (sized_front last (bool x id) h (b ++ rest) wh)
              (made (fields_by w val.truth inner id) _ f.entries (b ++ rest) (length b) f.read);
          are = ap (val.field id (val.truth x)) f.are;
        }

    fields_value : (ty : TType) (id : ℤ) (t : Tree) (fs : Fields) (h a b rest : List ℕ) → Whole (w.field last) (value ty id) h → inner ty (a ++ (b ++ rest)) ≡ got t (length a) → Fielded inner id fs (b ++ rest) (length b) → Fielded inner last (val.field id t fs) ((h ++ (a ++ b)) ++ rest) (length (h ++ (a ++ b)))
    unfolding sizing
    fields_value ty id t fs h a b rest wh v f =
        record {
          entries = record { id = id; what = t; head = length h; size = length a } ∷ f.entries;
          read =
              fields_step w o val.truth inner last ((h ++ (a ++ b)) ++ rest)
              ∙ joined (sizing (w.field last)) _ (value ty id, length h) _ h (a ++ b) rest (sized_front last (value ty id) h ((a ++ b) ++ rest) wh)
              (joined (sizing (inner ty)) _ (t, length a) _ a b rest (ap with_size v)
              (made (fields_by w val.truth inner id) _ f.entries (b ++ rest) (length b) f.read));
          are = ap (val.field id t) f.are;
        }

  struct_read : (lim : TConfiguration) (inner : TType → Reader Tree) (fs : Fields) (bs : List ℕ) (n : ℕ) → Fielded inner (pos 0) fs bs n → (roomy_by w lim inner).struct bs ≡ got (val.struct fs) n
  struct_read lim inner fs bs n f =
      made (fields_by w val.truth inner (pos 0)) (λ es. val.struct (fields_of es)) f.entries bs n f.read ∙ ap (λ (gs : Fields). got (val.struct gs) n) f.are

  -- a container with room for it
  entered_at : (lim : TConfiguration) (room : ℕ) (ty t : TType) (bs : List ℕ) (x : Found Tree) → ty ≡ t → 0 < room → shaped_by w lim (roomy_by w lim (value_by w lim (room - 1))) t bs ≡ x → value_by w lim room ty bs ≡ x
  unfolding value_by
  entered_at lim room ty t bs x e r f = ap₂ (λ (m : ℕ) (u : TType). value_by w lim m u bs) (pos_suc r) e ∙ f

  entered : (lim : TConfiguration) (room : ℕ) (ty t : TType) (bs h b rest : List ℕ) (x : Tree) → ty ≡ t → 0 < room → bs ≡ h ++ b → shaped_by w lim (roomy_by w lim (value_by w lim (room - 1))) t ((h ++ b) ++ rest) ≡ got x (length (h ++ b)) → value_by w lim room ty (bs ++ rest) ≡ got x (length bs)
  entered lim room ty t bs h b rest x e r q f = rw q (entered_at lim room ty t ((h ++ b) ++ rest) (got x (length (h ++ b))) e r f)

  -- a field whose value stood in its header
  in_header_lem : (inner : TType → Reader Tree) (last id : ℤ) (t : Tree) (fs : Fields) (h a b rest : List ℕ) (x : Bool) → t ≡ val.truth x → Whole (w.field last) (bool x id) h → a ≡ [] → Fielded inner id fs (b ++ rest) (length b) → Fielded inner last (val.field id t fs) ((h ++ (a ++ b)) ++ rest) (length (h ++ (a ++ b)))
  in_header_lem inner last id t fs h a b rest x e wh n f = rw (e, n) (fields_bool inner last x id fs h b rest wh f)

  -- by recursion on the tree
  mutual
    unfolding SpellsBy SpellsAllBy SpellsPairsBy SpellsFieldsBy value_by many many_pairs size size_p done

    pub complete : (t : Tree) (lim : TConfiguration) (room : ℕ) (ty : TType) (bs : List ℕ) → SpellsBy w t lim room ty bs → (rest : List ℕ) → value_by w lim room ty (bs ++ rest) ≡ got t (length bs)
    complete (val.truth b) lim room ty bs s rest = at_leaf lim room ty T.Bool (bs ++ rest) _ s.0 refl (leaf_read w.truth o.truth.lawful val.truth b bs rest s.1)
    complete (val.i8 z) lim room ty bs s rest = at_leaf lim room ty T.I08 (bs ++ rest) _ s.0 refl (leaf_read w.int8 o.int8.lawful val.i8 z bs rest s.1)
    complete (val.i16 z) lim room ty bs s rest = at_leaf lim room ty T.I16 (bs ++ rest) _ s.0 refl (leaf_read w.int16 o.int16.lawful val.i16 z bs rest s.1)
    complete (val.i32 z) lim room ty bs s rest = at_leaf lim room ty T.I32 (bs ++ rest) _ s.0 refl (leaf_read w.int32 o.int32.lawful val.i32 z bs rest s.1)
    complete (val.i64 z) lim room ty bs s rest = at_leaf lim room ty T.I64 (bs ++ rest) _ s.0 refl (leaf_read w.int64 o.int64.lawful val.i64 z bs rest s.1)
    complete (val.double n) lim room ty bs s rest = at_leaf lim room ty T.Double (bs ++ rest) _ s.0 refl (leaf_read w.double o.double.lawful val.double n bs rest s.1)
    complete (val.uuid u) lim room ty bs s rest = at_leaf lim room ty T.Uuid (bs ++ rest) _ s.0 refl (leaf_read w.uuid o.uuid.lawful val.uuid u bs rest s.1)
    complete (val.bytes cs) lim room ty bs s rest = at_leaf lim room ty T.String (bs ++ rest) _ s.0 refl (leaf_read (w.binary lim) (o.binary lim).lawful val.bytes cs bs rest s.1)
    complete (val.list t ts) lim room ty bs s rest =
        entered lim room ty T.List bs s.2.0 s.2.1 rest _ s.0 s.1 s.2.4
        (items_read lim (value_by w lim (room - 1)) val.list t ts s.2.0 s.2.1 rest s.2.2 (all_start ts lim (room - 1) t s.2.1 s.2.3) (all_least w o ts lim (room - 1) t s.2.1 s.2.3) (complete_all ts lim (room - 1) t s.2.1 s.2.3 rest))
    complete (val.set t ts) lim room ty bs s rest =
        entered lim room ty T.Set bs s.2.0 s.2.1 rest _ s.0 s.1 s.2.4
        (items_read lim (value_by w lim (room - 1)) val.set t ts s.2.0 s.2.1 rest s.2.2 (all_start ts lim (room - 1) t s.2.1 s.2.3) (all_least w o ts lim (room - 1) t s.2.1 s.2.3) (complete_all ts lim (room - 1) t s.2.1 s.2.3 rest))
    complete (val.map k v ps) lim room ty bs s rest =
        let st = pairs_start ps lim (room - 1) k v s.2.1 s.2.3 in
        entered lim room ty T.Map bs s.2.0 s.2.1 rest _ s.0 s.1 s.2.4
        (map_read lim (value_by w lim (room - 1)) k v ps s.2.0 s.2.1 rest s.2.2 st.0 st.1 (pairs_least w o ps lim (room - 1) k v s.2.1 s.2.3) (complete_pairs ps lim (room - 1) k v s.2.1 s.2.3 rest))
    complete (val.struct fs) lim room ty bs s rest =
        entered_at lim room ty T.Struct (bs ++ rest) _ s.0 s.1
        (struct_read lim (value_by w lim (room - 1)) fs (bs ++ rest) (length bs) (complete_fields fs lim (room - 1) (pos 0) bs s.2 rest))

    complete_all : (ts : Trees) (lim : TConfiguration) (room : ℕ) (ty : TType) (bs : List ℕ) → SpellsAllBy w ts lim room ty bs → (rest : List ℕ) → many (value_by w lim room ty) (size ts) (bs ++ rest) ≡ got ts (length bs)
    complete_all no_trees lim room ty bs s rest = rw s
    complete_all (tree t ts) lim room ty bs s rest =
        rw s.4
        (joined (value_by w lim room ty) _ t (tree t ts) s.0 s.1 rest (complete t lim room ty s.0 s.2 (s.1 ++ rest))
        (made (many (value_by w lim room ty) (size ts)) (tree t) ts (s.1 ++ rest) (length s.1) (complete_all ts lim room ty s.1 s.3 rest)))

    complete_pairs : (ps : Pairs) (lim : TConfiguration) (room : ℕ) (k v : TType) (bs : List ℕ) → SpellsPairsBy w ps lim room k v bs → (rest : List ℕ) → many_pairs (value_by w lim room k) (value_by w lim room v) (size_p ps) (bs ++ rest) ≡ got ps (length bs)
    complete_pairs no_pairs lim room k v bs s rest = rw s
    complete_pairs (pair t u ps) lim room k v bs s rest =
        rw s.6
        (joined (value_by w lim room k) _ t (pair t u ps) s.0 (s.1 ++ s.2) rest (complete t lim room k s.0 s.3 ((s.1 ++ s.2) ++ rest))
        (joined (value_by w lim room v) _ u (pair t u ps) s.1 s.2 rest (complete u lim room v s.1 s.4 (s.2 ++ rest))
        (made (many_pairs (value_by w lim room k) (value_by w lim room v) (size_p ps)) (pair t u) ps (s.2 ++ rest) (length s.2) (complete_pairs ps lim room k v s.2 s.5 rest))))

    complete_fields : (fs : Fields) (lim : TConfiguration) (room : ℕ) (last : ℤ) (bs : List ℕ) → SpellsFieldsBy w fs lim room last bs → (rest : List ℕ) → Fielded (value_by w lim room) last fs (bs ++ rest) (length bs)
    complete_fields no_fields lim room last bs s rest = fields_stop (value_by w lim room) last bs rest s
    complete_fields (val.field id t fs) lim room last bs s rest =
        subst (λ (l : List ℕ). Fielded (value_by w lim room) last (val.field id t fs) (l ++ rest) (length l)) (sym s.5)
        (⊎_elim
        (λ b. in_header_lem (value_by w lim room) last id t fs s.0 s.1 s.2 rest b.0 b.1 b.2 b.3 (complete_fields fs lim room id s.2 s.4 rest))
        (λ v. fields_value (value_by w lim room) last v.0 id t fs s.0 s.1 s.2 rest v.1 (complete t lim room v.0 s.1 v.2 (s.2 ++ rest)) (complete_fields fs lim room id s.2 s.4 rest))
        s.3)
