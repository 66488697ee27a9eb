-- Bytes that spell a value are read as it, whatever stands behind them. Assumes nothing.
use mathlib.Core.Path.{◌≡◌, refl, sym, ap, ap₂, subst, ◌∙◌}
use mathlib.Core.Bool.{Bool, true}
use mathlib.Core.Logic.{⊎_elim}
use mathlib.Core.List.{List, [], ◌∷◌, ◌++◌, append_assoc}
use Prim.Native.Nat.{ℕ, suc, ◌+◌, ◌-◌, ◌*◌, ◌≤◌, ◌<◌}
use native.Mathlib.Nat.{add-zero}
use native.Mathlib.Omega.{arith}
use borrow.Author.Tests.{lt-ltb, ne_eqb}
use lib.ListN.{length, drop, length-append}
use lib.Seq.{drop-append_seam}
use lib.IntN.{ℤ, pos}
use Rattle.types.specs.Refusals.{BAD_TYPE}
use Rattle.types.specs.Codes.{type_code}
use Rattle.types.specs.declared.TType.{TType}
use Rattle.types.specs.declared.TType.TheVariants as T
use Rattle.types.specs.declared.TConfiguration.{TConfiguration}
use Rattle.types.specs.Value as val
use Rattle.types.specs.Value.{Tree, Trees, no_trees, tree, Pairs, no_pairs, pair, Fields, no_fields, type_of, size, size_p}
use Rattle.types.proofs.Value.{no_stop}
use Rattle.numbers.specs.Varint.{Found, got}
use Rattle.heads.specs.Reader.{Reader, done, and_then, provided, Whole}
use Rattle.heads.specs.Heads.{int8, int16, int32, int64, double, uuid, truth, binary, items, pairs, least_size, items_head, pairs_head, Field, stop, bool, value, field}
use Rattle.heads.specs.Spells.{Spells, SpellsAll, SpellsPairs, SpellsFields}
use Rattle.heads.proofs.Lawful.{Lawful, then_got, whole_front}
use Rattle.heads.proofs.Ahead.{items_head_lem, pairs_head_lem}
use Rattle.heads.proofs.Readers.{int8_lawful, int16_lawful, int32_lawful, int64_lawful, double_lawful, uuid_lawful, truth_lawful, binary_lawful, items_lawful, pairs_lawful, field_lawful}
use Rattle.skip.specs.Walk.{Entry, with_size, sizing, fields}
use Rattle.skip.specs.Value.{many, many_pairs, fields_of, startable, roomy, shaped, value_of}
use Rattle.skip.proofs.Least.{all_least, pairs_least}
use Rattle.skip.proofs.Walks.{fields_step}
use Rattle.skip.specs.Leaves.{is_leaf}
use Rattle.skip.proofs.Past.{pos_suc}
use Rattle.skip.proofs.Leaf.{flat}

-- one reader behind another, on bytes that are read whole by the first and then by the second
pub joined : {A B : Type 0} (p : Reader A) (k : A → Reader B) (a : A) (b : B) (h t rest : List ℕ) → p (h ++ (t ++ rest)) ≡ got a (length h) → k a (t ++ rest) ≡ got b (length t) → and_then p k ((h ++ t) ++ rest) ≡ got b (length (h ++ t))
joined p k a b h t rest e f =
    ap (and_then p k) (append_assoc h t rest)
    ∙ then_got p k (h ++ (t ++ rest)) a (length h) b (length t) e (ap (k a) (drop-append_seam h (t ++ rest)) ∙ f)
    ∙ ap (got b) (sym (length-append h t))

-- a reader, and what is made of what it read
pub made : {A B : Type 0} (p : Reader A) (g : A → B) (a : A) (bs : List ℕ) (n : ℕ) → p bs ≡ got a n → and_then p (λ x. done (g x)) bs ≡ got (g a) n
unfolding done
made p g a bs n e = then_got p (λ x. done (g x)) bs a n (g a) 0 e refl ∙ ap (got (g a)) (add-zero n)

leaf_read : {A : Type 0} (p : Reader A) → Lawful p → (g : A → Tree) (a : A) (bs rest : List ℕ) → Whole p a bs → and_then p (λ x. done (g x)) (bs ++ rest) ≡ got (g a) (length bs)
leaf_read p lp g a bs rest w = made p g a (bs ++ rest) (length bs) (whole_front p lp bs a w rest)

-- a leaf's type, with any room
at_leaf : (lim : TConfiguration) (room : ℕ) (ty t : TType) (bs : List ℕ) (x : Found Tree) → ty ≡ t → is_leaf t ≡ true → value_of lim 0 t bs ≡ x → value_of lim room ty bs ≡ x
at_leaf lim room ty t bs x e l f = ap (λ (u : TType). value_of lim room u bs) e ∙ ap (λ (p : Reader Tree). p bs) (flat lim room t l) ∙ f

-- spelt bytes are of the tree's own type
spelt_type : (t : Tree) (lim : TConfiguration) (room : ℕ) (ty : TType) (bs : List ℕ) → Spells t lim room ty bs → ty ≡ type_of t
unfolding Spells type_of
spelt_type (val.truth b) lim room ty bs s = s.0
spelt_type (val.i8 z) lim room ty bs s = s.0
spelt_type (val.i16 z) lim room ty bs s = s.0
spelt_type (val.i32 z) lim room ty bs s = s.0
spelt_type (val.i64 z) lim room ty bs s = s.0
spelt_type (val.double n) lim room ty bs s = s.0
spelt_type (val.uuid u) lim room ty bs s = s.0
spelt_type (val.bytes cs) lim room ty bs s = s.0
spelt_type (val.list t ts) lim room ty bs s = s.0
spelt_type (val.set t ts) lim room ty bs s = s.0
spelt_type (val.map k v ps) lim room ty bs s = s.0
spelt_type (val.struct fs) lim room ty bs s = s.0

-- so elements that there are can begin
starts : (t : Tree) (lim : TConfiguration) (room : ℕ) (ty : TType) (bs : List ℕ) (n : ℕ) → Spells t lim room ty bs → startable ty (suc n) ≡ true
starts t lim room ty bs n s = rw (ne_eqb (suc n) 0 (λ z. omega arith)) (lt-ltb 0 (type_code ty) (rw (spelt_type t lim room ty bs s) (no_stop t)))

all_start : (ts : Trees) (lim : TConfiguration) (room : ℕ) (ty : TType) (bs : List ℕ) → SpellsAll ts lim room ty bs → startable ty (size ts) ≡ true
unfolding SpellsAll size
all_start no_trees lim room ty bs s = refl
all_start (tree t ts) lim room ty bs s = starts t lim room ty s.0 (size ts) s.2

pairs_start : (ps : Pairs) (lim : TConfiguration) (room : ℕ) (k v : TType) (bs : List ℕ) → SpellsPairs ps lim room k v bs → (startable k (size_p ps) ≡ true) × (startable v (size_p ps) ≡ true)
unfolding SpellsPairs size_p
pairs_start no_pairs lim room k v bs s = (refl, refl)
pairs_start (pair t u ps) lim room k v bs s = (starts t lim room k s.0 (size_p ps) s.3, starts u lim room v s.1 (size_p ps) s.4)

provided_read : {A : Type 0} (ok : Bool) (why : ℕ) (p : Reader A) (bs : List ℕ) (x : Found A) → ok ≡ true → p bs ≡ x → provided ok why p bs ≡ x
unfolding provided
provided_read ok why p bs x e f = rw e f

-- bytes that stand behind a header are ahead of it, whatever follows
still : (h b rest : List ℕ) (n : ℕ) → n ≤ length b → n ≤ length (drop (length h) (h ++ (b ++ rest)))
still h b rest n l = rw (drop-append_seam h (b ++ rest), length-append b rest) (omega arith)

-- a list or a set, from its elements
items_read : (lim : TConfiguration) (inner : TType → Reader Tree) (g : TType → Trees → Tree) (t : TType) (ts : Trees) (h b rest : List ℕ) → Whole (items lim) (t, size ts) h → startable t (size ts) ≡ true → size ts * least_size t ≤ length b → many (inner t) (size ts) (b ++ rest) ≡ got ts (length b) → and_then (items_head lim) (λ x. provided (startable x.0 x.1) BAD_TYPE (and_then (many (inner x.0) x.1) (λ us. done (g x.0 us)))) ((h ++ b) ++ rest) ≡ got (g t ts) (length (h ++ b))
items_read lim inner g t ts h b rest w st l e =
    joined (items_head lim) _ (t, size ts) (g t ts) h b rest
    (items_head_lem lim (h ++ (b ++ rest)) t (size ts) (length h) (whole_front (items lim) (items_lawful lim) h (t, size ts) w (b ++ rest)) (still h b rest (size ts * least_size t) l))
    (provided_read (startable t (size ts)) BAD_TYPE _ (b ++ rest) _ st (made (many (inner t) (size ts)) (g t) ts (b ++ rest) (length b) e))

map_read : (lim : TConfiguration) (inner : TType → Reader Tree) (k v : TType) (ps : Pairs) (h b rest : List ℕ) → Whole (pairs lim) (k, v, size_p ps) h → startable k (size_p ps) ≡ true → startable v (size_p ps) ≡ true → size_p ps * least_size k + size_p ps * least_size v ≤ length b → many_pairs (inner k) (inner v) (size_p ps) (b ++ rest) ≡ got ps (length b) → (roomy lim inner).map ((h ++ b) ++ rest) ≡ got (val.map k v ps) (length (h ++ b))
map_read lim inner k v ps h b rest w sk sv l e =
    joined (pairs_head lim) _ (k, v, size_p ps) (val.map k v ps) h b rest
    (pairs_head_lem lim (h ++ (b ++ rest)) k v (size_p ps) (length h) (whole_front (pairs lim) (pairs_lawful lim) h (k, v, size_p ps) w (b ++ rest)) (still h b rest (size_p ps * least_size k + size_p ps * least_size v) l))
    (provided_read (startable k (size_p ps)) BAD_TYPE _ (b ++ rest) _ sk
    (provided_read (startable v (size_p ps)) BAD_TYPE _ (b ++ rest) _ sv
    (made (many_pairs (inner k) (inner v) (size_p ps)) (val.map k v) ps (b ++ rest) (length b) e)))

-- what reading fields gives
pub record Fielded (inner : TType → Reader Tree) (last : ℤ) (fs : Fields) (bs : List ℕ) (n : ℕ) : Type 0 where
  pub entries : List (Entry Tree)
  pub read : fields val.truth inner last bs ≡ got entries n
  pub are : fields_of entries ≡ fs

sized_front : (last : ℤ) (x : Field) (h rest : List ℕ) → Whole (field last) x h → sizing (field last) (h ++ rest) ≡ got (x, length h) (length h)
unfolding sizing
sized_front last x h rest w = ap with_size (whole_front (field last) (field_lawful last) h x w rest)

module _ (inner : TType → Reader Tree) (last : ℤ) where
  fields_stop : (h rest : List ℕ) → Whole (field last) stop h → Fielded inner last no_fields (h ++ rest) (length h)
  unfolding done
  fields_stop h rest w =
      record {
        entries = [];
        read =
            fields_step val.truth inner last (h ++ rest)
            ∙ then_got (sizing (field last)) _ (h ++ rest) (stop, length h) (length h) [] 0 (sized_front last stop h rest w) refl
            ∙ ap (got []) (add-zero (length h));
        are = refl;
      }

  fields_bool : (x : Bool) (id : ℤ) (fs : Fields) (h b rest : List ℕ) → Whole (field last) (bool x id) h → Fielded inner id fs (b ++ rest) (length b) → Fielded inner last (val.field id (val.truth x) fs) ((h ++ b) ++ rest) (length (h ++ b))
  fields_bool x id fs h b rest w f =
      record {
        entries = record { id = id; what = val.truth x; head = length h; size = 0 } ∷ f.entries;
        read =
            fields_step val.truth inner last ((h ++ b) ++ rest)
            ∙ joined (sizing (field last)) _ (bool x id, length h) _ h b rest (sized_front last (bool x id) h (b ++ rest) w)
            (made (fields val.truth inner id) _ f.entries (b ++ rest) (length b) f.read);
        are = ap (val.field id (val.truth x)) f.are;
      }

  fields_value : (ty : TType) (id : ℤ) (t : Tree) (fs : Fields) (h a b rest : List ℕ) → Whole (field last) (value ty id) h → inner ty (a ++ (b ++ rest)) ≡ got t (length a) → Fielded inner id fs (b ++ rest) (length b) → Fielded inner last (val.field id t fs) ((h ++ (a ++ b)) ++ rest) (length (h ++ (a ++ b)))
  unfolding sizing
  fields_value ty id t fs h a b rest w v f =
      record {
        entries = record { id = id; what = t; head = length h; size = length a } ∷ f.entries;
        read =
            fields_step val.truth inner last ((h ++ (a ++ b)) ++ rest)
            ∙ joined (sizing (field last)) _ (value ty id, length h) _ h (a ++ b) rest (sized_front last (value ty id) h ((a ++ b) ++ rest) w)
            (joined (sizing (inner ty)) _ (t, length a) _ a b rest (ap with_size v)
            (made (fields val.truth inner id) _ f.entries (b ++ rest) (length b) f.read));
        are = ap (val.field id t) f.are;
      }

struct_read : (lim : TConfiguration) (inner : TType → Reader Tree) (fs : Fields) (bs : List ℕ) (n : ℕ) → Fielded inner (pos 0) fs bs n → (roomy lim inner).struct bs ≡ got (val.struct fs) n
struct_read lim inner fs bs n f =
    made (fields val.truth inner (pos 0)) (λ es. val.struct (fields_of es)) f.entries bs n f.read ∙ ap (λ (gs : Fields). got (val.struct gs) n) f.are

-- a container with room for it
entered_at : (lim : TConfiguration) (room : ℕ) (ty t : TType) (bs : List ℕ) (x : Found Tree) → ty ≡ t → 0 < room → shaped lim (roomy lim (value_of lim (room - 1))) t bs ≡ x → value_of lim room ty bs ≡ x
unfolding value_of
entered_at lim room ty t bs x e r f = ap₂ (λ (m : ℕ) (u : TType). value_of lim m u bs) (pos_suc r) e ∙ f

entered : (lim : TConfiguration) (room : ℕ) (ty t : TType) (bs h b rest : List ℕ) (x : Tree) → ty ≡ t → 0 < room → bs ≡ h ++ b → shaped lim (roomy lim (value_of lim (room - 1))) t ((h ++ b) ++ rest) ≡ got x (length (h ++ b)) → value_of lim room ty (bs ++ rest) ≡ got x (length bs)
entered lim room ty t bs h b rest x e r q f = rw q (entered_at lim room ty t ((h ++ b) ++ rest) (got x (length (h ++ b))) e r f)

-- a field whose value stood in its header
in_header_lem : (inner : TType → Reader Tree) (last id : ℤ) (t : Tree) (fs : Fields) (h a b rest : List ℕ) (x : Bool) → t ≡ val.truth x → Whole (field last) (bool x id) h → a ≡ [] → Fielded inner id fs (b ++ rest) (length b) → Fielded inner last (val.field id t fs) ((h ++ (a ++ b)) ++ rest) (length (h ++ (a ++ b)))
in_header_lem inner last id t fs h a b rest x e w n f = rw (e, n) (fields_bool inner last x id fs h b rest w f)

-- by recursion on the tree
mutual
  unfolding Spells SpellsAll SpellsPairs SpellsFields value_of many many_pairs size size_p done

  pub complete : (t : Tree) (lim : TConfiguration) (room : ℕ) (ty : TType) (bs : List ℕ) → Spells t lim room ty bs → (rest : List ℕ) → value_of lim room ty (bs ++ rest) ≡ got t (length bs)
  complete (val.truth b) lim room ty bs s rest = at_leaf lim room ty T.Bool (bs ++ rest) _ s.0 refl (leaf_read truth truth_lawful val.truth b bs rest s.1)
  complete (val.i8 z) lim room ty bs s rest = at_leaf lim room ty T.I08 (bs ++ rest) _ s.0 refl (leaf_read int8 int8_lawful val.i8 z bs rest s.1)
  complete (val.i16 z) lim room ty bs s rest = at_leaf lim room ty T.I16 (bs ++ rest) _ s.0 refl (leaf_read int16 int16_lawful val.i16 z bs rest s.1)
  complete (val.i32 z) lim room ty bs s rest = at_leaf lim room ty T.I32 (bs ++ rest) _ s.0 refl (leaf_read int32 int32_lawful val.i32 z bs rest s.1)
  complete (val.i64 z) lim room ty bs s rest = at_leaf lim room ty T.I64 (bs ++ rest) _ s.0 refl (leaf_read int64 int64_lawful val.i64 z bs rest s.1)
  complete (val.double n) lim room ty bs s rest = at_leaf lim room ty T.Double (bs ++ rest) _ s.0 refl (leaf_read double double_lawful val.double n bs rest s.1)
  complete (val.uuid u) lim room ty bs s rest = at_leaf lim room ty T.Uuid (bs ++ rest) _ s.0 refl (leaf_read uuid uuid_lawful val.uuid u bs rest s.1)
  complete (val.bytes cs) lim room ty bs s rest = at_leaf lim room ty T.String (bs ++ rest) _ s.0 refl (leaf_read (binary lim) (binary_lawful lim) val.bytes cs bs rest s.1)
  complete (val.list t ts) lim room ty bs s rest =
      entered lim room ty T.List bs s.2.0 s.2.1 rest _ s.0 s.1 s.2.4
      (items_read lim (value_of lim (room - 1)) val.list t ts s.2.0 s.2.1 rest s.2.2 (all_start ts lim (room - 1) t s.2.1 s.2.3) (all_least ts lim (room - 1) t s.2.1 s.2.3) (complete_all ts lim (room - 1) t s.2.1 s.2.3 rest))
  complete (val.set t ts) lim room ty bs s rest =
      entered lim room ty T.Set bs s.2.0 s.2.1 rest _ s.0 s.1 s.2.4
      (items_read lim (value_of lim (room - 1)) val.set t ts s.2.0 s.2.1 rest s.2.2 (all_start ts lim (room - 1) t s.2.1 s.2.3) (all_least ts lim (room - 1) t s.2.1 s.2.3) (complete_all ts lim (room - 1) t s.2.1 s.2.3 rest))
  complete (val.map k v ps) lim room ty bs s rest =
      let st = pairs_start ps lim (room - 1) k v s.2.1 s.2.3 in
      entered lim room ty T.Map bs s.2.0 s.2.1 rest _ s.0 s.1 s.2.4
      (map_read lim (value_of lim (room - 1)) k v ps s.2.0 s.2.1 rest s.2.2 st.0 st.1 (pairs_least ps lim (room - 1) k v s.2.1 s.2.3) (complete_pairs ps lim (room - 1) k v s.2.1 s.2.3 rest))
  complete (val.struct fs) lim room ty bs s rest =
      entered_at lim room ty T.Struct (bs ++ rest) _ s.0 s.1
      (struct_read lim (value_of lim (room - 1)) fs (bs ++ rest) (length bs) (complete_fields fs lim (room - 1) (pos 0) bs s.2 rest))

  complete_all : (ts : Trees) (lim : TConfiguration) (room : ℕ) (ty : TType) (bs : List ℕ) → SpellsAll ts lim room ty bs → (rest : List ℕ) → many (value_of lim room ty) (size ts) (bs ++ rest) ≡ got ts (length bs)
  complete_all no_trees lim room ty bs s rest = rw s
  complete_all (tree t ts) lim room ty bs s rest =
      rw s.4
      (joined (value_of lim room ty) _ t (tree t ts) s.0 s.1 rest (complete t lim room ty s.0 s.2 (s.1 ++ rest))
      (made (many (value_of lim room ty) (size ts)) (tree t) ts (s.1 ++ rest) (length s.1) (complete_all ts lim room ty s.1 s.3 rest)))

  complete_pairs : (ps : Pairs) (lim : TConfiguration) (room : ℕ) (k v : TType) (bs : List ℕ) → SpellsPairs ps lim room k v bs → (rest : List ℕ) → many_pairs (value_of lim room k) (value_of lim room v) (size_p ps) (bs ++ rest) ≡ got ps (length bs)
  complete_pairs no_pairs lim room k v bs s rest = rw s
  complete_pairs (pair t u ps) lim room k v bs s rest =
      rw s.6
      (joined (value_of lim room k) _ t (pair t u ps) s.0 (s.1 ++ s.2) rest (complete t lim room k s.0 s.3 ((s.1 ++ s.2) ++ rest))
      (joined (value_of lim room v) _ u (pair t u ps) s.1 s.2 rest (complete u lim room v s.1 s.4 (s.2 ++ rest))
      (made (many_pairs (value_of lim room k) (value_of lim room v) (size_p ps)) (pair t u) ps (s.2 ++ rest) (length s.2) (complete_pairs ps lim room k v s.2 s.5 rest))))

  complete_fields : (fs : Fields) (lim : TConfiguration) (room : ℕ) (last : ℤ) (bs : List ℕ) → SpellsFields fs lim room last bs → (rest : List ℕ) → Fielded (value_of lim room) last fs (bs ++ rest) (length bs)
  complete_fields no_fields lim room last bs s rest = fields_stop (value_of lim room) last bs rest s
  complete_fields (val.field id t fs) lim room last bs s rest =
      subst (λ (l : List ℕ). Fielded (value_of lim room) last (val.field id t fs) (l ++ rest) (length l)) (sym s.5)
      (⊎_elim
      (λ b. in_header_lem (value_of lim room) last id t fs s.0 s.1 s.2 rest b.0 b.1 b.2 b.3 (complete_fields fs lim room id s.2 s.4 rest))
      (λ v. fields_value (value_of lim room) last v.0 id t fs s.0 s.1 s.2 rest v.1 (complete t lim room v.0 s.1 v.2 (s.2 ++ rest)) (complete_fields fs lim room id s.2 s.4 rest))
      s.3)
