-- What is told of a value that is found is its tree's: the items, one for one. Assumes nothing.
use mathlib.Core.Path.{◌≡◌, refl, sym, ap, ap₂, ◌∙◌}
use mathlib.Core.Bool.{Bool, true, false}
use mathlib.Core.List.{List, [], ◌∷◌, ◌++◌, append_assoc, append-nil}
use Prim.Native.Nat.{ℕ, zero, suc}
use lib.ListN.{length, drop}
use lib.IntN.{ℤ, pos}
use Rattle.types.specs.Refusals.{BAD_TYPE}
use Rattle.types.specs.declared.TType.{TType}
use Rattle.types.specs.declared.TType.TheVariants as T
use Rattle.types.specs.declared.TConfiguration.{TConfiguration}
use Rattle.types.specs.Value as val
use Rattle.types.specs.Value.{Tree, Trees, no_trees, tree, Pairs, no_pairs, pair, Fields, no_fields, type_of, size, size_p}
use Rattle.numbers.specs.Varint.{Found, got, refused}
use Rattle.heads.specs.Reader.{Reader, done, refuse}
use Rattle.heads.specs.Heads as heads
use Rattle.heads.specs.Heads.{items_head, pairs_head, Field}
use Rattle.heads.proofs.Lawful.{not_both}
use Rattle.heads.proofs.Steps.{found_at}
use Rattle.skip.specs.Value.{startable}
use Rattle.scalars.specs.declared.Scalar.TheVariants as S
use Rattle.lines.specs.Lines as row
use Rattle.lines.specs.Lines.{Item}
use Rattle.printer.specs.Telling.{Told, Teller, quiet, aloud, onward_t, then_tell, making, provided_t, voiced}
use Rattle.printer.specs.Value.{row_told, many_told, pair_told, add_pair, pairs_told, items_told, map_told, behind_told, walk_told, fields_told, struct_told, Boxes, shut_told, roomy_told, shaped_told, value_told}
use Rattle.print_laws.specs.Tree.{items_of, items_all, items_pairs, items_fields}

-- where a telling finds a value, its items are these and the value is such
pub record Says {A : Type 0} (f : A → List Item) (P : A → Type 0) (a : A) (is : List Item) : Type 0 where
  pub items : is ≡ f a
  pub such : P a

abbrev pub Tale : {A : Type 0} → Teller A → (A → List Item) → (A → Type 0) → Type 0
Tale {A} t f P = (bs : List ℕ) (a : A) (n : ℕ) → (t bs).found ≡ got a n → Says f P a (t bs).items

-- what was found by one telling and then another was found by each
pub record Twice {A B : Type 0} (t : Teller A) (k : A → Teller B) (bs : List ℕ) (b : B) : Type 0 where
  pub one : A
  pub used : ℕ
  pub more : ℕ
  pub first : (t bs).found ≡ got one used
  pub second : (k one (drop used bs)).found ≡ got b more
  pub all : (then_tell t k bs).items ≡ (t bs).items ++ (k one (drop used bs)).items

pub twice : {A B : Type 0} (t : Teller A) (k : A → Teller B) (bs : List ℕ) (b : B) (n : ℕ) → (then_tell t k bs).found ≡ got b n → Twice t k bs b
unfolding then_tell
twice {A} {B} t k bs b n e = go (t bs).found refl
  where
    go : (x : Found A) → (t bs).found ≡ x → Twice t k bs b
    go (got a m) f =
        let w : onward_t k bs (t bs).items (t bs).found ≡ onward_t k bs (t bs).items (got a m) = ap (onward_t k bs (t bs).items) f in
        let g = found_at m (k a (drop m bs)).found b n (sym (ap (λ (y : Told B). y.found) w) ∙ e) in
        record { one = a; used = m; more = g.0; first = f; second = g.1; all = ap (λ (y : Told B). y.items) w }
    go (refused why) f =
        let w : onward_t k bs (t bs).items (t bs).found ≡ onward_t k bs (t bs).items (refused why) = ap (onward_t k bs (t bs).items) f in
        not_both (sym (ap (λ (y : Told B). y.found) w) ∙ e)

-- a value for no byte is that value, and nothing is told
done_is : {A : Type 0} (a b : A) (bs : List ℕ) (n : ℕ) → (quiet (done a) bs).found ≡ got b n → a ≡ b
unfolding quiet done
done_is a b bs n e = cc

quiet_nothing : {A : Type 0} (p : Reader A) (bs : List ℕ) → (quiet p bs).items ≡ []
unfolding quiet
quiet_nothing p bs = refl

none_said : {A : Type 0} (p : Reader A) (is : List Item) (bs : List ℕ) → is ++ (quiet p bs).items ≡ is
none_said p is bs = ap (λ (js : List Item). is ++ js) (quiet_nothing p bs) ∙ append-nil is

-- made of what was found
pub record Made {A B : Type 0} (t : Teller A) (g : A → B) (bs : List ℕ) (b : B) : Type 0 where
  pub one : A
  pub used : ℕ
  pub first : (t bs).found ≡ got one used
  pub same : g one ≡ b
  pub all : (making t g bs).items ≡ (t bs).items

pub made : {A B : Type 0} (t : Teller A) (g : A → B) (bs : List ℕ) (b : B) (n : ℕ) → (making t g bs).found ≡ got b n → Made t g bs b
made t g bs b n e =
    let w = twice t (λ a. quiet (done (g a))) bs b n e in
    record {
      one = w.one;
      used = w.used;
      first = w.first;
      same = done_is (g w.one) b (drop w.used bs) w.more w.second;
      all = w.all ∙ none_said (done (g w.one)) (t bs).items (drop w.used bs);
    }

open_door : {A : Type 0} (ok : Bool) (why : ℕ) (t : Teller A) (bs : List ℕ) (a : A) (n : ℕ) → (provided_t ok why t bs).found ≡ got a n → provided_t ok why t bs ≡ t bs
unfolding provided_t
open_door true why t bs a n e = refl
open_door false why t bs a n e = not_both e

voiced_tale : {A : Type 0} (p : Reader A) (i : A → Item) (g : A → Tree) (ty : TType) → ((a : A) → items_of (g a) ≡ i a ∷ []) → ((a : A) → type_of (g a) ≡ ty) → Tale (voiced p i g) items_of (λ v. type_of v ≡ ty)
unfolding voiced quiet aloud
voiced_tale p i g ty h t bs b n e =
    let w = twice (quiet p) (λ a. aloud (i a) (quiet (done (g a)))) bs b n e in
    let same = done_is (g w.one) b (drop w.used bs) w.more w.second in
    record { items = w.all ∙ sym (h w.one) ∙ ap items_of same; such = ap type_of (sym same) ∙ t w.one }

-- so many of a kind, one behind the other
module _ {A B : Type 0} (t : Teller A) (none : B) (add : A → B → B) (f : A → List Item) (P : A → Type 0) (all : B → List Item) (count : B → ℕ) (tale : Tale t f P) (n₀ : all none ≡ []) (n₁ : (a : A) (b : B) → all (add a b) ≡ f a ++ all b) (c₀ : count none ≡ 0) (c₁ : (a : A) (b : B) → count (add a b) ≡ suc (count b)) where
  row_tale : (n : ℕ) → Tale (row_told t none add n) all (λ b. count b ≡ n)
  unfolding row_told
  row_tale zero bs b m e =
      let same = done_is none b bs m e in
      record { items = quiet_nothing (done none) bs ∙ sym n₀ ∙ ap all same; such = ap count (sym same) ∙ c₀ }
  row_tale (suc n) bs b m e =
      let w = twice t (λ a. making (row_told t none add n) (add a)) bs b m e in
      let s = tale bs w.one w.used w.first in
      let q = made (row_told t none add n) (add w.one) (drop w.used bs) b w.more w.second in
      let r = row_tale n (drop w.used bs) q.one q.used q.first in
      record {
        items = w.all ∙ ap₂ (λ (is js : List Item). is ++ js) s.items (q.all ∙ r.items) ∙ sym (n₁ w.one q.one) ∙ ap all q.same;
        such = ap count (sym q.same) ∙ c₁ w.one q.one ∙ ap suc r.such;
      }

many_tale : (t : Teller Tree) (P : Tree → Type 0) → Tale t items_of P → (n : ℕ) → Tale (many_told t n) items_all (λ ts. size ts ≡ n)
unfolding items_of size
many_tale t P h n = row_tale t no_trees tree items_of P items_all size h refl (λ a b. refl) refl (λ a b. refl) n

abbrev pair_items : Tree × Tree → List Item
pair_items e = items_of e.0 ++ items_of e.1

abbrev any_pair : Tree × Tree → Type 0
any_pair e = Unit {0}

pair_tale : (t u : Teller Tree) (P Q : Tree → Type 0) → Tale t items_of P → Tale u items_of Q → Tale (pair_told t u) pair_items any_pair
unfolding pair_told
pair_tale t u P Q h i bs e n f =
    let w = twice t (λ k. making u (λ v. (k, v))) bs e n f in
    let s = h bs w.one w.used w.first in
    let q = made u (λ v. (w.one, v)) (drop w.used bs) e w.more w.second in
    let r = i (drop w.used bs) q.one q.used q.first in
    record { items = w.all ∙ ap₂ (λ (is js : List Item). is ++ js) s.items (q.all ∙ r.items) ∙ ap pair_items q.same; such = tt }

pairs_tale : (t u : Teller Tree) (P Q : Tree → Type 0) → Tale t items_of P → Tale u items_of Q → (n : ℕ) → Tale (pairs_told t u n) items_pairs (λ ps. size_p ps ≡ n)
unfolding items_of size_p
pairs_tale t u P Q h i n =
    row_tale (pair_told t u) no_pairs add_pair pair_items any_pair items_pairs size_p (pair_tale t u P Q h i) refl (λ e ps. sym (append_assoc (items_of e.0) (items_of e.1) (items_pairs ps))) refl (λ e ps. refl) n

-- the fields
abbrev any_fields : Fields → Type 0
any_fields fs = Unit {0}

module _ (inner : TType → Teller Tree) (h : (t : TType) → Tale (inner t) items_of (λ v. type_of v ≡ t)) where
  behind_tale : (go : ℤ → Teller Fields) → ((id : ℤ) → Tale (go id) items_fields any_fields) → (x : Field) → Tale (behind_told inner go x) items_fields any_fields
  unfolding aloud items_of type_of
  behind_tale go i heads.stop bs fs n e =
      let same = done_is no_fields fs bs n e in
      record { items = ap (λ (is : List Item). row.stop ∷ is) (quiet_nothing (done no_fields) bs) ∙ ap items_fields same; such = tt }
  behind_tale go i (heads.bool b id) bs fs n e =
      let q = made (go id) (val.field id (val.truth b)) bs fs n e in
      let r = i id bs q.one q.used q.first in
      record {
        items = ap (λ (is : List Item). row.field id T.Bool ∷ row.scalar (S.Bool b) ∷ is) (q.all ∙ r.items) ∙ ap items_fields q.same;
        such = tt;
      }
  behind_tale go i (heads.value t id) bs fs n e =
      let w = twice (inner t) (λ v. making (go id) (val.field id v)) bs fs n e in
      let s = h t bs w.one w.used w.first in
      let q = made (go id) (val.field id w.one) (drop w.used bs) fs w.more w.second in
      let r = i id (drop w.used bs) q.one q.used q.first in
      record {
        items =
            ap₂ (λ (u : TType) (is : List Item). row.field id u ∷ is) (sym s.such) (w.all ∙ ap₂ (λ (is js : List Item). is ++ js) s.items (q.all ∙ r.items))
            ∙ ap items_fields q.same;
        such = tt;
      }

  walk_tale : (k : ℕ) (last : ℤ) → Tale (walk_told inner k last) items_fields any_fields
  unfolding walk_told quiet refuse
  walk_tale zero last bs fs n e = not_both e
  walk_tale (suc k) last bs fs n e =
      let w = twice (quiet (heads.field last)) (behind_told inner (walk_told inner k)) bs fs n e in
      let s = behind_tale (walk_told inner k) (walk_tale k) w.one (drop w.used bs) fs w.more w.second in
      record { items = w.all ∙ s.items; such = tt }

  struct_tale : Tale (struct_told inner) items_of (λ v. type_of v ≡ T.Struct)
  unfolding struct_told aloud fields_told items_of type_of
  struct_tale bs v n e =
      let q = made (fields_told inner (pos 0)) val.struct bs v n e in
      let r = walk_tale (length bs) (pos 0) bs q.one q.used q.first in
      record { items = ap (λ (is : List Item). row.struct ∷ is) (q.all ∙ r.items) ∙ ap items_of q.same; such = ap type_of (sym q.same) }

  items_tale : (lim : TConfiguration) (whole : TType) (g : TType → Trees → Tree) → ((t : TType) (ts : Trees) → items_of (g t ts) ≡ row.items whole t (size ts) ∷ items_all ts) → ((t : TType) (ts : Trees) → type_of (g t ts) ≡ whole) → Tale (items_told lim inner whole g) items_of (λ v. type_of v ≡ whole)
  unfolding items_told quiet aloud
  items_tale lim whole g j k bs v n e =
      let w = twice (quiet (items_head lim)) (λ x. aloud (row.items whole x.0 x.1) (provided_t (startable x.0 x.1) BAD_TYPE (making (many_told (inner x.0) x.1) (g x.0)))) bs v n e in
      let x = w.one in
      let d = drop w.used bs in
      let o = open_door (startable x.0 x.1) BAD_TYPE (making (many_told (inner x.0) x.1) (g x.0)) d v w.more w.second in
      let q = made (many_told (inner x.0) x.1) (g x.0) d v w.more (sym (ap (λ (y : Told Tree). y.found) o) ∙ w.second) in
      let r = many_tale (inner x.0) (λ u. type_of u ≡ x.0) (h x.0) x.1 d q.one q.used q.first in
      record {
        items =
            w.all
            ∙ ap₂ (λ (m : ℕ) (is : List Item). row.items whole x.0 m ∷ is) (sym r.such) (ap (λ (y : Told Tree). y.items) o ∙ q.all ∙ r.items)
            ∙ sym (j x.0 q.one)
            ∙ ap items_of q.same;
        such = ap type_of (sym q.same) ∙ k x.0 q.one;
      }

  map_tale : (lim : TConfiguration) → Tale (map_told lim inner) items_of (λ v. type_of v ≡ T.Map)
  unfolding map_told quiet aloud items_of type_of
  map_tale lim bs v n e =
      let w = twice (quiet (pairs_head lim)) (λ x. aloud (row.map x.0 x.1 x.2) (provided_t (startable x.0 x.2) BAD_TYPE (provided_t (startable x.1 x.2) BAD_TYPE (making (pairs_told (inner x.0) (inner x.1) x.2) (val.map x.0 x.1))))) bs v n e in
      let x = w.one in
      let d = drop w.used bs in
      let o = open_door (startable x.0 x.2) BAD_TYPE (provided_t (startable x.1 x.2) BAD_TYPE (making (pairs_told (inner x.0) (inner x.1) x.2) (val.map x.0 x.1))) d v w.more w.second in
      let p = open_door (startable x.1 x.2) BAD_TYPE (making (pairs_told (inner x.0) (inner x.1) x.2) (val.map x.0 x.1)) d v w.more (sym (ap (λ (y : Told Tree). y.found) o) ∙ w.second) in
      let q = made (pairs_told (inner x.0) (inner x.1) x.2) (val.map x.0 x.1) d v w.more (sym (ap (λ (y : Told Tree). y.found) (o ∙ p)) ∙ w.second) in
      let r = pairs_tale (inner x.0) (inner x.1) (λ u. type_of u ≡ x.0) (λ u. type_of u ≡ x.1) (h x.0) (h x.1) x.2 d q.one q.used q.first in
      record {
        items =
            w.all
            ∙ ap₂ (λ (m : ℕ) (is : List Item). row.map x.0 x.1 m ∷ is) (sym r.such) (ap (λ (y : Told Tree). y.items) (o ∙ p) ∙ q.all ∙ r.items)
            ∙ ap items_of q.same;
        such = ap type_of (sym q.same);
      }

refused_tale : (why : ℕ) (f : Tree → List Item) (P : Tree → Type 0) → Tale (quiet (refuse why)) f P
unfolding quiet refuse
refused_tale why f P bs a n e = not_both e

-- a value
pub record Boxed (box : Boxes) : Type 0 where
  pub list : Tale box.list items_of (λ v. type_of v ≡ T.List)
  pub set : Tale box.set items_of (λ v. type_of v ≡ T.Set)
  pub map : Tale box.map items_of (λ v. type_of v ≡ T.Map)
  pub struct : Tale box.struct items_of (λ v. type_of v ≡ T.Struct)

shaped_tale : (lim : TConfiguration) (box : Boxes) → Boxed box → (ty : TType) → Tale (shaped_told lim box ty) items_of (λ v. type_of v ≡ ty)
unfolding items_of type_of
shaped_tale lim box h T.Stop = refused_tale _ _ _
shaped_tale lim box h T.Bool = voiced_tale _ _ _ T.Bool (λ a. refl) (λ a. refl)
shaped_tale lim box h T.I08 = voiced_tale _ _ _ T.I08 (λ a. refl) (λ a. refl)
shaped_tale lim box h T.I16 = voiced_tale _ _ _ T.I16 (λ a. refl) (λ a. refl)
shaped_tale lim box h T.I32 = voiced_tale _ _ _ T.I32 (λ a. refl) (λ a. refl)
shaped_tale lim box h T.I64 = voiced_tale _ _ _ T.I64 (λ a. refl) (λ a. refl)
shaped_tale lim box h T.Double = voiced_tale _ _ _ T.Double (λ a. refl) (λ a. refl)
shaped_tale lim box h T.String = voiced_tale _ _ _ T.String (λ a. refl) (λ a. refl)
shaped_tale lim box h T.List = h.list
shaped_tale lim box h T.Set = h.set
shaped_tale lim box h T.Map = h.map
shaped_tale lim box h T.Struct = h.struct
shaped_tale lim box h T.Uuid = voiced_tale _ _ _ T.Uuid (λ a. refl) (λ a. refl)

pub value_tale : (lim : TConfiguration) (room : ℕ) (ty : TType) → Tale (value_told lim room ty) items_of (λ v. type_of v ≡ ty)
unfolding value_told items_of type_of
value_tale lim zero ty =
    shaped_tale lim shut_told (record { list = refused_tale _ _ _; set = refused_tale _ _ _; map = refused_tale _ _ _; struct = refused_tale _ _ _ }) ty
value_tale lim (suc room) ty =
    shaped_tale lim (roomy_told lim (value_told lim room))
    (record {
      list = items_tale (value_told lim room) (value_tale lim room) lim T.List val.list (λ t ts. refl) (λ t ts. refl);
      set = items_tale (value_told lim room) (value_tale lim room) lim T.Set val.set (λ t ts. refl) (λ t ts. refl);
      map = map_tale (value_told lim room) (value_tale lim room) lim;
      struct = struct_tale (value_told lim room) (value_tale lim room);
    })
    ty
