-- Printing of the values that hold others: what the code knows at each return and at each turn of its loops. In these laws X is what the whole loop
-- prints, and the invariant says that what is left prints that. Assumes nothing.
use mathlib.Core.Path.{◌≡◌, refl, sym, ap, ap₂, ◌∙◌}
use mathlib.Core.Bool.{Bool, true, false}
use mathlib.Core.List.{List}
use Prim.Native.Nat.{ℕ, zero, suc, ◌-◌, ◌≤◌, ◌<◌}
use native.Mathlib.Omega.{arith}
use lib.ListN.{length, drop, length-drop}
use lib.IntN.{ℤ, pos}
use Rattle.types.specs.Refusals.{BAD_TYPE}
use Rattle.types.specs.declared.Place.{Place}
use Rattle.types.specs.declared.FieldId.{FieldId}
use Rattle.types.specs.declared.TType.{TType}
use Rattle.types.specs.declared.TType.TheVariants as T
use Rattle.types.specs.declared.TConfiguration.{TConfiguration}
use Rattle.types.specs.Value as val
use Rattle.types.specs.Value.{Tree, Trees, tree, Pairs, pair, Fields}
use Rattle.numbers.specs.Varint.{Found, got, refused, placed}
use Rattle.heads.specs.Reader.{read_at}
use Rattle.heads.specs.Heads as heads
use Rattle.heads.specs.Heads.{items_head, pairs_head, Field}
use Rattle.heads.specs.Answers.{to_list, items_head_at, to_map, pairs_head_at, to_field, field_at}
use Rattle.heads.specs.declared.ListHead.{ListHead}
use Rattle.heads.specs.declared.ListHead.TheVariants as L
use Rattle.heads.specs.declared.MapHead.{MapHead}
use Rattle.heads.specs.declared.MapHead.TheVariants as M
use Rattle.heads.specs.declared.FieldHead.{FieldHead}
use Rattle.heads.specs.declared.FieldHead.TheVariants as F
use Rattle.heads.proofs.Readers.{field_lawful, field_takes}
use Rattle.heads.proofs.Steps.{found_at}
use Rattle.skip.specs.Value.{startable}
use Rattle.skip.specs.Leaves.{is_leaf}
use Rattle.skip.proofs.Past.{pos_suc}
use Rattle.scalars.specs.declared.Scalar.TheVariants as S
use Rattle.text.specs.Pen.{Pen, inked}
use Rattle.lines.specs.Lines as row
use Rattle.lines.specs.Lines.{Item, line}
use Rattle.printer.specs.Telling.{Told, Teller, quiet, aloud, then_tell, making, provided_t}
use Rattle.printer.specs.Value.{row_told, many_told, pair_told, pairs_told, items_told, map_told, behind_told, fields_told, struct_told, Boxes, shut_told, roomy_told, shaped_told, value_told}
use Rattle.printer.specs.Printing.{ended, prints}
use Rattle.printer.specs.declared.Printed.{Printed}
use Rattle.printer.specs.declared.Printed.TheVariants.{Went, Stopped}
use Rattle.printer.proofs.Prints.{Page, went, stopped, quiet_tells, prints_step, prints_stop, prints_aloud, prints_done, prints_made, prints_yes, prints_no}
use Rattle.printer.proofs.Walks.{fields_step}
use Rattle.skip.proofs.Leaf.{no_leaf}

-- types that hold no other value are told alike with any room
same_shape : (lim : TConfiguration) (b c : Boxes) (t : TType) → is_leaf t ≡ true → shaped_told lim b t ≡ shaped_told lim c t
same_shape lim b c T.Stop e = refl
same_shape lim b c T.Bool e = refl
same_shape lim b c T.I08 e = refl
same_shape lim b c T.I16 e = refl
same_shape lim b c T.I32 e = refl
same_shape lim b c T.I64 e = refl
same_shape lim b c T.Double e = refl
same_shape lim b c T.String e = refl
same_shape lim b c T.List e = no_leaf e
same_shape lim b c T.Set e = no_leaf e
same_shape lim b c T.Map e = no_leaf e
same_shape lim b c T.Struct e = no_leaf e
same_shape lim b c T.Uuid e = refl

flat : (lim : TConfiguration) (room : ℕ) (t : TType) → is_leaf t ≡ true → value_told lim room t ≡ value_told lim 0 t
unfolding value_told
flat lim zero t e = refl
flat lim (suc room) t e = same_shape lim (roomy_told lim (value_told lim room)) shut_told t e

-- a list's header, as its call answered it
abbrev of_list_lem : ListHead → Found (TType × ℕ)
of_list_lem (L.Got t n e) = got (t, n) e.0
of_list_lem (L.Refused why) = refused why

as_list_lem : (x : Found (TType × ℕ)) → of_list_lem (to_list x) ≡ x
as_list_lem (got a e) = refl
as_list_lem (refused why) = refl

module _ (s : List ℕ) (lim : TConfiguration) (at : ℕ) (h : ListHead) (e : h ≡ items_head_at s lim at) where
  list_read : (q : ListHead) → h ≡ q → read_at (items_head lim) s at ≡ of_list_lem q
  unfolding items_head_at
  list_read q g = sym (as_list_lem (read_at (items_head lim) s at)) ∙ ap of_list_lem (sym e ∙ g)

-- print_items, whatever is made of the elements
module _ {B : Type 0} (s : List ℕ) (lim : TConfiguration) (inner : TType → Teller Tree) (whole : TType) (made : TType → Trees → B) (at : ℕ) where
  behind_items : (p : Pen) (a : TType × ℕ) (e : ℕ) → read_at (items_head lim) s at ≡ got a e → prints (items_told lim inner whole made) s at p ≡ prints (provided_t (startable a.0 a.1) BAD_TYPE (making (many_told (inner a.0) a.1) (made a.0))) s e (inked (line (row.items whole a.0 a.1)) p)
  unfolding items_told
  behind_items p a e f =
      prints_step (quiet (items_head lim)) _ s at p a e p (quiet_tells (items_head lim) s at p (got a e) f)
      ∙ prints_aloud _ _ s e p _ refl

  items_lost : (p : Pen) (why : ℕ) → read_at (items_head lim) s at ≡ refused why → prints (items_told lim inner whole made) s at p ≡ (Stopped why p.1, p.0)
  unfolding items_told
  items_lost p why f = prints_stop (quiet (items_head lim)) _ s at p why p (quiet_tells (items_head lim) s at p (refused why) f)

  module _ (out : List ℕ) (to : ℕ) (h : ListHead) (e : h ≡ items_head_at s lim at) where
    pub items_refused : (why : ℕ) → h ≡ L.Refused why → (Stopped why to, out) ≡ prints (items_told lim inner whole made) s at (out, to)
    items_refused why g = sym (items_lost (out, to) why (list_read s lim at h e (L.Refused why) g))

    module _ (t : TType) (n : ℕ) (p : Place) (g : h ≡ L.Got t n p) (o : List ℕ) (q : ℕ) (i : (o, q) ≡ inked (line (row.items whole t n)) (out, to)) (b : Bool) (f : b ≡ startable t n) where
      within : prints (items_told lim inner whole made) s at (out, to) ≡ prints (provided_t (startable t n) BAD_TYPE (making (many_told (inner t) n) (made t))) s p.0 (o, q)
      within =
          behind_items (out, to) (t, n) p.0 (list_read s lim at h e (L.Got t n p) g)
          ∙ ap (prints (provided_t (startable t n) BAD_TYPE (making (many_told (inner t) n) (made t))) s p.0) (sym i)

      pub items_stop : b ≡ false → (Stopped BAD_TYPE q, o) ≡ prints (items_told lim inner whole made) s at (out, to)
      items_stop k = sym (within ∙ prints_no _ BAD_TYPE _ s p.0 (o, q) (sym f ∙ k))

      pub items_in : (r : Page) → b ≡ true → r ≡ prints (many_told (inner t) n) s p.0 (o, q) → r ≡ prints (items_told lim inner whole made) s at (out, to)
      items_in r k x = x ∙ sym (within ∙ prints_yes _ BAD_TYPE _ s p.0 (o, q) (sym f ∙ k) ∙ prints_made (many_told (inner t) n) (made t) s p.0 (o, q))

pub ruleset items_cases = (items_refused, items_stop, items_in)

-- what is made of the elements is not printed
elements_same : {B C : Type 0} (ok : Bool) (t : Teller Trees) (g : Trees → B) (h : Trees → C) (s : List ℕ) (e : ℕ) (p : Pen) → prints (provided_t ok BAD_TYPE (making t g)) s e p ≡ prints (provided_t ok BAD_TYPE (making t h)) s e p
elements_same true t g h s e p =
    prints_yes true BAD_TYPE _ s e p refl ∙ prints_made t g s e p ∙ sym (prints_yes true BAD_TYPE _ s e p refl ∙ prints_made t h s e p)
elements_same false t g h s e p = prints_no false BAD_TYPE _ s e p refl ∙ sym (prints_no false BAD_TYPE _ s e p refl)

items_same : {B C : Type 0} (s : List ℕ) (lim : TConfiguration) (inner : TType → Teller Tree) (whole : TType) (g : TType → Trees → B) (h : TType → Trees → C) (at : ℕ) (p : Pen) → prints (items_told lim inner whole g) s at p ≡ prints (items_told lim inner whole h) s at p
items_same s lim inner whole g h at p = go (read_at (items_head lim) s at) refl
  where
    go : (x : Found (TType × ℕ)) → read_at (items_head lim) s at ≡ x → prints (items_told lim inner whole g) s at p ≡ prints (items_told lim inner whole h) s at p
    go (got a e) f =
        behind_items s lim inner whole g at p a e f
        ∙ elements_same (startable a.0 a.1) (many_told (inner a.0) a.1) (g a.0) (h a.0) s e _
        ∙ sym (behind_items s lim inner whole h at p a e f)
    go (refused why) f = items_lost s lim inner whole g at p why f ∙ sym (items_lost s lim inner whole h at p why f)

-- print_value
module _ (s : List ℕ) (lim : TConfiguration) (room : ℕ) (kind : TType) (at : ℕ) (p : Pen) (r : Page) where
  pub value_none : room ≡ 0 → r ≡ prints (value_told lim 0 kind) s at p → r ≡ prints (value_told lim room kind) s at p
  value_none z e = rw z e

  pub value_leaf : (t : TType) → kind ≡ t → is_leaf t ≡ true → r ≡ prints (value_told lim 0 kind) s at p → r ≡ prints (value_told lim room kind) s at p
  value_leaf t k l e = e ∙ sym (ap (λ (u : Teller Tree). prints u s at p) (flat lim room kind (rw k l)))

  module _ (z : room ≡ 0 → ⊥) where
    entered : (t : TType) → kind ≡ t → r ≡ prints (shaped_told lim (roomy_told lim (value_told lim (room - 1))) t) s at p → r ≡ prints (value_told lim room kind) s at p
    unfolding value_told
    entered t k e =
        let m : suc (room - 1) ≡ room = omega arith in
        e ∙ ap₂ (λ (n : ℕ) (u : TType). prints (value_told lim n u) s at p) m (sym k)

    pub value_list : kind ≡ T.List → r ≡ prints (items_told lim (value_told lim (room - 1)) kind val.list) s at p → r ≡ prints (value_told lim room kind) s at p
    value_list k e = entered T.List k (e ∙ rw k)

    pub value_set : kind ≡ T.Set → r ≡ prints (items_told lim (value_told lim (room - 1)) kind val.list) s at p → r ≡ prints (value_told lim room kind) s at p
    value_set k e = entered T.Set k (e ∙ items_same s lim (value_told lim (room - 1)) kind val.list val.set at p ∙ rw k)

    pub value_map : kind ≡ T.Map → r ≡ prints (map_told lim (value_told lim (room - 1))) s at p → r ≡ prints (value_told lim room kind) s at p
    value_map k e = entered T.Map k e

    pub value_struct : kind ≡ T.Struct → r ≡ prints (struct_told (value_told lim (room - 1))) s at p → r ≡ prints (value_told lim room kind) s at p
    value_struct k e = entered T.Struct k e

pub ruleset value_cases = (value_none, value_leaf, value_list, value_set, value_map, value_struct)

-- print_many, print_pairs: so many are left
module _ {A B : Type 0} (s : List ℕ) (t : Teller A) (none : B) (add : A → B → B) (left : ℕ) (p : Place) (out : List ℕ) (q : ℕ) (X : Page) (inv : prints (row_told t none add left) s p.0 (out, q) ≡ X) where
  pub row_end : left ≤ 0 → (Went p q, out) ≡ X
  unfolding row_told
  row_end z =
      let e : left ≡ 0 = omega arith in
      sym (prints_done none s p.0 (out, q)) ∙ ap (λ (k : ℕ). prints (row_told t none add k) s p.0 (out, q)) (sym e) ∙ inv

  module _ (h : 0 < left) (r : Printed) (o : List ℕ) (f : (r, o) ≡ prints t s p.0 (out, q)) where
    more : prints (row_told t none add (suc (left - 1))) s p.0 (out, q) ≡ X
    more = ap (λ (k : ℕ). prints (row_told t none add k) s p.0 (out, q)) (sym (pos_suc h)) ∙ inv

    pub row_no : (why n : ℕ) → r ≡ Stopped why n → (Stopped why n, o) ≡ X
    unfolding row_told
    row_no why n g = sym (prints_stop t _ s p.0 (out, q) why (o, n) (stopped t s p.0 (out, q) r o why n f g)) ∙ more

    pub row_next : (e : Place) (n : ℕ) → r ≡ Went e n → prints (row_told t none add (left - 1)) s e.0 (o, n) ≡ X
    unfolding row_told
    row_next e n g =
        let w = went t s p.0 (out, q) r o e n f g in
        sym (prints_made (row_told t none add (left - 1)) (add w.0) s e.0 (o, n))
        ∙ sym (prints_step t (λ a. making (row_told t none add (left - 1)) (add a)) s p.0 (out, q) w.0 e.0 (o, n) w.1)
        ∙ more

pub ruleset row_cases = (row_end, row_no, row_next)

-- print_pair
module _ (s : List ℕ) (t u : Teller Tree) (at : ℕ) (out o : List ℕ) (to : ℕ) (r : Printed) (f : (r, o) ≡ prints t s at (out, to)) where
  pub pair_no : (why n : ℕ) → r ≡ Stopped why n → (Stopped why n, o) ≡ prints (pair_told t u) s at (out, to)
  unfolding pair_told
  pair_no why n g = sym (prints_stop t _ s at (out, to) why (o, n) (stopped t s at (out, to) r o why n f g))

  pub pair_in : (m : Place) (n : ℕ) (x : Page) → r ≡ Went m n → x ≡ prints u s m.0 (o, n) → x ≡ prints (pair_told t u) s at (out, to)
  unfolding pair_told
  pair_in m n x g e =
      let w = went t s at (out, to) r o m n f g in
      e
      ∙ sym (prints_step t (λ k. making u (λ v. (k, v))) s at (out, to) w.0 m.0 (o, n) w.1
      ∙ prints_made u (λ v. (w.0, v)) s m.0 (o, n))

pub ruleset pair_cases = (pair_no, pair_in)

-- print_map
abbrev of_map_lem : MapHead → Found (TType × TType × ℕ)
of_map_lem (M.Got k v n e) = got (k, v, n) e.0
of_map_lem (M.Refused why) = refused why

as_map_lem : (x : Found (TType × TType × ℕ)) → of_map_lem (to_map x) ≡ x
as_map_lem (got a e) = refl
as_map_lem (refused why) = refl

module _ (s : List ℕ) (lim : TConfiguration) (inner : TType → Teller Tree) (at : ℕ) (out : List ℕ) (to : ℕ) (h : MapHead) (e : h ≡ pairs_head_at s lim at) where
  map_read : (q : MapHead) → h ≡ q → read_at (pairs_head lim) s at ≡ of_map_lem q
  unfolding pairs_head_at
  map_read q g = sym (as_map_lem (read_at (pairs_head lim) s at)) ∙ ap of_map_lem (sym e ∙ g)

  pub map_refused : (why : ℕ) → h ≡ M.Refused why → (Stopped why to, out) ≡ prints (map_told lim inner) s at (out, to)
  unfolding map_told
  map_refused why g = sym (prints_stop (quiet (pairs_head lim)) _ s at (out, to) why (out, to) (quiet_tells (pairs_head lim) s at (out, to) (refused why) (map_read (M.Refused why) g)))

  module _ (k v : TType) (n : ℕ) (p : Place) (g : h ≡ M.Got k v n p) (o : List ℕ) (q : ℕ) (i : (o, q) ≡ inked (line (row.map k v n)) (out, to)) (b : Bool) (f : b ≡ startable k n) where
    in_map : prints (map_told lim inner) s at (out, to) ≡ prints (provided_t (startable k n) BAD_TYPE (provided_t (startable v n) BAD_TYPE (making (pairs_told (inner k) (inner v) n) (val.map k v)))) s p.0 (o, q)
    unfolding map_told
    in_map =
        prints_step (quiet (pairs_head lim)) _ s at (out, to) (k, v, n) p.0 (out, to) (quiet_tells (pairs_head lim) s at (out, to) (got (k, v, n) p.0) (map_read (M.Got k v n p) g))
        ∙ prints_aloud _ _ s p.0 (out, to) (o, q) i

    pub map_keyless : b ≡ false → (Stopped BAD_TYPE q, o) ≡ prints (map_told lim inner) s at (out, to)
    map_keyless y = sym (in_map ∙ prints_no _ BAD_TYPE _ s p.0 (o, q) (sym f ∙ y))

    module _ (y : b ≡ true) (c : Bool) (w : c ≡ startable v n) where
      pub map_valueless : c ≡ false → (Stopped BAD_TYPE q, o) ≡ prints (map_told lim inner) s at (out, to)
      map_valueless z = sym (in_map ∙ prints_yes _ BAD_TYPE _ s p.0 (o, q) (sym f ∙ y) ∙ prints_no _ BAD_TYPE _ s p.0 (o, q) (sym w ∙ z))

      pub map_in : (r : Page) → c ≡ true → r ≡ prints (pairs_told (inner k) (inner v) n) s p.0 (o, q) → r ≡ prints (map_told lim inner) s at (out, to)
      map_in r z x =
          x
          ∙ sym (in_map ∙ prints_yes _ BAD_TYPE _ s p.0 (o, q) (sym f ∙ y) ∙ prints_yes _ BAD_TYPE _ s p.0 (o, q) (sym w ∙ z)
          ∙ prints_made (pairs_told (inner k) (inner v) n) (val.map k v) s p.0 (o, q))

pub ruleset map_cases = (map_refused, map_keyless, map_valueless, map_in)

-- print_struct
pub struct_in : (s : List ℕ) (inner : TType → Teller Tree) (at : ℕ) (p q : Pen) (r : Page) → q ≡ inked (line row.struct) p → r ≡ prints (fields_told inner (pos 0)) s at q → r ≡ prints (struct_told inner) s at p
unfolding struct_told
struct_in s inner at p q r f e = e ∙ sym (prints_aloud row.struct _ s at p q f ∙ prints_made (fields_told inner (pos 0)) val.struct s at q)

-- print_fields: a field's header, as its call answered it
abbrev of_field_lem : FieldHead → Found Field
of_field_lem (F.Stop e) = got heads.stop e.0
of_field_lem (F.Bool b id e) = got (heads.bool b id.0) e.0
of_field_lem (F.Value t id e) = got (heads.value t id.0) e.0
of_field_lem (F.Refused why) = refused why

as_field_lem : (x : Found Field) → of_field_lem (to_field x) ≡ x
as_field_lem (got heads.stop e) = refl
as_field_lem (got (heads.bool b id) e) = refl
as_field_lem (got (heads.value t id) e) = refl
as_field_lem (refused why) = refl

module _ (s : List ℕ) (last : ℤ) (p : ℕ) (h : FieldHead) (e : h ≡ field_at s last p) where
  field_read : (q : FieldHead) → h ≡ q → read_at (heads.field last) s p ≡ of_field_lem q
  unfolding field_at
  field_read q g = sym (as_field_lem (read_at (heads.field last) s p)) ∙ ap of_field_lem (sym e ∙ g)

-- where it ends
head_later : (s : List ℕ) (last : ℤ) (p : ℕ) (x : Field) (e : ℕ) → read_at (heads.field last) s p ≡ got x e → (p < e) × (e ≤ length s)
unfolding read_at
head_later s last p x e f =
    let g = found_at p (heads.field last (drop p s)) x e f in
    let i = (field_lawful last).ends (drop p s) x g.0 g.1 in
    let j = field_takes last (drop p s) x g.0 g.1 in
    (omega (arith, g.2), omega (arith, g.2, length-drop p s))

module _ (s : List ℕ) (inner : TType → Teller Tree) (last : FieldId) (p : Place) (out : List ℕ) (q : ℕ) (X : Page) (inv : prints (fields_told inner last.0) s p.0 (out, q) ≡ X) (h : FieldHead) (e : h ≡ field_at s last.0 p.0) where
  stepped : prints (then_tell (quiet (heads.field last.0)) (behind_told inner (fields_told inner))) s p.0 (out, q) ≡ X
  unfolding prints
  stepped =
      ap (λ (x : Told Fields). ended (placed p.0 x.found) (inked (row.lines x.items) (out, q))) (sym (fields_step inner last.0 (drop p.0 s)))
      ∙ inv

  header : (x : Field) (m : ℕ) → read_at (heads.field last.0) s p.0 ≡ got x m → prints (behind_told inner (fields_told inner) x) s m (out, q) ≡ X
  header x m g =
      sym (prints_step (quiet (heads.field last.0)) (behind_told inner (fields_told inner)) s p.0 (out, q) x m (out, q) (quiet_tells (heads.field last.0) s p.0 (out, q) (got x m) g))
      ∙ stepped

  pub fields_no : (why : ℕ) → h ≡ F.Refused why → (Stopped why q, out) ≡ X
  fields_no why g =
      sym (prints_stop (quiet (heads.field last.0)) (behind_told inner (fields_told inner)) s p.0 (out, q) why (out, q) (quiet_tells (heads.field last.0) s p.0 (out, q) (refused why) (field_read s last.0 p.0 h e (F.Refused why) g)))
      ∙ stepped

  pub fields_stop : (m : Place) (o : List ℕ) (n : ℕ) → h ≡ F.Stop m → (o, n) ≡ inked (line row.stop) (out, q) → (Went m n, o) ≡ X
  fields_stop m o n g i =
      sym (prints_aloud row.stop _ s m.0 (out, q) (o, n) i ∙ prints_done _ s m.0 (o, n))
      ∙ header heads.stop m.0 (field_read s last.0 p.0 h e (F.Stop m) g)

  pub fields_bool : (b : Bool) (id : FieldId) (m : Place) (o₁ o₂ : List ℕ) (n₁ n₂ : ℕ) → h ≡ F.Bool b id m → (o₁, n₁) ≡ inked (line (row.field id.0 T.Bool)) (out, q) → (o₂, n₂) ≡ inked (line (row.scalar (S.Bool b))) (o₁, n₁) → prints (fields_told inner id.0) s m.0 (o₂, n₂) ≡ X
  fields_bool b id m o₁ o₂ n₁ n₂ g i j =
      sym (prints_aloud (row.field id.0 T.Bool) _ s m.0 (out, q) (o₁, n₁) i
      ∙ prints_aloud (row.scalar (S.Bool b)) _ s m.0 (o₁, n₁) (o₂, n₂) j
      ∙ prints_made (fields_told inner id.0) (val.field id.0 (val.truth b)) s m.0 (o₂, n₂))
      ∙ header (heads.bool b id.0) m.0 (field_read s last.0 p.0 h e (F.Bool b id m) g)

  module _ (t : TType) (id : FieldId) (m : Place) (g : h ≡ F.Value t id m) (r : Printed) (o : List ℕ) (f : (r, o) ≡ prints (aloud (row.field id.0 t) (inner t)) s m.0 (out, q)) where
    abbrev named : Pen
    named = inked (line (row.field id.0 t)) (out, q)

    behind_name : prints (then_tell (inner t) (λ v. making (fields_told inner id.0) (val.field id.0 v))) s m.0 named ≡ X
    behind_name =
        sym (prints_aloud (row.field id.0 t) _ s m.0 (out, q) named refl)
        ∙ header (heads.value t id.0) m.0 (field_read s last.0 p.0 h e (F.Value t id m) g)

    its_value : ◌≡◌ {A = Page} (r, o) (prints (inner t) s m.0 named)
    its_value = f ∙ prints_aloud (row.field id.0 t) (inner t) s m.0 (out, q) named refl

    pub fields_cut : (why n : ℕ) → r ≡ Stopped why n → (Stopped why n, o) ≡ X
    fields_cut why n y = sym (prints_stop (inner t) _ s m.0 named why (o, n) (stopped (inner t) s m.0 named r o why n its_value y)) ∙ behind_name

    pub fields_value : (d : Place) (n : ℕ) → r ≡ Went d n → prints (fields_told inner id.0) s d.0 (o, n) ≡ X
    fields_value d n y =
        let w = went (inner t) s m.0 named r o d n its_value y in
        sym (prints_made (fields_told inner id.0) (val.field id.0 w.0) s d.0 (o, n))
        ∙ sym (prints_step (inner t) (λ v. making (fields_told inner id.0) (val.field id.0 v)) s m.0 named w.0 d.0 (o, n) w.1)
        ∙ behind_name

pub ruleset fields_cases = (fields_no, fields_stop, fields_bool, fields_cut, fields_value)

-- print_field
pub field_in : {A : Type 0} (i : Item) (t : Teller A) (s : List ℕ) (at : ℕ) (p q : Pen) (r : Page) → q ≡ inked (line i) p → r ≡ prints t s at q → r ≡ prints (aloud i t) s at p
field_in i t s at p q r f e = e ∙ sym (prints_aloud i t s at p q f)

-- each turn takes at least a byte
module _ (s : List ℕ) (last : FieldId) (p : Place) (h : FieldHead) (e : h ≡ field_at s last.0 p.0) where
  pub bool_less : (b : Bool) (id : FieldId) (m : Place) → h ≡ F.Bool b id m → length s - m.0 < length s - p.0
  bool_less b id m g =
      let i = head_later s last.0 p.0 _ m.0 (field_read s last.0 p.0 h e (F.Bool b id m) g) in omega arith

  pub value_less : {A : Type 0} (u : Teller A) (t : TType) (id : FieldId) (m d : Place) (o : List ℕ) (p₁ : Pen) (n : ℕ) (r : Printed) → h ≡ F.Value t id m → (r, o) ≡ prints u s m.0 p₁ → r ≡ Went d n → length s - d.0 < length s - p.0
  value_less u t id m d o p₁ n r g f y =
      let i = head_later s last.0 p.0 _ m.0 (field_read s last.0 p.0 h e (F.Value t id m) g) in
      let w = went u s m.0 p₁ r o d n f y in
      let k = found_at m.0 (u (drop m.0 s)).found w.0 d.0 w.1.finds in
      omega (arith, k.2)

pub ruleset turns = (bool_less, value_less)
