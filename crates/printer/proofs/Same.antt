-- What is told of a value is found as skip's value is: the same tree, the same end, the same refusal. Assumes nothing.
use mathlib.Core.Path.{◌≡◌, refl, sym, ap, ◌∙◌}
use mathlib.Core.Bool.{Bool, true, false}
use mathlib.Core.List.{List, [], ◌∷◌}
use Prim.Native.Nat.{ℕ, zero, suc, ◌+◌, ◌≤◌}
use native.Mathlib.Omega.{arith}
use lib.ListN.{length, drop}
use lib.Seq.{drop-drop}
use lib.IntN.{ℤ, pos}
use Rattle.types.specs.Refusals.{END, BAD_TYPE}
use Rattle.types.specs.declared.TType.{TType}
use Rattle.types.specs.declared.TType.TheVariants as T
use Rattle.types.specs.declared.TConfiguration.{TConfiguration}
use Rattle.types.specs.Value as val
use Rattle.types.specs.Value.{Tree, Trees, no_trees, tree, Pairs, no_pairs, pair, Fields}
use Rattle.numbers.specs.Varint.{Found, got, refused, placed}
use Rattle.heads.specs.Reader.{Reader, done, refuse, onward, and_then, provided}
use Rattle.heads.specs.Heads as heads
use Rattle.heads.specs.Heads.{items_head, pairs_head, Field}
use Rattle.heads.proofs.Lawful.{then_lawful}
use Rattle.heads.proofs.Readers.{message_lawful}
use Rattle.skip.specs.Walk.{Entry, with_size, sizing, behind, walk, fields}
use Rattle.skip.specs.Value as sk
use Rattle.skip.specs.Value.{many, many_pairs, fields_of, startable, value_of}
use Rattle.skip.proofs.Lawfuls.{value_lawful}
use Rattle.lines.specs.Lines.{Item}
use Rattle.printer.specs.Telling.{Teller, quiet, aloud, onward_t, then_tell, making, provided_t, voiced}
use Rattle.printer.specs.Value.{row_told, many_told, pair_told, add_pair, pairs_told, items_told, map_told, behind_told, walk_told, fields_told, struct_told, Boxes, shut_told, roomy_told, shaped_told, value_told}
use Rattle.printer.specs.Printing.{message_told}
use Rattle.heads.proofs.Steps.{placed_placed}

-- a telling finds what a reader reads
abbrev pub Finds : {A : Type 0} → Teller A → Reader A → Type 0
Finds t p = (bs : List ℕ) → (t bs).found ≡ p bs

-- readers put together: a value for no byte first, and three in a row
placed_none : {A : Type 0} (x : Found A) → placed 0 x ≡ x
placed_none (got a n) = ap (got a) (omega arith)
placed_none (refused why) = refl

done_then : {A B : Type 0} (a : A) (k : A → Reader B) (bs : List ℕ) → and_then (done a) k bs ≡ k a bs
unfolding and_then done
done_then a k bs = placed_none (k a bs)

then_then : {A B C : Type 0} (p : Reader A) (k : A → Reader B) (l : B → Reader C) (bs : List ℕ) → and_then (and_then p k) l bs ≡ and_then p (λ a. and_then (k a) l) bs
unfolding and_then
then_then {A} {B} {C} p k l bs = go (p bs)
  where
    inside : (n : ℕ) (y : Found B) → onward l bs (placed n y) ≡ placed n (onward l (drop n bs) y)
    inside n (got b m) =
        ap (λ (cs : List ℕ). placed (n + m) (l b cs)) (sym (drop-drop m n bs)) ∙ sym (placed_placed n m (l b (drop m (drop n bs))))
    inside n (refused why) = refl

    go : (x : Found A) → onward l bs (onward k bs x) ≡ onward (λ a. and_then (k a) l) bs x
    go (got a n) = inside n (k a (drop n bs))
    go (refused why) = refl

then_alike : {A B : Type 0} (p : Reader A) (k l : A → Reader B) → ((a : A) (bs : List ℕ) → k a bs ≡ l a bs) → (bs : List ℕ) → and_then p k bs ≡ and_then p l bs
unfolding and_then
then_alike {A} p k l h bs = go (p bs)
  where
    go : (x : Found A) → onward k bs x ≡ onward l bs x
    go (got a n) = ap (placed n) (h a (drop n bs))
    go (refused why) = refl

-- made of a value, and of that
made_then : {A B C : Type 0} (p : Reader A) (g : A → B) (k : B → Reader C) (bs : List ℕ) → and_then (and_then p (λ a. done (g a))) k bs ≡ and_then p (λ a. k (g a)) bs
made_then p g k bs = then_then p (λ a. done (g a)) k bs ∙ then_alike p _ _ (λ a cs. done_then (g a) k cs) bs

-- where the size is not asked for
sizing_then : {A B : Type 0} (p : Reader A) (k : A × ℕ → Reader B) (l : A → Reader B) → ((a : A) (n : ℕ) (bs : List ℕ) → k (a, n) bs ≡ l a bs) → (bs : List ℕ) → and_then (sizing p) k bs ≡ and_then p l bs
unfolding and_then sizing
sizing_then {A} p k l h bs = go (p bs)
  where
    go : (x : Found A) → onward k bs (with_size x) ≡ onward l bs x
    go (got a n) = ap (placed n) (h a n (drop n bs))
    go (refused why) = refl

-- tellings put together
pub quiet_finds : {A : Type 0} (p : Reader A) → Finds (quiet p) p
unfolding quiet
quiet_finds p bs = refl

pub aloud_finds : {A : Type 0} (i : Item) (t : Teller A) (p : Reader A) → Finds t p → Finds (aloud i t) p
unfolding aloud
aloud_finds i t p h bs = h bs

pub then_finds : {A B : Type 0} (t : Teller A) (p : Reader A) (k : A → Teller B) (l : A → Reader B) → Finds t p → ((a : A) → Finds (k a) (l a)) → Finds (then_tell t k) (and_then p l)
unfolding then_tell and_then
then_finds {A} t p k l h i bs = go (t bs).found ∙ ap (onward l bs) (h bs)
  where
    go : (x : Found A) → (onward_t k bs (t bs).items x).found ≡ onward l bs x
    go (got a n) = ap (placed n) (i a (drop n bs))
    go (refused why) = refl

making_finds : {A B : Type 0} (t : Teller A) (p : Reader A) (g : A → B) → Finds t p → Finds (making t g) (and_then p (λ a. done (g a)))
making_finds t p g h = then_finds t p _ _ h (λ a. quiet_finds (done (g a)))

provided_finds : {A : Type 0} (ok : Bool) (why : ℕ) (t : Teller A) (p : Reader A) → Finds t p → Finds (provided_t ok why t) (provided ok why p)
unfolding provided_t provided
provided_finds true why t p h bs = h bs
provided_finds false why t p h bs = refl

voiced_finds : {A B : Type 0} (p : Reader A) (i : A → Item) (g : A → B) → Finds (voiced p i g) (and_then p (λ a. done (g a)))
unfolding voiced
voiced_finds p i g = then_finds (quiet p) p _ _ (quiet_finds p) (λ a. aloud_finds (i a) _ _ (quiet_finds (done (g a))))

-- so many values
many_finds : (t : Teller Tree) (p : Reader Tree) → Finds t p → (n : ℕ) → Finds (many_told t n) (many p n)
unfolding row_told many
many_finds t p h zero = quiet_finds (done no_trees)
many_finds t p h (suc n) = then_finds t p _ _ h (λ a. making_finds (many_told t n) (many p n) (tree a) (many_finds t p h n))

-- so many pairs: a key and its value are read together, and then the others
pair_finds : (t u : Teller Tree) (p q : Reader Tree) → Finds t p → Finds u q → Finds (pair_told t u) (and_then p (λ k. and_then q (λ v. done (k, v))))
unfolding pair_told
pair_finds t u p q h i = then_finds t p _ _ h (λ k. making_finds u q (λ v. (k, v)) i)

pairs_flat : (p q : Reader Tree) (r : Reader Pairs) (bs : List ℕ) → and_then (and_then p (λ k. and_then q (λ v. done (k, v)))) (λ e. and_then r (λ ps. done (add_pair e ps))) bs ≡ and_then p (λ k. and_then q (λ v. and_then r (λ ps. done (pair k v ps)))) bs
pairs_flat p q r bs =
    then_then p _ _ bs
    ∙ then_alike p _ _ (λ k cs. made_then q (λ v. (k, v)) (λ e. and_then r (λ ps. done (add_pair e ps))) cs) bs

pairs_finds : (t u : Teller Tree) (p q : Reader Tree) → Finds t p → Finds u q → (n : ℕ) → Finds (pairs_told t u n) (many_pairs p q n)
unfolding row_told many_pairs
pairs_finds t u p q h i zero bs = quiet_finds (done no_pairs) bs
pairs_finds t u p q h i (suc n) bs =
    then_finds (pair_told t u) _ _ _ (pair_finds t u p q h i) (λ e. making_finds (pairs_told t u n) (many_pairs p q n) (add_pair e) (pairs_finds t u p q h i n)) bs
    ∙ pairs_flat p q (many_pairs p q n) bs

-- the fields
module _ (inner : TType → Teller Tree) (f : TType → Reader Tree) (h : (t : TType) → Finds (inner t) (f t)) where
  module _ (go : ℤ → Teller Fields) (on : ℤ → Reader (List (Entry Tree))) (i : (id : ℤ) → Finds (go id) (and_then (on id) (λ fs. done (fields_of fs)))) where
    rest_finds : (id : ℤ) (g : Fields → Fields) (e : Entry Tree) → ((fs : List (Entry Tree)) → g (fields_of fs) ≡ fields_of (e ∷ fs)) → (bs : List ℕ) → (making (go id) g bs).found ≡ and_then (and_then (on id) (λ fs. done (e ∷ fs))) (λ fs. done (fields_of fs)) bs
    rest_finds id g e k bs =
        making_finds (go id) _ g (i id) bs
        ∙ made_then (on id) fields_of (λ fs. done (g fs)) bs
        ∙ then_alike (on id) _ _ (λ fs cs. ap (λ (x : Fields). done x cs) (k fs)) bs
        ∙ sym (made_then (on id) (λ fs. e ∷ fs) (λ fs. done (fields_of fs)) bs)

    behind_finds : (x : Field) (n : ℕ) → Finds (behind_told inner go x) (and_then (behind val.truth f on x n) (λ fs. done (fields_of fs)))
    unfolding aloud quiet
    behind_finds heads.stop n bs = sym (done_then [] (λ fs. done (fields_of fs)) bs)
    behind_finds (heads.bool b id) n bs =
        rest_finds id (val.field id (val.truth b)) (record { id = id; what = val.truth b; head = n; size = 0 }) (λ fs. refl) bs
    behind_finds (heads.value t id) n bs =
        then_finds (inner t) (f t) _ _ (h t) (λ v cs. rest_finds id (val.field id v) (record { id = id; what = v; head = n; size = 0 }) (λ fs. refl) cs ∙ made_then (on id) _ (λ fs. done (fields_of fs)) cs) bs
        ∙ sym (then_then (sizing (f t)) _ _ bs
        ∙ sizing_then (f t) _ _ (λ v m cs. made_then (on id) (λ fs. record { id = id; what = v; head = n; size = m } ∷ fs) (λ fs. done (fields_of fs)) cs) bs)

  refused_then : (cs : List ℕ) → (quiet (refuse END) cs).found ≡ and_then (refuse END) (λ (fs : List (Entry Tree)). done (fields_of fs)) cs
  unfolding quiet refuse and_then
  refused_then cs = refl

  walk_finds : (k : ℕ) (last : ℤ) → Finds (walk_told inner k last) (and_then (walk val.truth f k last) (λ fs. done (fields_of fs)))
  unfolding walk_told walk
  walk_finds zero last bs = refused_then bs
  walk_finds (suc k) last bs =
      then_finds (quiet (heads.field last)) (heads.field last) (behind_told inner (walk_told inner k)) (λ x. and_then (behind val.truth f (walk val.truth f k) x 0) (λ fs. done (fields_of fs))) (quiet_finds (heads.field last)) (λ x. behind_finds (walk_told inner k) (walk val.truth f k) (walk_finds k) x 0) bs
      ∙ sym (then_then (sizing (heads.field last)) _ _ bs
      ∙ sizing_then (heads.field last) _ _ (λ x n cs. sym (behind_finds (walk_told inner k) (walk val.truth f k) (walk_finds k) x n cs) ∙ behind_finds (walk_told inner k) (walk val.truth f k) (walk_finds k) x 0 cs) bs)

  fields_finds : (last : ℤ) → Finds (fields_told inner last) (and_then (fields val.truth f last) (λ fs. done (fields_of fs)))
  unfolding fields_told fields and_then
  fields_finds last bs = walk_finds (length bs) last bs

  -- the four that hold others
  items_finds : (lim : TConfiguration) (whole : TType) (g : TType → Trees → Tree) → Finds (items_told lim inner whole g) (and_then (items_head lim) (λ x. provided (startable x.0 x.1) BAD_TYPE (and_then (many (f x.0) x.1) (λ ts. done (g x.0 ts)))))
  unfolding items_told
  items_finds lim whole g =
      then_finds (quiet (items_head lim)) (items_head lim) _ _ (quiet_finds (items_head lim))
      (λ x. aloud_finds _ _ _ (provided_finds _ BAD_TYPE _ _ (making_finds _ _ (g x.0) (many_finds (inner x.0) (f x.0) (h x.0) x.1))))

  map_finds : (lim : TConfiguration) → Finds (map_told lim inner) (sk.roomy lim f).map
  unfolding map_told
  map_finds lim =
      then_finds (quiet (pairs_head lim)) (pairs_head lim) _ _ (quiet_finds (pairs_head lim))
      (λ x. aloud_finds _ _ _ (provided_finds _ BAD_TYPE _ _ (provided_finds _ BAD_TYPE _ _
      (making_finds _ _ (val.map x.0 x.1) (pairs_finds (inner x.0) (inner x.1) (f x.0) (f x.1) (h x.0) (h x.1) x.2)))))

  struct_finds : Finds (struct_told inner) (and_then (fields val.truth f (pos 0)) (λ fs. done (val.struct (fields_of fs))))
  unfolding struct_told
  struct_finds bs =
      aloud_finds _ _ _ (making_finds (fields_told inner (pos 0)) _ val.struct (fields_finds (pos 0))) bs
      ∙ made_then (fields val.truth f (pos 0)) fields_of (λ fs. done (val.struct fs)) bs

-- a value
pub record Boxed (box : Boxes) (b : sk.Boxes) : Type 0 where
  pub list : Finds box.list b.list
  pub set : Finds box.set b.set
  pub map : Finds box.map b.map
  pub struct : Finds box.struct b.struct

shaped_finds : (lim : TConfiguration) (box : Boxes) (b : sk.Boxes) → Boxed box b → (ty : TType) → Finds (shaped_told lim box ty) (sk.shaped lim b ty)
shaped_finds lim box b h T.Stop = quiet_finds _
shaped_finds lim box b h T.Bool = voiced_finds _ _ _
shaped_finds lim box b h T.I08 = voiced_finds _ _ _
shaped_finds lim box b h T.I16 = voiced_finds _ _ _
shaped_finds lim box b h T.I32 = voiced_finds _ _ _
shaped_finds lim box b h T.I64 = voiced_finds _ _ _
shaped_finds lim box b h T.Double = voiced_finds _ _ _
shaped_finds lim box b h T.String = voiced_finds _ _ _
shaped_finds lim box b h T.List = h.list
shaped_finds lim box b h T.Set = h.set
shaped_finds lim box b h T.Map = h.map
shaped_finds lim box b h T.Struct = h.struct
shaped_finds lim box b h T.Uuid = voiced_finds _ _ _

pub value_finds : (lim : TConfiguration) (room : ℕ) (ty : TType) → Finds (value_told lim room ty) (value_of lim room ty)
unfolding value_told value_of
value_finds lim zero ty = shaped_finds lim shut_told sk.shut (record { list = quiet_finds _; set = quiet_finds _; map = quiet_finds _; struct = quiet_finds _ }) ty
value_finds lim (suc room) ty =
    shaped_finds lim (roomy_told lim (value_told lim room)) (sk.roomy lim (value_of lim room))
    (record {
      list = items_finds (value_told lim room) (value_of lim room) (value_finds lim room) lim T.List val.list;
      set = items_finds (value_told lim room) (value_of lim room) (value_finds lim room) lim T.Set val.set;
      map = map_finds (value_told lim room) (value_of lim room) (value_finds lim room) lim;
      struct = struct_finds (value_told lim room) (value_of lim room) (value_finds lim room);
    })
    ty

-- a message and its struct
pub message_finds : (lim : TConfiguration) (room : ℕ) → Finds (message_told lim room) (and_then (heads.message lim) (λ m. value_of lim room T.Struct))
unfolding message_told
message_finds lim room = then_finds (quiet (heads.message lim)) (heads.message lim) _ _ (quiet_finds _) (λ m. aloud_finds _ _ _ (value_finds lim room T.Struct))

pub message_ends : (lim : TConfiguration) (room : ℕ) (bs : List ℕ) (a : Tree) (n : ℕ) → (message_told lim room bs).found ≡ got a n → n ≤ length bs
message_ends lim room bs a n e =
    (then_lawful (heads.message lim) (λ m. value_of lim room T.Struct) (message_lawful lim) (λ m. value_lawful lim room T.Struct)).ends bs a n (sym (message_finds lim room bs) ∙ e)
