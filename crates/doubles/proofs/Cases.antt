-- The walk, at each return and at each turn of its loops. Assumes nothing.
use Rattle.std.proofs.Common.{◌≡◌, ℕ, zero, suc, ◌+◌, ◌-◌, ◌/◌, ◌%◌, ◌^◌, ◌<◌, ◌≤◌, Bool, true, false, cond, ◌&&◌, eqb, List, [], ◌∷◌, ◌++◌, length, get_or, drop, set, ℤ, pos, ◌+ℤ◌, sym, refl, ap, ◌∙◌, subst, ap₂, append_assoc, arith, to_z-of_z, w16, w32, SFits, to_z, of_z, ne_eqb}
use borrow.Author.Rules.{sfits_of}
use lib.Signed.{lt_z}
use Rattle.types.specs.Refusals.{BAD_TYPE}
use Rattle.types.proofs.Limits.{both}
use Rattle.types.specs.Codes.{type_code, type_by_number, field_type}
use Rattle.types.specs.declared.FieldType.{FieldType}
use Rattle.types.specs.declared.FieldType.TheVariants as FT
use Rattle.types.specs.declared.Place.{Place}
use Rattle.types.specs.declared.FieldId.{FieldId}
use Rattle.types.specs.declared.TType.{TType}
use Rattle.types.specs.declared.TType.TheVariants as T
use Rattle.types.specs.declared.TConfiguration.{TConfiguration}
use Rattle.types.specs.Value as val
use Rattle.types.specs.Value.{Tree, Trees, no_trees, tree, Pairs, no_pairs, pair}
use Rattle.numbers.specs.Varint.{Found, got, refused, placed}
use Rattle.heads.specs.Reader.{Reader, done, refuse, and_then, provided, read_at}
use Rattle.heads.specs.Heads.{double, items_head, pairs_head, Field, stop, bool, value, field_id, of_type, field}
use Rattle.heads.specs.Answers.{place, to_double, double_at, to_list, items_head_at, to_map, pairs_head_at, field_at}
use Rattle.heads.specs.declared.DoubleRead.{DoubleRead}
use Rattle.heads.specs.declared.DoubleRead.TheVariants as D
use Rattle.heads.specs.declared.ListHead.{ListHead}
use Rattle.heads.specs.declared.ListHead.TheVariants as L
use Rattle.heads.specs.declared.MapHead.{MapHead}
use Rattle.heads.specs.declared.MapHead.TheVariants as M
use Rattle.heads.specs.declared.FieldHead.{FieldHead}
use Rattle.heads.specs.declared.FieldHead.TheVariants as F
use Rattle.heads.proofs.Lawful.{not_both}
use Rattle.heads.proofs.Steps.{found_at, step, stop_at, done_at, byte_at, refuse_at, provided_yes, provided_no, split}
use Rattle.heads.proofs.Fields.{code_sum, id_wide, id_fits, id_back, id_is, high_four, delta_wide}
use Rattle.skip.specs.Walk.{Entry, with_size, sizing, behind, fields}
use Rattle.skip.specs.Value.{many, many_pairs, fields_of, startable, value_of}
use Rattle.skip.specs.Skip.{passed, past, skip_of}
use Rattle.skip.specs.Leaves.{is_leaf}
use Rattle.skip.specs.declared.Skipped.{Skipped}
use Rattle.skip.specs.declared.Skipped.TheVariants as S
use Rattle.skip.proofs.Past.{pos_suc, past_no, refused_past}
use Rattle.skip.proofs.Leaf.{flat}
use Rattle.skip.proofs.Walks.{fields_step}
use Rattle.skip.proofs.Cycle.{set_list, head_read, head_refused, head_later, read_inside, sizing_no}
use Rattle.skip.proofs.Lawfuls.{value_lawful}
use Rattle.single.specs.Held.{held}
use Rattle.single.specs.Counts.{counted}
use Rattle.single.specs.declared.Single.{Single}
use Rattle.single.specs.declared.Counts.{Counts}
use Rattle.doubles.specs.Doubles.{doubles_of, doubles_all, doubles_pairs, doubles_fields}
use Rattle.doubles.specs.Walked.{code, total, Sheet, jotted, jot_all, bare, bare_both, is_double, double_tree, pair_of, doubles_pair, passed_by, doubles_in, Walks, Further}
use Rattle.doubles.specs.declared.Walked.{Walked}
use Rattle.doubles.specs.declared.Walked.TheVariants.{Done, Refused}
use Rattle.doubles.proofs.Sheets.{jot_parts, not_done, went, lost, was_got, was_lost, as_found, made, made_alone, Onto, onto_all}

-- both_bare
module _ (k v : TType) (a : Bool) (e : a ≡ bare k) where
  pub bare_key : (r : Bool) → a ≡ true → r ≡ bare v → r ≡ bare k && bare v
  bare_key r t f = f ∙ sym (ap (λ (b : Bool). b && bare v) (sym e ∙ t))

  pub no_bare_key : a ≡ false → false ≡ bare k && bare v
  no_bare_key t = sym (ap (λ (b : Bool). b && bare v) (sym e ∙ t))

pub ruleset bare_cases = (bare_key, no_bare_key)

-- jot
set_out : (row : List ℕ) (n v : ℕ) → length row ≤ n → set row n v ≡ row
set_out [] n v h = refl
set_out (x ∷ row) zero v h = absurd (omega arith)
set_out (x ∷ row) (suc n) v h = ap (λ (l : List ℕ). x ∷ l) (set_out row n v (omega arith))

module _ (c : Counts) (bits a n : ℕ) (row : List ℕ) (e : a ≡ (c.yes + c.no) % 2 ^ 64) (f : n ≡ (a + c.nan) % 2 ^ 64) (d : Counts) (g : d ≡ counted c bits) where
  where_total : n ≡ total c
  where_total = f ∙ ap (λ (m : ℕ). (m + c.nan) % 2 ^ 64) e

  pub jot_in : (h : Single) (v : ℕ) → h ≡ held bits → v ≡ code h → (d, set row n v) ≡ jotted (c, row) bits
  unfolding jotted
  jot_in h v x y = ap₂ (λ (u : Counts) (l : List ℕ). (u, l)) g (ap₂ (λ (m : ℕ) (w : ℕ). set row m w) where_total (y ∙ ap code x))

  pub jot_out : length row ≤ n → (d, row) ≡ jotted (c, row) bits
  unfolding jotted
  jot_out h = ap₂ (λ (u : Counts) (l : List ℕ). (u, l)) g (sym (set_out row n (code (held bits)) h) ∙ ap (λ (m : ℕ). set row m (code (held bits))) where_total)

pub ruleset jot_cases = (jot_in, jot_out)

-- walk_double
is_double_read : (x : Found ℕ) (n : ℕ) (p : Place) → to_double x ≡ D.Got n p → x ≡ got n p.0
is_double_read (got m e) n p f =
    let a : m ≡ n = cc in
    let q : place e ≡ p = cc in
    ap₂ got a (ap (λ (y : Place). y.0) q)
is_double_read (refused why) n p f = let z : ◌≡◌ {A = ℕ} 0 1 = cc in absurd (omega arith)

no_double_read : (x : Found ℕ) (why : ℕ) → to_double x ≡ D.Refused why → x ≡ refused why
no_double_read (got m e) why f = let z : ◌≡◌ {A = ℕ} 0 1 = cc in absurd (omega arith)
no_double_read (refused y) why f = let q : y ≡ why = cc in ap refused q

module _ (s : List ℕ) (at : ℕ) (x : Sheet) (h : DoubleRead) (e : h ≡ double_at s at) where
  pub double_got : (n : ℕ) (p : Place) (c : Counts) (row : List ℕ) → h ≡ D.Got n p → (c, row) ≡ jotted x n → Walks doubles_of (read_at double_tree s at) x (Done p c) row
  unfolding double_at doubles_of jot_all
  double_got n p c row g i =
      went doubles_of (read_at double_tree s at) x p c row (val.double n)
      (step double _ s at n p.0 (is_double_read (read_at double s at) n p (sym e ∙ g)) ∙ done_at s p.0 (val.double n)) i

  pub double_no : (why : ℕ) → h ≡ D.Refused why → Walks doubles_of (read_at double_tree s at) x (Refused why) x.1
  unfolding double_at
  double_no why g = lost doubles_of (read_at double_tree s at) x why x.1 (stop_at double _ s at why (no_double_read (read_at double s at) why (sym e ∙ g)))

pub ruleset double_cases = (double_got, double_no)

-- walk_doubles, walk_many: one value of so many
module _ (v : Reader Tree) (s : List ℕ) (n : ℕ) (at : Place) (x₀ : Sheet) (left : ℕ) (p : Place) (c : Counts) (row : List ℕ) (i : Onto doubles_all (read_at (many v left) s p.0) (c, row) doubles_all (read_at (many v n) s at.0) x₀) where
  pub many_over : left ≤ 0 → Walks doubles_all (read_at (many v n) s at.0) x₀ (Done p c) row
  unfolding many doubles_all jot_all
  many_over z =
      let e : left ≡ 0 = omega arith in
      i.on (Done p c) row (went doubles_all (read_at (many v left) s p.0) (c, row) p c row no_trees (ap (λ (k : ℕ). read_at (many v k) s p.0) e ∙ done_at s p.0 no_trees) refl)

  module _ (h : 0 < left) (r : Walked) (row' : List ℕ) (w : Walks doubles_of (read_at v s p.0) (c, row) r row') where
    pub many_broken : (why : ℕ) → r ≡ Refused why → Walks doubles_all (read_at (many v n) s at.0) x₀ (Refused why) row'
    unfolding many
    many_broken why g =
        i.on (Refused why) row'
        (lost doubles_all (read_at (many v left) s p.0) (c, row) why row'
        (ap (λ (k : ℕ). read_at (many v k) s p.0) (pos_suc h) ∙ stop_at v _ s p.0 why (was_lost doubles_of (read_at v s p.0) (c, row) r row' w why g)))

    pub many_again : (e : Place) (d : Counts) → r ≡ Done e d → Onto doubles_all (read_at (many v (left - 1)) s e.0) (d, row') doubles_all (read_at (many v n) s at.0) x₀
    unfolding many doubles_all
    many_again e d g =
        let t = was_got doubles_of (read_at v s p.0) (c, row) r row' w e d g in
        let q : read_at (many v left) s p.0 ≡ read_at (and_then (many v (left - 1)) (λ ts. done (tree t.0 ts))) s e.0 = ap (λ (k : ℕ). read_at (many v k) s p.0) (pos_suc h) ∙ step v _ s p.0 t.0 e.0 t.1 in
        record {
          on =
              λ r₁ row₁ y.
              i.on r₁ row₁
              (as_found doubles_all _ _ (c, row) r₁ row₁ (sym q)
              (made doubles_all doubles_all (many v (left - 1)) (λ ts. tree t.0 ts) (doubles_of t.0) s e.0 (c, row) (λ ts. refl) r₁ row₁
              (subst (λ (z : Sheet). Walks doubles_all (read_at (many v (left - 1)) s e.0) z r₁ row₁) t.2 y)));
        }

pub kept : (row₀ row row' : List ℕ) → length row ≡ length row₀ → length row' ≡ length row → length row' ≡ length row₀
kept row₀ row row' e f = f ∙ e

pub ruleset many_cases = (many_over, many_broken, many_again, onto_all, kept)

-- walk_past
module _ (c : Counts) (z q : Skipped) (f : q ≡ z) where
  pub passed_done : (e : Place) → q ≡ S.Done e → Done e c ≡ passed_by c z
  passed_done e g = ap (passed_by c) (sym g ∙ f)

  pub passed_no : (why : ℕ) → q ≡ S.Refused why → Refused why ≡ passed_by c z
  passed_no why g = ap (passed_by c) (sym g ∙ f)

pub ruleset past_cases = (passed_done, passed_no)

-- what skip passes over, where it holds no double
past_walks : (p : Reader Tree) (s : List ℕ) (at : ℕ) (c : Counts) (row : List ℕ) (r : Walked) → r ≡ passed_by c (past p s at) → ((v : Tree) (e : ℕ) → read_at p s at ≡ got v e → doubles_of v ≡ []) → Walks doubles_of (read_at p s at) (c, row) r row
unfolding past jot_all
past_walks p s at c row r q h = go (read_at p s at) refl
  where
    go : (x : Found Tree) → read_at p s at ≡ x → Walks doubles_of (read_at p s at) (c, row) r row
    go (got v e) f =
        let z : r ≡ Done (place e) c = q ∙ ap (λ (y : Found Tree). passed_by c (passed y)) f in
        subst (λ (a : Walked). Walks doubles_of (read_at p s at) (c, row) a row) (sym z)
        (went doubles_of (read_at p s at) (c, row) (place e) c row v f (ap (λ (l : List ℕ). jot_all l (c, row)) (sym (h v e f))))
    go (refused why) f =
        let z : r ≡ Refused why = q ∙ ap (λ (y : Found Tree). passed_by c (passed y)) f in
        subst (λ (a : Walked). Walks doubles_of (read_at p s at) (c, row) a row) (sym z) (lost doubles_of (read_at p s at) (c, row) why row f)

-- a value made of what holds no double
none_made : {A : Type 0} (p : Reader A) (g : A → Tree) → ((a : A) → doubles_of (g a) ≡ []) → (s : List ℕ) (at : ℕ) (v : Tree) (e : ℕ) → read_at (and_then p (λ a. done (g a))) s at ≡ got v e → doubles_of v ≡ []
none_made {A} p g h s at v e f =
    let x = split p (λ a. done (g a)) s at v e f in
    let y : got (g x.0) x.1 ≡ got v e = sym (done_at s x.1 (g x.0)) ∙ x.3 in
    let z : g x.0 ≡ v = cc in
    ap doubles_of (sym z) ∙ h x.0

no_tree : {X : Type 0} (why : ℕ) (s : List ℕ) (at : ℕ) (v : Tree) (e : ℕ) → read_at (refuse why) s at ≡ got v e → X
no_tree why s at v e f = not_both (sym (refuse_at s at why) ∙ f)

no_truth : {X : Type 0} → true ≡ false → X
no_truth e = let z : ◌≡◌ {A = ℕ} 0 1 = cc in absurd (omega arith)

pub none_flat : (lim : TConfiguration) (t : TType) → is_double t ≡ false → (s : List ℕ) (at : ℕ) (v : Tree) (e : ℕ) → read_at (value_of lim 0 t) s at ≡ got v e → doubles_of v ≡ []
unfolding value_of doubles_of
none_flat lim T.Stop k s at v e f = no_tree _ s at v e f
none_flat lim T.Bool k s at v e f = none_made _ _ (λ a. refl) s at v e f
none_flat lim T.I08 k s at v e f = none_made _ _ (λ a. refl) s at v e f
none_flat lim T.I16 k s at v e f = none_made _ _ (λ a. refl) s at v e f
none_flat lim T.I32 k s at v e f = none_made _ _ (λ a. refl) s at v e f
none_flat lim T.I64 k s at v e f = none_made _ _ (λ a. refl) s at v e f
none_flat lim T.Double k s at v e f = no_truth k
none_flat lim T.String k s at v e f = none_made _ _ (λ a. refl) s at v e f
none_flat lim T.List k s at v e f = no_tree _ s at v e f
none_flat lim T.Set k s at v e f = no_tree _ s at v e f
none_flat lim T.Map k s at v e f = no_tree _ s at v e f
none_flat lim T.Struct k s at v e f = no_tree _ s at v e f
none_flat lim T.Uuid k s at v e f = none_made _ _ (λ a. refl) s at v e f

bare_leaf : (t : TType) → bare t ≡ true → (is_leaf t ≡ true) × (is_double t ≡ false)
bare_leaf T.Stop k = (refl, refl)
bare_leaf T.Bool k = (refl, refl)
bare_leaf T.I08 k = (refl, refl)
bare_leaf T.I16 k = (refl, refl)
bare_leaf T.I32 k = (refl, refl)
bare_leaf T.I64 k = (refl, refl)
bare_leaf T.Double k = no_truth (sym k)
bare_leaf T.String k = (refl, refl)
bare_leaf T.List k = no_truth (sym k)
bare_leaf T.Set k = no_truth (sym k)
bare_leaf T.Map k = no_truth (sym k)
bare_leaf T.Struct k = no_truth (sym k)
bare_leaf T.Uuid k = (refl, refl)

none_bare : (lim : TConfiguration) (room : ℕ) (t : TType) → bare t ≡ true → (s : List ℕ) (at : ℕ) (v : Tree) (e : ℕ) → read_at (value_of lim room t) s at ≡ got v e → doubles_of v ≡ []
none_bare lim room t k s at v e f =
    let b = bare_leaf t k in
    none_flat lim t b.1 s at v e (ap (λ (p : Reader Tree). read_at p s at) (sym (flat lim room t b.0)) ∙ f)

double_flat : (lim : TConfiguration) (room : ℕ) → value_of lim room T.Double ≡ double_tree
unfolding value_of
double_flat lim zero = refl
double_flat lim (suc room) = refl

the_double : (t : TType) → is_double t ≡ true → t ≡ T.Double
the_double T.Stop k = no_truth (sym k)
the_double T.Bool k = no_truth (sym k)
the_double T.I08 k = no_truth (sym k)
the_double T.I16 k = no_truth (sym k)
the_double T.I32 k = no_truth (sym k)
the_double T.I64 k = no_truth (sym k)
the_double T.Double k = refl
the_double T.String k = no_truth (sym k)
the_double T.List k = no_truth (sym k)
the_double T.Set k = no_truth (sym k)
the_double T.Map k = no_truth (sym k)
the_double T.Struct k = no_truth (sym k)
the_double T.Uuid k = no_truth (sym k)

pub as_double_lem : (lim : TConfiguration) (room : ℕ) (t : TType) → is_double t ≡ true → double_tree ≡ value_of lim room t
as_double_lem lim room t k = sym (double_flat lim room) ∙ ap (value_of lim room) (sym (the_double t k))

-- a list's header, as its call answered it
abbrev of_list_lem : ListHead → Found (TType × ℕ)
of_list_lem (L.Got t n e) = got (t, n) e.0
of_list_lem (L.Refused why) = refused why

as_list_lem : (x : Found (TType × ℕ)) → of_list_lem (to_list x) ≡ x
as_list_lem (got a e) = refl
as_list_lem (refused why) = refl

abbrev of_map_lem : MapHead → Found (TType × TType × ℕ)
of_map_lem (M.Got k v n e) = got (k, v, n) e.0
of_map_lem (M.Refused why) = refused why

as_map_lem : (x : Found (TType × TType × ℕ)) → of_map_lem (to_map x) ≡ x
as_map_lem (got a e) = refl
as_map_lem (refused why) = refl

-- the elements behind a list's header
abbrev elements : TConfiguration → ℕ → TType → ℕ → (Trees → Tree) → Reader Tree
elements lim room t n g = provided (startable t n) BAD_TYPE (and_then (many (value_of lim room t) n) (λ ts. done (g ts)))

none_many : (p : Reader Tree) → ((s : List ℕ) (at : ℕ) (v : Tree) (e : ℕ) → read_at p s at ≡ got v e → doubles_of v ≡ []) → (n : ℕ) (s : List ℕ) (at : ℕ) (ts : Trees) (e : ℕ) → read_at (many p n) s at ≡ got ts e → doubles_all ts ≡ []
unfolding many doubles_all
none_many p h zero s at ts e f = let y : got no_trees at ≡ got ts e = sym (done_at s at no_trees) ∙ f in let z : no_trees ≡ ts = cc in ap doubles_all (sym z)
none_many p h (suc n) s at ts e f =
    let x = split p _ s at ts e f in
    let y = split (many p n) _ s x.1 ts e x.3 in
    let w : got (tree x.0 y.0) y.1 ≡ got ts e = sym (done_at s y.1 (tree x.0 y.0)) ∙ y.3 in
    let z : tree x.0 y.0 ≡ ts = cc in
    ap doubles_all (sym z) ∙ ap₂ (λ (a b : List ℕ). a ++ b) (h s at x.0 x.1 x.2) (none_many p h n s x.1 y.0 y.1 y.2)

none_pairs : (p q : Reader Tree) → ((s : List ℕ) (at : ℕ) (v : Tree) (e : ℕ) → read_at p s at ≡ got v e → doubles_of v ≡ []) → ((s : List ℕ) (at : ℕ) (v : Tree) (e : ℕ) → read_at q s at ≡ got v e → doubles_of v ≡ []) → (n : ℕ) (s : List ℕ) (at : ℕ) (ps : Pairs) (e : ℕ) → read_at (many_pairs p q n) s at ≡ got ps e → doubles_pairs ps ≡ []
unfolding many_pairs doubles_pairs
none_pairs p q h i zero s at ps e f = let y : got no_pairs at ≡ got ps e = sym (done_at s at no_pairs) ∙ f in let z : no_pairs ≡ ps = cc in ap doubles_pairs (sym z)
none_pairs p q h i (suc n) s at ps e f =
    let x = split p _ s at ps e f in
    let u = split q _ s x.1 ps e x.3 in
    let y = split (many_pairs p q n) _ s u.1 ps e u.3 in
    let w : got (pair x.0 u.0 y.0) y.1 ≡ got ps e = sym (done_at s y.1 (pair x.0 u.0 y.0)) ∙ y.3 in
    let z : pair x.0 u.0 y.0 ≡ ps = cc in
    ap doubles_pairs (sym z)
    ∙ ap₂ (λ (a b : List ℕ). a ++ b) (h s at x.0 x.1 x.2) (ap₂ (λ (a b : List ℕ). a ++ b) (i s x.1 u.0 u.1 u.2) (none_pairs p q h i n s u.1 y.0 y.1 y.2))

-- where the test has passed
pub was_provided : {A : Type 0} (ok : Bool) (why : ℕ) (p : Reader A) (s : List ℕ) (at : ℕ) (a : A) (e : ℕ) → read_at (provided ok why p) s at ≡ got a e → read_at p s at ≡ got a e
was_provided true why p s at a e f = sym (provided_yes s at true why p refl) ∙ f
was_provided false why p s at a e f = not_both (sym (provided_no s at false why p refl) ∙ f)

-- types of which there are values
either : (b : Bool) → cond b true true ≡ true
either true = refl
either false = refl

startable_of : (t : TType) (n : ℕ) → bare t ≡ false → startable t n ≡ true
unfolding type_code
startable_of T.Stop n k = no_truth k
startable_of T.Bool n k = no_truth k
startable_of T.I08 n k = no_truth k
startable_of T.I16 n k = no_truth k
startable_of T.I32 n k = no_truth k
startable_of T.I64 n k = no_truth k
startable_of T.Double n k = either (eqb n 0)
startable_of T.String n k = no_truth k
startable_of T.List n k = either (eqb n 0)
startable_of T.Set n k = either (eqb n 0)
startable_of T.Map n k = either (eqb n 0)
startable_of T.Struct n k = either (eqb n 0)
startable_of T.Uuid n k = no_truth k

-- walk_list
module _ (s : List ℕ) (lim : TConfiguration) (room at : ℕ) (z : 0 < room) (c : Counts) (row : List ℕ) (h : ListHead) (e : h ≡ items_head_at s lim at) where
  list_head : (q : ListHead) → h ≡ q → read_at (items_head lim) s at ≡ of_list_lem q
  unfolding items_head_at
  list_head q g = sym (as_list_lem (read_at (items_head lim) s at)) ∙ ap of_list_lem (sym e ∙ g)

  pub list_refused : (why : ℕ) → h ≡ L.Refused why → Walks doubles_of (read_at (value_of lim room T.List) s at) (c, row) (Refused why) row
  unfolding value_of
  list_refused why g =
      lost doubles_of (read_at (value_of lim room T.List) s at) (c, row) why row
      (ap (λ (k : ℕ). read_at (value_of lim k T.List) s at) (pos_suc z) ∙ stop_at (items_head lim) _ s at why (list_head (L.Refused why) g))

  module _ (t : TType) (n : ℕ) (p : Place) (g : h ≡ L.Got t n p) where
    behind_list : read_at (value_of lim room T.List) s at ≡ read_at (elements lim (room - 1) t n (val.list t)) s p.0
    unfolding value_of
    behind_list = ap (λ (k : ℕ). read_at (value_of lim k T.List) s at) (pos_suc z) ∙ step (items_head lim) _ s at (t, n) p.0 (list_head (L.Got t n p) g)

    none_listed : bare t ≡ true → (v : Tree) (m : ℕ) → read_at (value_of lim room T.List) s at ≡ got v m → doubles_of v ≡ []
    unfolding doubles_of
    none_listed k v m f =
        let x = was_provided (startable t n) BAD_TYPE _ s p.0 v m (sym behind_list ∙ f) in
        let y = split (many (value_of lim (room - 1) t) n) (λ ts. done (val.list t ts)) s p.0 v m x in
        let w : got (val.list t y.0) y.1 ≡ got v m = sym (done_at s y.1 (val.list t y.0)) ∙ y.3 in
        let u : val.list t y.0 ≡ v = cc in
        ap doubles_of (sym u) ∙ none_many (value_of lim (room - 1) t) (none_bare lim (room - 1) t k) n s p.0 y.0 y.1 y.2

    pub list_bare : (b : Bool) (r : Walked) → b ≡ bare t → b ≡ true → r ≡ passed_by c (skip_of s lim room T.List at) → Walks doubles_of (read_at (value_of lim room T.List) s at) (c, row) r row
    unfolding skip_of
    list_bare b r f k q = past_walks (value_of lim room T.List) s at c row r q (none_listed (sym f ∙ k))

    module _ (b : Bool) (f : b ≡ bare t) (k : b ≡ false) (r : Walked) (row' : List ℕ) where
      pub list_many : Walks doubles_all (read_at (many (value_of lim (room - 1) t) n) s p.0) (c, row) r row' → Walks doubles_of (read_at (value_of lim room T.List) s at) (c, row) r row'
      unfolding doubles_of
      list_many w =
          as_found doubles_of _ _ (c, row) r row' (sym (behind_list ∙ provided_yes s p.0 (startable t n) BAD_TYPE _ (startable_of t n (sym f ∙ k))))
          (made_alone doubles_all doubles_of (many (value_of lim (room - 1) t) n) (val.list t) s p.0 (c, row) (λ ts. refl) r row' w)

      pub list_doubles : (d : Bool) → d ≡ is_double t → d ≡ true → Walks doubles_all (read_at (many double_tree n) s p.0) (c, row) r row' → Walks doubles_of (read_at (value_of lim room T.List) s at) (c, row) r row'
      list_doubles d x y w =
          list_many (subst (λ (u : Reader Tree). Walks doubles_all (read_at (many u n) s p.0) (c, row) r row') (as_double_lem lim (room - 1) t (sym x ∙ y)) w)

pub ruleset list_cases = (list_refused, list_bare, list_many, list_doubles)

-- a set is walked as a list is
passed_test : {A : Type 0} (ok : Bool) (why : ℕ) (p : Reader A) (s : List ℕ) (at : ℕ) (a : A) (e : ℕ) → read_at (provided ok why p) s at ≡ got a e → ok ≡ true
passed_test true why p s at a e f = refl
passed_test false why p s at a e f = not_both (sym (provided_no s at false why p refl) ∙ f)

as_set : (s : List ℕ) (lim : TConfiguration) (room at : ℕ) (v : Tree) (e : ℕ) → read_at (value_of lim (suc room) T.List) s at ≡ got v e → (u : Tree) × (read_at (value_of lim (suc room) T.Set) s at ≡ got u e) × (doubles_of v ≡ doubles_of u)
unfolding value_of doubles_of
as_set s lim room at v e f =
    let x = split (items_head lim) (λ h. elements lim room h.0 h.1 (val.list h.0)) s at v e f in
    let t = x.0.0 in
    let n = x.0.1 in
    let ok = passed_test (startable t n) BAD_TYPE _ s x.1 v e x.3 in
    let y = split (many (value_of lim room t) n) (λ ts. done (val.list t ts)) s x.1 v e (was_provided (startable t n) BAD_TYPE _ s x.1 v e x.3) in
    let w : got (val.list t y.0) y.1 ≡ got v e = sym (done_at s y.1 (val.list t y.0)) ∙ y.3 in
    let u : val.list t y.0 ≡ v = cc in
    let m : y.1 ≡ e = cc in (
      val.set t y.0,
      step (items_head lim) (λ h. elements lim room h.0 h.1 (val.set h.0)) s at x.0 x.1 x.2
          ∙ provided_yes s x.1 (startable t n) BAD_TYPE _ ok
          ∙ step (many (value_of lim room t) n) (λ ts. done (val.set t ts)) s x.1 y.0 y.1 y.2
          ∙ done_at s y.1 (val.set t y.0) ∙ ap (got (val.set t y.0)) m,
      ap doubles_of (sym u),
    )

set_refused : (s : List ℕ) (lim : TConfiguration) (room at why : ℕ) → read_at (value_of lim (suc room) T.List) s at ≡ refused why → read_at (value_of lim (suc room) T.Set) s at ≡ refused why
unfolding skip_of
set_refused s lim room at why f = refused_past (value_of lim (suc room) T.Set) s at why (set_list s lim room at ∙ past_no (value_of lim (suc room) T.List) s at why f)

set_walks : (s : List ℕ) (lim : TConfiguration) (room at : ℕ) (x : Sheet) (r : Walked) (row : List ℕ) → Walks doubles_of (read_at (value_of lim (suc room) T.List) s at) x r row → Walks doubles_of (read_at (value_of lim (suc room) T.Set) s at) x r row
unfolding Walks
set_walks s lim room at x (Done e c) row w =
    let u = as_set s lim room at w.0 e.0 w.1 in
    (u.0, u.1, w.2 ∙ ap (λ (l : List ℕ). jot_all l x) u.2)
set_walks s lim room at x (Refused why) row w = set_refused s lim room at why w

-- walk_map
abbrev entries : TConfiguration → ℕ → TType → TType → ℕ → Reader Tree
entries lim room k v n =
    provided (startable k n) BAD_TYPE (provided (startable v n) BAD_TYPE (and_then (many_pairs (value_of lim room k) (value_of lim room v) n) (λ ps. done (val.map k v ps))))

module _ (s : List ℕ) (lim : TConfiguration) (room at : ℕ) (z : 0 < room) (c : Counts) (row : List ℕ) (h : MapHead) (e : h ≡ pairs_head_at s lim at) where
  map_head : (q : MapHead) → h ≡ q → read_at (pairs_head lim) s at ≡ of_map_lem q
  unfolding pairs_head_at
  map_head q g = sym (as_map_lem (read_at (pairs_head lim) s at)) ∙ ap of_map_lem (sym e ∙ g)

  pub map_refused : (why : ℕ) → h ≡ M.Refused why → Walks doubles_of (read_at (value_of lim room T.Map) s at) (c, row) (Refused why) row
  unfolding value_of
  map_refused why g =
      lost doubles_of (read_at (value_of lim room T.Map) s at) (c, row) why row
      (ap (λ (k : ℕ). read_at (value_of lim k T.Map) s at) (pos_suc z) ∙ stop_at (pairs_head lim) _ s at why (map_head (M.Refused why) g))

  module _ (k v : TType) (n : ℕ) (p : Place) (g : h ≡ M.Got k v n p) where
    behind_map : read_at (value_of lim room T.Map) s at ≡ read_at (entries lim (room - 1) k v n) s p.0
    unfolding value_of
    behind_map = ap (λ (m : ℕ). read_at (value_of lim m T.Map) s at) (pos_suc z) ∙ step (pairs_head lim) _ s at (k, v, n) p.0 (map_head (M.Got k v n p) g)

    none_mapped : bare_both k v ≡ true → (t : Tree) (m : ℕ) → read_at (value_of lim room T.Map) s at ≡ got t m → doubles_of t ≡ []
    unfolding doubles_of
    none_mapped b t m f =
        let o = both (bare k) (bare v) b in
        let x = was_provided (startable k n) BAD_TYPE _ s p.0 t m (sym behind_map ∙ f) in
        let x' = was_provided (startable v n) BAD_TYPE _ s p.0 t m x in
        let y = split (many_pairs (value_of lim (room - 1) k) (value_of lim (room - 1) v) n) (λ ps. done (val.map k v ps)) s p.0 t m x' in
        let w : got (val.map k v y.0) y.1 ≡ got t m = sym (done_at s y.1 (val.map k v y.0)) ∙ y.3 in
        let u : val.map k v y.0 ≡ t = cc in
        ap doubles_of (sym u)
        ∙ none_pairs (value_of lim (room - 1) k) (value_of lim (room - 1) v) (none_bare lim (room - 1) k o.0) (none_bare lim (room - 1) v o.1) n s p.0 y.0 y.1 y.2

    pub map_bare : (b : Bool) (r : Walked) → b ≡ bare_both k v → b ≡ true → r ≡ passed_by c (skip_of s lim room T.Map at) → Walks doubles_of (read_at (value_of lim room T.Map) s at) (c, row) r row
    unfolding skip_of
    map_bare b r f t q = past_walks (value_of lim room T.Map) s at c row r q (none_mapped (sym f ∙ t))

    module _ (a : Bool) (f : a ≡ startable k n) where
      pub map_keyless : a ≡ false → Walks doubles_of (read_at (value_of lim room T.Map) s at) (c, row) (Refused BAD_TYPE) row
      map_keyless y = lost doubles_of _ (c, row) BAD_TYPE row (behind_map ∙ provided_no s p.0 (startable k n) BAD_TYPE _ (sym f ∙ y))

      module _ (y : a ≡ true) (b : Bool) (w : b ≡ startable v n) where
        pub map_valueless : b ≡ false → Walks doubles_of (read_at (value_of lim room T.Map) s at) (c, row) (Refused BAD_TYPE) row
        map_valueless u =
            lost doubles_of _ (c, row) BAD_TYPE row
            (behind_map ∙ provided_yes s p.0 (startable k n) BAD_TYPE _ (sym f ∙ y) ∙ provided_no s p.0 (startable v n) BAD_TYPE _ (sym w ∙ u))

        pub map_in : (r : Walked) (row' : List ℕ) → b ≡ true → Walks doubles_pairs (read_at (many_pairs (value_of lim (room - 1) k) (value_of lim (room - 1) v) n) s p.0) (c, row) r row' → Walks doubles_of (read_at (value_of lim room T.Map) s at) (c, row) r row'
        unfolding doubles_of
        map_in r row' u q =
            as_found doubles_of _ _ (c, row) r row'
            (sym (behind_map ∙ provided_yes s p.0 (startable k n) BAD_TYPE _ (sym f ∙ y) ∙ provided_yes s p.0 (startable v n) BAD_TYPE _ (sym w ∙ u)))
            (made_alone doubles_pairs doubles_of (many_pairs (value_of lim (room - 1) k) (value_of lim (room - 1) v) n) (val.map k v) s p.0 (c, row) (λ ps. refl) r row' q)

pub ruleset map_cases = (map_refused, map_bare, map_keyless, map_valueless, map_in)

-- walk_pair
module _ (u v : Reader Tree) (s : List ℕ) (at : ℕ) (x : Sheet) (r : Walked) (row' : List ℕ) (w : Walks doubles_of (read_at u s at) x r row') where
  pub pair_broken : (why : ℕ) → r ≡ Refused why → Walks doubles_pair (read_at (pair_of u v) s at) x (Refused why) row'
  unfolding pair_of
  pair_broken why g = lost doubles_pair _ x why row' (stop_at u _ s at why (was_lost doubles_of (read_at u s at) x r row' w why g))

  pub pair_value : (m : Place) (d : Counts) → r ≡ Done m d → (q : Walked) (row'' : List ℕ) → Walks doubles_of (read_at v s m.0) (d, row') q row'' → Walks doubles_pair (read_at (pair_of u v) s at) x q row''
  unfolding pair_of
  pair_value m d g q row'' y =
      let k = was_got doubles_of (read_at u s at) x r row' w m d g in
      as_found doubles_pair _ _ x q row'' (sym (step u _ s at k.0 m.0 k.1))
      (made doubles_of doubles_pair v (λ b. (k.0, b)) (doubles_of k.0) s m.0 x (λ b. refl) q row''
      (subst (λ (f : Sheet). Walks doubles_of (read_at v s m.0) f q row'') k.2 y))

pub ruleset pair_cases = (pair_broken, pair_value)

-- walk_pairs
module _ (u v : Reader Tree) (s : List ℕ) (p n : ℕ) where
  keyless : (why : ℕ) → read_at (pair_of u v) s p ≡ refused why → read_at (many_pairs u v (suc n)) s p ≡ refused why
  unfolding many_pairs pair_of
  keyless why f = go (read_at u s p) refl
    where
      valued : (k : Tree) (m : ℕ) → read_at u s p ≡ got k m → (y : Found Tree) → read_at v s m ≡ y → read_at (many_pairs u v (suc n)) s p ≡ refused why
      valued k m g (got w e) h = not_both (sym f ∙ step u _ s p k m g ∙ step v _ s m w e h ∙ done_at s e (k, w))
      valued k m g (refused y) h =
          let z : refused y ≡ refused why = sym (step u _ s p k m g ∙ stop_at v _ s m y h) ∙ f in
          let q : y ≡ why = cc in
          step u _ s p k m g ∙ stop_at v _ s m y h ∙ ap refused q

      go : (x : Found Tree) → read_at u s p ≡ x → read_at (many_pairs u v (suc n)) s p ≡ refused why
      go (got k m) g = valued k m g (read_at v s m) refl
      go (refused y) g =
          let z : refused y ≡ refused why = sym (stop_at u (λ k. and_then v (λ w. done (k, w))) s p y g) ∙ f in
          let q : y ≡ why = cc in
          stop_at u _ s p y g ∙ ap refused q

  keyed : (a : Tree × Tree) (e : ℕ) → read_at (pair_of u v) s p ≡ got a e → read_at (many_pairs u v (suc n)) s p ≡ read_at (and_then (many_pairs u v n) (λ ps. done (pair a.0 a.1 ps))) s e
  unfolding many_pairs pair_of
  keyed a e f =
      let x = split u (λ k. and_then v (λ w. done (k, w))) s p a e f in
      let y = split v (λ w. done (x.0, w)) s x.1 a e x.3 in
      let z : got (x.0, y.0) y.1 ≡ got a e = sym (done_at s y.1 (x.0, y.0)) ∙ y.3 in
      let q : (x.0, y.0) ≡ a = cc in
      let m : y.1 ≡ e = cc in
      step u _ s p x.0 x.1 x.2 ∙ step v _ s x.1 y.0 y.1 y.2
      ∙ ap₂ (λ (b : Tree × Tree) (j : ℕ). read_at (and_then (many_pairs u v n) (λ ps. done (pair b.0 b.1 ps))) s j) q m

module _ (u v : Reader Tree) (s : List ℕ) (n : ℕ) (at : Place) (x₀ : Sheet) (left : ℕ) (p : Place) (c : Counts) (row : List ℕ) (i : Onto doubles_pairs (read_at (many_pairs u v left) s p.0) (c, row) doubles_pairs (read_at (many_pairs u v n) s at.0) x₀) where
  pub pairs_over : left ≤ 0 → Walks doubles_pairs (read_at (many_pairs u v n) s at.0) x₀ (Done p c) row
  unfolding many_pairs doubles_pairs jot_all
  pairs_over z =
      let e : left ≡ 0 = omega arith in
      i.on (Done p c) row
      (went doubles_pairs (read_at (many_pairs u v left) s p.0) (c, row) p c row no_pairs (ap (λ (k : ℕ). read_at (many_pairs u v k) s p.0) e ∙ done_at s p.0 no_pairs) refl)

  module _ (h : 0 < left) (r : Walked) (row' : List ℕ) (w : Walks doubles_pair (read_at (pair_of u v) s p.0) (c, row) r row') where
    pub pairs_broken : (why : ℕ) → r ≡ Refused why → Walks doubles_pairs (read_at (many_pairs u v n) s at.0) x₀ (Refused why) row'
    pairs_broken why g =
        i.on (Refused why) row'
        (lost doubles_pairs _ (c, row) why row'
        (ap (λ (k : ℕ). read_at (many_pairs u v k) s p.0) (pos_suc h) ∙ keyless u v s p.0 (left - 1) why (was_lost doubles_pair _ (c, row) r row' w why g)))

    pub pairs_again : (e : Place) (d : Counts) → r ≡ Done e d → Onto doubles_pairs (read_at (many_pairs u v (left - 1)) s e.0) (d, row') doubles_pairs (read_at (many_pairs u v n) s at.0) x₀
    unfolding doubles_pairs
    pairs_again e d g =
        let t = was_got doubles_pair _ (c, row) r row' w e d g in
        let k = t.0.0 in
        let b = t.0.1 in
        let found = ap (λ (j : ℕ). read_at (many_pairs u v j) s p.0) (pos_suc h) ∙ keyed u v s p.0 (left - 1) t.0 e.0 t.1 in
        record {
          on =
              λ r₁ row₁ o.
              i.on r₁ row₁
              (as_found doubles_pairs _ _ (c, row) r₁ row₁ (sym found)
              (made doubles_pairs doubles_pairs (many_pairs u v (left - 1)) (λ ps. pair k b ps) (doubles_of k ++ doubles_of b) s e.0 (c, row) (λ ps. sym (append_assoc (doubles_of k) (doubles_of b) (doubles_pairs ps))) r₁ row₁
              (subst (λ (f : Sheet). Walks doubles_pairs (read_at (many_pairs u v (left - 1)) s e.0) f r₁ row₁) t.2 o)));
        }

pub kept_twice : (row₀ row row' row'' : List ℕ) → length row ≡ length row₀ → length row' ≡ length row → length row'' ≡ length row' → length row'' ≡ length row₀
kept_twice row₀ row row' row'' e f g = g ∙ f ∙ e

pub ruleset pairs_cases = (pairs_over, pairs_broken, pairs_again, onto_all, kept)

-- walk_struct
sizing_at : {A : Type 0} (p : Reader A) (s : List ℕ) (at : ℕ) (a : A) (e : ℕ) → read_at p s at ≡ got a e → (n : ℕ) × (read_at (sizing p) s at ≡ got (a, n) e)
unfolding read_at sizing
sizing_at p s at a e f =
    let g = found_at at (p (drop at s)) a e f in
    (g.0, ap (λ (x : Found _). placed at (with_size x)) g.1 ∙ ap (got (a, g.0)) g.2)

pub fields_doubles : (fs : List (Entry Tree)) → doubles_fields (fields_of fs) ≡ doubles_in fs
unfolding doubles_fields doubles_in
fields_doubles [] = refl
fields_doubles (f ∷ fs) = ap (λ (l : List ℕ). doubles_of f.what ++ l) (fields_doubles fs)

module _ (s : List ℕ) (lim : TConfiguration) (room : ℕ) where
  abbrev walked : ℤ → ℕ → Found (List (Entry Tree))
  walked last p = read_at (fields val.truth (value_of lim room) last) s p

  stepped : (last : ℤ) (p : ℕ) → walked last p ≡ read_at (and_then (sizing (field last)) (λ h. behind val.truth (value_of lim room) (fields val.truth (value_of lim room)) h.0 h.1)) s p
  unfolding read_at
  stepped last p = ap (λ (x : Found (List (Entry Tree))). placed p x) (fields_step val.truth (value_of lim room) last (drop p s))

  behind_head : (last : ℤ) (p : ℕ) (x : Field) (e : ℕ) (g : read_at (field last) s p ≡ got x e) → walked last p ≡ read_at (behind val.truth (value_of lim room) (fields val.truth (value_of lim room)) x (sizing_at (field last) s p x e g).0) s e
  behind_head last p x e g =
      stepped last p ∙ step (sizing (field last)) _ s p (x, (sizing_at (field last) s p x e g).0) e (sizing_at (field last) s p x e g).1

  module _ (at : Place) (x₀ : Sheet) (last₀ : FieldId) (p₀ : Place) (c₀ : Counts) (row₀ : List ℕ) (i₀ : Onto doubles_in (read_at (fields val.truth (value_of lim room) last₀.0) s p₀.0) (c₀, row₀) doubles_in (read_at (fields val.truth (value_of lim room) (pos 0)) s at.0) x₀) (last : FieldId) (p : Place) (c : Counts) (row : List ℕ) (u : Further s p₀.0 last₀.0 (c₀, row₀) p.0 last.0 (c, row)) (h : FieldHead) (e : h ≡ field_at s last.0 p.0) where
    i : Onto doubles_in (read_at (fields val.truth (value_of lim room) last.0) s p.0) (c, row) doubles_in (read_at (fields val.truth (value_of lim room) (pos 0)) s at.0) x₀
    i = record { on = λ r₁ row₁ o. i₀.on r₁ row₁ (u.on lim room r₁ row₁ o) }

    pub fields_broken : (why : ℕ) → h ≡ F.Refused why → Walks doubles_in (read_at (fields val.truth (value_of lim room) (pos 0)) s at.0) x₀ (Refused why) row
    fields_broken why g =
        i.on (Refused why) row
        (lost doubles_in _ (c, row) why row (stepped last.0 p.0 ∙ stop_at (sizing (field last.0)) _ s p.0 why (sizing_no (field last.0) s p.0 why (head_refused s last.0 p.0 h e why g))))

    pub fields_over : (q : Place) → h ≡ F.Stop q → Walks doubles_in (read_at (fields val.truth (value_of lim room) (pos 0)) s at.0) x₀ (Done q c) row
    unfolding doubles_in jot_all
    fields_over q g =
        i.on (Done q c) row
        (went doubles_in _ (c, row) q c row [] (behind_head last.0 p.0 stop q.0 (head_read s last.0 p.0 h e stop q g) ∙ done_at s q.0 []) refl)

    pub fields_bool : (b : Bool) (id : FieldId) (q : Place) → h ≡ F.Bool b id q → Onto doubles_in (read_at (fields val.truth (value_of lim room) id.0) s q.0) (c, row) doubles_in (read_at (fields val.truth (value_of lim room) (pos 0)) s at.0) x₀
    unfolding doubles_in doubles_of
    fields_bool b id q g =
        record {
          on =
              λ r₁ row₁ o.
              i.on r₁ row₁
              (as_found doubles_in _ _ (c, row) r₁ row₁ (sym (behind_head last.0 p.0 (bool b id.0) q.0 (head_read s last.0 p.0 h e (bool b id.0) q g)))
              (made_alone doubles_in doubles_in (fields val.truth (value_of lim room) id.0) _ s q.0 (c, row) (λ fs. refl) r₁ row₁ o));
        }

    module _ (t : TType) (id : FieldId) (m : Place) (g : h ≡ F.Value t id m) (r : Walked) (row' : List ℕ) (w : Walks doubles_of (read_at (value_of lim room t) s m.0) (c, row) r row') where
      value_head : read_at (field last.0) s p.0 ≡ got (value t id.0) m.0
      value_head = head_read s last.0 p.0 h e (value t id.0) m g

      pub fields_cut : (why : ℕ) → r ≡ Refused why → Walks doubles_in (read_at (fields val.truth (value_of lim room) (pos 0)) s at.0) x₀ (Refused why) row'
      fields_cut why y =
          i.on (Refused why) row'
          (lost doubles_in _ (c, row) why row'
          (behind_head last.0 p.0 (value t id.0) m.0 value_head
          ∙ stop_at (sizing (value_of lim room t)) _ s m.0 why (sizing_no (value_of lim room t) s m.0 why (was_lost doubles_of _ (c, row) r row' w why y))))

      module _ (q : Place) (d : Counts) (y : r ≡ Done q d) where
        the_value : (a : Tree) × (read_at (value_of lim room t) s m.0 ≡ got a q.0) × ((d, row') ≡ jot_all (doubles_of a) (c, row))
        the_value = was_got doubles_of _ (c, row) r row' w q d y

        pub fields_value : Onto doubles_in (read_at (fields val.truth (value_of lim room) id.0) s q.0) (d, row') doubles_in (read_at (fields val.truth (value_of lim room) (pos 0)) s at.0) x₀
        unfolding doubles_in
        fields_value =
            let v = the_value in
            let z = sizing_at (value_of lim room t) s m.0 v.0 q.0 v.1 in
            record {
              on =
                  λ r₁ row₁ o.
                  i.on r₁ row₁
                  (as_found doubles_in _ _ (c, row) r₁ row₁
                  (sym (behind_head last.0 p.0 (value t id.0) m.0 value_head ∙ step (sizing (value_of lim room t)) _ s m.0 (v.0, z.0) q.0 z.1))
                  (made doubles_in doubles_in (fields val.truth (value_of lim room) id.0) _ (doubles_of v.0) s q.0 (c, row) (λ fs. refl) r₁ row₁
                  (subst (λ (f : Sheet). Walks doubles_in (read_at (fields val.truth (value_of lim room) id.0) s q.0) f r₁ row₁) v.2 o)));
            }

pub ruleset struct_cases = (fields_broken, fields_over, fields_bool, fields_cut, fields_value, onto_all, kept, kept_twice)

pub bool_fewer : (s : List ℕ) (last₀ : FieldId) (p₀ : Place) (x y : Sheet) (last : FieldId) (p : Place) → Further s p₀.0 last₀.0 x p.0 last.0 y → (h : FieldHead) → h ≡ field_at s last.0 p.0 → (b : Bool) (id : FieldId) (q : Place) → h ≡ F.Bool b id q → length s - q.0 < length s - p₀.0
bool_fewer s last₀ p₀ x y last p u h e b id q g =
    let i = head_later s last.0 p.0 _ q.0 (head_read s last.0 p.0 h e (bool b id.0) q g) in omega (arith, u.later)

pub value_fewer : (s : List ℕ) (lim : TConfiguration) (room : ℕ) (last₀ : FieldId) (p₀ : Place) (x y : Sheet) (last : FieldId) (p : Place) → Further s p₀.0 last₀.0 x p.0 last.0 y → (h : FieldHead) → h ≡ field_at s last.0 p.0 → (t : TType) (id : FieldId) (m : Place) → h ≡ F.Value t id m → (r : Walked) (row : List ℕ) → Walks doubles_of (read_at (value_of lim room t) s m.0) y r row → (q : Place) (d : Counts) → r ≡ Done q d → length s - q.0 < length s - p₀.0
value_fewer s lim room last₀ p₀ x y last p u h e t id m g r row w q d z =
    let v = was_got doubles_of _ y r row w q d z in
    let a = head_later s last.0 p.0 _ m.0 (head_read s last.0 p.0 h e (value t id.0) m g) in
    let b = read_inside _ (value_lawful lim room t) s m.0 v.0 q.0 v.1 in
    omega (arith, u.later, a.0, a.1, b.0, b.1 a.1)

pub ruleset struct_less = (value_fewer, bool_fewer)

double_code : field_type 7 ≡ FT.Kind T.Double
unfolding field_type type_by_number
double_code = refl

abbrev no_limits_lem : TConfiguration
no_limits_lem = record { depth = 0; string = 0; container = 0; message = 0 }

-- walk_field: a double with a short header
module _ (s : List ℕ) (last : ℤ) (p : ℕ) (i : p < length s) (hl : SFits w16 last) (hd : get_or s p 0 / 16 < 16) (d : get_or s p 0 / 16 ≡ 0 → ⊥) (b : get_or s p 0 % 16 ≡ 7) (t : lt_z (pos 32767) (to_z w32 (of_z w32 (code_sum last (get_or s p 0 / 16)))) ≡ false) (z : ℤ) (k : z ≡ to_z w32 (of_z w32 (code_sum last (get_or s p 0 / 16)))) where
  abbrev next : ℤ
  next = last +ℤ pos (get_or s p 0 / 16)

  id_so : next ≡ z
  id_so = sym (k ∙ id_is last (get_or s p 0 / 16) hl hd)

  the_id : read_at (field_id last (get_or s p 0 / 16)) s (p + 1) ≡ got next (p + 1)
  unfolding field_id
  the_id = rw (ne_eqb (get_or s p 0 / 16) 0 d, rw (id_is last (get_or s p 0 / 16) hl hd) at t) (done_at s _ _)

  short_head : read_at (field last) s p ≡ got (value T.Double z) (p + 1)
  unfolding field
  short_head =
      step _ _ s p _ _ (byte_at s p i)
      ∙ ap (λ (x : FieldType). read_at (of_type last (get_or s p 0 / 16) x) s (p + 1)) (ap field_type b ∙ double_code)
      ∙ step _ _ s (p + 1) _ _ the_id ∙ done_at s _ _ ∙ ap (λ (y : ℤ). got (value T.Double y) (p + 1)) id_so

  module _ (c : Counts) (row : List ℕ) (h : DoubleRead) (e : h ≡ double_at s (p + 1)) (n : ℕ) (q : Place) (g : h ≡ D.Got n q) (c' : Counts) (row' : List ℕ) (j : (c', row') ≡ jotted (c, row) n) where
    number_read : read_at double s (p + 1) ≡ got n q.0
    unfolding double_at
    number_read = is_double_read (read_at double s (p + 1)) n q (sym e ∙ g)

    value_read : (lim : TConfiguration) (room : ℕ) → read_at (value_of lim room T.Double) s (p + 1) ≡ got (val.double n) q.0
    value_read lim room = ap (λ (v : Reader Tree). read_at v s (p + 1)) (double_flat lim room) ∙ step double _ s (p + 1) n q.0 number_read ∙ done_at s q.0 (val.double n)

    pub run_double : Further s p last (c, row) q.0 z (c', row')
    unfolding doubles_in doubles_of jot_all
    run_double =
        record {
          later = let b = read_inside _ (value_lawful no_limits_lem 0 T.Double) s (p + 1) _ q.0 (value_read no_limits_lem 0) in omega (arith, b.0);
          on =
              λ lim room r₁ row₁ o.
              let y = sizing_at (value_of lim room T.Double) s (p + 1) (val.double n) q.0 (value_read lim room) in
              as_found doubles_in _ _ (c, row) r₁ row₁
              (sym (behind_head s lim room last p (value T.Double z) (p + 1) short_head ∙ step (sizing (value_of lim room T.Double)) _ s (p + 1) (val.double n, y.0) q.0 y.1))
              (made doubles_in doubles_in (fields val.truth (value_of lim room) z) _ (n ∷ []) s q.0 (c, row) (λ fs. refl) r₁ row₁
              (subst (λ (f : Sheet). Walks doubles_in (read_at (fields val.truth (value_of lim room) z) s q.0) f r₁ row₁) j o));
        }

pub run_nowhere : (s : List ℕ) (at : ℕ) (last : ℤ) (x : Sheet) → Further s at last x at last x
run_nowhere s at last x = record { later = omega arith; on = λ lim room r row o. o }

pub ruleset run_cases = (high_four, delta_wide, id_wide, id_fits, id_back, run_double, run_nowhere, to_z-of_z, sfits_of)

-- walk_run
pub run_further : (s : List ℕ) (at : ℕ) (last : ℤ) (x : Sheet) (p : ℕ) (id : ℤ) (y : Sheet) (q : ℕ) (z : ℤ) (w : Sheet) → Further s at last x p id y → Further s p id y q z w → Further s at last x q z w
run_further s at last x p id y q z w a b =
    record { later = omega (arith, a.later, b.later); on = λ lim room r row o. a.on lim room r row (b.on lim room r row o) }

pub ruleset runs_cases = (run_further, run_nowhere, kept)

-- walk_value
module _ (s : List ℕ) (lim : TConfiguration) (room : ℕ) (kind : TType) (at : ℕ) (c : Counts) (row : List ℕ) (d : Bool) (k : d ≡ is_double kind) (r : Walked) where
  pub value_double : (row' : List ℕ) → d ≡ true → Walks doubles_of (read_at double_tree s at) (c, row) r row' → Walks doubles_of (read_at (value_of lim room kind) s at) (c, row) r row'
  value_double row' e w = subst (λ (u : Reader Tree). Walks doubles_of (read_at u s at) (c, row) r row') (as_double_lem lim room kind (sym k ∙ e)) w

  module _ (e : d ≡ false) where
    pub value_flat : room ≡ 0 → r ≡ passed_by c (skip_of s lim 0 kind at) → Walks doubles_of (read_at (value_of lim room kind) s at) (c, row) r row
    unfolding skip_of
    value_flat z q =
        subst (λ (n : ℕ). Walks doubles_of (read_at (value_of lim n kind) s at) (c, row) r row) (sym z)
        (past_walks (value_of lim 0 kind) s at c row r q (none_flat lim kind (sym k ∙ e) s at))

    pub value_bare : (t : TType) → kind ≡ t → bare t ≡ true → r ≡ passed_by c (skip_of s lim room kind at) → Walks doubles_of (read_at (value_of lim room kind) s at) (c, row) r row
    unfolding skip_of
    value_bare t y b q = past_walks (value_of lim room kind) s at c row r q (none_bare lim room kind (ap bare y ∙ b) s at)

    pub value_neither : kind ≡ T.Double → Walks doubles_of (read_at (value_of lim room kind) s at) (c, row) r row
    value_neither y = no_truth (sym (sym e ∙ k ∙ ap is_double y))

    module _ (z : room ≡ 0 → ⊥) (row' : List ℕ) where
      some_room : suc (room - 1) ≡ room
      some_room = omega arith

      pub value_list : kind ≡ T.List → Walks doubles_of (read_at (value_of lim room T.List) s at) (c, row) r row' → Walks doubles_of (read_at (value_of lim room kind) s at) (c, row) r row'
      value_list y w = subst (λ (t : TType). Walks doubles_of (read_at (value_of lim room t) s at) (c, row) r row') (sym y) w

      pub value_set : kind ≡ T.Set → Walks doubles_of (read_at (value_of lim room T.List) s at) (c, row) r row' → Walks doubles_of (read_at (value_of lim room kind) s at) (c, row) r row'
      value_set y w =
          subst (λ (t : TType). Walks doubles_of (read_at (value_of lim room t) s at) (c, row) r row') (sym y)
          (subst (λ (n : ℕ). Walks doubles_of (read_at (value_of lim n T.Set) s at) (c, row) r row') some_room
          (set_walks s lim (room - 1) at (c, row) r row' (subst (λ (n : ℕ). Walks doubles_of (read_at (value_of lim n T.List) s at) (c, row) r row') (sym some_room) w)))

      pub value_map : kind ≡ T.Map → Walks doubles_of (read_at (value_of lim room T.Map) s at) (c, row) r row' → Walks doubles_of (read_at (value_of lim room kind) s at) (c, row) r row'
      value_map y w = subst (λ (t : TType). Walks doubles_of (read_at (value_of lim room t) s at) (c, row) r row') (sym y) w

      pub value_struct : kind ≡ T.Struct → Walks doubles_in (read_at (fields val.truth (value_of lim (room - 1)) (pos 0)) s at) (c, row) r row' → Walks doubles_of (read_at (value_of lim room kind) s at) (c, row) r row'
      unfolding value_of doubles_of
      value_struct y w =
          subst (λ (t : TType). Walks doubles_of (read_at (value_of lim room t) s at) (c, row) r row') (sym y)
          (subst (λ (n : ℕ). Walks doubles_of (read_at (value_of lim n T.Struct) s at) (c, row) r row') some_room
          (made_alone doubles_in doubles_of (fields val.truth (value_of lim (room - 1)) (pos 0)) (λ fs. val.struct (fields_of fs)) s at (c, row) fields_doubles r row' w))

pub ruleset value_cases = (value_double, value_flat, value_bare, value_neither, value_list, value_set, value_map, value_struct)
