-- A value has no more doubles than bytes. Assumes nothing.
use Rattle.std.proofs.Common.{◌≡◌, ℕ, zero, suc, ◌+◌, ◌≤◌, Bool, true, false, cond, leb, List, [], ◌++◌, length, take, drop, ℤ, pos, sym, refl, ap, ◌∙◌, arith, length-append}
use Rattle.types.specs.Refusals.{END, BAD_TYPE}
use Rattle.types.specs.declared.TType.{TType}
use Rattle.types.specs.declared.TType.TheVariants as T
use Rattle.types.specs.declared.TConfiguration.{TConfiguration}
use Rattle.types.specs.Value as val
use Rattle.types.specs.Value.{Tree, Trees, no_trees, tree, Pairs, no_pairs, pair}
use Rattle.numbers.specs.Varint.{got, refused, placed}
use Rattle.heads.specs.Reader.{Reader, done, and_then, provided, some, read_at}
use Rattle.heads.specs.Heads.{double, items_head, pairs_head, Field, stop, bool, value, field}
use Rattle.heads.proofs.Lawful.{not_both}
use Rattle.heads.proofs.Steps.{found_at, done_at, refuse_at, split}
use Rattle.skip.specs.Walk.{Entry, with_size, sizing, behind, walk, fields}
use Rattle.skip.specs.Value.{many, many_pairs, fields_of, startable, value_of}
use Rattle.skip.specs.Leaves.{is_leaf}
use Rattle.skip.proofs.Walks.{sized}
use Rattle.skip.proofs.Leaf.{flat}
use Rattle.doubles.specs.Doubles.{doubles_of, doubles_all, doubles_pairs}
use Rattle.doubles.specs.Walked.{is_double, double_tree, doubles_in}
use Rattle.doubles.proofs.Cases.{none_flat, as_double_lem, was_provided, fields_doubles}

pub later : {A : Type 0} (p : Reader A) (s : List ℕ) (at : ℕ) (a : A) (e : ℕ) → read_at p s at ≡ got a e → at ≤ e
unfolding read_at
later p s at a e f = let g = found_at at (p (drop at s)) a e f in omega (arith, g.2)

-- for no byte
ends_here : {A : Type 0} (s : List ℕ) (at : ℕ) (b a : A) (e : ℕ) → read_at (done b) s at ≡ got a e → (b ≡ a) × (at ≡ e)
ends_here s at b a e f = let y : got b at ≡ got a e = sym (done_at s at b) ∙ f in (cc, cc)

eight : (bs : List ℕ) (b : Bool) (xs : List ℕ) (n : ℕ) → cond b (got (take 8 bs) 8) (refused END) ≡ got xs n → 8 ≤ n
eight bs true xs n f = let e : ◌≡◌ {A = ℕ} 8 n = cc in omega (arith, e)
eight bs false xs n f = not_both f

takes_eight : (s : List ℕ) (at : ℕ) (xs : List ℕ) (e : ℕ) → read_at (some 8) s at ≡ got xs e → at + 8 ≤ e
unfolding read_at some
takes_eight s at xs e f = let g = found_at at _ xs e f in let h = eight (drop at s) (leb 8 (length (drop at s))) xs g.0 g.1 in omega (arith, g.2)

few_double : (s : List ℕ) (at : ℕ) (t : Tree) (e : ℕ) → read_at double_tree s at ≡ got t e → at + length (doubles_of t) ≤ e
unfolding double doubles_of
few_double s at t e f =
    let x = split double (λ n. done (val.double n)) s at t e f in
    let y = split (some 8) _ s at x.0 x.1 x.2 in
    let i = takes_eight s at y.0 y.1 y.2 in
    let j = later _ s y.1 x.0 x.1 y.3 in
    let z = ends_here s x.1 (val.double x.0) t e x.3 in
    let o : length (doubles_of t) ≡ 1 = ap (λ (u : Tree). length (doubles_of u)) (sym z.0) in
    omega (arith, i, j, z.1, o)

abbrev pub Few : Reader Tree → Type 0
Few p = (s : List ℕ) (at : ℕ) (t : Tree) (e : ℕ) → read_at p s at ≡ got t e → at + length (doubles_of t) ≤ e

few_many : (p : Reader Tree) → Few p → (n : ℕ) (s : List ℕ) (at : ℕ) (ts : Trees) (e : ℕ) → read_at (many p n) s at ≡ got ts e → at + length (doubles_all ts) ≤ e
unfolding many doubles_all
few_many p h zero s at ts e f =
    let z = ends_here s at no_trees ts e f in
    let o : length (doubles_all ts) ≡ 0 = ap (λ (u : Trees). length (doubles_all u)) (sym z.0) in
    omega (arith, z.1, o)
few_many p h (suc n) s at ts e f =
    let x = split p _ s at ts e f in
    let y = split (many p n) _ s x.1 ts e x.3 in
    let z = ends_here s y.1 (tree x.0 y.0) ts e y.3 in
    let o : length (doubles_all ts) ≡ length (doubles_of x.0 ++ doubles_all y.0) = ap (λ (u : Trees). length (doubles_all u)) (sym z.0) in
    omega (arith, h s at x.0 x.1 x.2, few_many p h n s x.1 y.0 y.1 y.2, o, length-append (doubles_of x.0) (doubles_all y.0), z.1)

few_pairs : (p q : Reader Tree) → Few p → Few q → (n : ℕ) (s : List ℕ) (at : ℕ) (ps : Pairs) (e : ℕ) → read_at (many_pairs p q n) s at ≡ got ps e → at + length (doubles_pairs ps) ≤ e
unfolding many_pairs doubles_pairs
few_pairs p q h i zero s at ps e f =
    let z = ends_here s at no_pairs ps e f in
    let o : length (doubles_pairs ps) ≡ 0 = ap (λ (u : Pairs). length (doubles_pairs u)) (sym z.0) in
    omega (arith, z.1, o)
few_pairs p q h i (suc n) s at ps e f =
    let x = split p _ s at ps e f in
    let v = split q _ s x.1 ps e x.3 in
    let y = split (many_pairs p q n) _ s v.1 ps e v.3 in
    let z = ends_here s y.1 (pair x.0 v.0 y.0) ps e y.3 in
    let o : length (doubles_pairs ps) ≡ length (doubles_of x.0 ++ (doubles_of v.0 ++ doubles_pairs y.0)) = ap (λ (u : Pairs). length (doubles_pairs u)) (sym z.0) in
    omega (
      arith,
      h s at x.0 x.1 x.2,
      i s x.1 v.0 v.1 v.2,
      few_pairs p q h i n s v.1 y.0 y.1 y.2,
      o,
      length-append (doubles_of x.0) (doubles_of v.0 ++ doubles_pairs y.0),
      length-append (doubles_of v.0) (doubles_pairs y.0),
      z.1,
    )

unsized : {A : Type 0} (p : Reader A) (s : List ℕ) (at : ℕ) (v : A × ℕ) (e : ℕ) → read_at (sizing p) s at ≡ got v e → read_at p s at ≡ got v.0 e
unfolding read_at sizing
unsized p s at v e f =
    let g = found_at at (with_size (p (drop at s))) v e f in
    ap (placed at) (sized (p (drop at s)) v g.0 g.1) ∙ ap (got v.0) g.2

few_walk : (f : TType → Reader Tree) → ((t : TType) → Few (f t)) → (k : ℕ) (last : ℤ) (s : List ℕ) (at : ℕ) (fs : List (Entry Tree)) (e : ℕ) → read_at (walk val.truth f k last) s at ≡ got fs e → at + length (doubles_in fs) ≤ e
unfolding walk doubles_in doubles_of
few_walk f h zero last s at fs e g = not_both (sym (refuse_at s at END) ∙ g)
few_walk f h (suc k) last s at fs e g =
    let x = split (sizing (field last)) (λ a. behind val.truth f (walk val.truth f k) a.0 a.1) s at fs e g in
    let i = later _ s at x.0 x.1 x.2 in
    go (λ id m gs d q. few_walk f h k id s m gs d q) x.0.0 x.0.1 x.1 i x.3
  where
    go : ((id : ℤ) (m : ℕ) (gs : List (Entry Tree)) (d : ℕ) → read_at (walk val.truth f k id) s m ≡ got gs d → m + length (doubles_in gs) ≤ d) → (y : Field) (n m : ℕ) → at ≤ m → read_at (behind val.truth f (walk val.truth f k) y n) s m ≡ got fs e → at + length (doubles_in fs) ≤ e
    go ih stop n m i q =
        let z = ends_here s m [] fs e q in
        let o : length (doubles_in fs) ≡ 0 = ap (λ (u : List (Entry Tree)). length (doubles_in u)) (sym z.0) in
        omega (arith, i, z.1, o)
    go ih (bool b id) n m i q =
        let y = split (walk val.truth f k id) _ s m fs e q in
        let z = ends_here s y.1 _ fs e y.3 in
        let o : length (doubles_in fs) ≡ length (doubles_in y.0) = ap (λ (u : List (Entry Tree)). length (doubles_in u)) (sym z.0) in
        omega (arith, i, ih id m y.0 y.1 y.2, o, z.1)
    go ih (value t id) n m i q =
        let v = split (sizing (f t)) _ s m fs e q in
        let w = h t s m v.0.0 v.1 (unsized (f t) s m v.0 v.1 v.2) in
        let y = split (walk val.truth f k id) _ s v.1 fs e v.3 in
        let z = ends_here s y.1 _ fs e y.3 in
        let o : length (doubles_in fs) ≡ length (doubles_of v.0.0 ++ doubles_in y.0) = ap (λ (u : List (Entry Tree)). length (doubles_in u)) (sym z.0) in
        omega (arith, i, w, ih id v.1 y.0 y.1 y.2, o, length-append (doubles_of v.0.0) (doubles_in y.0), z.1)

few_fields : (f : TType → Reader Tree) → ((t : TType) → Few (f t)) → (s : List ℕ) (at : ℕ) (fs : List (Entry Tree)) (e : ℕ) → read_at (fields val.truth f (pos 0)) s at ≡ got fs e → at + length (doubles_in fs) ≤ e
unfolding read_at fields
few_fields f h s at fs e g = few_walk f h (length (drop at s)) (pos 0) s at fs e g

-- a value that holds no other
few_flat : (lim : TConfiguration) (t : TType) → Few (value_of lim 0 t)
few_flat lim t = go (is_double t) refl
  where
    go : (b : Bool) → is_double t ≡ b → Few (value_of lim 0 t)
    go true k = λ s at v m f. few_double s at v m (ap (λ (p : Reader Tree). read_at p s at) (as_double_lem lim 0 t k) ∙ f)
    go false k = λ s at v m f. let o : length (doubles_of v) ≡ 0 = ap length (none_flat lim t k s at v m f) in omega (arith, later _ s at v m f, o)

few_leaf : (lim : TConfiguration) (room : ℕ) (t : TType) → is_leaf t ≡ true → Few (value_of lim room t)
few_leaf lim room t l = λ s at v m f. few_flat lim t s at v m (ap (λ (p : Reader Tree). read_at p s at) (sym (flat lim room t l)) ∙ f)

-- behind a header
few_behind : {A : Type 0} (p : Reader A) (g : A → Tree) (of : A → List ℕ) → ((a : A) → doubles_of (g a) ≡ of a) → (s : List ℕ) (at m : ℕ) → at ≤ m → ((a : A) (e : ℕ) → read_at p s m ≡ got a e → m + length (of a) ≤ e) → (t : Tree) (e : ℕ) → read_at (and_then p (λ a. done (g a))) s m ≡ got t e → at + length (doubles_of t) ≤ e
few_behind p g of h s at m i few t e f =
    let x = split p (λ a. done (g a)) s m t e f in
    let z = ends_here s x.1 (g x.0) t e x.3 in
    let o : length (doubles_of t) ≡ length (of x.0) = ap (λ (u : Tree). length (doubles_of u)) (sym z.0) ∙ ap length (h x.0) in
    omega (arith, i, few x.0 x.1 x.2, o, z.1)

module _ (lim : TConfiguration) (room : ℕ) (ih : (t : TType) → Few (value_of lim room t)) (s : List ℕ) (at : ℕ) where
  few_items : (g : TType → Trees → Tree) → ((t : TType) (ts : Trees) → doubles_of (g t ts) ≡ doubles_all ts) → (v : Tree) (e : ℕ) → read_at (and_then (items_head lim) (λ h. provided (startable h.0 h.1) BAD_TYPE (and_then (many (value_of lim room h.0) h.1) (λ ts. done (g h.0 ts))))) s at ≡ got v e → at + length (doubles_of v) ≤ e
  few_items g d v e f =
      let x = split (items_head lim) _ s at v e f in
      few_behind (many (value_of lim room x.0.0) x.0.1) (g x.0.0) doubles_all (d x.0.0) s at x.1 (later _ s at x.0 x.1 x.2) (few_many (value_of lim room x.0.0) (ih x.0.0) x.0.1 s x.1) v e
      (was_provided _ BAD_TYPE _ s x.1 v e x.3)

  few_map : (v : Tree) (e : ℕ) → read_at (value_of lim (suc room) T.Map) s at ≡ got v e → at + length (doubles_of v) ≤ e
  unfolding value_of doubles_of
  few_map v e f =
      let x = split (pairs_head lim) _ s at v e f in
      few_behind (many_pairs (value_of lim room x.0.0) (value_of lim room x.0.1) x.0.2) (val.map x.0.0 x.0.1) doubles_pairs (λ ps. refl) s at x.1 (later _ s at x.0 x.1 x.2)
      (few_pairs (value_of lim room x.0.0) (value_of lim room x.0.1) (ih x.0.0) (ih x.0.1) x.0.2 s x.1) v e
      (was_provided _ BAD_TYPE _ s x.1 v e (was_provided _ BAD_TYPE _ s x.1 v e x.3))

  few_struct : (v : Tree) (e : ℕ) → read_at (value_of lim (suc room) T.Struct) s at ≡ got v e → at + length (doubles_of v) ≤ e
  unfolding value_of doubles_of
  few_struct v e f = few_behind (fields val.truth (value_of lim room) (pos 0)) (λ fs. val.struct (fields_of fs)) doubles_in fields_doubles s at at (omega arith) (few_fields (value_of lim room) ih s at) v e f

pub few : (lim : TConfiguration) (room : ℕ) (t : TType) → Few (value_of lim room t)
unfolding value_of doubles_of
few lim zero t = few_flat lim t
few lim (suc room) T.Stop = few_leaf lim (suc room) T.Stop refl
few lim (suc room) T.Bool = few_leaf lim (suc room) T.Bool refl
few lim (suc room) T.I08 = few_leaf lim (suc room) T.I08 refl
few lim (suc room) T.I16 = few_leaf lim (suc room) T.I16 refl
few lim (suc room) T.I32 = few_leaf lim (suc room) T.I32 refl
few lim (suc room) T.I64 = few_leaf lim (suc room) T.I64 refl
few lim (suc room) T.Double = few_leaf lim (suc room) T.Double refl
few lim (suc room) T.String = few_leaf lim (suc room) T.String refl
few lim (suc room) T.List = λ s at v e f. few_items lim room (few lim room) s at val.list (λ t ts. refl) v e f
few lim (suc room) T.Set = λ s at v e f. few_items lim room (few lim room) s at val.set (λ t ts. refl) v e f
few lim (suc room) T.Map = few_map lim room (few lim room)
few lim (suc room) T.Struct = few_struct lim room (few lim room)
few lim (suc room) T.Uuid = few_leaf lim (suc room) T.Uuid refl
