-- Skip of the values that hold others: what the code knows at each return and at each turn of its loops. Assumes nothing.
use mathlib.Core.Path.{◌≡◌, refl, sym, ap, ap₂, ◌∙◌}
use mathlib.Core.Bool.{Bool, true, false}
use mathlib.Core.List.{List, []}
use Prim.Native.Nat.{ℕ, zero, suc, ◌-◌, ◌*◌, ◌≤◌, ◌<◌}
use native.Mathlib.Omega.{arith}
use lib.ListN.{length, drop, length-drop}
use lib.IntN.{ℤ, pos}
use Rattle.types.specs.Refusals.{BAD_TYPE}
use Rattle.types.specs.declared.Place.{Place}
use Rattle.types.specs.declared.FieldId.{FieldId}
use Rattle.types.specs.declared.TType.{TType}
use Rattle.types.specs.declared.TType.TheVariants as T
use Rattle.types.specs.declared.TConfiguration.{TConfiguration}
use Rattle.types.specs.Value as val
use Rattle.types.specs.Value.{Tree, Trees, Pairs}
use Rattle.numbers.specs.Varint.{Found, got, refused, placed}
use Rattle.heads.specs.Reader.{Reader, done, and_then, provided, some, read_at}
use Rattle.heads.specs.Heads.{Field, stop, bool, value}
use Rattle.heads.specs.Answers.{place, id_of, to_list, to_map, to_field}
use Rattle.heads.specs.declared.ListHead.{ListHead}
use Rattle.heads.specs.declared.ListHead.TheVariants as L
use Rattle.heads.specs.declared.MapHead.{MapHead}
use Rattle.heads.specs.declared.MapHead.TheVariants as M
use Rattle.heads.specs.declared.FieldHead.{FieldHead}
use Rattle.heads.specs.declared.FieldHead.TheVariants as F
use Rattle.heads.proofs.Lawful.{Lawful}
use Rattle.heads.proofs.Steps.{found_at, lost_at}
use Rattle.skip.specs.Walk.{Entry, with_size, sizing, behind}
use Rattle.skip.specs.Value.{many, many_pairs, startable}
use Rattle.skip.specs.Skip.{passed, past}
use Rattle.skip.specs.Leaves.{is_leaf}
use Rattle.skip.specs.declared.Skipped.{Skipped}
use Rattle.skip.specs.declared.Skipped.TheVariants.{Done, Refused}
use Rattle.skip.proofs.Past.{read_past, refused_past, past_step, past_stop, past_made, past_yes, past_not, past_done, pos_suc}
use Rattle.binary_codes.specs.Codes.{least_size}
use Rattle.protocols.specs.Words.{items_head, pairs_head}
use Rattle.protocols.specs.Value.{walk_by, fields_by, roomy_by, value_by}
use Rattle.protocols.specs.Answers.{items_head_at, pairs_head_at, field_at, skip_by}
use Rattle.protocols.proofs.Walks.{fields_step}
use Rattle.protocols.proofs.Complete.{flat}
use Rattle.protocols.proofs.Lawfuls.{value_lawful}
use Rattle.binary_heads.specs.Words.{binary}
use Rattle.binary_heads.proofs.Owes.{binary_owes}
use Rattle.binary_skip.specs.Sizes.{is_fixed}
use Rattle.binary_skip.proofs.Leaf.{many_fixed}

-- behind a list's header, whatever is made of the elements
elements_same : (s : List ℕ) (lim : TConfiguration) (room : ℕ) (t : TType) (n e : ℕ) (ok : Bool) (g h : Trees → Tree) → past (provided ok BAD_TYPE (and_then (many (value_by binary lim room t) n) (λ ts. done (g ts)))) s e ≡ past (provided ok BAD_TYPE (and_then (many (value_by binary lim room t) n) (λ ts. done (h ts)))) s e
elements_same s lim room t n e true g h =
    past_yes true BAD_TYPE _ s e refl ∙ past_made (many (value_by binary lim room t) n) g s e ∙ sym (past_yes true BAD_TYPE _ s e refl ∙ past_made (many (value_by binary lim room t) n) h s e)
elements_same s lim room t n e false g h = past_not false BAD_TYPE _ s e refl ∙ sym (past_not false BAD_TYPE _ s e refl)

-- a set is passed over as a list is
pub set_list : (s : List ℕ) (lim : TConfiguration) (room at : ℕ) → skip_by binary s lim (suc room) T.Set at ≡ skip_by binary s lim (suc room) T.List at
unfolding skip_by value_by
set_list s lim room at = go (past (items_head binary lim) s at) refl
  where
    go : (x : Skipped) → past (items_head binary lim) s at ≡ x → past (roomy_by binary lim (value_by binary lim room)).set s at ≡ past (roomy_by binary lim (value_by binary lim room)).list s at
    go (Done e) f =
        let h = read_past (items_head binary lim) s at e f in
        past_step (items_head binary lim) _ s at h.0 e.0 h.1
        ∙ elements_same s lim room h.0.0 h.0.1 e.0 (startable h.0.0 h.0.1) (val.set h.0.0) (val.list h.0.0)
        ∙ sym (past_step (items_head binary lim) _ s at h.0 e.0 h.1)
    go (Refused why) f =
        past_stop (items_head binary lim) _ s at why (refused_past (items_head binary lim) s at why f) ∙ sym (past_stop (items_head binary lim) _ s at why (refused_past (items_head binary lim) s at why f))

-- skip_value
module _ (s : List ℕ) (lim : TConfiguration) (room : ℕ) (kind : TType) (at : ℕ) (r : Skipped) where
  pub value_none : room ≡ 0 → r ≡ skip_by binary s lim 0 kind at → r ≡ skip_by binary s lim room kind at
  value_none z e = rw z e

  pub value_leaf : (t : TType) → kind ≡ t → is_leaf t ≡ true → r ≡ skip_by binary s lim 0 kind at → r ≡ skip_by binary s lim room kind at
  unfolding skip_by
  value_leaf t k l e = e ∙ sym (ap (λ (p : Reader Tree). past p s at) (flat binary lim room kind (rw k l)))

  module _ (z : room ≡ 0 → ⊥) where
    some_room : suc (room - 1) ≡ room
    some_room = omega arith

    entered : (t : TType) → kind ≡ t → r ≡ skip_by binary s lim (suc (room - 1)) t at → r ≡ skip_by binary s lim room kind at
    entered t k e = e ∙ ap₂ (λ (m : ℕ) (u : TType). skip_by binary s lim m u at) some_room (sym k)

    pub value_list : kind ≡ T.List → r ≡ skip_by binary s lim (suc (room - 1)) T.List at → r ≡ skip_by binary s lim room kind at
    value_list k e = entered T.List k e

    pub value_set : kind ≡ T.Set → r ≡ skip_by binary s lim (suc (room - 1)) T.List at → r ≡ skip_by binary s lim room kind at
    value_set k e = entered T.Set k (e ∙ sym (set_list s lim (room - 1) at))

    pub value_map : kind ≡ T.Map → r ≡ skip_by binary s lim (suc (room - 1)) T.Map at → r ≡ skip_by binary s lim room kind at
    value_map k e = entered T.Map k e

    pub value_struct : kind ≡ T.Struct → r ≡ skip_by binary s lim (suc (room - 1)) T.Struct at → r ≡ skip_by binary s lim room kind at
    value_struct k e = entered T.Struct k e

pub ruleset value_cases = (value_none, value_leaf, value_list, value_set, value_map, value_struct)

-- one value of so many passed over
module _ (s : List ℕ) (lim : TConfiguration) (room : ℕ) (kind : TType) (left p : ℕ) where
  pub many_end : left ≤ 0 → Done (place p) ≡ past (many (value_by binary lim room kind) left) s p
  unfolding many
  many_end z = let e : left ≡ 0 = omega arith in rw e (sym (past_done _ s p))

  module _ (h : 0 < left) (r : Skipped) (f : r ≡ skip_by binary s lim room kind p) where
    pub many_next : (e : Place) → r ≡ Done e → past (many (value_by binary lim room kind) (left - 1)) s e.0 ≡ past (many (value_by binary lim room kind) left) s p
    unfolding many skip_by
    many_next e g =
        let v = read_past (value_by binary lim room kind) s p e (sym f ∙ g) in
        sym (ap (λ (k : ℕ). past (many (value_by binary lim room kind) k) s p) (pos_suc h)
        ∙ past_step (value_by binary lim room kind) _ s p v.0 e.0 v.1
        ∙ past_made (many (value_by binary lim room kind) (left - 1)) _ s e.0)

    pub many_no : (why : ℕ) → r ≡ Refused why → Refused why ≡ past (many (value_by binary lim room kind) left) s p
    unfolding many skip_by
    many_no why g =
        sym (ap (λ (k : ℕ). past (many (value_by binary lim room kind) k) s p) (pos_suc h)
        ∙ past_stop (value_by binary lim room kind) _ s p why (refused_past (value_by binary lim room kind) s p why (sym f ∙ g)))

-- skip_list
is_items : (x : Found (TType × ℕ)) (t : TType) (n : ℕ) (p : Place) → to_list x ≡ L.Got t n p → (h : TType × ℕ) × (x ≡ got h p.0) × (h.0 ≡ t) × (h.1 ≡ n)
is_items (got h e) t n p f =
    let a : h.0 ≡ t = cc in
    let b : h.1 ≡ n = cc in
    let q : place e ≡ p = cc in
    (h, ap (got h) (ap (λ (y : Place). y.0) q), a, b)
is_items (refused why) t n p f = let z : ◌≡◌ {A = ℕ} 0 1 = cc in absurd (omega arith)

no_items : (x : Found (TType × ℕ)) (why : ℕ) → to_list x ≡ L.Refused why → x ≡ refused why
no_items (got h e) why f = let z : ◌≡◌ {A = ℕ} 0 1 = cc in absurd (omega arith)
no_items (refused y) why f = let q : y ≡ why = cc in ap refused q

module _ (s : List ℕ) (lim : TConfiguration) (room at : ℕ) (h : ListHead) (e : h ≡ items_head_at binary s lim at) where
  pub list_refused : (why : ℕ) → h ≡ L.Refused why → Refused why ≡ skip_by binary s lim (suc room) T.List at
  unfolding skip_by value_by items_head_at
  list_refused why g = sym (past_stop (items_head binary lim) _ s at why (no_items (read_at (items_head binary lim) s at) why (sym e ∙ g)))

  module _ (t : TType) (n : ℕ) (p : Place) (g : h ≡ L.Got t n p) (b : Bool) (f : b ≡ startable t n) where
    behind_head : skip_by binary s lim (suc room) T.List at ≡ past (provided (startable t n) BAD_TYPE (and_then (many (value_by binary lim room t) n) (λ ts. done (val.list t ts)))) s p.0
    unfolding skip_by value_by items_head_at
    behind_head =
        let x = is_items (read_at (items_head binary lim) s at) t n p (sym e ∙ g) in
        past_step (items_head binary lim) _ s at x.0 p.0 x.1
        ∙ ap₂ (λ (u : TType) (m : ℕ). past (provided (startable u m) BAD_TYPE (and_then (many (value_by binary lim room u) m) (λ ts. done (val.list u ts)))) s p.0) x.2 x.3

    pub list_stop : b ≡ false → Refused BAD_TYPE ≡ skip_by binary s lim (suc room) T.List at
    list_stop k = sym (behind_head ∙ past_not _ BAD_TYPE _ s p.0 (sym f ∙ k))

    pub list_in : b ≡ true → past (many (value_by binary lim room t) n) s p.0 ≡ skip_by binary s lim (suc room) T.List at
    list_in k = sym (behind_head ∙ past_yes _ BAD_TYPE _ s p.0 (sym f ∙ k) ∙ past_made (many (value_by binary lim room t) n) (val.list t) s p.0)

    -- elements of one size, all at once
    pub list_fixed : b ≡ true → (c : Bool) → c ≡ is_fixed t → c ≡ true → (m : ℕ) → m ≡ n * least_size t → (r : Skipped) → r ≡ past (some m) s p.0 → r ≡ skip_by binary s lim (suc room) T.List at
    list_fixed k c x y m z r q = q ∙ ap (λ (j : ℕ). past (some j) s p.0) z ∙ sym (many_fixed s lim room t n p.0 (sym x ∙ y)) ∙ list_in k

-- skip_pairs: a key, and its value
module _ (s : List ℕ) (lim : TConfiguration) (room : ℕ) (key val-type : TType) (left p : ℕ) where
  abbrev rest : ℕ → Reader Pairs
  rest n = many_pairs (value_by binary lim room key) (value_by binary lim room val-type) n

  pub pairs_end : left ≤ 0 → Done (place p) ≡ past (many_pairs (value_by binary lim room key) (value_by binary lim room val-type) left) s p
  unfolding many_pairs
  pairs_end z = let e : left ≡ 0 = omega arith in rw e (sym (past_done _ s p))

  module _ (h : 0 < left) (r : Skipped) (f : r ≡ skip_by binary s lim room key p) where
    pub pairs_keyless : (why : ℕ) → r ≡ Refused why → Refused why ≡ past (many_pairs (value_by binary lim room key) (value_by binary lim room val-type) left) s p
    unfolding many_pairs skip_by
    pairs_keyless why g =
        sym (ap (λ (k : ℕ). past (rest k) s p) (pos_suc h)
        ∙ past_stop (value_by binary lim room key) _ s p why (refused_past (value_by binary lim room key) s p why (sym f ∙ g)))

    module _ (m : Place) (g : r ≡ Done m) (q : Skipped) (x : q ≡ skip_by binary s lim room val-type m.0) where
      pub pairs_valueless : (why : ℕ) → q ≡ Refused why → Refused why ≡ past (many_pairs (value_by binary lim room key) (value_by binary lim room val-type) left) s p
      unfolding many_pairs skip_by
      pairs_valueless why y =
          let k = read_past (value_by binary lim room key) s p m (sym f ∙ g) in
          sym (ap (λ (n : ℕ). past (rest n) s p) (pos_suc h)
          ∙ past_step (value_by binary lim room key) _ s p k.0 m.0 k.1
          ∙ past_stop (value_by binary lim room val-type) _ s m.0 why (refused_past (value_by binary lim room val-type) s m.0 why (sym x ∙ y)))

      pub pairs_next : (e : Place) → q ≡ Done e → past (many_pairs (value_by binary lim room key) (value_by binary lim room val-type) (left - 1)) s e.0 ≡ past (many_pairs (value_by binary lim room key) (value_by binary lim room val-type) left) s p
      unfolding many_pairs skip_by
      pairs_next e y =
          let k = read_past (value_by binary lim room key) s p m (sym f ∙ g) in
          let v = read_past (value_by binary lim room val-type) s m.0 e (sym x ∙ y) in
          sym (ap (λ (n : ℕ). past (rest n) s p) (pos_suc h)
          ∙ past_step (value_by binary lim room key) _ s p k.0 m.0 k.1
          ∙ past_step (value_by binary lim room val-type) _ s m.0 v.0 e.0 v.1
          ∙ past_made (rest (left - 1)) _ s e.0)

-- skip_map
is_pairs : (x : Found (TType × TType × ℕ)) (k v : TType) (n : ℕ) (p : Place) → to_map x ≡ M.Got k v n p → (h : TType × TType × ℕ) × (x ≡ got h p.0) × (h.0 ≡ k) × (h.1 ≡ v) × (h.2 ≡ n)
is_pairs (got h e) k v n p f =
    let a : h.0 ≡ k = cc in
    let b : h.1 ≡ v = cc in
    let c : h.2 ≡ n = cc in
    let q : place e ≡ p = cc in
    (h, ap (got h) (ap (λ (y : Place). y.0) q), a, b, c)
is_pairs (refused why) k v n p f = let z : ◌≡◌ {A = ℕ} 0 1 = cc in absurd (omega arith)

no_pairs_head : (x : Found (TType × TType × ℕ)) (why : ℕ) → to_map x ≡ M.Refused why → x ≡ refused why
no_pairs_head (got h e) why f = let z : ◌≡◌ {A = ℕ} 0 1 = cc in absurd (omega arith)
no_pairs_head (refused y) why f = let q : y ≡ why = cc in ap refused q

-- what stands behind a map's header
abbrev pairs_behind : TConfiguration → ℕ → TType → TType → ℕ → Reader Tree
pairs_behind lim room k v n =
    provided (startable k n) BAD_TYPE (provided (startable v n) BAD_TYPE (and_then (many_pairs (value_by binary lim room k) (value_by binary lim room v) n) (λ ps. done (val.map k v ps))))

module _ (s : List ℕ) (lim : TConfiguration) (room at : ℕ) (h : MapHead) (e : h ≡ pairs_head_at binary s lim at) where
  pub map_refused : (why : ℕ) → h ≡ M.Refused why → Refused why ≡ skip_by binary s lim (suc room) T.Map at
  unfolding skip_by value_by pairs_head_at
  map_refused why g = sym (past_stop (pairs_head binary lim) _ s at why (no_pairs_head (read_at (pairs_head binary lim) s at) why (sym e ∙ g)))

  module _ (k v : TType) (n : ℕ) (p : Place) (g : h ≡ M.Got k v n p) (b : Bool) (f : b ≡ startable k n) where
    behind_map : skip_by binary s lim (suc room) T.Map at ≡ past (pairs_behind lim room k v n) s p.0
    unfolding skip_by value_by pairs_head_at
    behind_map =
        let x = is_pairs (read_at (pairs_head binary lim) s at) k v n p (sym e ∙ g) in
        past_step (pairs_head binary lim) _ s at x.0 p.0 x.1
        ∙ ap (λ (u : TType). past (pairs_behind lim room u x.0.1 x.0.2) s p.0) x.2
        ∙ ap₂ (λ (u : TType) (m : ℕ). past (pairs_behind lim room k u m) s p.0) x.3 x.4

    pub map_keyless : b ≡ false → Refused BAD_TYPE ≡ skip_by binary s lim (suc room) T.Map at
    map_keyless y = sym (behind_map ∙ past_not _ BAD_TYPE _ s p.0 (sym f ∙ y))

    module _ (y : b ≡ true) (c : Bool) (w : c ≡ startable v n) where
      pub map_valueless : c ≡ false → Refused BAD_TYPE ≡ skip_by binary s lim (suc room) T.Map at
      map_valueless z = sym (behind_map ∙ past_yes _ BAD_TYPE _ s p.0 (sym f ∙ y) ∙ past_not _ BAD_TYPE _ s p.0 (sym w ∙ z))

      pub map_in : (r : Skipped) → c ≡ true → r ≡ past (many_pairs (value_by binary lim room k) (value_by binary lim room v) n) s p.0 → r ≡ skip_by binary s lim (suc room) T.Map at
      map_in r z q =
          q
          ∙ sym (behind_map ∙ past_yes _ BAD_TYPE _ s p.0 (sym f ∙ y) ∙ past_yes _ BAD_TYPE _ s p.0 (sym w ∙ z)
          ∙ past_made (many_pairs (value_by binary lim room k) (value_by binary lim room v) n) (val.map k v) s p.0)

-- skip_struct: a field's header, and its value
is_field : (x : Found Field) (h : FieldHead) → to_field x ≡ h → (why : ℕ) → h ≡ F.Refused why → x ≡ refused why
is_field (got stop e) h f why g = let z : ◌≡◌ {A = ℕ} 0 1 = cc in absurd (omega arith)
is_field (got (bool b i) e) h f why g = let z : ◌≡◌ {A = ℕ} 0 1 = cc in absurd (omega arith)
is_field (got (value t i) e) h f why g = let z : ◌≡◌ {A = ℕ} 0 1 = cc in absurd (omega arith)
is_field (refused y) h f why g = let q : y ≡ why = cc in ap refused q

same_field : (x : Found Field) (y : Field) (e : ℕ) → to_field x ≡ to_field (got y e) → x ≡ got y e
same_field (got stop d) stop e f = let q : place d ≡ place e = cc in ap (got stop) (ap (λ (z : Place). z.0) q)
same_field (got stop d) (bool b i) e f = let z : ◌≡◌ {A = ℕ} 0 1 = cc in absurd (omega arith)
same_field (got stop d) (value t i) e f = let z : ◌≡◌ {A = ℕ} 0 1 = cc in absurd (omega arith)
same_field (got (bool c j) d) stop e f = let z : ◌≡◌ {A = ℕ} 0 1 = cc in absurd (omega arith)
same_field (got (bool c j) d) (bool b i) e f =
    let q : place d ≡ place e = cc in
    let k : c ≡ b = cc in
    let l : id_of j ≡ id_of i = cc in
    ap₂ got (ap₂ bool k (ap (λ (z : FieldId). z.0) l)) (ap (λ (z : Place). z.0) q)
same_field (got (bool c j) d) (value t i) e f = let z : ◌≡◌ {A = ℕ} 0 1 = cc in absurd (omega arith)
same_field (got (value u j) d) stop e f = let z : ◌≡◌ {A = ℕ} 0 1 = cc in absurd (omega arith)
same_field (got (value u j) d) (bool b i) e f = let z : ◌≡◌ {A = ℕ} 0 1 = cc in absurd (omega arith)
same_field (got (value u j) d) (value t i) e f =
    let q : place d ≡ place e = cc in
    let k : u ≡ t = cc in
    let l : id_of j ≡ id_of i = cc in
    ap₂ got (ap₂ value k (ap (λ (z : FieldId). z.0) l)) (ap (λ (z : Place). z.0) q)
same_field (refused why) stop e f = let z : ◌≡◌ {A = ℕ} 0 1 = cc in absurd (omega arith)
same_field (refused why) (bool b i) e f = let z : ◌≡◌ {A = ℕ} 0 1 = cc in absurd (omega arith)
same_field (refused why) (value t i) e f = let z : ◌≡◌ {A = ℕ} 0 1 = cc in absurd (omega arith)

-- what is read at a place, with its size
sizing_at : {A : Type 0} (p : Reader A) (s : List ℕ) (at : ℕ) (a : A) (e : ℕ) → read_at p s at ≡ got a e → (n : ℕ) × (read_at (sizing p) s at ≡ got (a, n) e)
unfolding read_at sizing
sizing_at p s at a e f =
    let g = found_at at (p (drop at s)) a e f in
    (g.0, ap (λ (x : Found _). placed at (with_size x)) g.1 ∙ ap (got (a, g.0)) g.2)

pub sizing_no : {A : Type 0} (p : Reader A) (s : List ℕ) (at why : ℕ) → read_at p s at ≡ refused why → read_at (sizing p) s at ≡ refused why
unfolding read_at sizing
sizing_no p s at why f = ap (λ (x : Found _). placed at (with_size x)) (lost_at at (p (drop at s)) why f)

-- where a lawful reader ends
pub read_inside : {A : Type 0} (p : Reader A) → Lawful p → (s : List ℕ) (at : ℕ) (a : A) (e : ℕ) → read_at p s at ≡ got a e → (at ≤ e) × (at ≤ length s → e ≤ length s)
unfolding read_at
read_inside p lp s at a e f =
    let g = found_at at (p (drop at s)) a e f in
    let i = lp.ends (drop at s) a g.0 g.1 in
    (omega (arith, g.2), λ h. omega (arith, g.2, length-drop at s))

pub head_later : (s : List ℕ) (last : ℤ) (p : ℕ) (x : Field) (e : ℕ) → read_at (binary.field last) s p ≡ got x e → (p < e) × (e ≤ length s)
unfolding read_at
head_later s last p x e f =
    let g = found_at p (binary.field last (drop p s)) x e f in
    let i = (binary_owes.field last).lawful.ends (drop p s) x g.0 g.1 in
    let j = (binary_owes.field last).enough (drop p s) x g.0 g.1 in
    (omega (arith, g.2), omega (arith, g.2, length-drop p s))

-- a field's header, as it was read
module _ (s : List ℕ) (last : ℤ) (p : ℕ) (h : FieldHead) (e : h ≡ field_at binary s last p) where
  pub head_refused : (why : ℕ) → h ≡ F.Refused why → read_at (binary.field last) s p ≡ refused why
  unfolding field_at
  head_refused why g = is_field (read_at (binary.field last) s p) h (sym e) why g

  pub head_read : (x : Field) (q : Place) → h ≡ to_field (got x q.0) → read_at (binary.field last) s p ≡ got x q.0
  unfolding field_at
  head_read x q g = same_field (read_at (binary.field last) s p) x q.0 (sym e ∙ g)

-- the walk at a place
module _ {A : Type 0} (truth : Bool → A) (f : TType → Reader A) (s : List ℕ) (last : ℤ) (p : ℕ) where
  stepped_at : past (fields_by binary truth f last) s p ≡ past (and_then (sizing (binary.field last)) (λ h. behind truth f (fields_by binary truth f) h.0 h.1)) s p
  unfolding past read_at
  stepped_at = ap (λ (x : Found (List (Entry A))). passed (placed p x)) (fields_step binary binary_owes truth f last (drop p s))

  pub walk_refused : (why : ℕ) → read_at (binary.field last) s p ≡ refused why → past (fields_by binary truth f last) s p ≡ Refused why
  walk_refused why e = stepped_at ∙ past_stop (sizing (binary.field last)) _ s p why (sizing_no (binary.field last) s p why e)

  module _ (x : Field) (e : ℕ) (g : read_at (binary.field last) s p ≡ got x e) where
    behind_header_lem : past (fields_by binary truth f last) s p ≡ past (behind truth f (fields_by binary truth f) x (sizing_at (binary.field last) s p x e g).0) s e
    behind_header_lem = stepped_at ∙ past_step (sizing (binary.field last)) _ s p (x, (sizing_at (binary.field last) s p x e g).0) e (sizing_at (binary.field last) s p x e g).1

  pub walk_stop : (e : ℕ) → read_at (binary.field last) s p ≡ got stop e → past (fields_by binary truth f last) s p ≡ Done (place e)
  walk_stop e g = behind_header_lem stop e g ∙ past_done [] s e

  pub walk_bool : (b : Bool) (id : ℤ) (e : ℕ) → read_at (binary.field last) s p ≡ got (bool b id) e → past (fields_by binary truth f last) s p ≡ past (fields_by binary truth f id) s e
  walk_bool b id e g = behind_header_lem (bool b id) e g ∙ past_made (fields_by binary truth f id) _ s e

  module _ (t : TType) (id : ℤ) (m : ℕ) (g : read_at (binary.field last) s p ≡ got (value t id) m) where
    pub walk_value : (a : A) (e : ℕ) → read_at (f t) s m ≡ got a e → past (fields_by binary truth f last) s p ≡ past (fields_by binary truth f id) s e
    walk_value a e q =
        behind_header_lem (value t id) m g
        ∙ past_step (sizing (f t)) _ s m (a, (sizing_at (f t) s m a e q).0) e (sizing_at (f t) s m a e q).1
        ∙ past_made (fields_by binary truth f id) _ s e

    pub walk_value_no : (why : ℕ) → read_at (f t) s m ≡ refused why → past (fields_by binary truth f last) s p ≡ Refused why
    walk_value_no why q = behind_header_lem (value t id) m g ∙ past_stop (sizing (f t)) _ s m why (sizing_no (f t) s m why q)

-- skip_struct
module _ (s : List ℕ) (lim : TConfiguration) (room : ℕ) (last : ℤ) (p : ℕ) (h : FieldHead) (e : h ≡ field_at binary s last p) where
  pub struct_refused : (why : ℕ) → h ≡ F.Refused why → Refused why ≡ past (fields_by binary val.truth (value_by binary lim room) last) s p
  struct_refused why g = sym (walk_refused val.truth (value_by binary lim room) s last p why (head_refused s last p h e why g))

  pub struct_stop : (q : Place) → h ≡ F.Stop q → Done q ≡ past (fields_by binary val.truth (value_by binary lim room) last) s p
  struct_stop q g = sym (walk_stop val.truth (value_by binary lim room) s last p q.0 (head_read s last p h e stop q g))

  module _ (b : Bool) (id : FieldId) (q : Place) (g : h ≡ F.Bool b id q) where
    bool_head : read_at (binary.field last) s p ≡ got (bool b id.0) q.0
    bool_head = head_read s last p h e (bool b id.0) q g

    pub struct_bool : past (fields_by binary val.truth (value_by binary lim room) id.0) s q.0 ≡ past (fields_by binary val.truth (value_by binary lim room) last) s p
    struct_bool = sym (walk_bool val.truth (value_by binary lim room) s last p b id.0 q.0 bool_head)

    pub bool_later : p < q.0
    bool_later = (head_later s last p _ q.0 bool_head).0

    pub bool_inside : q.0 ≤ length s
    bool_inside = (head_later s last p _ q.0 bool_head).1

  module _ (t : TType) (id : FieldId) (m : Place) (g : h ≡ F.Value t id m) (r : Skipped) (f : r ≡ skip_by binary s lim room t m.0) where
    value_head : read_at (binary.field last) s p ≡ got (value t id.0) m.0
    value_head = head_read s last p h e (value t id.0) m g

    pub struct_value_no : (why : ℕ) → r ≡ Refused why → Refused why ≡ past (fields_by binary val.truth (value_by binary lim room) last) s p
    unfolding skip_by
    struct_value_no why y = sym (walk_value_no val.truth (value_by binary lim room) s last p t id.0 m.0 value_head why (refused_past (value_by binary lim room t) s m.0 why (sym f ∙ y)))

    module _ (q : Place) (y : r ≡ Done q) where
      the_value : (a : Tree) × (read_at (value_by binary lim room t) s m.0 ≡ got a q.0)
      unfolding skip_by
      the_value = read_past (value_by binary lim room t) s m.0 q (sym f ∙ y)

      pub struct_value : past (fields_by binary val.truth (value_by binary lim room) id.0) s q.0 ≡ past (fields_by binary val.truth (value_by binary lim room) last) s p
      struct_value = sym (walk_value val.truth (value_by binary lim room) s last p t id.0 m.0 value_head the_value.0 q.0 the_value.1)

      pub value_later : p < q.0
      value_later = omega (arith, (head_later s last p _ m.0 value_head).0, (read_inside _ (value_lawful binary binary_owes lim room t) s m.0 _ q.0 the_value.1).0)

      pub value_inside : q.0 ≤ length s
      value_inside = (read_inside _ (value_lawful binary binary_owes lim room t) s m.0 _ q.0 the_value.1).1 (head_later s last p _ m.0 value_head).1

pub struct_in : (s : List ℕ) (lim : TConfiguration) (room at : ℕ) → past (fields_by binary val.truth (value_by binary lim room) (pos 0)) s at ≡ skip_by binary s lim (suc room) T.Struct at
unfolding skip_by value_by
struct_in s lim room at = sym (past_made (fields_by binary val.truth (value_by binary lim room) (pos 0)) _ s at)

-- the loop of skip_list: what is left to pass over answers what the whole does
module _ (s : List ℕ) (lim : TConfiguration) (room : ℕ) (t : TType) (n : ℕ) (p₀ : Place) (left : ℕ) (p : Place) (inv : past (many (value_by binary lim room t) left) s p.0 ≡ past (many (value_by binary lim room t) n) s p₀.0) where
  pub list_again : (r : Skipped) (e : Place) → 0 < left → r ≡ skip_by binary s lim room t p.0 → r ≡ Done e → past (many (value_by binary lim room t) (left - 1)) s e.0 ≡ past (many (value_by binary lim room t) n) s p₀.0
  list_again r e h f g = many_next s lim room t left p.0 h r f e g ∙ inv

  module _ (at : ℕ) (h : ListHead) (e : h ≡ items_head_at binary s lim at) (g : h ≡ L.Got t n p₀) (b : Bool) (f : b ≡ startable t n) (k : b ≡ true) where
    pub list_broken : (r : Skipped) (why : ℕ) → 0 < left → r ≡ skip_by binary s lim room t p.0 → r ≡ Refused why → Refused why ≡ skip_by binary s lim (suc room) T.List at
    list_broken r why l x y = many_no s lim room t left p.0 l r x why y ∙ inv ∙ list_in s lim room at h e t n p₀ g b f k

    pub list_over : left ≤ 0 → Done p ≡ skip_by binary s lim (suc room) T.List at
    list_over l = many_end s lim room t left p.0 l ∙ inv ∙ list_in s lim room at h e t n p₀ g b f k

pub ruleset list_cases = (list_refused, list_stop, list_fixed, list_again, list_broken, list_over)

-- the loop of skip_pairs
module _ (s : List ℕ) (lim : TConfiguration) (room : ℕ) (key val-type : TType) (n at left : ℕ) (p : Place) (inv : past (many_pairs (value_by binary lim room key) (value_by binary lim room val-type) left) s p.0 ≡ past (many_pairs (value_by binary lim room key) (value_by binary lim room val-type) n) s at) where
  pub pairs_over : left ≤ 0 → Done p ≡ past (many_pairs (value_by binary lim room key) (value_by binary lim room val-type) n) s at
  pairs_over l = pairs_end s lim room key val-type left p.0 l ∙ inv

  module _ (h : 0 < left) (r : Skipped) (f : r ≡ skip_by binary s lim room key p.0) where
    pub pairs_broken : (why : ℕ) → r ≡ Refused why → Refused why ≡ past (many_pairs (value_by binary lim room key) (value_by binary lim room val-type) n) s at
    pairs_broken why g = pairs_keyless s lim room key val-type left p.0 h r f why g ∙ inv

    module _ (m : Place) (g : r ≡ Done m) (q : Skipped) (x : q ≡ skip_by binary s lim room val-type m.0) where
      pub pairs_cut : (why : ℕ) → q ≡ Refused why → Refused why ≡ past (many_pairs (value_by binary lim room key) (value_by binary lim room val-type) n) s at
      pairs_cut why y = pairs_valueless s lim room key val-type left p.0 h r f m g q x why y ∙ inv

      pub pairs_again : (e : Place) → q ≡ Done e → past (many_pairs (value_by binary lim room key) (value_by binary lim room val-type) (left - 1)) s e.0 ≡ past (many_pairs (value_by binary lim room key) (value_by binary lim room val-type) n) s at
      pairs_again e y = pairs_next s lim room key val-type left p.0 h r f m g q x e y ∙ inv

pub ruleset pairs_cases = (pairs_over, pairs_broken, pairs_cut, pairs_again)

pub ruleset map_cases = (map_refused, map_keyless, map_valueless, map_in)

-- the loop of skip_struct: no id but a field's own has a say, so the walk goes on as if the last were 0
walks_on : (lim : TConfiguration) (room : ℕ) (last : ℤ) (k : ℕ) (bs : List ℕ) → walk_by binary val.truth (value_by binary lim room) k last bs ≡ walk_by binary val.truth (value_by binary lim room) k (pos 0) bs
unfolding walk_by
walks_on lim room last zero bs = refl
walks_on lim room last (suc k) bs = refl

any_last : (s : List ℕ) (lim : TConfiguration) (room : ℕ) (last : ℤ) (p : ℕ) → past (fields_by binary val.truth (value_by binary lim room) last) s p ≡ past (fields_by binary val.truth (value_by binary lim room) (pos 0)) s p
unfolding past read_at fields_by
any_last s lim room last p = ap (λ (x : Found (List (Entry Tree))). passed (placed p x)) (walks_on lim room last (length (drop p s)) (drop p s))

module _ (s : List ℕ) (lim : TConfiguration) (room at : ℕ) (p : Place) (inv : past (fields_by binary val.truth (value_by binary lim room) (pos 0)) s p.0 ≡ past (fields_by binary val.truth (value_by binary lim room) (pos 0)) s at) (h : FieldHead) (e : h ≡ field_at binary s (pos 0) p.0) where
  whole : past (fields_by binary val.truth (value_by binary lim room) (pos 0)) s p.0 ≡ skip_by binary s lim (suc room) T.Struct at
  whole = inv ∙ struct_in s lim room at

  pub fields_broken : (why : ℕ) → h ≡ F.Refused why → Refused why ≡ skip_by binary s lim (suc room) T.Struct at
  fields_broken why g = struct_refused s lim room (pos 0) p.0 h e why g ∙ whole

  pub fields_over : (q : Place) → h ≡ F.Stop q → Done q ≡ skip_by binary s lim (suc room) T.Struct at
  fields_over q g = struct_stop s lim room (pos 0) p.0 h e q g ∙ whole

  pub fields_bool : (b : Bool) (id : FieldId) (q : Place) → h ≡ F.Bool b id q → past (fields_by binary val.truth (value_by binary lim room) (pos 0)) s q.0 ≡ past (fields_by binary val.truth (value_by binary lim room) (pos 0)) s at
  fields_bool b id q g = sym (any_last s lim room id.0 q.0) ∙ struct_bool s lim room (pos 0) p.0 h e b id q g ∙ inv

  module _ (t : TType) (id : FieldId) (m : Place) (g : h ≡ F.Value t id m) (r : Skipped) (f : r ≡ skip_by binary s lim room t m.0) where
    pub fields_cut : (why : ℕ) → r ≡ Refused why → Refused why ≡ skip_by binary s lim (suc room) T.Struct at
    fields_cut why y = struct_value_no s lim room (pos 0) p.0 h e t id m g r f why y ∙ whole

    pub fields_value : (q : Place) → r ≡ Done q → past (fields_by binary val.truth (value_by binary lim room) (pos 0)) s q.0 ≡ past (fields_by binary val.truth (value_by binary lim room) (pos 0)) s at
    fields_value q y = sym (any_last s lim room id.0 q.0) ∙ struct_value s lim room (pos 0) p.0 h e t id m g r f q y ∙ inv

pub ruleset struct_cases = (fields_broken, fields_over, fields_bool, fields_cut, fields_value)

-- each turn takes at least a byte
module _ (s : List ℕ) (p : Place) (h : FieldHead) (e : h ≡ field_at binary s (pos 0) p.0) where
  pub bool_less : (b : Bool) (id : FieldId) (q : Place) → h ≡ F.Bool b id q → length s - q.0 < length s - p.0
  bool_less b id q g =
      let i = head_later s (pos 0) p.0 _ q.0 (head_read s (pos 0) p.0 h e (bool b id.0) q g) in omega arith

  pub value_less : (lim : TConfiguration) (room : ℕ) (t : TType) (id : FieldId) (m : Place) (r : Skipped) (q : Place) → h ≡ F.Value t id m → r ≡ skip_by binary s lim room t m.0 → r ≡ Done q → length s - q.0 < length s - p.0
  value_less lim room t id m r q g f y =
      let i = value_later s lim room (pos 0) p.0 h e t id m g r f q y in
      let j = value_inside s lim room (pos 0) p.0 h e t id m g r f q y in
      omega arith

pub ruleset turn_less = (bool_less, value_less)
