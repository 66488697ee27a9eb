-- The walk over a struct's own fields, a step at a time, with what stands in each. Assumes nothing.
use mathlib.Core.Path.{◌≡◌, refl, sym, ap, ap₂, ◌∙◌}
use mathlib.Core.Bool.{Bool, true, false}
use mathlib.Core.List.{List, [], ◌∷◌}
use Prim.Native.Nat.{ℕ, ◌-◌, ◌/◌, ◌%◌, ◌≤◌, ◌<◌}
use native.Mathlib.Omega.{arith}
use borrow.Author.Tests.{eqb-false}
use lib.Dec.{eqb}
use lib.IntN.{ℤ}
use lib.ListN.{drop}
use Rattle.types.specs.Codes.{type_code, type_by_number, as_field, field_type}
use Rattle.types.specs.declared.TType.{TType}
use Rattle.types.specs.declared.TypeRead.{TypeRead}
use Rattle.types.specs.declared.TypeRead.TheVariants as R
use Rattle.types.specs.declared.FieldType.{FieldType}
use Rattle.types.specs.declared.FieldType.TheVariants as FT
use Rattle.types.specs.declared.TConfiguration.{TConfiguration}
use Rattle.types.specs.Value as val
use Rattle.types.specs.Value.{Tree, Trees, Pairs, Fields, type_of}
use Rattle.types.proofs.Codes.{number_is}
use Rattle.numbers.specs.Varint.{Found, got, refused, placed}
use Rattle.heads.specs.Reader.{Reader, done, and_then, byte, read_at}
use Rattle.heads.specs.Heads.{Field, stop, bool, value, field_id, of_type, field}
use Rattle.heads.specs.Spells.{Spells}
use Rattle.heads.proofs.Lawful.{not_both}
use Rattle.heads.proofs.Steps.{found_at, step, stop_at, done_at, refuse_at, split}
use Rattle.skip.specs.Walk.{Entry, with_size, sizing, behind, fields}
use Rattle.skip.specs.Value.{value_of}
use Rattle.skip.proofs.Walks.{fields_step}
use Rattle.skip.proofs.Theorems.{was_spelt}
use Rattle.skip.proofs.Cycle.{sizing_no}

-- the type of what is read is the type asked for
spelt_type : (t : Tree) (lim : TConfiguration) (room : ℕ) (ty : TType) (bs : List ℕ) → Spells t lim room ty bs → type_of t ≡ ty
unfolding Spells type_of
spelt_type (val.truth b) lim room ty bs s = sym s.0
spelt_type (val.i8 z) lim room ty bs s = sym s.0
spelt_type (val.i16 z) lim room ty bs s = sym s.0
spelt_type (val.i32 z) lim room ty bs s = sym s.0
spelt_type (val.i64 z) lim room ty bs s = sym s.0
spelt_type (val.double n) lim room ty bs s = sym s.0
spelt_type (val.uuid u) lim room ty bs s = sym s.0
spelt_type (val.bytes cs) lim room ty bs s = sym s.0
spelt_type (val.list t ts) lim room ty bs s = sym s.0
spelt_type (val.set t ts) lim room ty bs s = sym s.0
spelt_type (val.map k v ps) lim room ty bs s = sym s.0
spelt_type (val.struct fs) lim room ty bs s = sym s.0

pub read_type : (s : List ℕ) (lim : TConfiguration) (room : ℕ) (ty : TType) (at e : ℕ) (t : Tree) → read_at (value_of lim room ty) s at ≡ got t e → type_of t ≡ ty
read_type s lim room ty at e t f = spelt_type t lim room ty _ (was_spelt s lim room ty at e t f).spelt

-- a field of another type than bool has a code over 2
kind_above : (n : ℕ) (t : TType) → field_type n ≡ FT.Kind t → 2 < type_code t
unfolding field_type
kind_above n t e = zero_one_two (eqb n 0) refl (eqb n 1) refl (eqb n 2) refl
  where
    typed : (r : TypeRead) → type_by_number n ≡ r → as_field r ≡ FT.Kind t → (n ≡ 0 → ⊥) → (n ≡ 1 → ⊥) → (n ≡ 2 → ⊥) → 2 < type_code t
    typed (R.Got u) f g a b c = let q : u ≡ t = cc in let k = number_is n u f in rw (← q) (omega arith)
    typed (R.Refused why) f g a b c = let z : ◌≡◌ {A = ℕ} 0 1 = cc in absurd (omega arith)

    zero_one_two : (a : Bool) → eqb n 0 ≡ a → (b : Bool) → eqb n 1 ≡ b → (c : Bool) → eqb n 2 ≡ c → 2 < type_code t
    zero_one_two true f b g c h = let x : FT.Stop ≡ FT.Kind t = rw f at e in let z : ◌≡◌ {A = ℕ} 0 1 = cc in absurd (omega arith)
    zero_one_two false f true g c h = let x : FT.Truth true ≡ FT.Kind t = rw (f, g) at e in let z : ◌≡◌ {A = ℕ} 0 1 = cc in absurd (omega arith)
    zero_one_two false f false g true h = let x : FT.Truth false ≡ FT.Kind t = rw (f, g, h) at e in let z : ◌≡◌ {A = ℕ} 0 1 = cc in absurd (omega arith)
    zero_one_two false f false g false h =
        let x : as_field (type_by_number n) ≡ FT.Kind t = rw (f, g, h) at e in
        typed (type_by_number n) refl x (eqb-false n 0 f) (eqb-false n 1 g) (eqb-false n 2 h)

-- what a header makes of its type
made : (s : List ℕ) (last : ℤ) (d at : ℕ) (g : ℤ → Field) (x : Field) (e : ℕ) → read_at (and_then (field_id last d) (λ id. done (g id))) s at ≡ got x e → (id : ℤ) × (g id ≡ x)
made s last d at g x e f =
    let p = split (field_id last d) (λ id. done (g id)) s at x e f in
    let q : got (g p.0) p.1 ≡ got x e = sym (done_at s p.1 (g p.0)) ∙ p.3 in
    (p.0, cc)

of_kind : (s : List ℕ) (last : ℤ) (d at : ℕ) (k : FieldType) (t : TType) (id : ℤ) (e : ℕ) → read_at (of_type last d k) s at ≡ got (value t id) e → k ≡ FT.Kind t
of_kind s last d at FT.Stop t id e f = let q : got stop at ≡ got (value t id) e = sym (done_at s at stop) ∙ f in let z : ◌≡◌ {A = ℕ} 0 1 = cc in absurd (omega arith)
of_kind s last d at (FT.Truth b) t id e f = let m = made s last d at (bool b) (value t id) e f in let q = m.1 in let z : ◌≡◌ {A = ℕ} 0 1 = cc in absurd (omega arith)
of_kind s last d at (FT.Kind u) t id e f = let m = made s last d at (value u) (value t id) e f in let q : value u m.0 ≡ value t id = m.1 in let r : u ≡ t = cc in ap FT.Kind r
of_kind s last d at (FT.Refused why) t id e f = not_both (sym (refuse_at s at why) ∙ f)

pub value_code : (s : List ℕ) (last : ℤ) (at : ℕ) (t : TType) (id : ℤ) (e : ℕ) → read_at (field last) s at ≡ got (value t id) e → 2 < type_code t
unfolding field
value_code s last at t id e f =
    let p = split byte (λ b. of_type last (b / 16) (field_type (b % 16))) s at (value t id) e f in
    kind_above (p.0 % 16) t (of_kind s last (p.0 / 16) p.1 (field_type (p.0 % 16)) t id e p.3)

-- what is read at a place, with its size
pub sized_at_lem : {A : Type 0} (p : Reader A) (s : List ℕ) (at : ℕ) (a : A) (e : ℕ) → read_at p s at ≡ got a e → (read_at (sizing p) s at ≡ got (a, e - at) e) × (at ≤ e)
unfolding read_at sizing
sized_at_lem p s at a e f =
    let g = found_at at (p (drop at s)) a e f in
    let n : g.0 ≡ e - at = omega (arith, g.2) in
    (ap (λ (x : Found _). placed at (with_size x)) g.1 ∙ ap₂ (λ (m : ℕ) (k : ℕ). got (a, m) k) n g.2, omega (arith, g.2))

-- the entry of a field whose value stands from m to q, behind a header at p
abbrev pub entry : ℤ → Tree → ℕ → ℕ → ℕ → Entry Tree
entry id v p m q = record { id = id; what = v; head = m - p; size = q - m }

module _ (lim : TConfiguration) (room : ℕ) (s : List ℕ) where
  abbrev own : ℤ → Reader (List (Entry Tree))
  own last = fields val.truth (value_of lim room) last

  module _ (last : ℤ) (p : ℕ) where
    walked : read_at (fields val.truth (value_of lim room) last) s p ≡ read_at (and_then (sizing (field last)) (λ h. behind val.truth (value_of lim room) own h.0 h.1)) s p
    unfolding read_at
    walked = ap (placed p) (fields_step val.truth (value_of lim room) last (drop p s))

    begun : (x : Field) (m : ℕ) → read_at (field last) s p ≡ got x m → read_at (fields val.truth (value_of lim room) last) s p ≡ read_at (behind val.truth (value_of lim room) own x (m - p)) s m
    begun x m f = walked ∙ step (sizing (field last)) _ s p (x, m - p) m (sized_at_lem (field last) s p x m f).0

    -- without a header there are no fields, and behind the last there are none
    pub headless : {X : Type 0} (why : ℕ) (fs : List (Entry Tree)) (e : ℕ) → read_at (field last) s p ≡ refused why → read_at (fields val.truth (value_of lim room) last) s p ≡ got fs e → X
    headless why fs e f g = not_both (sym (walked ∙ stop_at (sizing (field last)) _ s p why (sizing_no (field last) s p why f)) ∙ g)

    pub none_left : (m : ℕ) (fs : List (Entry Tree)) (e : ℕ) → read_at (field last) s p ≡ got stop m → read_at (fields val.truth (value_of lim room) last) s p ≡ got fs e → fs ≡ []
    none_left m fs e f g =
        let q : got [] m ≡ got fs e = sym (done_at s m []) ∙ sym (begun stop m f) ∙ g in
        let r : [] ≡ fs = cc in
        sym r

    -- what is walked behind a field
    pub record Behind (x : Entry Tree) (next : ℤ) (m : ℕ) (fs : List (Entry Tree)) (e : ℕ) : Type 0 where
      pub rest : List (Entry Tree)
      pub reads : read_at (fields val.truth (value_of lim room) next) s m ≡ got rest e
      pub whole : fs ≡ x ∷ rest

    behind_one : (x : Entry Tree) (next : ℤ) (m : ℕ) (fs : List (Entry Tree)) (e : ℕ) → read_at (and_then (own next) (λ gs. done (x ∷ gs))) s m ≡ got fs e → Behind x next m fs e
    behind_one x next m fs e f =
        let g = split (own next) (λ gs. done (x ∷ gs)) s m fs e f in
        let q : got (x ∷ g.0) g.1 ≡ got fs e = sym (done_at s g.1 (x ∷ g.0)) ∙ g.3 in
        let l : x ∷ g.0 ≡ fs = cc in
        let k : g.1 ≡ e = cc in
        record { rest = g.0; reads = g.2 ∙ ap (got g.0) k; whole = sym l }

    pub bool_next : (b : Bool) (id : ℤ) (m : ℕ) (fs : List (Entry Tree)) (e : ℕ) → read_at (field last) s p ≡ got (bool b id) m → read_at (fields val.truth (value_of lim room) last) s p ≡ got fs e → Behind (record { id = id; what = val.truth b; head = m - p; size = 0 }) id m fs e
    bool_next b id m fs e f g = behind_one _ id m fs e (sym (begun (bool b id) m f) ∙ g)

    module _ (t : TType) (id : ℤ) (m : ℕ) (f : read_at (field last) s p ≡ got (value t id) m) (fs : List (Entry Tree)) (e : ℕ) (g : read_at (fields val.truth (value_of lim room) last) s p ≡ got fs e) where
      pub value_next : (v : Tree) (q : ℕ) → read_at (value_of lim room t) s m ≡ got v q → Behind (entry id v p m q) id q fs e
      value_next v q h =
          behind_one _ id q fs e (sym (step (sizing (value_of lim room t)) _ s m (v, q - m) q (sized_at_lem (value_of lim room t) s m v q h).0) ∙ sym (begun (value t id) m f) ∙ g)

      pub valueless : {X : Type 0} (why : ℕ) → read_at (value_of lim room t) s m ≡ refused why → X
      valueless why h = not_both (sym (begun (value t id) m f ∙ stop_at (sizing (value_of lim room t)) _ s m why (sizing_no (value_of lim room t) s m why h)) ∙ g)

    -- and forwards: a field, and the fields behind it
    pub walk_stop : (m : ℕ) → read_at (field last) s p ≡ got stop m → read_at (fields val.truth (value_of lim room) last) s p ≡ got [] m
    walk_stop m f = begun stop m f ∙ done_at s m []

    pub walk_bool : (b : Bool) (id : ℤ) (m : ℕ) (fs : List (Entry Tree)) (e : ℕ) → read_at (field last) s p ≡ got (bool b id) m → read_at (fields val.truth (value_of lim room) id) s m ≡ got fs e → read_at (fields val.truth (value_of lim room) last) s p ≡ got (record { id = id; what = val.truth b; head = m - p; size = 0 } ∷ fs) e
    walk_bool b id m fs e f g = begun (bool b id) m f ∙ step (own id) _ s m fs e g ∙ done_at s e _

    pub walk_value : (t : TType) (id : ℤ) (m : ℕ) (v : Tree) (q : ℕ) (fs : List (Entry Tree)) (e : ℕ) → read_at (field last) s p ≡ got (value t id) m → read_at (value_of lim room t) s m ≡ got v q → read_at (fields val.truth (value_of lim room) id) s q ≡ got fs e → read_at (fields val.truth (value_of lim room) last) s p ≡ got (entry id v p m q ∷ fs) e
    walk_value t id m v q fs e f h g =
        begun (value t id) m f
        ∙ step (sizing (value_of lim room t)) _ s m (v, q - m) q (sized_at_lem (value_of lim room t) s m v q h).0
        ∙ step (own id) _ s q fs e g
        ∙ done_at s e _
