-- One level into a struct: what the code knows at each return and at each turn of its loop. Assumes nothing.
use mathlib.Core.Path.{◌≡◌, sym, ap, ◌∙◌}
use mathlib.Core.Bool.{Bool}
use mathlib.Core.List.{List, [], ◌∷◌}
use Prim.Native.Nat.{ℕ, suc, ◌+◌, ◌-◌, ◌≤◌, ◌<◌}
use native.Mathlib.Omega.{arith}
use lib.ListN.{length, drop}
use lib.IntN.{ℤ, pos}
use Rattle.types.specs.declared.Place.{Place}
use Rattle.types.specs.declared.FieldId.{FieldId}
use Rattle.types.specs.declared.TType.{TType}
use Rattle.types.specs.declared.TType.TheVariants as T
use Rattle.types.specs.declared.TConfiguration.{TConfiguration}
use Rattle.types.specs.Value as val
use Rattle.numbers.specs.Varint.{got, refused}
use Rattle.heads.specs.Reader.{read_at}
use Rattle.heads.specs.Heads as h
use Rattle.heads.specs.Heads.{Field}
use Rattle.heads.specs.Answers.{field_at}
use Rattle.heads.specs.declared.FieldHead.{FieldHead}
use Rattle.heads.specs.declared.FieldHead.TheVariants as F
use Rattle.heads.proofs.Steps.{found_at, lost_at}
use Rattle.skip.specs.Skip.{skip_of}
use Rattle.skip.specs.declared.Skipped.{Skipped}
use Rattle.skip.specs.declared.Skipped.TheVariants.{Done, Refused}
use Rattle.skip.proofs.Cycle.{head_read, head_refused, head_later, value_later, value_inside}
use Rattle.faults.specs.Tracked as way
use Rattle.faults.specs.Tracked.{Tried, Tracked, found, broke, done, and_then, labelled, under, reach}
use Rattle.faults.specs.Heads.{field}
use Rattle.faults.specs.Value.{behind, fields, struct_of, tracked}
use Rattle.faults.specs.Trace.{Lost, lost, lost_of, trace, inwards, Level, up_to, HeadReach}
use Rattle.faults.specs.declared.Step.TheVariants as S
use Rattle.faults.specs.declared.Inward.TheVariants as I
use Rattle.faults.proofs.Rule.{field_r}
use Rattle.faults.proofs.Finds.{forget, Finds, finds}
use Rattle.faults.proofs.Paths.{steps, Near, near}
use Rattle.faults.proofs.Fuel.{fields_step}
use Rattle.faults.proofs.Inner.{Going, trace_step, trace_stop, trace_in, trace_made, trace_done, was_whole, was_broke}
use Rattle.faults.proofs.Upto.{forgot, lost_so}

field_is : (last : ℤ) (cs : List ℕ) → forget (field last cs) ≡ h.field last cs
unfolding Finds
field_is last cs = field_r Finds finds 0 last cs

field_near : (last : ℤ) (cs : List ℕ) → steps (field last cs) ≤ 0
unfolding Near
field_near last cs = field_r Near near 0 last cs

module _ (s : List ℕ) (last : ℤ) (p : ℕ) where
  found_head : (x : Field) (e : ℕ) → read_at (h.field last) s p ≡ got x e → (n : ℕ) × (field last (drop p s) ≡ found x n) × (p + n ≡ e)
  unfolding read_at
  found_head x e f =
      let g = found_at p (h.field last (drop p s)) x e f in
      (g.0, forgot (field last (drop p s)) x g.0 (field_is last (drop p s) ∙ g.1), g.2)

  lost_head : (why : ℕ) → read_at (h.field last) s p ≡ refused why → (n : ℕ) × (field last (drop p s) ≡ broke why n [])
  unfolding read_at
  lost_head why f = lost_so (field last (drop p s)) why (field_near last (drop p s)) (field_is last (drop p s) ∙ lost_at p (h.field last (drop p s)) why f)

module _ (s : List ℕ) (lim : TConfiguration) (room : ℕ) (last : ℤ) (p : ℕ) (y : Lost) (inv : Going s p (fields (tracked lim room) last) y) (hd : FieldHead) (e : hd ≡ field_at s last p) where
  stepped : trace (fields (tracked lim room) last) s p ≡ trace (and_then (field last) (behind (tracked lim room) (fields (tracked lim room)))) s p
  unfolding trace
  stepped = ap (lost_of p) (fields_step (tracked lim room) last (drop p s))

  behind_head : (x : Field) (q : ℕ) → read_at (h.field last) s p ≡ got x q → y ≡ trace (behind (tracked lim room) (fields (tracked lim room)) x) s q
  behind_head x q f =
      let g = found_head s last p x q f in
      sym inv.leads ∙ stepped ∙ trace_step _ _ s p x g.0 g.1 ∙ ap (λ (k : ℕ). trace (behind (tracked lim room) (fields (tracked lim room)) x) s k) g.2

  pub fields_stop : (q : Place) → hd ≡ F.Stop q → Level s lim room I.Whole y
  unfolding inwards
  fields_stop q g =
      record { says = sym (behind_head h.stop q.0 (head_read s last p hd e h.stop q g) ∙ trace_done val.no_fields s q.0); placed = tt }

  pub fields_refused : (why : ℕ) → hd ≡ F.Refused why → (r : ℕ) → HeadReach s p r → Level s lim room (I.Own why r) y
  unfolding inwards trace HeadReach up_to
  fields_refused why g r k =
      let b = lost_head s last p why (head_refused s last p hd e why g) in
      let z : r ≡ p + b.0 = k last ∙ ap (λ (x : Tried Field). p + reach x) b.1 in
      record {
        says = sym (sym inv.leads ∙ stepped ∙ trace_stop _ _ s p why b.0 [] b.1 ∙ ap (lost_of p) b.1 ∙ ap (λ (u : ℕ). lost why u []) (sym z));
        placed = tt;
      }

  pub fields_bool : (b : Bool) (id : FieldId) (q : Place) → hd ≡ F.Bool b id q → Going s q.0 (fields (tracked lim room) id.0) y
  fields_bool b id q g =
      let o = head_read s last p hd e (h.bool b id.0) q g in
      record {
        inside = (head_later s last p _ q.0 o).1;
        leads = sym (behind_head (h.bool b id.0) q.0 o ∙ trace_made (fields (tracked lim room) id.0) _ s q.0);
      }

  module _ (t : TType) (id : FieldId) (m : Place) (g : hd ≡ F.Value t id m) (r : Skipped) (f : r ≡ skip_of s lim room t m.0) where
    here : y ≡ trace (and_then (labelled (way.field id.0) (tracked lim room t)) (λ v. and_then (fields (tracked lim room) id.0) (λ fs. done (val.field id.0 v fs)))) s m.0
    here = behind_head (h.value t id.0) m.0 (head_read s last p hd e (h.value t id.0) m g)

    pub fields_into : (why : ℕ) → r ≡ Refused why → Level s lim room (I.Into (S.Field id) t m) y
    unfolding inwards labelled
    fields_into why k =
        let v = was_broke s lim room t m.0 why (sym f ∙ k) in
        record {
          says =
              sym (here
              ∙ trace_stop _ _ s m.0 v.why v.took (way.field id.0 ∷ v.path) (ap (under (way.field id.0)) v.is)
              ∙ trace_in (way.field id.0) (tracked lim room t) s m.0);
          placed = (head_later s last p _ m.0 (head_read s last p hd e (h.value t id.0) m g)).1;
        }

    pub fields_next : (q : Place) → r ≡ Done q → Going s q.0 (fields (tracked lim room) id.0) y
    unfolding labelled
    fields_next q k =
        let v = was_whole s lim room t m.0 q (sym f ∙ k) in
        record {
          inside = value_inside s lim room last p hd e t id m g r f q k;
          leads =
              sym (here
              ∙ trace_step _ _ s m.0 v.what v.took (ap (under (way.field id.0)) v.is)
              ∙ trace_made (fields (tracked lim room) id.0) _ s (m.0 + v.took)
              ∙ ap (λ (j : ℕ). trace (fields (tracked lim room) id.0) s j) v.end);
        }

-- into_struct: where it begins, and that it ends
pub struct_start : (s : List ℕ) (lim : TConfiguration) (room p : ℕ) → p ≤ length s → Going s p (fields (tracked lim room) (pos 0)) (trace (tracked lim (suc room) T.Struct) s p)
unfolding tracked struct_of
struct_start s lim room p h = record { inside = h; leads = sym (trace_made (fields (tracked lim room) (pos 0)) val.struct s p) }

module _ (s : List ℕ) (last : ℤ) (p : ℕ) (hd : FieldHead) (e : hd ≡ field_at s last p) where
  pub bool_less : (b : Bool) (id : FieldId) (q : Place) → hd ≡ F.Bool b id q → length s - q.0 < length s - p
  bool_less b id q g = let l = head_later s last p _ q.0 (head_read s last p hd e (h.bool b id.0) q g) in omega (arith, l.0, l.1)

  module _ (lim : TConfiguration) (room : ℕ) (t : TType) (id : FieldId) (m : Place) (g : hd ≡ F.Value t id m) (r : Skipped) (f : r ≡ skip_of s lim room t m.0) (q : Place) (y : r ≡ Done q) where
    pub value_less : length s - q.0 < length s - p
    value_less =
        let lo = value_later s lim room last p hd e t id m g r f q y in
        let hi = value_inside s lim room last p hd e t id m g r f q y in
        omega arith

pub going_in : {A : Type 0} (s : List ℕ) (p : ℕ) (left : Tracked A) (y : Lost) → Going s p left y → p ≤ length s
going_in s p left y g = g.inside

pub ruleset fields_cases = (struct_start, fields_stop, fields_refused, fields_bool, fields_into, fields_next, bool_less, value_less)
