-- Unknown fields put into a trial or its points change no point and no answer. Assumes nothing.
use mathlib.Core.Path.{◌≡◌, refl, sym, ap, ◌∙◌}
use mathlib.Core.Bool.{Bool, true, false, cond, ◌||◌}
use mathlib.Core.Logic.{inl, inr}
use Prim.Native.Nat.{ℕ}
use native.Mathlib.Omega.{arith}
use lib.IntN.{ℤ, pos}
use Rattle.types.specs.declared.TType.{TType}
use Rattle.types.specs.Value as val
use Rattle.types.specs.Value.{Tree, Trees, Fields, no_trees, tree, no_fields}
use Rattle.wanted.specs.Wanted.{same_id, among}
use Rattle.unknown.specs.Inserted.{Inserted}
use Rattle.points.specs.Points.{with_double, noted, doubles_from, doubles_of, in_point, judged, onward, judge, nothing_seen, Listed, absent, list, listing, pick, listed_from, points_of, trial_of}
use Rattle.points.specs.declared.Doubles.{Doubles}
use Rattle.points.specs.declared.Seen.{Seen}
use Rattle.points.specs.declared.Judged.{Judged}
use Rattle.points.specs.declared.Judged.TheVariants.{Good, Bad}
use Rattle.point_laws.specs.Padded.{of_trial, of_point, Padded}

neither : (a b : Bool) → (a || b) ≡ false → (a ≡ false) × (b ≡ false)
neither true b e = let z : ◌≡◌ {A = ℕ} 0 1 = cc in absurd (omega arith)
neither false b e = (refl, e)

-- a field that is not listed is passed over
not_withed : (d : Doubles) (id : ℤ) (n : ℕ) → among id of_point ≡ false → with_double d id n ≡ d
unfolding among
not_withed d id n e =
    let a = neither (same_id id (pos 1)) (same_id id (pos 2) || (same_id id (pos 3) || false)) e in
    let b = neither (same_id id (pos 2)) (same_id id (pos 3) || false) a.1 in
    let c = neither (same_id id (pos 3)) false b.1 in
    rw (a.0, b.0, c.0)

not_noted : (d : Doubles) (id : ℤ) (t : Tree) → among id of_point ≡ false → noted d id t ≡ d
unfolding noted
not_noted d id (val.truth b) e = refl
not_noted d id (val.i8 z) e = refl
not_noted d id (val.i16 z) e = refl
not_noted d id (val.i32 z) e = refl
not_noted d id (val.i64 z) e = refl
not_noted d id (val.double n) e = not_withed d id n e
not_noted d id (val.uuid u) e = refl
not_noted d id (val.bytes cs) e = refl
not_noted d id (val.list t ts) e = refl
not_noted d id (val.set t ts) e = refl
not_noted d id (val.map k v ps) e = refl
not_noted d id (val.struct fs) e = refl

-- a point's three doubles
pub same_doubles : (gs fs : Fields) (d : Doubles) → Inserted of_point fs gs → doubles_from d gs ≡ doubles_from d fs
unfolding Inserted doubles_from
same_doubles no_fields fs d i = sym (ap (doubles_from d) i)
same_doubles (val.field id t gs) fs d (inl (rest, e, i)) = same_doubles gs rest (noted d id t) i ∙ sym (ap (doubles_from d) e)
same_doubles (val.field id t gs) fs d (inr (a, i)) = ap (λ (x : Doubles). doubles_from x gs) (not_noted d id t a) ∙ same_doubles gs fs d i

-- field 1 of a trial
not_first : (id : ℤ) → among id of_trial ≡ false → same_id id (pos 1) ≡ false
unfolding among
not_first id e = (neither (same_id id (pos 1)) false e).0

same_listed : (gs fs : Fields) (l : Listed) → Inserted of_trial fs gs → listed_from l gs ≡ listed_from l fs
unfolding Inserted listed_from
same_listed no_fields fs l i = sym (ap (listed_from l) i)
same_listed (val.field id t gs) fs l (inl (rest, e, i)) = same_listed gs rest (pick (same_id id (pos 1)) (listing l t) l) i ∙ sym (ap (listed_from l) e)
same_listed (val.field id t gs) fs l (inr (a, i)) = ap (λ (b : Bool). listed_from (pick b (listing l t) l) gs) (not_first id a) ∙ same_listed gs fs l i

-- "unknown complete fields put into a trial .., none of a listed id, change" nothing
pub unknown_trial : (fs gs : Fields) → Inserted of_trial fs gs → trial_of gs ≡ trial_of fs
unfolding trial_of
unknown_trial fs gs i = ap points_of (same_listed gs fs absent i)

-- ".. or its points"
pub unknown_judge : (ts us : Trees) (seen : Seen) → Padded ts us → judge seen us ≡ judge seen ts
unfolding Padded judge
unknown_judge no_trees us seen e = ap (judge seen) e
unknown_judge (tree t ts) us seen (u, rest, e, i, p) =
    ap (judge seen) e
    ∙ ap (λ (d : Doubles). onward (λ next. judge next rest) (judged seen d)) (same_doubles (in_point u) (in_point t) _ i)
    ∙ on (judged seen (doubles_of (in_point t))) (λ next. unknown_judge ts rest next p)
  where
    on : (x : Judged) → ((next : Seen) → judge next rest ≡ judge next ts) → onward (λ next. judge next rest) x ≡ onward (λ next. judge next ts) x
    on (Good next) rec = rec next
    on (Bad why) rec = refl

pub unknown_points : (ty : TType) (ts us : Trees) → Padded ts us → points_of (list ty us) ≡ points_of (list ty ts)
unfolding Padded
unknown_points ty no_trees us e = ap (λ (x : Trees). points_of (list ty x)) e
unknown_points ty (tree t ts) us (u, rest, e, i, p) =
    ap (λ (x : Trees). points_of (list ty x)) e
    ∙ ap (λ (x : Judged). cond (lib.Dec.eqb (Rattle.types.specs.Codes.type_code ty) 12) x (Bad 21)) (unknown_judge (tree t ts) (tree u rest) nothing_seen (again u rest i p))
  where
    again : (u : Tree) (rest : Trees) → Inserted of_point (in_point t) (in_point u) → Padded ts rest → Padded (tree t ts) (tree u rest)
    again u rest i p = (u, rest, refl, i, p)
