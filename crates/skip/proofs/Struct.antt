-- The loop of skip_struct: a run of short fields, and then one that is looked at more closely. Assumes nothing.
use mathlib.Core.Path.{◌≡◌, sym, ◌∙◌}
use mathlib.Core.Bool.{Bool}
use mathlib.Core.List.{List}
use Prim.Native.Nat.{ℕ, suc, ◌-◌, ◌<◌}
use native.Mathlib.Omega.{arith}
use lib.ListN.{length}
use lib.IntN.{ℤ, pos}
use Rattle.types.specs.declared.Place.{Place}
use Rattle.types.specs.declared.FieldId.{FieldId}
use Rattle.types.specs.declared.TType.{TType}
use Rattle.types.specs.declared.TType.TheVariants as T
use Rattle.types.specs.declared.TConfiguration.{TConfiguration}
use Rattle.types.specs.Value as val
use Rattle.heads.specs.Answers.{place, field_at}
use Rattle.heads.specs.declared.FieldHead.{FieldHead}
use Rattle.heads.specs.declared.FieldHead.TheVariants as F
use Rattle.skip.specs.Walk.{fields}
use Rattle.skip.specs.Value.{value_of}
use Rattle.skip.specs.Skip.{past, skip_of}
use Rattle.skip.specs.Leaves.{stop_end, Onward}
use Rattle.skip.specs.declared.Skipped.{Skipped}
use Rattle.skip.specs.declared.Skipped.TheVariants.{Done, Refused}
use Rattle.skip.proofs.Leaf.{stop_there}
use Rattle.skip.proofs.Cycle.{walk_stop, struct_refused, struct_stop, struct_bool, struct_value, struct_value_no, struct_in, bool_less, value_less}
use Rattle.skip.proofs.Short.{run_later, run_same}

module _ (s : List ℕ) (lim : TConfiguration) (room at : ℕ) (last₀ : FieldId) (p₀ : Place) (inv : past (fields val.truth (value_of lim room) last₀.0) s p₀.0 ≡ past (fields val.truth (value_of lim room) (pos 0)) s at) (last : FieldId) (p : Place) (below : ℤ) (o : Onward s p₀.0 last₀.0 below p.0 last.0) where
  onto : past (fields val.truth (value_of lim room) last.0) s p.0 ≡ past (fields val.truth (value_of lim room) (pos 0)) s at
  onto = run_same s lim room p₀.0 last₀.0 below p.0 last.0 o ∙ inv

  whole : past (fields val.truth (value_of lim room) last.0) s p.0 ≡ skip_of s lim (suc room) T.Struct at
  whole = onto ∙ struct_in s lim room at

  pub fields_stopped : (e : Place) → e ≡ place (stop_end s p.0) → p.0 < e.0 → Done e ≡ skip_of s lim (suc room) T.Struct at
  fields_stopped e f l = sym (walk_stop val.truth (value_of lim room) s last.0 p.0 e.0 (stop_there s last.0 p.0 e f l)) ∙ whole

  module _ (h : FieldHead) (e : h ≡ field_at s last.0 p.0) where
    pub fields_broken : (why : ℕ) → h ≡ F.Refused why → Refused why ≡ skip_of s lim (suc room) T.Struct at
    fields_broken why g = struct_refused s lim room last.0 p.0 h e why g ∙ whole

    pub fields_over : (q : Place) → h ≡ F.Stop q → Done q ≡ skip_of s lim (suc room) T.Struct at
    fields_over q g = struct_stop s lim room last.0 p.0 h e q g ∙ whole

    pub fields_bool : (b : Bool) (id : FieldId) (q : Place) → h ≡ F.Bool b id q → past (fields val.truth (value_of lim room) id.0) s q.0 ≡ past (fields val.truth (value_of lim room) (pos 0)) s at
    fields_bool b id q g = struct_bool s lim room last.0 p.0 h e b id q g ∙ onto

    module _ (t : TType) (id : FieldId) (m : Place) (g : h ≡ F.Value t id m) (r : Skipped) (f : r ≡ skip_of s lim room t m.0) where
      pub fields_cut : (why : ℕ) → r ≡ Refused why → Refused why ≡ skip_of s lim (suc room) T.Struct at
      fields_cut why y = struct_value_no s lim room last.0 p.0 h e t id m g r f why y ∙ whole

      pub fields_value : (q : Place) → r ≡ Done q → past (fields val.truth (value_of lim room) id.0) s q.0 ≡ past (fields val.truth (value_of lim room) (pos 0)) s at
      fields_value q y = struct_value s lim room last.0 p.0 h e t id m g r f q y ∙ onto

pub ruleset struct_cases = (fields_stopped, fields_broken, fields_over, fields_bool, fields_cut, fields_value)

-- a run takes none back
module _ (s : List ℕ) (last₀ : FieldId) (p₀ : Place) (last : FieldId) (p : Place) (below : ℤ) (o : Onward s p₀.0 last₀.0 below p.0 last.0) where
  module _ (h : FieldHead) (e : h ≡ field_at s last.0 p.0) where
    pub run_bool_less : (b : Bool) (id : FieldId) (q : Place) → h ≡ F.Bool b id q → length s - q.0 < length s - p₀.0
    run_bool_less b id q g = omega (arith, run_later s p₀.0 last₀.0 below p.0 last.0 o, bool_less s last p h e b id q g)

    pub run_value_less : (lim : TConfiguration) (room : ℕ) (t : TType) (id : FieldId) (m : Place) (r : Skipped) (q : Place) → h ≡ F.Value t id m → r ≡ skip_of s lim room t m.0 → r ≡ Done q → length s - q.0 < length s - p₀.0
    run_value_less lim room t id m r q g f y = omega (arith, run_later s p₀.0 last₀.0 below p.0 last.0 o, value_less s last p h e lim room t id m r q g f y)

pub ruleset run_less = (run_bool_less, run_value_less)
