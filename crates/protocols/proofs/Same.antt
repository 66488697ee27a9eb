-- The compact protocol's own definitions are those over the record, with its words. Assumes nothing.
use mathlib.Core.Path.{◌≡◌, refl, ap, fun_ext, ◌∙◌}
use mathlib.Core.Bool.{Bool}
use mathlib.Core.List.{List}
use Prim.Native.Nat.{ℕ, zero, suc}
use lib.ListN.{length}
use lib.IntN.{ℤ, pos}
use Rattle.types.specs.declared.TType.{TType}
use Rattle.types.specs.declared.TType.TheVariants as T
use Rattle.types.specs.declared.TConfiguration.{TConfiguration}
use Rattle.types.specs.Value as val
use Rattle.types.specs.Value.{Tree}
use Rattle.heads.specs.Reader.{Reader, done, and_then}
use Rattle.heads.specs.Heads.{field, items_head, pairs_head}
use Rattle.skip.specs.Walk.{Entry, sizing, behind, walk, fields}
use Rattle.skip.specs.Value.{fields_of, roomy, value_of}
use Rattle.protocols.specs.Words.{compact}
use Rattle.protocols.specs.Value.{walk_by, fields_by, roomy_by, shaped_by, value_by}

module _ {A : Type 0} (truth : Bool → A) (f : TType → Reader A) where
  walk_same : (k : ℕ) → walk_by compact truth f k ≡ walk truth f k
  unfolding walk_by walk
  walk_same zero = refl
  walk_same (suc k) = ap {B = ℤ → Reader (List (Entry A))} (λ (go : ℤ → Reader (List (Entry A))) (last : ℤ). and_then (sizing (field last)) (λ h. behind truth f go h.0 h.1)) (walk_same k)

  fields_same : (last : ℤ) → fields_by compact truth f last ≡ fields truth f last
  unfolding fields_by fields
  fields_same last = fun_ext (λ bs. ap (λ (go : ℤ → Reader (List (Entry A))). go last bs) (walk_same (length bs)))

-- with inner readers that are the same
module _ (lim : TConfiguration) (inner : TType → Reader Tree) where
  list_same : (roomy_by compact lim inner).list ≡ (roomy lim inner).list
  unfolding items_head
  list_same = refl

  set_same : (roomy_by compact lim inner).set ≡ (roomy lim inner).set
  unfolding items_head
  set_same = refl

  map_same : (roomy_by compact lim inner).map ≡ (roomy lim inner).map
  unfolding pairs_head
  map_same = refl

  struct_same : (roomy_by compact lim inner).struct ≡ (roomy lim inner).struct
  struct_same = ap (λ (p : Reader (List (Entry Tree))). and_then p (λ fs. done (val.struct (fields_of fs)))) (fields_same val.truth inner (pos 0))

-- the value in the bytes
pub value_same : (lim : TConfiguration) (room : ℕ) → value_by compact lim room ≡ value_of lim room
unfolding value_by value_of
value_same lim zero = fun_ext at
  where
    at : (ty : TType) → value_by compact lim zero ty ≡ value_of lim zero ty
    at T.Stop = refl
    at T.Bool = refl
    at T.I08 = refl
    at T.I16 = refl
    at T.I32 = refl
    at T.I64 = refl
    at T.Double = refl
    at T.String = refl
    at T.List = refl
    at T.Set = refl
    at T.Map = refl
    at T.Struct = refl
    at T.Uuid = refl
value_same lim (suc room) = ap {B = TType → Reader Tree} (λ (inner : TType → Reader Tree) (ty : TType). shaped_by compact lim (roomy_by compact lim inner) ty) (value_same lim room) ∙ fun_ext at
  where
    at : (ty : TType) → shaped_by compact lim (roomy_by compact lim (value_of lim room)) ty ≡ value_of lim (suc room) ty
    at T.Stop = refl
    at T.Bool = refl
    at T.I08 = refl
    at T.I16 = refl
    at T.I32 = refl
    at T.I64 = refl
    at T.Double = refl
    at T.String = refl
    at T.List = list_same lim (value_of lim room)
    at T.Set = set_same lim (value_of lim room)
    at T.Map = map_same lim (value_of lim room)
    at T.Struct = struct_same lim (value_of lim room)
    at T.Uuid = refl
