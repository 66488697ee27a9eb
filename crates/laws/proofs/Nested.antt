-- A value that its bytes spell is nested no deeper than there was room. Assumes nothing.
use mathlib.Core.Path.{◌≡◌}
use mathlib.Core.Bool.{Bool}
use mathlib.Core.Logic.{⊎_elim}
use mathlib.Core.List.{List}
use Prim.Native.Nat.{ℕ, ◌-◌, ◌≤◌}
use native.Mathlib.Omega.{arith}
use lib.IntN.{ℤ, pos}
use Rattle.types.specs.declared.TType.{TType}
use Rattle.types.specs.declared.TConfiguration.{TConfiguration}
use Rattle.types.specs.Value as val
use Rattle.types.specs.Value.{Tree, Trees, no_trees, tree, Pairs, no_pairs, pair, Fields, no_fields, nesting, nesting_all, nesting_pairs, nesting_fields}
use Rattle.heads.specs.Spells.{Spells, SpellsAll, SpellsPairs, SpellsFields}

-- a bool is nested in nothing
flat : (t : Tree) (b : Bool) (room : ℕ) → t ≡ val.truth b → nesting t ≤ room
unfolding nesting
flat t b room e = rw e (omega arith)

module _ (lim : TConfiguration) where
  mutual
    unfolding Spells SpellsAll SpellsPairs SpellsFields nesting nesting_all nesting_pairs nesting_fields

    pub nested : (t : Tree) (room : ℕ) (ty : TType) (bs : List ℕ) → Spells t lim room ty bs → nesting t ≤ room
    nested (val.truth b) room ty bs s = omega arith
    nested (val.i8 z) room ty bs s = omega arith
    nested (val.i16 z) room ty bs s = omega arith
    nested (val.i32 z) room ty bs s = omega arith
    nested (val.i64 z) room ty bs s = omega arith
    nested (val.double n) room ty bs s = omega arith
    nested (val.uuid u) room ty bs s = omega arith
    nested (val.bytes cs) room ty bs s = omega arith
    nested (val.list t ts) room ty bs s = omega (arith, s.1, nested_all ts (room - 1) t s.2.1 s.2.3)
    nested (val.set t ts) room ty bs s = omega (arith, s.1, nested_all ts (room - 1) t s.2.1 s.2.3)
    nested (val.map k v ps) room ty bs s = omega (arith, s.1, nested_pairs ps (room - 1) k v s.2.1 s.2.3)
    nested (val.struct fs) room ty bs s = omega (arith, s.1, nested_fields fs (room - 1) (pos 0) bs s.2)

    nested_all : (ts : Trees) (room : ℕ) (ty : TType) (bs : List ℕ) → SpellsAll ts lim room ty bs → nesting_all ts ≤ room
    nested_all no_trees room ty bs s = omega arith
    nested_all (tree t ts) room ty bs s = omega (arith, nested t room ty s.0 s.2, nested_all ts room ty s.1 s.3)

    nested_pairs : (ps : Pairs) (room : ℕ) (k v : TType) (bs : List ℕ) → SpellsPairs ps lim room k v bs → nesting_pairs ps ≤ room
    nested_pairs no_pairs room k v bs s = omega arith
    nested_pairs (pair t u ps) room k v bs s = omega (arith, nested t room k s.0 s.3, nested u room v s.1 s.4, nested_pairs ps room k v s.2 s.5)

    nested_fields : (fs : Fields) (room : ℕ) (last : ℤ) (bs : List ℕ) → SpellsFields fs lim room last bs → nesting_fields fs ≤ room
    nested_fields no_fields room last bs s = omega arith
    nested_fields (val.field id t fs) room last bs s =
        omega (arith, ⊎_elim (λ b. flat t b.0 room b.1) (λ v. nested t room v.0 s.1 v.2) s.3, nested_fields fs room id s.2 s.4)
