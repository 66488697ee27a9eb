-- More room changes no answer but a DEPTH: a value that is well formed with more room is refused DEPTH exactly where its nesting is over. Assumes nothing.
use mathlib.Core.Path.{◌≡◌, ◌∙◌}
use mathlib.Core.Logic.{◌⊎◌, ⊎_elim}
use mathlib.Core.List.{List}
use Prim.Native.Nat.{ℕ, zero, suc, ◌-◌, ◌≤◌, ◌<◌}
use native.Mathlib.Omega.{arith}
use lib.IntN.{ℤ, pos}
use Rattle.types.specs.Refusals.{DEPTH}
use Rattle.types.specs.declared.TType.{TType}
use Rattle.types.specs.declared.TConfiguration.{TConfiguration}
use Rattle.types.specs.Value as val
use Rattle.types.specs.Value.{Tree, Trees, no_trees, tree, Pairs, no_pairs, pair, Fields, no_fields, nesting, nesting_all, nesting_pairs, nesting_fields}
use Rattle.heads.specs.Heads.{items_head, pairs_head}
use Rattle.heads.specs.Spells.{Spells, SpellsAll, SpellsPairs, SpellsFields, Formed}
use Rattle.skip.specs.Value.{Boxes, shut, roomy, value_of}
use Rattle.skip.specs.Skip.{skip_of}
use Rattle.skip.specs.declared.Skipped.TheVariants.{Refused}
use Rattle.skip.proofs.Past.{past_no}
use Rattle.skip.proofs.Unless.{Less, alike, refuse_less, BoxesLess, boxed_less, shaped_less, same_at, same_past}
use Rattle.skip.proofs.Theorems.{reads, Read, was_spelt}

refuse_boxes : (c : Boxes) → BoxesLess DEPTH shut c
refuse_boxes c = record { list = refuse_less DEPTH c.list; set = refuse_less DEPTH c.set; map = refuse_less DEPTH c.map; struct = refuse_less DEPTH c.struct }

more_room : (lim : TConfiguration) (room r : ℕ) → room ≤ r → (t : TType) → Less DEPTH (value_of lim room t) (value_of lim r t)
unfolding value_of
more_room lim zero zero h t = alike DEPTH _
more_room lim zero (suc r) h t = shaped_less DEPTH lim shut (roomy lim (value_of lim r)) (refuse_boxes (roomy lim (value_of lim r))) t
more_room lim (suc room) zero h t = absurd (omega arith)
more_room lim (suc room) (suc r) h t =
    shaped_less DEPTH lim (roomy lim (value_of lim room)) (roomy lim (value_of lim r))
    (boxed_less DEPTH (items_head lim) (items_head lim) (alike DEPTH _) (pairs_head lim) (pairs_head lim) (alike DEPTH _) (value_of lim room) (value_of lim r) (more_room lim room r (omega arith))) t

-- so does skip
pub skip_room : (s : List ℕ) (lim : TConfiguration) (room r : ℕ) → room ≤ r → (ty : TType) (at : ℕ) → (skip_of s lim room ty at ≡ skip_of s lim r ty at) ⊎ (skip_of s lim room ty at ≡ Refused DEPTH)
unfolding skip_of
skip_room s lim room r h ty at = same_past DEPTH (value_of lim room ty) (value_of lim r ty) (more_room lim room r h ty) s at

-- spelt bytes nest no deeper than the room
mutual
  unfolding Spells SpellsAll SpellsPairs SpellsFields nesting nesting_all nesting_pairs nesting_fields

  pub spelt_nesting : (t : Tree) (lim : TConfiguration) (room : ℕ) (ty : TType) (bs : List ℕ) → Spells t lim room ty bs → nesting t ≤ room
  spelt_nesting (val.truth b) lim room ty bs s = omega arith
  spelt_nesting (val.i8 z) lim room ty bs s = omega arith
  spelt_nesting (val.i16 z) lim room ty bs s = omega arith
  spelt_nesting (val.i32 z) lim room ty bs s = omega arith
  spelt_nesting (val.i64 z) lim room ty bs s = omega arith
  spelt_nesting (val.double n) lim room ty bs s = omega arith
  spelt_nesting (val.uuid u) lim room ty bs s = omega arith
  spelt_nesting (val.bytes cs) lim room ty bs s = omega arith
  spelt_nesting (val.list t ts) lim room ty bs s = omega (arith, all_nesting ts lim (room - 1) t s.2.1 s.2.3, s.1)
  spelt_nesting (val.set t ts) lim room ty bs s = omega (arith, all_nesting ts lim (room - 1) t s.2.1 s.2.3, s.1)
  spelt_nesting (val.map k v ps) lim room ty bs s = omega (arith, pairs_nesting ps lim (room - 1) k v s.2.1 s.2.3, s.1)
  spelt_nesting (val.struct fs) lim room ty bs s = omega (arith, fields_nesting fs lim (room - 1) (pos 0) bs s.2, s.1)

  all_nesting : (ts : Trees) (lim : TConfiguration) (room : ℕ) (ty : TType) (bs : List ℕ) → SpellsAll ts lim room ty bs → nesting_all ts ≤ room
  all_nesting no_trees lim room ty bs s = omega arith
  all_nesting (tree t ts) lim room ty bs s = omega (arith, spelt_nesting t lim room ty s.0 s.2, all_nesting ts lim room ty s.1 s.3)

  pairs_nesting : (ps : Pairs) (lim : TConfiguration) (room : ℕ) (k v : TType) (bs : List ℕ) → SpellsPairs ps lim room k v bs → nesting_pairs ps ≤ room
  pairs_nesting no_pairs lim room k v bs s = omega arith
  pairs_nesting (pair t u ps) lim room k v bs s =
      omega (arith, spelt_nesting t lim room k s.0 s.3, spelt_nesting u lim room v s.1 s.4, pairs_nesting ps lim room k v s.2 s.5)

  fields_nesting : (fs : Fields) (lim : TConfiguration) (room : ℕ) (last : ℤ) (bs : List ℕ) → SpellsFields fs lim room last bs → nesting_fields fs ≤ room
  fields_nesting no_fields lim room last bs s = omega arith
  fields_nesting (val.field id t fs) lim room last bs s =
      ⊎_elim
      (λ b. rw b.1 (omega (arith, fields_nesting fs lim room id s.2 s.4)))
      (λ v. omega (arith, spelt_nesting t lim room v.0 s.1 v.2, fields_nesting fs lim room id s.2 s.4))
      s.3

-- a value that is well formed with more room, nested deeper than the room: DEPTH
pub too_deep : (s : List ℕ) (lim : TConfiguration) (room r : ℕ) (ty : TType) (at e : ℕ) (f : Formed s lim r ty at e) → room ≤ r → room < nesting f.tree → skip_of s lim room ty at ≡ Refused DEPTH
unfolding skip_of
too_deep s lim room r ty at e f h d =
    ⊎_elim
    (λ q. absurd (shallow (was_spelt s lim room ty at e f.tree (q ∙ reads s lim r ty at e f.tree f.start f.inside f.spelt))))
    (λ q. past_no (value_of lim room ty) s at DEPTH q)
    (same_at DEPTH (value_of lim room ty) (value_of lim r ty) (more_room lim room r h ty) s at)
  where
    shallow : Read s lim room ty at e f.tree → ⊥
    shallow g = omega (arith, spelt_nesting f.tree lim room ty _ g.spelt)
