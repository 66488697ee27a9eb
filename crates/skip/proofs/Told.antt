-- Every refusal of a value that is passed over is one that the input shows. Assumes nothing.
use mathlib.Core.Path.{◌≡◌, refl, sym, ap, ◌∙◌}
use mathlib.Core.Bool.{Bool}
use mathlib.Core.List.{List}
use Prim.Native.Nat.{ℕ, zero, suc}
use lib.ListN.{length}
use lib.IntN.{ℤ, pos}
use Rattle.types.specs.Refusals.{END, BAD_TYPE, DEPTH}
use Rattle.types.specs.declared.TType.{TType}
use Rattle.types.specs.declared.TType.TheVariants as T
use Rattle.types.specs.declared.TConfiguration.{TConfiguration}
use Rattle.types.specs.Value as val
use Rattle.types.specs.Value.{Tree, Trees}
use Rattle.numbers.specs.Varint.{Found, got, refused}
use Rattle.heads.specs.Reader.{Reader, done, and_then, provided}
use Rattle.heads.specs.Heads.{Field, stop, bool, value, field, items_head, pairs_head}
use Rattle.heads.proofs.Lawful.{not_both}
use Rattle.input.proofs.Refusals.{Own, own, Told, done_told, refuse_told, then_told, provided_told, int8_told, int16_told, int32_told, int64_told, double_told, uuid_told, truth_told, binary_told, items_head_told, pairs_head_told, field_told}
use Rattle.skip.specs.Walk.{Entry, with_size, sizing, behind, walk, fields}
use Rattle.skip.specs.Value.{many, many_pairs, startable, Boxes, shut, roomy, shaped, value_of}

sizing_told : {A : Type 0} (p : Reader A) → Told p → Told (sizing p)
unfolding sizing
sizing_told {A} p h bs why e = go (p bs) refl e
  where
    go : (x : Found A) → p bs ≡ x → with_size x ≡ refused why → Own why
    go (got a n) f g = not_both (sym g)
    go (refused u) f g = h bs why (f ∙ ap refused (cc))

many_told_lem : (p : Reader Tree) → Told p → (n : ℕ) → Told (many p n)
unfolding many
many_told_lem p h zero = done_told _
many_told_lem p h (suc n) = then_told p _ h (λ t. then_told (many p n) _ (many_told_lem p h n) (λ ts. done_told _))

many_pairs_told : (p q : Reader Tree) → Told p → Told q → (n : ℕ) → Told (many_pairs p q n)
unfolding many_pairs
many_pairs_told p q h g zero = done_told _
many_pairs_told p q h g (suc n) = then_told p _ h (λ k. then_told q _ g (λ v. then_told (many_pairs p q n) _ (many_pairs_told p q h g n) (λ ps. done_told _)))

module _ {A : Type 0} (truth : Bool → A) (f : TType → Reader A) (h : (t : TType) → Told (f t)) where
  behind_told_lem : (go : ℤ → Reader (List (Entry A))) → ((id : ℤ) → Told (go id)) → (x : Field) (n : ℕ) → Told (behind truth f go x n)
  behind_told_lem go l stop n = done_told _
  behind_told_lem go l (bool b id) n = then_told (go id) _ (l id) (λ fs. done_told _)
  behind_told_lem go l (value t id) n = then_told (sizing (f t)) _ (sizing_told (f t) (h t)) (λ v. then_told (go id) _ (l id) (λ fs. done_told _))

  walk_told_lem : (k : ℕ) (last : ℤ) → Told (walk truth f k last)
  unfolding walk
  walk_told_lem zero last = refuse_told END (own END refl refl)
  walk_told_lem (suc k) last = then_told (sizing (field last)) _ (sizing_told (field last) (field_told last)) (λ v. behind_told_lem (walk truth f k) (walk_told_lem k) v.0 v.1)

  fields_told_lem : (last : ℤ) → Told (fields truth f last)
  unfolding fields
  fields_told_lem last bs why e = walk_told_lem (length bs) last bs why e

record BoxesTold (b : Boxes) : Type 0 where
  list : Told b.list
  set : Told b.set
  map : Told b.map
  struct : Told b.struct

module _ (lim : TConfiguration) where
  items_then : (inner : TType → Reader Tree) → ((t : TType) → Told (inner t)) → (g : TType → Trees → Tree) → Told (and_then (items_head lim) (λ h. provided (startable h.0 h.1) BAD_TYPE (and_then (many (inner h.0) h.1) (λ ts. done (g h.0 ts)))))
  items_then inner l g =
      then_told (items_head lim) _ (items_head_told lim)
      (λ h. provided_told (startable h.0 h.1) BAD_TYPE _ (own BAD_TYPE refl refl) (then_told (many (inner h.0) h.1) _ (many_told_lem (inner h.0) (l h.0) h.1) (λ ts. done_told _)))

  roomy_told_lem : (inner : TType → Reader Tree) → ((t : TType) → Told (inner t)) → BoxesTold (roomy lim inner)
  roomy_told_lem inner l =
      record {
        list = items_then inner l val.list;
        set = items_then inner l val.set;
        map =
            then_told (pairs_head lim) _ (pairs_head_told lim)
            (λ h. provided_told (startable h.0 h.2) BAD_TYPE _ (own BAD_TYPE refl refl) (provided_told (startable h.1 h.2) BAD_TYPE _ (own BAD_TYPE refl refl)
            (then_told (many_pairs (inner h.0) (inner h.1) h.2) _ (many_pairs_told (inner h.0) (inner h.1) (l h.0) (l h.1) h.2) (λ ps. done_told _))));
        struct = then_told (fields val.truth inner (pos 0)) _ (fields_told_lem val.truth inner l (pos 0)) (λ fs. done_told _);
      }

  shut_told_lem : BoxesTold shut
  shut_told_lem = record { list = refuse_told DEPTH (own DEPTH refl refl); set = refuse_told DEPTH (own DEPTH refl refl); map = refuse_told DEPTH (own DEPTH refl refl); struct = refuse_told DEPTH (own DEPTH refl refl) }

  shaped_told_lem : (b : Boxes) → BoxesTold b → (t : TType) → Told (shaped lim b t)
  shaped_told_lem b l T.Stop = refuse_told BAD_TYPE (own BAD_TYPE refl refl)
  shaped_told_lem b l T.Bool = then_told _ _ truth_told (λ a. done_told _)
  shaped_told_lem b l T.I08 = then_told _ _ int8_told (λ a. done_told _)
  shaped_told_lem b l T.I16 = then_told _ _ int16_told (λ a. done_told _)
  shaped_told_lem b l T.I32 = then_told _ _ int32_told (λ a. done_told _)
  shaped_told_lem b l T.I64 = then_told _ _ int64_told (λ a. done_told _)
  shaped_told_lem b l T.Double = then_told _ _ double_told (λ a. done_told _)
  shaped_told_lem b l T.String = then_told _ _ (binary_told lim) (λ a. done_told _)
  shaped_told_lem b l T.List = l.list
  shaped_told_lem b l T.Set = l.set
  shaped_told_lem b l T.Map = l.map
  shaped_told_lem b l T.Struct = l.struct
  shaped_told_lem b l T.Uuid = then_told _ _ uuid_told (λ a. done_told _)

  pub value_told_lem : (room : ℕ) (t : TType) → Told (value_of lim room t)
  unfolding value_of
  value_told_lem zero t = shaped_told_lem shut shut_told_lem t
  value_told_lem (suc room) t = shaped_told_lem (roomy lim (value_of lim room)) (roomy_told_lem (value_of lim room) (value_told_lem room)) t
