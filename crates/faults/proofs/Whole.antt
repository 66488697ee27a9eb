-- One induction for all laws: what holds of each word holds of the whole value. Assumes nothing.
use mathlib.Core.Path.{◌≡◌, refl, sym, ◌∙◌}
use mathlib.Core.List.{List, [], ◌∷◌}
use Prim.Native.Nat.{ℕ, zero, suc}
use lib.IntN.{ℤ, pos}
use Rattle.types.specs.Refusals.{END, BAD_TYPE, DEPTH}
use Rattle.types.specs.declared.TType.{TType}
use Rattle.types.specs.declared.TType.TheVariants as T
use Rattle.types.specs.declared.TConfiguration.{TConfiguration}
use Rattle.types.specs.Value as val
use Rattle.types.specs.Value.{Tree, Trees, tree, pair, Fields}
use Rattle.heads.specs.Reader as r
use Rattle.heads.specs.Reader.{Reader}
use Rattle.heads.specs.Heads as h
use Rattle.heads.specs.Heads.{Field}
use Rattle.skip.specs.Walk as w
use Rattle.skip.specs.Walk.{Entry, sizing}
use Rattle.skip.specs.Value as s
use Rattle.skip.specs.Value.{fields_of, startable, value_of}
use Rattle.faults.specs.Tracked.{Tracked}
use Rattle.faults.specs.Value as tv
use Rattle.faults.specs.Value.{tracked}
use Rattle.faults.proofs.Readers.{done_then, then_then, then_alike, made_then, sizing_then}
use Rattle.faults.proofs.Rule.{Rule, made, int8_r, int16_r, int32_r, int64_r, double_r, uuid_r, truth_r, binary_r, items_head_r, pairs_head_r, field_r}
use Rattle.faults.proofs.Fuel.{walk_enough}

module _ (R : ℕ → (A : Type 0) → Tracked A → Reader A → Type 0) (ru : Rule R) where
  -- those that hold others
  module _ (m : ℕ) where
    many_r : (p : Tracked Tree) (q : Reader Tree) → R m _ p q → (i n : ℕ) → R (suc m) _ (tv.many p i n) (s.many q n)
    unfolding tv.many s.many
    many_r p q a i zero = ru.done (suc m) _
    many_r p q a i (suc n) =
        ru.then (suc m) _ _ _ _ (ru.labelled m _ p q a) (λ x. made R ru (suc m) _ _ (tree x) (many_r p q a (suc i) n))

    many_pairs_r : (p p' : Tracked Tree) (q q' : Reader Tree) → R m _ p q → R m _ p' q' → (i n : ℕ) → R (suc m) _ (tv.many_pairs p p' i n) (s.many_pairs q q' n)
    unfolding tv.many_pairs s.many_pairs
    many_pairs_r p p' q q' a b i zero = ru.done (suc m) _
    many_pairs_r p p' q q' a b i (suc n) =
        ru.then (suc m) _ _ _ _ (ru.labelled m _ p q a)
        (λ k. ru.then (suc m) _ _ _ _ (ru.labelled m _ p' q' b) (λ v. made R ru (suc m) _ _ (pair k v) (many_pairs_r p p' q q' a b (suc i) n)))

    module _ (f : TType → Tracked Tree) (g : TType → Reader Tree) (a : (ty : TType) → R m _ (f ty) (g ty)) where
      -- the fields in skip's words: entries first, then fields
      abbrev told : Reader (List (Entry Tree)) → Reader Fields
      told p = r.and_then p (λ fs. r.done (fields_of fs))

      rest_is : (on : Reader (List (Entry Tree))) (e : Entry Tree) (bs : List ℕ) → r.and_then (told on) (λ fs. r.done (val.field e.id e.what fs)) bs ≡ told (r.and_then on (λ fs. r.done (e ∷ fs))) bs
      rest_is on e bs = made_then on fields_of _ bs ∙ sym (made_then on (λ fs. e ∷ fs) (λ fs. r.done (fields_of fs)) bs)

      behind_r : (go : ℤ → Tracked Fields) (on : ℤ → Reader (List (Entry Tree))) → ((id : ℤ) → R (suc m) _ (go id) (told (on id))) → (x : Field) (n : ℕ) → R (suc m) _ (tv.behind f go x) (told (w.behind val.truth g on x n))
      behind_r go on b h.stop n = ru.same (suc m) _ _ _ (ru.done (suc m) _) (λ bs. sym (done_then [] (λ fs. r.done (fields_of fs)) bs))
      behind_r go on b (h.bool v id) n =
          ru.same (suc m) _ _ _ (made R ru (suc m) _ _ _ (b id)) (rest_is (on id) (record { id = id; what = val.truth v; head = n; size = 0 }))
      behind_r go on b (h.value ty id) n =
          ru.same (suc m) _ _ _
          (ru.then (suc m) _ _ _ _ (ru.labelled m _ _ _ (a ty)) (λ v. made R ru (suc m) _ _ (val.field id v) (b id)))
          (λ bs. sym (then_then (sizing (g ty)) _ (λ fs. r.done (fields_of fs)) bs
          ∙ sizing_then (g ty) _ _ (λ v z cs. sym (rest_is (on id) (record { id = id; what = v; head = n; size = z }) cs)) bs))

      none_is : (bs : List ℕ) → r.refuse END bs ≡ told (r.refuse END) bs
      unfolding r.refuse r.and_then
      none_is bs = refl

      walk_r : (k : ℕ) (last : ℤ) → R (suc m) _ (tv.walk f k last) (told (w.walk val.truth g k last))
      unfolding tv.walk w.walk
      walk_r zero last = ru.same (suc m) _ _ _ (ru.missing (suc m)) none_is
      walk_r (suc k) last =
          ru.same (suc m) _ _ _
          (ru.then (suc m) _ _ _ (λ x. told (w.behind val.truth g (w.walk val.truth g k) x 0)) (field_r R ru (suc m) last) (λ x. behind_r (tv.walk f k) (w.walk val.truth g k) (walk_r k) x 0))
          (λ bs. sym (then_then (sizing (h.field last)) _ (λ fs. r.done (fields_of fs)) bs
          ∙ sizing_then (h.field last) _ _ (λ x z cs. head_no_say k x z cs) bs))
        where
          head_no_say : (k : ℕ) (x : Field) (z : ℕ) (cs : List ℕ) → told (w.behind val.truth g (w.walk val.truth g k) x z) cs ≡ told (w.behind val.truth g (w.walk val.truth g k) x 0) cs
          head_no_say k h.stop z cs = refl
          head_no_say k (h.bool v id) z cs =
              sym (rest_is (w.walk val.truth g k id) (record { id = id; what = val.truth v; head = z; size = 0 }) cs)
              ∙ rest_is (w.walk val.truth g k id) (record { id = id; what = val.truth v; head = 0; size = 0 }) cs
          head_no_say k (h.value ty id) z cs =
              then_then (sizing (g ty)) _ (λ fs. r.done (fields_of fs)) cs
              ∙ then_alike (sizing (g ty)) _ _ (λ v ds.
              sym (rest_is (w.walk val.truth g k id) (record { id = id; what = v.0; head = z; size = v.1 }) ds)
              ∙ rest_is (w.walk val.truth g k id) (record { id = id; what = v.0; head = 0; size = v.1 }) ds) cs
              ∙ sym (then_then (sizing (g ty)) _ (λ fs. r.done (fields_of fs)) cs)

      fields_r : (last : ℤ) → R (suc m) _ (tv.fields f last) (told (w.fields val.truth g last))
      unfolding tv.fields w.fields r.and_then
      fields_r last = ru.left (suc m) (λ k. tv.walk f k last) (λ k. told (w.walk val.truth g k last)) (walk_enough f last) (λ k. walk_r k last)

      items_of_r : (lim : TConfiguration) (mk : TType → Trees → Tree) → R (suc m) _ (tv.items_of lim f mk) (r.and_then (h.items_head lim) (λ x. r.provided (startable x.0 x.1) BAD_TYPE (r.and_then (s.many (g x.0) x.1) (λ ts. r.done (mk x.0 ts)))))
      unfolding tv.items_of
      items_of_r lim mk =
          ru.then (suc m) _ _ _ _ (items_head_r R ru (suc m) lim)
          (λ x. ru.provided (suc m) _ BAD_TYPE _ _ (made R ru (suc m) _ _ (mk x.0) (many_r (f x.0) (g x.0) (a x.0) 0 x.1)))

      map_of_r : (lim : TConfiguration) → R (suc m) _ (tv.map_of lim f) (s.roomy lim g).map
      unfolding tv.map_of
      map_of_r lim =
          ru.then (suc m) _ _ _ _ (pairs_head_r R ru (suc m) lim)
          (λ x. ru.provided (suc m) _ BAD_TYPE _ _ (ru.provided (suc m) _ BAD_TYPE _ _
          (made R ru (suc m) _ _ (val.map x.0 x.1) (many_pairs_r (f x.0) (f x.1) (g x.0) (g x.1) (a x.0) (a x.1) 0 x.2))))

      struct_of_r : R (suc m) _ (tv.struct_of f) (r.and_then (w.fields val.truth g (pos 0)) (λ fs. r.done (val.struct (fields_of fs))))
      unfolding tv.struct_of
      struct_of_r =
          ru.same (suc m) _ _ _ (made R ru (suc m) _ _ val.struct (fields_r (pos 0))) (made_then (w.fields val.truth g (pos 0)) fields_of (λ fs. r.done (val.struct fs)))

  -- a value
  record Boxed (m : ℕ) (b : tv.Boxes) (c : s.Boxes) : Type 0 where
    list : R m _ b.list c.list
    set : R m _ b.set c.set
    map : R m _ b.map c.map
    struct : R m _ b.struct c.struct

  shaped_r : (m : ℕ) (lim : TConfiguration) (b : tv.Boxes) (c : s.Boxes) → Boxed m b c → (ty : TType) → R m _ (tv.shaped lim b ty) (s.shaped lim c ty)
  shaped_r m lim b c x T.Stop = ru.refuse m BAD_TYPE
  shaped_r m lim b c x T.Bool = made R ru m _ _ _ (truth_r R ru m)
  shaped_r m lim b c x T.I08 = made R ru m _ _ _ (int8_r R ru m)
  shaped_r m lim b c x T.I16 = made R ru m _ _ _ (int16_r R ru m)
  shaped_r m lim b c x T.I32 = made R ru m _ _ _ (int32_r R ru m)
  shaped_r m lim b c x T.I64 = made R ru m _ _ _ (int64_r R ru m)
  shaped_r m lim b c x T.Double = made R ru m _ _ _ (double_r R ru m)
  shaped_r m lim b c x T.String = made R ru m _ _ _ (binary_r R ru m lim)
  shaped_r m lim b c x T.List = x.list
  shaped_r m lim b c x T.Set = x.set
  shaped_r m lim b c x T.Map = x.map
  shaped_r m lim b c x T.Struct = x.struct
  shaped_r m lim b c x T.Uuid = made R ru m _ _ _ (uuid_r R ru m)

  pub holds : (lim : TConfiguration) (room : ℕ) (ty : TType) → R room _ (tracked lim room ty) (value_of lim room ty)
  unfolding tracked value_of
  holds lim zero ty =
      shaped_r zero lim tv.shut s.shut (record { list = ru.refuse 0 DEPTH; set = ru.refuse 0 DEPTH; map = ru.refuse 0 DEPTH; struct = ru.refuse 0 DEPTH }) ty
  holds lim (suc room) ty =
      let inner = holds lim room in
      shaped_r (suc room) lim (tv.roomy lim (tracked lim room)) (s.roomy lim (value_of lim room))
      (record {
        list = items_of_r room (tracked lim room) (value_of lim room) inner lim val.list;
        set = items_of_r room (tracked lim room) (value_of lim room) inner lim val.set;
        map = map_of_r room (tracked lim room) (value_of lim room) inner lim;
        struct = struct_of_r room (tracked lim room) (value_of lim room) inner;
      })
      ty
