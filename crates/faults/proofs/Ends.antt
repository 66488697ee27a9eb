-- The path's end: a refusal without a path is one of the value's own header, or of its own bytes. Assumes nothing.
use mathlib.Core.Path.{◌≡◌, refl, sym, ap, subst, ◌∙◌}
use mathlib.Core.Bool.{Bool, true, false, cond, ◌&&◌}
use mathlib.Core.Logic.{◌⊎◌, inl, inr}
use mathlib.Core.List.{List, [], ◌∷◌, ◌++◌, append_assoc}
use Prim.Native.Nat.{ℕ, zero, suc, ◌+◌, ◌-◌, ◌≤◌, ◌<◌}
use native.Mathlib.Omega.{arith}
use lib.ListN.{length, take, drop, length-append, length-drop}
use lib.IntN.{ℤ, pos}
use Rattle.types.specs.Refusals.{END, BAD_TYPE, DEPTH}
use Rattle.types.specs.Codes.{field_type}
use Rattle.types.specs.declared.TType.{TType}
use Rattle.types.specs.declared.TType.TheVariants as T
use Rattle.types.specs.declared.TConfiguration.{TConfiguration}
use Rattle.types.specs.Value as val
use Rattle.types.specs.Value.{Tree, Trees, tree, pair, no_fields}
use Rattle.numbers.specs.Varint.{got, refused}
use Rattle.heads.specs.Reader as r
use Rattle.heads.specs.Reader.{Reader, Whole}
use Rattle.heads.specs.Heads as h
use Rattle.heads.specs.Heads.{Field}
use Rattle.heads.specs.Spells.{SpellsFields}
use Rattle.heads.proofs.Readers.{field_lawful, field_takes}
use Rattle.skip.specs.Value.{startable, value_of}
use Rattle.skip.proofs.Sound.{sound}
use Rattle.skip.proofs.Lawfuls.{value_lawful}
use Rattle.faults.specs.Tracked as way
use Rattle.faults.specs.Tracked.{Step, Tried, Tracked, found, broke, done, refuse, and_then, provided, labelled, under, reach}
use Rattle.faults.specs.Heads as th
use Rattle.faults.specs.Heads.{items_head, pairs_head, field}
use Rattle.faults.specs.Value.{many, many_pairs, behind, fields, items_of, map_of, struct_of, Boxes, shut, roomy, shaped, tracked}
use Rattle.faults.specs.Breaks.{last_id, Stops, NoRoom, ItemsEnd, PairsEnd, FieldsEnd, End}
use Rattle.faults.proofs.Rule.{int8_r, int16_r, int32_r, int64_r, double_r, uuid_r, truth_r, binary_r, items_head_r, pairs_head_r, field_r}
use Rattle.faults.proofs.Finds.{forget, Finds, finds}
use Rattle.faults.proofs.Paths.{steps}
use Rattle.faults.proofs.First.{Ended, ended_end, Fits, Again, FirstAt, First, first}
use Rattle.faults.proofs.Fuel.{fields_step}
use Rattle.faults.proofs.Theorems.{tracked_value}
use Rattle.faults.proofs.Parts.{never, Later, parted, unmade, unlabelled, was_got, front_long, front_whole, joined}

-- a reader that a tracked one follows stops where that is refused
module _ {A : Type 0} (p : Tracked A) (q : Reader A) (is : (bs : List ℕ) → forget (p bs) ≡ q bs) (f : (bs : List ℕ) → FirstAt p bs) (bs : List ℕ) (why n : ℕ) (path : List Step) (e : p bs ≡ broke why n path) where
  fits_in : (l : ℕ) → (n ≤ l) ⊎ ((why ≡ END) × (n ≡ suc l)) → n ≤ suc l
  fits_in l (inl g) = omega arith
  fits_in l (inr g) = omega (arith, g.1)

  again : (cs : List ℕ) → length bs ≤ length cs → Again (p cs) (p bs) (length cs) (length bs) → q cs ≡ refused why
  again cs l (inl g) = sym (is cs) ∙ ap forget (g ∙ e)
  again cs l (inr g) = absurd (omega (arith, g.1))

  pub stops : Stops q bs why n
  stops =
      record {
        refuses = sym (is bs) ∙ ap forget e;
        within = fits_in (length bs) (subst (Fits (length bs)) e (f bs).fits);
        fewer = λ j l. sym (is (take j bs)) ∙ ended_end (p (take j bs)) ((f bs).cut j (subst (λ (x : Tried A). j < reach x) (sym e) l));
        same = λ z cs l k. again cs l ((f bs).firm cs (λ u. z (subst Ended e u)) (subst (λ (x : Tried A). take (reach x) cs ≡ take (reach x) bs) (sym e) k));
      }

-- a step is never the end
no_own : {A X : Type 0} (i : Step) (x : Tried A) (why n : ℕ) → under i x ≡ broke why n [] → X
no_own i (found a m) why n e = never e
no_own i (broke w m p) why n e = let z : suc (length p) ≡ 0 = ap steps e in absurd (omega (arith, z))

many_none : {X : Type 0} (f : Tracked Tree) (i k : ℕ) (bs : List ℕ) (why n : ℕ) → many f i k bs ≡ broke why n [] → X
unfolding many labelled done
many_none f i zero bs why n e = never e
many_none {X} f i (suc k) bs why n e = by (parted (labelled (way.element i) f) _ bs why n [] e) (λ cs m. many_none f (suc i) k cs why m)
  where
    by : (labelled (way.element i) f bs ≡ broke why n []) ⊎ Later (labelled (way.element i) f bs) (λ a. and_then (many f (suc i) k) (λ ts. done (tree a ts))) bs why n [] → ((cs : List ℕ) (m : ℕ) → many f (suc i) k cs ≡ broke why m [] → X) → X
    by (inl g) ih = no_own (way.element i) (f bs) why n g
    by (inr g) ih = ih (drop g.used bs) g.more (unmade (many f (suc i) k) (tree g.one) (drop g.used bs) why g.more [] g.second)

pairs_none : {X : Type 0} (f g : Tracked Tree) (i k : ℕ) (bs : List ℕ) (why n : ℕ) → many_pairs f g i k bs ≡ broke why n [] → X
unfolding many_pairs labelled done
pairs_none f g i zero bs why n e = never e
pairs_none {X} f g i (suc k) bs why n e = by (parted (labelled (way.key i) f) _ bs why n [] e) (λ cs m. pairs_none f g (suc i) k cs why m)
  where
    second : (a : Tree) (cs : List ℕ) (m : ℕ) → (labelled (way.value i) g cs ≡ broke why m []) ⊎ Later (labelled (way.value i) g cs) (λ b. and_then (many_pairs f g (suc i) k) (λ ps. done (pair a b ps))) cs why m [] → ((ds : List ℕ) (j : ℕ) → many_pairs f g (suc i) k ds ≡ broke why j [] → X) → X
    second a cs m (inl u) ih = no_own (way.value i) (g cs) why m u
    second a cs m (inr u) ih = ih (drop u.used cs) u.more (unmade (many_pairs f g (suc i) k) (pair a u.one) (drop u.used cs) why u.more [] u.second)

    by : (labelled (way.key i) f bs ≡ broke why n []) ⊎ Later (labelled (way.key i) f bs) (λ a. and_then (labelled (way.value i) g) (λ b. and_then (many_pairs f g (suc i) k) (λ ps. done (pair a b ps)))) bs why n [] → ((cs : List ℕ) (m : ℕ) → many_pairs f g (suc i) k cs ≡ broke why m [] → X) → X
    by (inl u) ih = no_own (way.key i) (f bs) why n u
    by (inr u) ih = second u.one (drop u.used bs) u.more (parted (labelled (way.value i) g) _ (drop u.used bs) why u.more [] u.second) ih

-- one level: a container with room for its elements
module _ (lim : TConfiguration) (room : ℕ) (bs : List ℕ) (why n : ℕ) where
  refused_at_lem : (m : ℕ) → ◌≡◌ {A = Tried Tree} (broke BAD_TYPE 0 []) (broke why m []) → (why ≡ BAD_TYPE) × (m ≡ 0)
  refused_at_lem m e = let a : BAD_TYPE ≡ why = cc in let b : 0 ≡ m = ap reach e in (sym a, sym b)

  items_end : (g : TType → Trees → Tree) → items_of lim (tracked lim room) g bs ≡ broke why n [] → ItemsEnd lim (suc room) bs why n
  unfolding items_of Finds First provided
  items_end g e = by (parted (items_head lim) _ bs why n [] e)
    where
      behind_head : (t : TType) (k a m : ℕ) → items_head lim bs ≡ found (t, k) a → n ≡ a + m → (c : Bool) → startable t k ≡ c → cond c (and_then (many (tracked lim room t) 0 k) (λ ts. done (g t ts)) (drop a bs)) (broke BAD_TYPE 0 []) ≡ broke why m [] → ItemsEnd lim (suc room) bs why n
      behind_head t k a m f q true c u = many_none (tracked lim room t) 0 k (drop a bs) why m (unmade (many (tracked lim room t) 0 k) (g t) (drop a bs) why m [] u)
      behind_head t k a m f q false c u =
          let o = refused_at_lem m u in
          let z : a ≡ n = omega (arith, q, o.1) in
          (omega arith, inr (t, k, was_got (items_head lim) (h.items_head lim) (items_head_r Finds finds 0 lim) bs (t, k) a f ∙ ap (got (t, k)) z, c, o.0))

      by : (items_head lim bs ≡ broke why n []) ⊎ Later (items_head lim bs) (λ x. provided (startable x.0 x.1) BAD_TYPE (and_then (many (tracked lim room x.0) 0 x.1) (λ ts. done (g x.0 ts)))) bs why n [] → ItemsEnd lim (suc room) bs why n
      by (inl f) = (omega arith, inl (stops (items_head lim) (h.items_head lim) (items_head_r Finds finds 0 lim) (items_head_r First first 0 lim) bs why n [] f))
      by (inr f) = behind_head f.one.0 f.one.1 f.used f.more f.first f.all (startable f.one.0 f.one.1) refl f.second

  pairs_end : map_of lim (tracked lim room) bs ≡ broke why n [] → PairsEnd lim (suc room) bs why n
  unfolding map_of Finds First provided
  pairs_end e = by (parted (pairs_head lim) _ bs why n [] e)
    where
      stopped : (t u : TType) (k a m : ℕ) → pairs_head lim bs ≡ found (t, u, k) a → n ≡ a + m → startable t k && startable u k ≡ false → ◌≡◌ {A = Tried Tree} (broke BAD_TYPE 0 []) (broke why m []) → PairsEnd lim (suc room) bs why n
      stopped t u k a m f q c w =
          let o = refused_at_lem m w in
          let z : a ≡ n = omega (arith, q, o.1) in
          (omega arith, inr (t, u, k, was_got (pairs_head lim) (h.pairs_head lim) (pairs_head_r Finds finds 0 lim) bs (t, u, k) a f ∙ ap (got (t, u, k)) z, c, o.0))

      behind_head : (t u : TType) (k a m : ℕ) → pairs_head lim bs ≡ found (t, u, k) a → n ≡ a + m → (c d : Bool) → startable t k ≡ c → startable u k ≡ d → cond c (cond d (and_then (many_pairs (tracked lim room t) (tracked lim room u) 0 k) (λ ps. done (val.map t u ps)) (drop a bs)) (broke BAD_TYPE 0 [])) (broke BAD_TYPE 0 []) ≡ broke why m [] → PairsEnd lim (suc room) bs why n
      behind_head t u k a m f q true true c d w =
          pairs_none (tracked lim room t) (tracked lim room u) 0 k (drop a bs) why m (unmade (many_pairs (tracked lim room t) (tracked lim room u) 0 k) (val.map t u) (drop a bs) why m [] w)
      behind_head t u k a m f q true false c d w = stopped t u k a m f q (rw (c, d)) w
      behind_head t u k a m f q false y c d w = stopped t u k a m f q (rw c) w

      by : (pairs_head lim bs ≡ broke why n []) ⊎ Later (pairs_head lim bs) (λ x. provided (startable x.0 x.2) BAD_TYPE (provided (startable x.1 x.2) BAD_TYPE (and_then (many_pairs (tracked lim room x.0) (tracked lim room x.1) 0 x.2) (λ ps. done (val.map x.0 x.1 ps))))) bs why n [] → PairsEnd lim (suc room) bs why n
      by (inl f) = (omega arith, inl (stops (pairs_head lim) (h.pairs_head lim) (pairs_head_r Finds finds 0 lim) (pairs_head_r First first 0 lim) bs why n [] f))
      by (inr f) = behind_head f.one.0 f.one.1 f.one.2 f.used f.more f.first f.all (startable f.one.0 f.one.2) (startable f.one.1 f.one.2) refl refl f.second

-- a struct: in the header of one of its fields
module _ (lim : TConfiguration) (room : ℕ) where
  abbrev inner : TType → Tracked Tree
  inner t = tracked lim room t

  stop_whole : (last : ℤ) → Whole (h.field last) h.stop (0 ∷ [])
  unfolding h.field r.and_then r.byte r.done field_type
  stop_whole last = refl

  field_is : (last : ℤ) (cs : List ℕ) → forget (field last cs) ≡ h.field last cs
  unfolding Finds
  field_is last cs = field_r Finds finds 0 last cs

  field_first : (last : ℤ) (cs : List ℕ) → FirstAt (field last) cs
  unfolding First
  field_first last cs = field_r First first 0 last cs

  module _ (last : ℤ) (bs : List ℕ) (why n : ℕ) where
    field_end : field last bs ≡ broke why n [] → FieldsEnd lim room last bs why n
    unfolding SpellsFields last_id
    field_end e =
        record {
          before = no_fields;
          body = [];
          rest = bs;
          more = n;
          spelt = stop_whole last;
          header = stops (field last) (h.field last) (field_is last) (field_first last) bs why n [] e;
          bytes = refl;
          reached = omega arith;
        }

    module _ (x : Field) (a : ℕ) (e : field last bs ≡ found x a) where
      head_got : h.field last bs ≡ got x a
      head_got = was_got (field last) (h.field last) (field_is last) bs x a e

      head_long : length (take a bs) ≡ a
      head_long = front_long (h.field last) (field_lawful last) bs x a head_got

      head_whole : Whole (h.field last) x (take a bs)
      head_whole = front_whole (h.field last) (field_lawful last) bs x a head_got

      bool_before : (b : Bool) (id : ℤ) (m : ℕ) → x ≡ h.bool b id → n ≡ a + m → FieldsEnd lim room id (drop a bs) why m → FieldsEnd lim room last bs why n
      unfolding SpellsFields last_id
      bool_before b id m g q f =
          record {
            before = val.field id (val.truth b) f.before;
            body = take a bs ++ f.body;
            rest = f.rest;
            more = f.more;
            spelt = (take a bs, [], f.body ++ 0 ∷ [], inl (b, refl, subst (λ (y : Field). Whole (h.field last) y (take a bs)) g head_whole, refl), f.spelt, append_assoc (take a bs) f.body (0 ∷ []));
            header = f.header;
            bytes = joined a bs f.body f.rest f.bytes;
            reached = omega (arith, q, f.reached, length-append (take a bs) f.body, head_long);
          }

      value_before : (t : TType) (id : ℤ) (v : Tree) (c m : ℕ) → x ≡ h.value t id → inner t (drop a bs) ≡ found v c → n ≡ a + (c + m) → FieldsEnd lim room id (drop c (drop a bs)) why m → FieldsEnd lim room last bs why n
      unfolding SpellsFields last_id
      value_before t id v c m g i q f =
          let cs = take c (drop a bs) in
          let o = was_got (inner t) (value_of lim room t) (tracked_value lim room t) (drop a bs) v c i in
          record {
            before = val.field id v f.before;
            body = take a bs ++ (cs ++ f.body);
            rest = f.rest;
            more = f.more;
            spelt = (
              take a bs,
              cs,
              f.body ++ 0 ∷ [],
              inr (t, subst (λ (y : Field). Whole (h.field last) y (take a bs)) g head_whole, sound lim room t (drop a bs) v c o),
              f.spelt,
              append_assoc (take a bs) (cs ++ f.body) (0 ∷ []) ∙ ap (λ (l : List ℕ). take a bs ++ l) (append_assoc cs f.body (0 ∷ [])),
            );
            header = f.header;
            bytes = joined a bs (cs ++ f.body) f.rest (joined c (drop a bs) f.body f.rest f.bytes);
            reached = omega (arith, q, f.reached, length-append (take a bs) (cs ++ f.body), length-append cs f.body, head_long, front_long (value_of lim room t) (value_lawful lim room t) (drop a bs) v c o);
          }

      module _ (k m : ℕ) (l : length bs ≤ k) (q : n ≡ a + m) (ih : (j : ℕ) → suc j ≡ k → (id : ℤ) (cs : List ℕ) (i : ℕ) → length cs ≤ j → fields inner id cs ≡ broke why i [] → FieldsEnd lim room id cs why i) where
        shorter : length (drop a bs) < length bs
        shorter = omega (arith, length-drop a bs, field_takes last bs x a head_got, (field_lawful last).ends bs x a head_got)

        deeper : (id : ℤ) (cs : List ℕ) (i : ℕ) → length cs ≤ length (drop a bs) → fields inner id cs ≡ broke why i [] → FieldsEnd lim room id cs why i
        deeper id cs i u f = ih (k - 1) (omega (arith, l, shorter)) id cs i (omega (arith, l, u, shorter)) f

        behind_end : (y : Field) → x ≡ y → behind inner (fields inner) y (drop a bs) ≡ broke why m [] → FieldsEnd lim room last bs why n
        unfolding done labelled
        behind_end h.stop g f = never f
        behind_end (h.bool b id) g f =
            bool_before b id m g q (deeper id (drop a bs) m (omega arith) (unmade (fields inner id) (val.field id (val.truth b)) (drop a bs) why m [] f))
        behind_end (h.value t id) g f = by (parted (labelled (way.field id) (inner t)) _ (drop a bs) why m [] f)
          where
            by : (labelled (way.field id) (inner t) (drop a bs) ≡ broke why m []) ⊎ Later (labelled (way.field id) (inner t) (drop a bs)) (λ v. and_then (fields inner id) (λ fs. done (val.field id v fs))) (drop a bs) why m [] → FieldsEnd lim room last bs why n
            by (inl u) = no_own (way.field id) (inner t (drop a bs)) why m u
            by (inr u) =
                let i = unlabelled (way.field id) (inner t (drop a bs)) u.one u.used u.first in
                let cs = drop u.used (drop a bs) in
                value_before t id u.one u.used u.more g i (omega (arith, q, u.all))
                (deeper id cs u.more (omega (arith, length-drop u.used (drop a bs))) (unmade (fields inner id) (val.field id u.one) cs why u.more [] u.second))

  at_field : (k : ℕ) (last : ℤ) (bs : List ℕ) (why n : ℕ) → length bs ≤ k → (field last bs ≡ broke why n []) ⊎ Later (field last bs) (behind inner (fields inner)) bs why n [] → ((j : ℕ) → suc j ≡ k → (id : ℤ) (cs : List ℕ) (i : ℕ) → length cs ≤ j → fields inner id cs ≡ broke why i [] → FieldsEnd lim room id cs why i) → FieldsEnd lim room last bs why n
  at_field k last bs why n l (inl f) ih = field_end last bs why n f
  at_field k last bs why n l (inr f) ih = behind_end last bs why n f.one f.used f.first k f.more l f.all ih f.one refl f.second

  fields_end : (k : ℕ) (last : ℤ) (bs : List ℕ) (why n : ℕ) → length bs ≤ k → fields inner last bs ≡ broke why n [] → FieldsEnd lim room last bs why n
  fields_end zero last bs why n l e =
      at_field zero last bs why n l (parted (field last) (behind inner (fields inner)) bs why n [] (sym (fields_step inner last bs) ∙ e)) (λ j z. absurd (omega (arith, z)))
  fields_end (suc k) last bs why n l e =
      at_field (suc k) last bs why n l (parted (field last) (behind inner (fields inner)) bs why n [] (sym (fields_step inner last bs) ∙ e))
      (λ j z id cs i u. fields_end k id cs why i (omega (arith, z, u)))

-- any value
one_less : (room : ℕ) → room ≡ suc room - 1
one_less room = omega arith

module _ (lim : TConfiguration) (bs : List ℕ) (why n : ℕ) where
  no_room : (room : ℕ) → room ≡ 0 → ◌≡◌ {A = Tried Tree} (broke DEPTH 0 []) (broke why n []) → NoRoom room why n
  no_room room z e = let a : DEPTH ≡ why = cc in let b : 0 ≡ n = ap reach e in (z, sym a, sym b)

  shaped_ends : (room : ℕ) (b : Boxes) → (b.list bs ≡ broke why n [] → End lim room T.List bs why n) → (b.set bs ≡ broke why n [] → End lim room T.Set bs why n) → (b.map bs ≡ broke why n [] → End lim room T.Map bs why n) → (b.struct bs ≡ broke why n [] → End lim room T.Struct bs why n) → (ty : TType) → shaped lim b ty bs ≡ broke why n [] → End lim room ty bs why n
  unfolding End Finds First refuse
  shaped_ends room b l s m t T.Stop e = let a : BAD_TYPE ≡ why = cc in let z : 0 ≡ n = ap reach e in (sym a, sym z)
  shaped_ends room b l s m t T.Bool e = stops th.truth h.truth (truth_r Finds finds 0) (truth_r First first 0) bs why n [] (unmade th.truth val.truth bs why n [] e)
  shaped_ends room b l s m t T.I08 e = stops th.int8 h.int8 (int8_r Finds finds 0) (int8_r First first 0) bs why n [] (unmade th.int8 val.i8 bs why n [] e)
  shaped_ends room b l s m t T.I16 e = stops th.int16 h.int16 (int16_r Finds finds 0) (int16_r First first 0) bs why n [] (unmade th.int16 val.i16 bs why n [] e)
  shaped_ends room b l s m t T.I32 e = stops th.int32 h.int32 (int32_r Finds finds 0) (int32_r First first 0) bs why n [] (unmade th.int32 val.i32 bs why n [] e)
  shaped_ends room b l s m t T.I64 e = stops th.int64 h.int64 (int64_r Finds finds 0) (int64_r First first 0) bs why n [] (unmade th.int64 val.i64 bs why n [] e)
  shaped_ends room b l s m t T.Double e = stops th.double h.double (double_r Finds finds 0) (double_r First first 0) bs why n [] (unmade th.double val.double bs why n [] e)
  shaped_ends room b l s m t T.String e = stops (th.binary lim) (h.binary lim) (binary_r Finds finds 0 lim) (binary_r First first 0 lim) bs why n [] (unmade (th.binary lim) val.bytes bs why n [] e)
  shaped_ends room b l s m t T.List e = l e
  shaped_ends room b l s m t T.Set e = s e
  shaped_ends room b l s m t T.Map e = m e
  shaped_ends room b l s m t T.Struct e = t e
  shaped_ends room b l s m t T.Uuid e = stops th.uuid h.uuid (uuid_r Finds finds 0) (uuid_r First first 0) bs why n [] (unmade th.uuid val.uuid bs why n [] e)

pub ends : (lim : TConfiguration) (room : ℕ) (ty : TType) (bs : List ℕ) (why n : ℕ) → tracked lim room ty bs ≡ broke why n [] → End lim room ty bs why n
unfolding tracked End refuse struct_of
ends lim zero ty bs why n e =
    shaped_ends lim bs why n zero shut (λ f. inl (no_room lim bs why n zero refl f)) (λ f. inl (no_room lim bs why n zero refl f)) (λ f. inl (no_room lim bs why n zero refl f)) (λ f. inl (no_room lim bs why n zero refl f)) ty e
ends lim (suc room) ty bs why n e =
    shaped_ends lim bs why n (suc room) (roomy lim (tracked lim room))
    (λ f. inr (items_end lim room bs why n val.list f))
    (λ f. inr (items_end lim room bs why n val.set f))
    (λ f. inr (pairs_end lim room bs why n f))
    (λ f. inr (omega arith, subst (λ (k : ℕ). FieldsEnd lim k (pos 0) bs why n) (one_less room) (fields_end lim room (length bs) (pos 0) bs why n (omega arith) (unmade (fields (tracked lim room) (pos 0)) val.struct bs why n [] f))))
    ty e
