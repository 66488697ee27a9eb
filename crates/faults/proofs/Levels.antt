-- The way inward, level by level: what the code knows at each return and at each turn of its loop. Assumes nothing.
use mathlib.Core.Path.{◌≡◌, refl, sym, ap, ap₂, subst, ◌∙◌}
use mathlib.Core.Bool.{true}
use mathlib.Core.List.{List, [], ◌∷◌, ◌++◌}
use Prim.Native.Nat.{ℕ, zero, suc, ◌+◌, ◌-◌, ◌*◌, ◌≤◌, ◌<◌}
use native.Mathlib.Omega.{arith}
use borrow.Author.Rules.{sfits_of}
use lib.IntN.{ℤ}
use lib.ListN.{length, take, drop, set, length-set, length-append}
use mir.Syntax.{w64}
use mir.Val.{Fits}
use mir.Facts.{to_z-of_z}
use Rattle.types.specs.declared.Place.{Place}
use Rattle.types.specs.declared.TType.{TType}
use Rattle.types.specs.declared.TType.TheVariants as T
use Rattle.types.specs.declared.TConfiguration.{TConfiguration}
use Rattle.heads.specs.Reader.{read_at}
use Rattle.heads.proofs.Steps.{lost_at}
use Rattle.skip.specs.Value.{value_of}
use Rattle.skip.specs.Leaves.{is_leaf}
use Rattle.skip.specs.Skip.{skip_of}
use Rattle.skip.specs.declared.Skipped.{Skipped}
use Rattle.skip.specs.declared.Skipped.TheVariants.{Done, Refused}
use Rattle.skip.proofs.Past.{refused_past}
use Rattle.faults.specs.Tracked as way
use Rattle.faults.specs.Value.{tracked}
use Rattle.faults.specs.Fault.{kind_of, number_of, numbered}
use Rattle.faults.specs.Trace.{Lost, fine, lost, lost_of, trace, within, step_of, inwards, Placed, Roomy, Level, Deeper, LeafReach, Tells}
use Rattle.faults.specs.declared.Step.{Step}
use Rattle.faults.specs.declared.Inward.{Inward}
use Rattle.faults.specs.declared.Inward.TheVariants as I
use Rattle.faults.proofs.Theorems.{tracked_value, tracked_near}
use Rattle.faults.proofs.Inner.{was_whole}
use Rattle.faults.proofs.Lists.{set_list}
use Rattle.faults.proofs.Upto.{lost_so}

-- into_leaf
module _ (s : List ℕ) (lim : TConfiguration) (kind : TType) (at : ℕ) (r : Skipped) (f : r ≡ skip_of s lim 0 kind at) where
  pub leaf_whole : (e : Place) → r ≡ Done e → Deeper s lim 0 I.Whole (trace (tracked lim 0 kind) s at)
  unfolding inwards trace
  leaf_whole e g =
      let v = was_whole s lim 0 kind at e (sym f ∙ g) in
      record { says = sym (ap (lost_of at) v.is); placed = tt; roomy = tt }

  pub leaf_own : (why n : ℕ) → r ≡ Refused why → LeafReach s at kind n → Deeper s lim 0 (I.Own why n) (trace (tracked lim 0 kind) s at)
  unfolding inwards trace LeafReach skip_of read_at
  leaf_own why n g h =
      let x = tracked lim 0 kind (drop at s) in
      let b = lost_so x why (tracked_near lim 0 kind (drop at s)) (tracked_value lim 0 kind (drop at s) ∙ lost_at at (value_of lim 0 kind (drop at s)) why (refused_past (value_of lim 0 kind) s at why (sym f ∙ g))) in
      let z : n ≡ at + b.0 = h lim why b.0 [] b.1 in
      record { says = ap (λ (u : ℕ). lost why u []) z ∙ sym (ap (lost_of at) b.1); placed = tt; roomy = tt }

pub ruleset own_cases = (leaf_whole, leaf_own)

-- one_level: a value that holds no other has no use for room
flat : (lim : TConfiguration) (room : ℕ) (t : TType) (bs : List ℕ) → is_leaf t ≡ true → tracked lim 0 t bs ≡ tracked lim room t bs
unfolding tracked
flat lim zero t bs e = refl
flat lim (suc room) T.Stop bs e = refl
flat lim (suc room) T.Bool bs e = refl
flat lim (suc room) T.I08 bs e = refl
flat lim (suc room) T.I16 bs e = refl
flat lim (suc room) T.I32 bs e = refl
flat lim (suc room) T.I64 bs e = refl
flat lim (suc room) T.Double bs e = refl
flat lim (suc room) T.String bs e = refl
flat lim (suc room) T.List bs e = let z : ◌≡◌ {A = ℕ} 0 1 = cc in absurd (omega arith)
flat lim (suc room) T.Set bs e = let z : ◌≡◌ {A = ℕ} 0 1 = cc in absurd (omega arith)
flat lim (suc room) T.Map bs e = let z : ◌≡◌ {A = ℕ} 0 1 = cc in absurd (omega arith)
flat lim (suc room) T.Struct bs e = let z : ◌≡◌ {A = ℕ} 0 1 = cc in absurd (omega arith)
flat lim (suc room) T.Uuid bs e = refl

-- what needs no room is said with any
no_room : (s : List ℕ) (lim : TConfiguration) (room : ℕ) (r : Inward) (y : Lost) → Deeper s lim 0 r y → Deeper s lim room r y
unfolding inwards
no_room s lim room I.Whole y d = record { says = d.says; placed = tt; roomy = tt }
no_room s lim room (I.Own why n) y d = record { says = d.says; placed = tt; roomy = tt }
no_room s lim room (I.Into i t p) y d = absurd (omega (arith, d.roomy))

into_roomy : (room : ℕ) (r : Inward) → 0 < room → Roomy room r
into_roomy room I.Whole h = tt
into_roomy room (I.Own why n) h = tt
into_roomy room (I.Into i t p) h = h

module _ (s : List ℕ) (lim : TConfiguration) (room : ℕ) (kind : TType) (at : ℕ) (r : Inward) where
  pub level_none : room ≡ 0 → Deeper s lim 0 r (trace (tracked lim 0 kind) s at) → Deeper s lim room r (trace (tracked lim room kind) s at)
  level_none z d = subst (λ (k : ℕ). Deeper s lim k r (trace (tracked lim k kind) s at)) (sym z) d

  pub level_leaf : (t : TType) → kind ≡ t → is_leaf t ≡ true → Deeper s lim 0 r (trace (tracked lim 0 kind) s at) → Deeper s lim room r (trace (tracked lim room kind) s at)
  unfolding trace
  level_leaf t k l d =
      no_room s lim room r _ (subst (Deeper s lim 0 r) (ap (lost_of at) (flat lim room kind (drop at s) (rw k l))) d)

  module _ (z : room ≡ 0 → ⊥) where
    some_room : suc (room - 1) ≡ room
    some_room = omega arith

    entered : (t : TType) → kind ≡ t → Level s lim (room - 1) r (trace (tracked lim (suc (room - 1)) t) s at) → Deeper s lim room r (trace (tracked lim room kind) s at)
    entered t k l =
        record {
          says = l.says ∙ ap₂ (λ (m : ℕ) (u : TType). trace (tracked lim m u) s at) some_room (sym k);
          placed = l.placed;
          roomy = into_roomy room r (omega arith);
        }

    pub level_list : kind ≡ T.List → Level s lim (room - 1) r (trace (tracked lim (suc (room - 1)) T.List) s at) → Deeper s lim room r (trace (tracked lim room kind) s at)
    level_list k l = entered T.List k l

    pub level_set : kind ≡ T.Set → Level s lim (room - 1) r (trace (tracked lim (suc (room - 1)) T.List) s at) → Deeper s lim room r (trace (tracked lim room kind) s at)
    level_set k l = entered T.Set k (record { says = l.says ∙ set_list s lim (room - 1) at; placed = l.placed })

    pub level_map : kind ≡ T.Map → Level s lim (room - 1) r (trace (tracked lim (suc (room - 1)) T.Map) s at) → Deeper s lim room r (trace (tracked lim room kind) s at)
    level_map k l = entered T.Map k l

    pub level_struct : kind ≡ T.Struct → Level s lim (room - 1) r (trace (tracked lim (suc (room - 1)) T.Struct) s at) → Deeper s lim room r (trace (tracked lim room kind) s at)
    level_struct k l = entered T.Struct k l

pub ruleset level_cases = (level_none, level_leaf, level_list, level_set, level_map, level_struct)

-- what was lost below a path is lost in the whole
abbrev pub along : List way.Step → Lost → Lost
along [] y = y
along (x ∷ path) y = within x (along path y)

along_fine : (path : List way.Step) → along path fine ≡ fine
along_fine [] = refl
along_fine (x ∷ path) = ap (within x) (along_fine path)

along_own : (path : List way.Step) (why n : ℕ) → along path (lost why n []) ≡ lost why n path
along_own [] why n = refl
along_own (x ∷ path) why n = ap (within x) (along_own path why n)

along_one : (path : List way.Step) (x : way.Step) (y : Lost) → along (path ++ x ∷ []) y ≡ along path (within x y)
along_one [] x y = refl
along_one (z ∷ path) x y = ap (within z) (along_one path x y)

numbered_one : (path : List way.Step) (x : way.Step) → numbered (path ++ x ∷ []) ≡ numbered path ++ kind_of x ∷ number_of x ∷ []
unfolding numbered
numbered_one [] x = refl
numbered_one (z ∷ path) x = ap (λ (l : List ℤ). kind_of z ∷ number_of z ∷ l) (numbered_one path x)

put_two : (rows : List ℤ) (j : ℕ) (k v : ℤ) → suc j < length rows → take (suc (suc j)) (set (set rows j k) (suc j) v) ≡ take j rows ++ k ∷ v ∷ []
put_two [] j k v h = absurd (omega arith)
put_two (r ∷ []) zero k v h = absurd (omega arith)
put_two (r ∷ q ∷ rows) zero k v h = refl
put_two (r ∷ rows) (suc j) k v h = ap (λ (l : List ℤ). r ∷ l) (put_two rows j k v (omega arith))

-- find: where the loop stands
pub record On (s : List ℕ) (lim : TConfiguration) (y : Lost) (rows : List ℤ) (count p : ℕ) (inner : TType) (left : ℕ) : Type 0 where
  pub path : List way.Step
  pub inside : p ≤ length s
  pub few : count + left ≤ 64
  pub full : length rows ≡ 128
  pub long : length path ≡ count
  pub told : take (2 * count) rows ≡ numbered path
  pub leads : along path (trace (tracked lim left inner) s p) ≡ y

pub find_start : (s : List ℕ) (lim : TConfiguration) (rows : List ℤ) (at : ℕ) (kind : TType) (room : ℕ) → at ≤ length s → room ≤ 64 → length rows ≡ 128 → On s lim (trace (tracked lim room kind) s at) rows 0 at kind room
unfolding numbered
find_start s lim rows at kind room a b c = record { path = []; inside = a; few = omega arith; full = c; long = refl; told = refl; leads = refl }

module _ (s : List ℕ) (lim : TConfiguration) (y : Lost) (rows : List ℤ) (count p : ℕ) (inner : TType) (left : ℕ) (o : On s lim y rows count p inner left) where
  pub find_here : p ≤ length s
  find_here = o.inside

  module _ (r : Inward) (v : Deeper s lim left r (trace (tracked lim left inner) s p)) where
    level : (x : Inward) → r ≡ x → along o.path (inwards s lim (left - 1) x) ≡ y
    level x e = ap (along o.path) (ap (inwards s lim (left - 1)) (sym e) ∙ v.says) ∙ o.leads

    pub find_whole : r ≡ I.Whole → Tells (record { number = 0; reach = 0; count = 0; rows = rows }) y
    unfolding Tells inwards
    find_whole e = subst (Tells (record { number = 0; reach = 0; count = 0; rows = rows })) (sym (along_fine o.path) ∙ level I.Whole e) refl

    pub find_broken : (why n : ℕ) → r ≡ I.Own why n → Tells (record { number = why; reach = n; count = count; rows = rows }) y
    unfolding Tells inwards
    find_broken why n e =
        subst (Tells (record { number = why; reach = n; count = count; rows = rows })) (sym (along_own o.path why n) ∙ level (I.Own why n) e)
        (record {
          number = refl;
          reached = refl;
          count = sym o.long;
          few = omega (arith, o.few, o.long);
          full = o.full;
          rows = ap (λ (k : ℕ). take (2 * k) rows) o.long ∙ o.told;
        })

    module _ (i : Step) (t : TType) (q : Place) (e : r ≡ I.Into i t q) where
      pub find_left : 0 < left
      find_left = subst (Roomy left) e v.roomy

      pub find_less : left - 1 < left
      find_less = omega (arith, find_left)

      pub find_first : 2 * count < 128
      find_first = omega (arith, find_left, o.few)

      pub find_second : 2 * count + 1 < 128
      find_second = omega (arith, find_left, o.few)

      pub find_times : Fits w64 (2 * count)
      find_times = record { fits = omega (arith, find_first) }

      pub find_plus : Fits w64 (2 * count + 1)
      find_plus = record { fits = omega (arith, find_second) }

      pub find_wide : Fits w64 (2 * count * 8)
      find_wide = record { fits = omega (arith, find_first) }

      pub find_wider : Fits w64 ((2 * count + 1) * 8)
      find_wider = record { fits = omega (arith, find_second) }

      pub find_more : Fits w64 (count + 1)
      find_more = record { fits = omega (arith, find_first) }

      pub find_next : (k w : ℤ) → k ≡ kind_of (step_of i) → w ≡ number_of (step_of i) → On s lim y (set (set rows (2 * count) k) (2 * count + 1) w) (count + 1) q.0 t (left - 1)
      unfolding inwards
      find_next k w g h =
          let x = step_of i in
          let two : 2 * (count + 1) ≡ suc (suc (2 * count)) = omega arith in
          let one : 2 * count + 1 ≡ suc (2 * count) = omega arith in
          record {
            path = o.path ++ x ∷ [];
            inside = subst (Placed (length s)) e v.placed;
            few = omega (arith, o.few, find_left);
            full = length-set (set rows (2 * count) k) (2 * count + 1) w ∙ length-set rows (2 * count) k ∙ o.full;
            long = omega (arith, o.long, length-append o.path (x ∷ []));
            told =
                ap₂ (λ (a b : ℕ). take a (set (set rows (2 * count) k) b w)) two one
                ∙ put_two rows (2 * count) k w (omega (arith, o.full, find_second))
                ∙ ap₂ (λ (a b : ℤ). take (2 * count) rows ++ a ∷ b ∷ []) g h
                ∙ ap (λ (l : List ℤ). l ++ kind_of x ∷ number_of x ∷ []) o.told
                ∙ sym (numbered_one o.path x);
            leads = along_one o.path x (trace (tracked lim (left - 1) t) s q.0) ∙ level (I.Into i t q) e;
          }

pub ruleset find_cases = (find_start, find_here, find_whole, find_broken, find_left, find_less, find_first, find_second, find_times, find_plus, find_wide, find_wider, find_more, find_next, to_z-of_z, sfits_of)
