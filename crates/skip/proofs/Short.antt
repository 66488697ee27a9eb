-- Fields with short headers and scalar values, passed over one by one. Assumes nothing.
use mathlib.Core.Path.{◌≡◌, refl, sym, ap, ◌∙◌}
use mathlib.Core.Bool.{Bool, true, false}
use mathlib.Core.Logic.{◌⊎◌, inl, inr}
use mathlib.Core.List.{List}
use Prim.Native.Nat.{ℕ, zero, suc, ◌+◌, ◌-◌, ◌/◌, ◌%◌, ◌≤◌, ◌<◌}
use native.Mathlib.Omega.{arith}
use borrow.Author.Rules.{sfits_of}
use borrow.Author.Tests.{ne_eqb, lt-ltb, le-ltb, leb-false}
use lib.ListN.{length, get_or}
use lib.IntN.{ℤ, pos, negsuc, ◌+ℤ◌}
use lib.Signed.{lt_z, le_z}
use mir.Syntax.{w32, w16}
use mir.Val.{SFits, to_z, of_z}
use mir.Facts.{to_z-of_z, sfits_widen}
use Rattle.types.specs.Codes.{field_type}
use Rattle.types.specs.declared.Place.{Place}
use Rattle.types.specs.declared.TType.{TType}
use Rattle.types.specs.declared.TType.TheVariants as T
use Rattle.types.specs.declared.FieldType.{FieldType}
use Rattle.types.specs.declared.FieldType.TheVariants as FT
use Rattle.types.specs.declared.TConfiguration.{TConfiguration}
use Rattle.types.specs.Value as val
use Rattle.numbers.specs.Varint.{got}
use Rattle.numbers.proofs.Found.{by_lt}
use Rattle.heads.specs.Reader.{Reader, read_at}
use Rattle.heads.specs.Heads.{int8, int16, int32, int64, double, uuid, bool, value, field_id, of_type, field}
use Rattle.heads.proofs.Steps.{step, done_at, byte_at}
use Rattle.heads.proofs.Fields.{code_sum, id_wide, id_fits, id_back, id_is, high_four, delta_wide}
use Rattle.skip.specs.Value.{value_of}
use Rattle.skip.specs.Skip.{past}
use Rattle.skip.specs.Walk.{fields}
use Rattle.skip.specs.Leaves.{is_leaf, scalar_of, Hop, Hops, Onward}
use Rattle.skip.specs.declared.Skipped.{Skipped}
use Rattle.skip.specs.declared.Skipped.TheVariants.{Done}
use Rattle.skip.proofs.Past.{done_refused, read_past, past_made}
use Rattle.skip.proofs.Lawfuls.{value_lawful}
use Rattle.skip.proofs.Leaf.{flat, i8_ends, i32_ends, i64_ends, double_ends, uuid_ends}
use Rattle.skip.proofs.Cycle.{walk_bool, walk_value, read_inside}

-- a scalar that was passed over is a value of its type, with whatever room
module _ (s : List ℕ) (lim : TConfiguration) (room at : ℕ) (e : Place) where
  level : (t : TType) → is_leaf t ≡ true → past (value_of lim 0 t) s at ≡ Done e → past (value_of lim room t) s at ≡ Done e
  level t l f = ap (λ (v : Reader val.Tree). past v s at) (flat lim room t l) ∙ f

  scalar_value : (t : TType) → scalar_of s t at ≡ Done e → past (value_of lim room t) s at ≡ Done e
  unfolding value_of
  scalar_value T.Stop f = done_refused (sym f)
  scalar_value T.Bool f = done_refused (sym f)
  scalar_value T.I08 f = level T.I08 refl (past_made int8 _ s at ∙ i8_ends s at ∙ f)
  scalar_value T.I16 f = level T.I16 refl (past_made int16 _ s at ∙ f)
  scalar_value T.I32 f = level T.I32 refl (past_made int32 _ s at ∙ i32_ends s at ∙ f)
  scalar_value T.I64 f = level T.I64 refl (past_made int64 _ s at ∙ i64_ends s at ∙ f)
  scalar_value T.Double f = level T.Double refl (past_made double _ s at ∙ double_ends s at ∙ f)
  scalar_value T.String f = done_refused (sym f)
  scalar_value T.List f = done_refused (sym f)
  scalar_value T.Set f = done_refused (sym f)
  scalar_value T.Map f = done_refused (sym f)
  scalar_value T.Struct f = done_refused (sym f)
  scalar_value T.Uuid f = level T.Uuid refl (past_made uuid _ s at ∙ uuid_ends s at ∙ f)

abbrev no_limits_lem : TConfiguration
no_limits_lem = record { depth = 0; string = 0; container = 0; message = 0 }

pos_of : (d : ℕ) → (d ≡ 0 → ⊥) → 0 < d
pos_of zero h = absurd (h refl)
pos_of (suc d) h = omega arith

-- a sum is past what is added to
above : (z : ℤ) (d : ℕ) → (d ≡ 0 → ⊥) → lt_z z (z +ℤ pos d) ≡ true
above (pos a) d h = lt-ltb a (a + d) (omega (arith, pos_of d h))
above (negsuc a) d h =
    by_lt d (suc a)
    (λ l. rw (lt-ltb d (suc a) l) (lt-ltb (suc a - suc d) a (omega (arith, pos_of d h))))
    (λ l. rw (le-ltb d (suc a) l))

-- what is below a bound of 16 bits is not over 32,767
not_over : (b x : ℤ) → SFits w16 b → le_z b x ≡ false → lt_z (pos 32767) x ≡ false
not_over (pos a) (pos c) h t = le-ltb 32767 c (omega (arith, h.sfits, leb-false a c t))
not_over (pos a) (negsuc c) h t = refl
not_over (negsuc a) (pos c) h t = let z : ◌≡◌ {A = ℕ} 0 1 = cc in absurd (omega arith)
not_over (negsuc a) (negsuc c) h t = refl

-- the bound, whose number passes through its bits
abbrev wide : ℤ → ℤ
wide below = to_z w32 (of_z w32 (to_z w16 (of_z w16 below)))

wide_is : (below : ℤ) → SFits w16 below → wide below ≡ below
wide_is below hb = rw (to_z-of_z hb, to_z-of_z (sfits_widen {w = w16} {w' = w32} tt hb))

module _ (last below : ℤ) (delta : ℕ) (hl : SFits w16 last) (hb : SFits w16 below) (hd : delta < 16) (t : le_z (wide below) (to_z w32 (of_z w32 (code_sum last delta))) ≡ false) where
  pub bounded : le_z below (last +ℤ pos delta) ≡ false
  bounded = rw (wide_is below hb, id_is last delta hl hd) at t

  pub short_back : SFits w16 (to_z w32 (of_z w32 (code_sum last delta)))
  short_back = id_back last delta hl hd (rw (id_is last delta hl hd) (not_over below _ hb bounded))

-- skip_field
module _ (s : List ℕ) (last below : ℤ) (p : ℕ) (i : p < length s) (hl : SFits w16 last) (hb : SFits w16 below) (hd : get_or s p 0 / 16 < 16) (d : get_or s p 0 / 16 ≡ 0 → ⊥) (t : le_z (wide below) (to_z w32 (of_z w32 (code_sum last (get_or s p 0 / 16)))) ≡ false) (r : FieldType) (e : r ≡ field_type (get_or s p 0 % 16)) where
  abbrev next : ℤ
  next = last +ℤ pos (get_or s p 0 / 16)

  under : le_z below next ≡ false
  under = bounded last below _ hl hb hd t

  by_type_lem : (x : FieldType) → r ≡ x → read_at (field last) s p ≡ read_at (of_type last (get_or s p 0 / 16) x) s (p + 1)
  unfolding field
  by_type_lem x g = step _ _ s p _ _ (byte_at s p i) ∙ ap (λ (y : FieldType). read_at (of_type last (get_or s p 0 / 16) y) s (p + 1)) (sym e ∙ g)

  the_id : read_at (field_id last (get_or s p 0 / 16)) s (p + 1) ≡ got next (p + 1)
  unfolding field_id
  the_id = rw (ne_eqb (get_or s p 0 / 16) 0 d, not_over below _ hb under) (done_at s _ _)

  -- one field alone
  alone : (q : ℕ) → Hop s p last below q next → Onward s p last below q next
  unfolding Hops
  alone q h = record { many = 1; hops = (q, next, h, (refl, refl)) }

  -- the id reaches the answer through its bits, as z
  module _ (z : ℤ) (k : z ≡ to_z w32 (of_z w32 (code_sum last (get_or s p 0 / 16)))) where
    id_so : next ≡ z
    id_so = sym (k ∙ id_is last (get_or s p 0 / 16) hl hd)

    pub short_bool : (b : Bool) → r ≡ FT.Truth b → Onward s p last below (p + 1) z
    short_bool b g =
        rw (← id_so)
        (alone (p + 1)
        (record {
          later = omega arith;
          after = above last _ d;
          before = under;
          found = inl (b, by_type_lem (FT.Truth b) g ∙ step _ _ s (p + 1) _ _ the_id ∙ done_at s _ _);
        }))

    module _ (kind : TType) (g : r ≡ FT.Kind kind) (q : Skipped) (f : q ≡ scalar_of s kind (p + 1)) (m : Place) (h : q ≡ Done m) where
      the_value : (lim : TConfiguration) (room : ℕ) → (a : val.Tree) × (read_at (value_of lim room kind) s (p + 1) ≡ got a m.0)
      the_value lim room = read_past (value_of lim room kind) s (p + 1) m (scalar_value s lim room (p + 1) m kind (sym f ∙ h))

      pub short_value : Onward s p last below m.0 z
      short_value =
          rw (← id_so)
          (alone m.0
          (record {
            later = omega (arith, (read_inside _ (value_lawful no_limits_lem 0 kind) s (p + 1) _ m.0 (the_value no_limits_lem 0).1).0);
            after = above last _ d;
            before = under;
            found = inr (kind, p + 1, by_type_lem (FT.Kind kind) g ∙ step _ _ s (p + 1) _ _ the_id ∙ done_at s _ _, the_value);
          }))

pub nowhere : (s : List ℕ) (at : ℕ) (last below : ℤ) → Onward s at last below at last
unfolding Hops
nowhere s at last below = record { many = 0; hops = (refl, refl) }

pub ruleset short_cases = (high_four, delta_wide, id_wide, id_fits, short_back, short_bool, short_value, nowhere, to_z-of_z, sfits_of)

-- skip_fields: a run and one more field are a run
pub further : (s : List ℕ) (at : ℕ) (last below : ℤ) (p : ℕ) (id : ℤ) (q : ℕ) (z : ℤ) → Onward s at last below p id → Onward s p id below q z → Onward s at last below q z
unfolding Hops
further s at last below p id q z a b = go a.many at last a.hops
  where
    go : (n from : ℕ) (before : ℤ) → Hops n s from before below p id → Onward s from before below q z
    go zero from before h = rw (← h.0, ← h.1) b
    go (suc n) from before h = let o = go n h.0 h.1 h.3 in record { many = suc o.many; hops = (h.0, h.1, h.2, o.hops) }

pub ruleset run_cases = (further, nowhere)

-- what a run comes to: none is taken back, and the fields are passed over from its end as from its start
hopped : (n : ℕ) (s : List ℕ) (at : ℕ) (last below : ℤ) (p : ℕ) (id : ℤ) → Hops n s at last below p id → at ≤ p
unfolding Hops
hopped zero s at last below p id h = omega (arith, h.0)
hopped (suc n) s at last below p id h = omega (arith, h.2.later, hopped n s h.0 h.1 below p id h.3)

pub run_later : (s : List ℕ) (at : ℕ) (last below : ℤ) (p : ℕ) (id : ℤ) → Onward s at last below p id → at ≤ p
run_later s at last below p id o = hopped o.many s at last below p id o.hops

module _ (s : List ℕ) (lim : TConfiguration) (room : ℕ) where
  hop_same : (at : ℕ) (last below : ℤ) (p : ℕ) (id : ℤ) → Hop s at last below p id → past (fields val.truth (value_of lim room) id) s p ≡ past (fields val.truth (value_of lim room) last) s at
  hop_same at last below p id h = go h.found
    where
      go : ((b : Bool) × (read_at (field last) s at ≡ got (bool b id) p)) ⊎ ((t : TType) × (m : ℕ) × (read_at (field last) s at ≡ got (value t id) m) × ((l : TConfiguration) (r : ℕ) → (v : val.Tree) × (read_at (value_of l r t) s m ≡ got v p))) → past (fields val.truth (value_of lim room) id) s p ≡ past (fields val.truth (value_of lim room) last) s at
      go (inl x) = sym (walk_bool val.truth (value_of lim room) s last at x.0 id p x.1)
      go (inr x) = sym (walk_value val.truth (value_of lim room) s last at x.0 id x.1 x.2 (x.3 lim room).0 p (x.3 lim room).1)

  hops_same : (n at : ℕ) (last below : ℤ) (p : ℕ) (id : ℤ) → Hops n s at last below p id → past (fields val.truth (value_of lim room) id) s p ≡ past (fields val.truth (value_of lim room) last) s at
  unfolding Hops
  hops_same zero at last below p id h = rw (h.0, h.1)
  hops_same (suc n) at last below p id h = hops_same n h.0 h.1 below p id h.3 ∙ hop_same at last below h.0 h.1 h.2

  pub run_same : (at : ℕ) (last below : ℤ) (p : ℕ) (id : ℤ) → Onward s at last below p id → past (fields val.truth (value_of lim room) id) s p ≡ past (fields val.truth (value_of lim room) last) s at
  run_same at last below p id o = hops_same o.many at last below p id o.hops
