-- No shorter bytes that the rules allow read as a field than those of its header. A delta of 15 is read and never written ("the writer uses the
-- short form for exact differences 1 to 14"), so it is left out. Assumes nothing.
use mathlib.Core.Path.{◌≡◌, refl, sym, ap, subst, ◌∙◌}
use mathlib.Core.Bool.{Bool, true, false, cond}
use mathlib.Core.List.{List, [], ◌∷◌}
use Prim.Native.Nat.{ℕ, zero, suc, ◌/◌, ◌%◌, ◌≤◌, ◌<◌}
use native.Mathlib.Omega.{arith}
use borrow.Author.Tests.{ne_eqb}
use lib.IntN.{ℤ, pos, ◌+ℤ◌}
use lib.ListN.{length, get_or}
use lib.Signed.{lt_z}
use mir.Syntax.{w16}
use mir.Val.{SFits}
use Rattle.types.specs.Refusals.{FIELD_ID}
use Rattle.types.specs.Codes.{field_type}
use Rattle.types.specs.declared.FieldType.{FieldType}
use Rattle.types.specs.declared.FieldType.TheVariants as FT
use Rattle.numbers.specs.Varint.{got}
use Rattle.numbers.proofs.Fewest.{shortest}
use Rattle.zigzag.proofs.Zig.{zig_un}
use Rattle.heads.specs.Reader.{done, refuse, and_then, byte}
use Rattle.heads.specs.Heads.{number32, int16, field_id, of_type, field, Field, stop, bool, value}
use Rattle.heads.proofs.Lawful.{both, not_both}
use Rattle.heads.proofs.Readers.{was32, was16}
use Rattle.heads.proofs.Steps.{found_at}
use Rattle.puts.specs.Bytes.{int_bytes, short_delta, field_bytes}
use Rattle.output.proofs.Fields.{long_form, short_form, short}

-- bytes that read as an i16 are no fewer than those that it is written as
pub i16_shortest : (bs : List ℕ) (z : ℤ) (k : ℕ) → int16 bs ≡ got z k → length (int_bytes z) ≤ k
unfolding number32
i16_shortest bs z k e = let f = was32 bs z k (was16 bs z k e).0 in rw (f.is, zig_un f.value) (shortest 32 5 bs f.value k f.read)

-- the length of either form
module _ (last id : ℤ) (code k : ℕ) where
  form_shortest : length (int_bytes id) ≤ k → length (field_bytes last id code) ≤ suc k
  form_shortest h = go (short_delta last id) refl
    where
      go : (d : ℕ) → short_delta last id ≡ d → length (field_bytes last id code) ≤ suc k
      go zero e = omega (arith, ap length (long_form last id code e))
      go (suc d) e = omega (arith, ap length (short_form last id code (λ z. omega (arith, sym e ∙ z))))

  found_sum : (b : Bool) (s : ℤ) (xs : List ℕ) → cond b (refuse FIELD_ID) (done s) xs ≡ got id k → s ≡ id
  unfolding done refuse
  found_sum true s xs e = not_both e
  found_sum false s xs e = cc

  -- an id behind a delta that the rules let a writer use
  id_shortest : (d : ℕ) (xs : List ℕ) → field_id last d xs ≡ got id k → d < 15 → SFits w16 id → length (field_bytes last id code) ≤ suc k
  unfolding field_id
  id_shortest zero xs e h f = form_shortest (i16_shortest xs id k e)
  id_shortest (suc d) xs e h f =
      let g = rw (ne_eqb (suc d) 0 (λ z. omega arith)) at e in
      let s : last +ℤ pos (suc d) ≡ id = found_sum (lt_z (pos 32767) (last +ℤ pos (suc d))) (last +ℤ pos (suc d)) xs g in
      let l = ap length (ap (λ (z : ℤ). field_bytes last z code) (sym s) ∙ short last (suc d) code (omega arith) h) in
      omega arith

-- a field with this id
abbrev pub Has : ℤ → Field → Type 0
Has id stop = ⊥
Has id (bool b i) = i ≡ id
Has id (value t i) = i ≡ id

made : (last id : ℤ) (d : ℕ) (xs : List ℕ) (y : Field) (m : ℕ) (make : ℤ → Field) → ((i : ℤ) → Has id (make i) → i ≡ id) → and_then (field_id last d) (λ i. done (make i)) xs ≡ got y m → Has id y → (k : ℕ) × (field_id last d xs ≡ got id k) × (k ≤ m)
unfolding and_then done
made last id d xs y m make back e h =
    let f = both (field_id last d xs) (λ i. done (make i)) xs y m e in
    let is : make f.one ≡ y = cc in
    let i : f.one ≡ id = back f.one (subst (Has id) (sym is) h) in
    (f.used, f.first ∙ ap (λ (j : ℤ). got j f.used) i, omega (arith, f.all))

id_of_lem : (last id : ℤ) (d : ℕ) (x : FieldType) (xs : List ℕ) (y : Field) (m : ℕ) → of_type last d x xs ≡ got y m → Has id y → (k : ℕ) × (field_id last d xs ≡ got id k) × (k ≤ m)
unfolding done refuse
id_of_lem last id d FT.Stop xs y m e h = let s : stop ≡ y = cc in absurd (subst (Has id) (sym s) h)
id_of_lem last id d (FT.Truth b) xs y m e h = made last id d xs y m (bool b) (λ i q. q) e h
id_of_lem last id d (FT.Kind t) xs y m e h = made last id d xs y m (value t) (λ i q. q) e h
id_of_lem last id d (FT.Refused why) xs y m e h = not_both e

-- bytes that read as a field with this id, whose first byte has a delta that a writer may use, are no fewer than its header's
pub header_shortest : (last id : ℤ) (code : ℕ) (bs : List ℕ) (y : Field) (n : ℕ) → SFits w16 id → Has id y → field last bs ≡ got y n → get_or bs 0 0 / 16 < 15 → length (field_bytes last id code) ≤ n
unfolding field and_then byte
header_shortest last id code [] y n f h e l = not_both e
header_shortest last id code (b ∷ bs) y n f h e l =
    let g = found_at 1 (of_type last (b / 16) (field_type (b % 16)) bs) y n e in
    let i = id_of_lem last id (b / 16) (field_type (b % 16)) bs y g.0 g.1 h in
    omega (arith, id_shortest last id code i.0 (b / 16) bs i.1 l f, i.2, g.2)
