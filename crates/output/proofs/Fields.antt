-- The field header: which form it has, that it reads back, and that the rules allow no shorter one. Assumes nothing.
use mathlib.Core.Path.{◌≡◌, refl, sym, ap, ap₂, subst, ◌∙◌}
use mathlib.Core.Bool.{Bool, false, cond}
use mathlib.Core.List.{List, [], ◌∷◌, ◌++◌}
use Prim.Native.Nat.{ℕ, zero, suc, ◌+◌, ◌*◌, ◌/◌, ◌%◌, ◌≤◌, ◌<◌}
use native.Mathlib.Omega.{arith}
use borrow.Author.Tests.{eq-eqb, ne_eqb, lt-ltb, le-ltb}
use lib.Dec.{ltb}
use lib.IntN.{ℤ, pos, negsuc, ◌+ℤ◌, ◌-ℤ◌, +ℤ_comm, -ℤ-+ℤ_cancel, +ℤ-neg_ℤ_cancel, +ℤ_invr}
use lib.Signed.{lt_z}
use mir.Syntax.{w16}
use mir.Val.{SFits}
use Rattle.types.specs.Codes.{type_code, truth_code, field_type}
use Rattle.types.specs.declared.TType.{TType}
use Rattle.types.specs.declared.FieldType.{FieldType}
use Rattle.types.specs.declared.FieldType.TheVariants as FT
use Rattle.types.proofs.Codes.{in_field, truth_in_field}
use Rattle.numbers.proofs.Found.{by_lt}
use Rattle.heads.specs.Reader.{byte}
use Rattle.heads.specs.Heads.{field_id, of_type, field, Field, stop, bool, value}
use Rattle.puts.specs.Bytes.{above, int_bytes, short_delta, field_bytes}
use Rattle.puts.proofs.Pieces.{code_below, truth_below}
use Rattle.output.proofs.Back.{Reads, then_reads, then_quiet, done_reads, byte_reads, i16_reads}

-- the two forms
module _ (last id : ℤ) (code : ℕ) where
  pub long_form : short_delta last id ≡ 0 → field_bytes last id code ≡ code ∷ int_bytes id
  unfolding field_bytes
  long_form e = rw (eq-eqb _ 0 e)

  pub short_form : (short_delta last id ≡ 0 → ⊥) → field_bytes last id code ≡ (short_delta last id * 16 + code) ∷ []
  unfolding field_bytes
  short_form h = rw (ne_eqb _ 0 h)

-- which differences take which form: 1 to 14 the short one
above_of : (d : ℕ) (z : ℤ) → d < 15 → z ≡ pos d → cond (ltb (above z) 15) (above z) 0 ≡ d
above_of d z h e = rw (e, lt-ltb d 15 h)

sum_gap : (last : ℤ) (d : ℕ) → (last +ℤ pos d) -ℤ last ≡ pos d
sum_gap last d = ap (λ (z : ℤ). z -ℤ last) (+ℤ_comm last (pos d)) ∙ +ℤ-neg_ℤ_cancel (pos d) last

pub short_of_lem : (last : ℤ) (d : ℕ) → d < 15 → short_delta last (last +ℤ pos d) ≡ d
unfolding short_delta
short_of_lem last d h = above_of d ((last +ℤ pos d) -ℤ last) h (sum_gap last d)

pub short : (last : ℤ) (d code : ℕ) → 0 < d → d < 15 → field_bytes last (last +ℤ pos d) code ≡ (d * 16 + code) ∷ []
short last d code p h =
    let e = short_of_lem last d h in
    short_form last (last +ℤ pos d) code (λ z. omega (arith, sym e ∙ z)) ∙ ap (λ (n : ℕ). (n * 16 + code) ∷ []) e

-- a difference of 0, and one from 15 on, the long one
pub same_id_lem : (last : ℤ) (code : ℕ) → field_bytes last last code ≡ code ∷ int_bytes last
unfolding short_delta
same_id_lem last code = long_form last last code (rw (+ℤ_invr last))

pub far_id : (last : ℤ) (d code : ℕ) → 15 ≤ d → field_bytes last (last +ℤ pos d) code ≡ code ∷ int_bytes (last +ℤ pos d)
unfolding short_delta
far_id last d code h = long_form last (last +ℤ pos d) code (rw (sum_gap last d, le-ltb d 15 h))

-- an id below the last one too, however far
below_gap : (last : ℤ) (n : ℕ) → (last +ℤ negsuc n) -ℤ last ≡ negsuc n
below_gap last n = ap (λ (z : ℤ). z -ℤ last) (+ℤ_comm last (negsuc n)) ∙ +ℤ-neg_ℤ_cancel (negsuc n) last

pub lower_id : (last : ℤ) (n code : ℕ) → field_bytes last (last +ℤ negsuc n) code ≡ code ∷ int_bytes (last +ℤ negsuc n)
unfolding short_delta
lower_id last n code = long_form last (last +ℤ negsuc n) code (rw (below_gap last n))

-- a short difference, added to the last id, is the id
gap_is : (z : ℤ) (d : ℕ) → cond (ltb (above z) 15) (above z) 0 ≡ d → (d ≡ 0 → ⊥) → z ≡ pos d
gap_is (pos n) d e h =
    by_lt n 15 (λ l. ap pos (rw (lt-ltb n 15 l) at e)) (λ l. absurd (h (sym (rw (le-ltb n 15 l) at e))))
gap_is (negsuc n) d e h = absurd (h (sym e))

pub short_sum : (last id : ℤ) → (short_delta last id ≡ 0 → ⊥) → last +ℤ pos (short_delta last id) ≡ id
unfolding short_delta
short_sum last id h =
    ap (λ (z : ℤ). last +ℤ z) (sym (gap_is (id -ℤ last) (short_delta last id) refl h)) ∙ +ℤ_comm last (id -ℤ last) ∙ -ℤ-+ℤ_cancel id last

-- an i16 is not over 32767
not_over : (z : ℤ) → SFits w16 z → lt_z (pos 32767) z ≡ false
not_over (pos n) h = le-ltb 32767 n (omega (arith, h.sfits))
not_over (negsuc n) h = refl

module _ (last id : ℤ) (h : SFits w16 id) where
  -- the id behind a first byte with this delta
  id_short : (d : ℕ) → (d ≡ 0 → ⊥) → last +ℤ pos d ≡ id → Reads (field_id last d) id []
  unfolding field_id
  id_short d k e rest = rw (ne_eqb d 0 k, e, not_over id h) (done_reads id rest)

  id_long : Reads (field_id last 0) id (int_bytes id)
  unfolding field_id
  id_long = i16_reads id h

  -- a header whose code says the type x, which makes the field y of an id
  module _ (code : ℕ) (small : code < 16) (y : Field) (x : FieldType) (is : field_type code ≡ x) (made : (d : ℕ) (xs : List ℕ) → Reads (field_id last d) id xs → Reads (of_type last d x) y xs) where
    behind : (b d : ℕ) (xs : List ℕ) → b / 16 ≡ d → b % 16 ≡ code → Reads (field_id last d) id xs → Reads (field last) y (b ∷ xs)
    unfolding field
    behind b d xs hi lo r =
        then_reads byte _ b y (b ∷ []) xs (byte_reads b)
        (λ rest. ap₂ (λ (e : ℕ) (t : FieldType). of_type last e t (xs ++ rest)) hi (ap field_type lo ∙ is) ∙ made d xs r rest)

    pub header_reads : Reads (field last) y (field_bytes last id code)
    header_reads = go (short_delta last id) refl
      where
        go : (d : ℕ) → short_delta last id ≡ d → Reads (field last) y (field_bytes last id code)
        go zero e =
            let hi : code / 16 ≡ 0 = omega arith in
            let lo : code % 16 ≡ code = omega arith in
            subst (Reads (field last) y) (sym (long_form last id code e)) (behind code 0 (int_bytes id) hi lo id_long)
        go (suc d) e =
            let s : short_delta last id ≡ 0 → ⊥ = λ z. omega (arith, sym e ∙ z) in
            let b : ℕ = short_delta last id * 16 + code in
            let hi : b / 16 ≡ short_delta last id = omega arith in
            let lo : b % 16 ≡ code = omega arith in
            subst (Reads (field last) y) (sym (short_form last id code s)) (behind b (short_delta last id) [] hi lo (id_short (short_delta last id) s (short_sum last id s)))

  -- a field of any type but Stop and Bool
  pub value_reads : (t : TType) → 2 < type_code t → Reads (field last) (value t id) (field_bytes last id (type_code t))
  value_reads t k =
      header_reads (type_code t) (code_below t) (value t id) (FT.Kind t) (in_field t k)
      (λ d xs r. then_quiet (field_id last d) _ id (value t id) xs r (done_reads (value t id)))

  -- a bool field with its value
  pub bool_reads : (b : Bool) → Reads (field last) (bool b id) (field_bytes last id (truth_code b))
  bool_reads b =
      header_reads (truth_code b) (truth_below b) (bool b id) (FT.Truth b) (truth_in_field b)
      (λ d xs r. then_quiet (field_id last d) _ id (bool b id) xs r (done_reads (bool b id)))

-- the struct's end
pub stop_reads : (last : ℤ) → Reads (field last) stop (0 ∷ [])
unfolding field field_type
stop_reads last = then_quiet byte _ 0 stop (0 ∷ []) (byte_reads 0) (done_reads stop)
