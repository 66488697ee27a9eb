-- Skip of the values that hold no other, at each return. Assumes nothing.
use mathlib.Core.Path.{◌≡◌, refl, sym, ap, ◌∙◌}
use mathlib.Core.Bool.{Bool, true, false, cond, ◌&&◌}
use mathlib.Core.List.{List, [], ◌∷◌}
use Prim.Native.Nat.{ℕ, zero, suc, ◌+◌, ◌-◌, ◌/◌, ◌%◌, ◌≤◌, ◌<◌}
use native.Mathlib.Omega.{arith}
use native.Mathlib.Numerals.{add-one}
use borrow.Author.Tests.{lt-ltb, le-ltb, le-leb, lt-leb, eq-eqb, ne_eqb, ltb-true, eqb-true}
use lib.Dec.{eqb, leb, ltb}
use lib.IntN.{ℤ}
use lib.ListN.{length, get_or, take, drop, length-drop, drop_of_length-le}
use lib.Seq.{drop-cons}
use Rattle.types.specs.Refusals.{END, LONG_VARINT}
use Rattle.types.specs.declared.Place.{Place}
use Rattle.types.specs.declared.TType.{TType}
use Rattle.types.specs.declared.TType.TheVariants as T
use Rattle.types.specs.declared.TConfiguration.{TConfiguration}
use Rattle.types.specs.declared.FieldType.{FieldType}
use Rattle.types.proofs.Limits.{both}
use Rattle.numbers.specs.Varint.{Found, got, refused, more, groups, keep, varint, placed}
use Rattle.heads.specs.Reader.{byte, some, read_at}
use Rattle.heads.specs.Heads.{number32, number64, int8, int16, int32, int64, double, uuid, truth, binary, stop, of_type, field}
use Rattle.heads.specs.Answers.{place, to_bool, truth_at, to_i16, int16_at, to_part, binary_at}
use Rattle.heads.specs.declared.I16Read.{I16Read}
use Rattle.heads.specs.declared.I16Read.TheVariants as I16
use Rattle.heads.specs.declared.BoolRead.{BoolRead}
use Rattle.heads.specs.declared.BoolRead.TheVariants as B
use Rattle.heads.specs.declared.PartRead.{PartRead}
use Rattle.heads.specs.declared.PartRead.TheVariants as P
use Rattle.heads.proofs.Steps.{step, done_at, byte_at}
use Rattle.heads.proofs.Fields.{code_stop}
use Rattle.skip.specs.Value.{Boxes, shut, roomy, shaped, value_of}
use Rattle.skip.specs.Skip.{passed, past}
use Rattle.skip.specs.Leaves.{is_leaf, stop_end}
use Rattle.skip.specs.declared.Skipped.{Skipped}
use Rattle.skip.specs.declared.Skipped.TheVariants.{Done, Refused}
use Rattle.skip.proofs.Past.{past_made, pos_suc}

abbrev of_bool_lem : BoolRead → Skipped
of_bool_lem (B.Got a e) = Done e
of_bool_lem (B.Refused why) = Refused why

as_bool : (x : Found Bool) → of_bool_lem (to_bool x) ≡ passed x
as_bool (got a e) = refl
as_bool (refused why) = refl

abbrev of_i16_lem : I16Read → Skipped
of_i16_lem (I16.Got z e) = Done e
of_i16_lem (I16.Refused why) = Refused why

as_i16_lem : (x : Found ℤ) → of_i16_lem (to_i16 x) ≡ passed x
as_i16_lem (got z e) = refl
as_i16_lem (refused why) = refl

-- a part's answer, as skip has it
abbrev of_part_lem : PartRead → Skipped
of_part_lem (P.Got a e) = Done e
of_part_lem (P.Refused why) = Refused why

as_part_lem : (x : Found (List ℕ)) → of_part_lem (to_part x) ≡ passed x
as_part_lem (got bs e) = refl
as_part_lem (refused why) = refl

-- skip_bool and the others like it
module _ (s : List ℕ) (at : ℕ) (r : BoolRead) (f : r ≡ truth_at s at) where
  over_bool : (q : BoolRead) → r ≡ q → of_bool_lem q ≡ past truth s at
  unfolding truth_at past
  over_bool q g = ap of_bool_lem (sym g ∙ f) ∙ as_bool (read_at truth s at)

  pub bool_done : (a : Bool) (e : Place) → r ≡ B.Got a e → Done e ≡ past truth s at
  bool_done a e g = over_bool (B.Got a e) g

  pub bool_refused : (why : ℕ) → r ≡ B.Refused why → Refused why ≡ past truth s at
  bool_refused why g = over_bool (B.Refused why) g

module _ (s : List ℕ) (at : ℕ) (r : I16Read) (f : r ≡ int16_at s at) where
  over_i16 : (q : I16Read) → r ≡ q → of_i16_lem q ≡ past int16 s at
  unfolding int16_at past
  over_i16 q g = ap of_i16_lem (sym g ∙ f) ∙ as_i16_lem (read_at int16 s at)

  pub i16_done : (z : ℤ) (e : Place) → r ≡ I16.Got z e → Done e ≡ past int16 s at
  i16_done z e g = over_i16 (I16.Got z e) g

  pub i16_refused : (why : ℕ) → r ≡ I16.Refused why → Refused why ≡ past int16 s at
  i16_refused why g = over_i16 (I16.Refused why) g

module _ (s : List ℕ) (lim : TConfiguration) (at : ℕ) (r : PartRead) (f : r ≡ binary_at s lim at) where
  over_bytes : (q : PartRead) → r ≡ q → of_part_lem q ≡ past (binary lim) s at
  unfolding binary_at past
  over_bytes q g = ap of_part_lem (sym g ∙ f) ∙ as_part_lem (read_at (binary lim) s at)

  pub bytes_done : (a e : Place) → r ≡ P.Got a e → Done e ≡ past (binary lim) s at
  bytes_done a e g = over_bytes (P.Got a e) g

  pub bytes_refused : (why : ℕ) → r ≡ P.Refused why → Refused why ≡ past (binary lim) s at
  bytes_refused why g = over_bytes (P.Refused why) g

pub ruleset leaf_ends = (bool_done, bool_refused, i16_done, i16_refused, bytes_done, bytes_refused)

-- skip_some
bytes_left : (s : List ℕ) (at n : ℕ) → past (some n) s at ≡ cond (leb n (length s - at)) (Done (place (at + n))) (Refused END)
unfolding past read_at some
bytes_left s at n = rw (length-drop at s) (go (leb n (length s - at)))
  where
    go : (b : Bool) → passed (placed at (cond b (got (take n (drop at s)) n) (refused END))) ≡ cond b (Done (place (at + n))) (Refused END)
    go true = refl
    go false = refl

module _ (s : List ℕ) (at n : ℕ) where
  pub some_there : n ≤ length s - at → Done (place (at + n)) ≡ past (some n) s at
  some_there h = sym (bytes_left s at n ∙ ap (λ (b : Bool). cond b (Done (place (at + n))) (Refused END)) (le-leb n (length s - at) h))

  pub some_short : length s - at < n → Refused END ≡ past (some n) s at
  some_short h = sym (bytes_left s at n ∙ ap (λ (b : Bool). cond b (Done (place (at + n))) (Refused END)) (lt-leb n (length s - at) h))

  pub some_behind : length s < at → (n ≡ 0 → ⊥) → Refused END ≡ past (some n) s at
  some_behind h z = some_short (omega arith)

  pub some_none : length s < at → n ≡ 0 → Done (place at) ≡ past (some n) s at
  some_none h z = ap (λ (m : ℕ). Done (place m)) (omega (arith, z)) ∙ some_there (omega (arith, z))

pub ruleset some_cases = (some_there, some_short, some_behind, some_none)

-- skip_varint
more_past : (at b : ℕ) (x : Found ℕ) → passed (placed at (more b x)) ≡ passed (placed (suc at) x)
more_past at b (got v n) = ap (λ (m : ℕ). Done (place m)) (omega arith)
more_past at b (refused why) = refl

module _ (s : List ℕ) (left p : ℕ) where
  pub varint_long : left ≤ 0 → Refused LONG_VARINT ≡ past (groups left) s p
  unfolding past read_at
  varint_long z = let e : left ≡ 0 = omega arith in rw e

  module _ (h : 0 < left) where
    pub varint_end : length s ≤ p → Refused END ≡ past (groups left) s p
    unfolding past read_at
    varint_end e = rw (pos_suc h, drop_of_length-le s e)

    module _ (i : p < length s) where
      pub varint_last : get_or s p 0 < 128 → Done (place (p + 1)) ≡ past (groups left) s p
      unfolding past read_at
      varint_last b = rw (pos_suc h, drop-cons s p 0 i, lt-ltb (get_or s p 0) 128 b)

      pub varint_more : 128 ≤ get_or s p 0 → past (groups (left - 1)) s (p + 1) ≡ past (groups left) s p
      unfolding past read_at
      varint_more b =
          ap (λ (m : ℕ). passed (placed m (groups (left - 1) (drop m s)))) (add-one p)
          ∙ sym (ap (λ (k : ℕ). passed (placed p (groups k (drop p s)))) (pos_suc h)
          ∙ ap (λ (bs : List ℕ). passed (placed p (groups (suc (left - 1)) bs))) (drop-cons s p 0 i)
          ∙ ap (λ (c : Bool). passed (placed p (cond c (got (get_or s p 0) 1) (more (get_or s p 0 % 128) (groups (left - 1) (drop (suc p) s)))))) (le-ltb (get_or s p 0) 128 b)
          ∙ more_past p (get_or s p 0 % 128) (groups (left - 1) (drop (suc p) s)))

-- the loop: what is left to read ends where the whole does
module _ (s : List ℕ) (most at left p : ℕ) (inv : past (groups left) s p ≡ past (groups most) s at) where
  pub varint_over : left ≤ 0 → Refused LONG_VARINT ≡ past (groups most) s at
  varint_over z = varint_long s left p z ∙ inv

  module _ (h : 0 < left) where
    pub varint_cut : length s ≤ p → Refused END ≡ past (groups most) s at
    varint_cut e = varint_end s left p h e ∙ inv

    module _ (i : p < length s) where
      pub varint_done : get_or s p 0 < 128 → Done (place (p + 1)) ≡ past (groups most) s at
      varint_done b = varint_last s left p h i b ∙ inv

      pub varint_on : 128 ≤ get_or s p 0 → past (groups (left - 1)) s (p + 1) ≡ past (groups most) s at
      varint_on b = varint_more s left p h i b ∙ inv

pub ruleset varint_cases = (varint_over, varint_cut, varint_done, varint_on)

-- where a scalar ends: its value has no say
kept : (at w : ℕ) (x : Found ℕ) → passed (placed at (keep w x)) ≡ passed (placed at x)
kept at w (got v n) = refl
kept at w (refused why) = refl

one_byte : (at : ℕ) (bs : List ℕ) → passed (placed at (byte bs)) ≡ passed (placed at (some 1 bs))
unfolding byte some
one_byte at [] = refl
one_byte at (b ∷ bs) = rw (le-leb 1 (suc (length bs)) (omega arith))

module _ (s : List ℕ) (at : ℕ) where
  varint_ends : (w k : ℕ) → past (varint w k) s at ≡ past (groups k) s at
  unfolding past read_at
  varint_ends w k = kept at w (groups k (drop at s))

  pub i8_ends : past int8 s at ≡ past (some 1) s at
  unfolding int8 past read_at
  i8_ends = past_made byte _ s at ∙ one_byte at (drop at s)

  pub i32_ends : past int32 s at ≡ past (groups 5) s at
  unfolding int32 number32
  i32_ends = past_made number32 _ s at ∙ varint_ends 32 5

  pub i64_ends : past int64 s at ≡ past (groups 10) s at
  unfolding int64 number64
  i64_ends = past_made number64 _ s at ∙ varint_ends 64 10

  pub double_ends : past double s at ≡ past (some 8) s at
  unfolding double
  double_ends = past_made (some 8) _ s at

  pub uuid_ends : past uuid s at ≡ past (some 16) s at
  unfolding uuid
  uuid_ends = refl

-- is_leaf
pub leaf_so : (kind t : TType) (b : Bool) → kind ≡ t → b ≡ is_leaf t → b ≡ is_leaf kind
leaf_so kind t b k e = rw k e

-- types that hold no other value are read alike with any room
pub no_leaf : {X : Type 0} → false ≡ true → X
no_leaf e = let z : ◌≡◌ {A = ℕ} 0 1 = cc in absurd (omega arith)

same_shape : (lim : TConfiguration) (b c : Boxes) (t : TType) → is_leaf t ≡ true → shaped lim b t ≡ shaped lim c t
same_shape lim b c T.Stop e = refl
same_shape lim b c T.Bool e = refl
same_shape lim b c T.I08 e = refl
same_shape lim b c T.I16 e = refl
same_shape lim b c T.I32 e = refl
same_shape lim b c T.I64 e = refl
same_shape lim b c T.Double e = refl
same_shape lim b c T.String e = refl
same_shape lim b c T.List e = no_leaf e
same_shape lim b c T.Set e = no_leaf e
same_shape lim b c T.Map e = no_leaf e
same_shape lim b c T.Struct e = no_leaf e
same_shape lim b c T.Uuid e = refl

pub flat : (lim : TConfiguration) (room : ℕ) (t : TType) → is_leaf t ≡ true → value_of lim room t ≡ value_of lim 0 t
unfolding value_of
flat lim zero t e = refl
flat lim (suc room) t e = same_shape lim (roomy lim (value_of lim room)) shut t e

-- past_stop
module _ (s : List ℕ) (at : ℕ) where
  pub stop_out : length s ≤ at → place at ≡ place (stop_end s at)
  stop_out h = rw (le-ltb at (length s) h)

  module _ (h : at < length s) where
    pub stop_here : get_or s at 0 % 16 ≡ 0 → place (at + 1) ≡ place (stop_end s at)
    stop_here z = rw (lt-ltb at (length s) h, eq-eqb (get_or s at 0 % 16) 0 z)

    pub stop_not : (get_or s at 0 % 16 ≡ 0 → ⊥) → place at ≡ place (stop_end s at)
    stop_not z = rw (lt-ltb at (length s) h, ne_eqb (get_or s at 0 % 16) 0 z)

pub ruleset stop_cases = (stop_out, stop_here, stop_not)

-- a struct ends where such a byte stands
pub stop_there : (s : List ℕ) (last : ℤ) (p : ℕ) (e : Place) → e ≡ place (stop_end s p) → p < e.0 → read_at (field last) s p ≡ got stop e.0
unfolding field
stop_there s last p e f l = go (ltb p (length s) && eqb (get_or s p 0 % 16) 0) refl
  where
    go : (b : Bool) → (ltb p (length s) && eqb (get_or s p 0 % 16) 0) ≡ b → read_at (field last) s p ≡ got stop e.0
    go true g =
        let h = both (ltb p (length s)) (eqb (get_or s p 0 % 16) 0) g in
        let k : e.0 ≡ p + 1 = ap (λ (x : Place). x.0) f ∙ ap (λ (b : Bool). cond b (p + 1) p) g in
        step _ _ s p _ _ (byte_at s p (ltb-true p (length s) h.0))
        ∙ ap (λ (x : FieldType). read_at (of_type last (get_or s p 0 / 16) x) s (p + 1)) (code_stop (get_or s p 0 % 16) (eqb-true (get_or s p 0 % 16) 0 h.1))
        ∙ done_at s _ _
        ∙ ap (got stop) (sym k)
    go false g =
        let k : e.0 ≡ p = ap (λ (x : Place). x.0) f ∙ ap (λ (b : Bool). cond b (p + 1) p) g in
        absurd (omega (arith, k))
