-- Printing of the values that hold no other: what the code knows at each return. Assumes nothing.
use mathlib.Core.Path.{◌≡◌, refl, sym, ap, ap₂, ◌∙◌}
use mathlib.Core.Bool.{Bool}
use mathlib.Core.List.{List}
use Prim.Native.Nat.{ℕ, ◌-◌, ◌≤◌}
use native.Mathlib.Omega.{arith}
use borrow.Author.Rules.{sfits_of}
use lib.IntN.{ℤ}
use lib.ListN.{length, take, drop}
use mir.Facts.{to_z-of_z}
use Rattle.types.specs.Refusals.{BAD_TYPE, DEPTH}
use Rattle.types.specs.declared.Place.{Place}
use Rattle.types.specs.declared.TType.{TType}
use Rattle.types.specs.declared.TType.TheVariants as T
use Rattle.types.specs.declared.TConfiguration.{TConfiguration}
use Rattle.types.specs.Value as val
use Rattle.types.specs.Value.{Tree}
use Rattle.numbers.specs.Varint.{Found, got, refused}
use Rattle.heads.specs.Reader.{Reader, refuse, read_at}
use Rattle.heads.specs.Heads.{int8, int16, int32, int64, double, uuid, truth, binary}
use Rattle.heads.specs.Answers.{to_i8, to_i16, to_i32, to_i64, to_double, to_bool, to_part, int8_at, int16_at, int32_at, int64_at, double_at, truth_at, uuid_at, binary_at}
use Rattle.heads.specs.declared.I8Read.{I8Read}
use Rattle.heads.specs.declared.I8Read.TheVariants as I8
use Rattle.heads.specs.declared.I16Read.{I16Read}
use Rattle.heads.specs.declared.I16Read.TheVariants as I16
use Rattle.heads.specs.declared.I32Read.{I32Read}
use Rattle.heads.specs.declared.I32Read.TheVariants as I32
use Rattle.heads.specs.declared.I64Read.{I64Read}
use Rattle.heads.specs.declared.I64Read.TheVariants as I64
use Rattle.heads.specs.declared.DoubleRead.{DoubleRead}
use Rattle.heads.specs.declared.DoubleRead.TheVariants as D
use Rattle.heads.specs.declared.BoolRead.{BoolRead}
use Rattle.heads.specs.declared.BoolRead.TheVariants as B
use Rattle.heads.specs.declared.PartRead.{PartRead}
use Rattle.heads.specs.declared.PartRead.TheVariants as P
use Rattle.heads.proofs.Cases.{is_part, no_part}
use Rattle.heads.proofs.Tails.{Tail, uuid_tail, binary_tail}
use Rattle.scalars.specs.Scalars.{scalar_of}
use Rattle.scalars.specs.declared.Scalar.{Scalar}
use Rattle.scalars.specs.declared.Scalar.TheVariants as S
use Rattle.text.specs.Pen.{Pen, inked}
use Rattle.lines.specs.Lines as row
use Rattle.lines.specs.Lines.{Item, line}
use Rattle.printer.specs.Telling.{Teller, quiet, voiced}
use Rattle.printer.specs.Value.{shut_told, shaped_told, value_told}
use Rattle.printer.specs.Printing.{prints}
use Rattle.printer.specs.declared.Printed.{Printed}
use Rattle.printer.specs.declared.Printed.TheVariants.{Went, Stopped}
use Rattle.printer.proofs.Prints.{prints_refuse, voiced_got, voiced_no}

-- what a scalar's call answered, as its reader found it
abbrev of_bool_lem : BoolRead → Found Bool
of_bool_lem (B.Got a e) = got a e.0
of_bool_lem (B.Refused why) = refused why

as_bool : (x : Found Bool) → of_bool_lem (to_bool x) ≡ x
as_bool (got a e) = refl
as_bool (refused why) = refl

abbrev of_i8_lem : I8Read → Found ℤ
of_i8_lem (I8.Got a e) = got a e.0
of_i8_lem (I8.Refused why) = refused why

as_i8_lem : (x : Found ℤ) → of_i8_lem (to_i8 x) ≡ x
as_i8_lem (got a e) = refl
as_i8_lem (refused why) = refl

abbrev of_i16_lem : I16Read → Found ℤ
of_i16_lem (I16.Got a e) = got a e.0
of_i16_lem (I16.Refused why) = refused why

as_i16_lem : (x : Found ℤ) → of_i16_lem (to_i16 x) ≡ x
as_i16_lem (got a e) = refl
as_i16_lem (refused why) = refl

abbrev of_i32_lem : I32Read → Found ℤ
of_i32_lem (I32.Got a e) = got a e.0
of_i32_lem (I32.Refused why) = refused why

as_i32_lem : (x : Found ℤ) → of_i32_lem (to_i32 x) ≡ x
as_i32_lem (got a e) = refl
as_i32_lem (refused why) = refl

abbrev of_i64_lem : I64Read → Found ℤ
of_i64_lem (I64.Got a e) = got a e.0
of_i64_lem (I64.Refused why) = refused why

as_i64_lem : (x : Found ℤ) → of_i64_lem (to_i64 x) ≡ x
as_i64_lem (got a e) = refl
as_i64_lem (refused why) = refl

abbrev of_double_lem : DoubleRead → Found ℕ
of_double_lem (D.Got a e) = got a e.0
of_double_lem (D.Refused why) = refused why

as_double_lem : (x : Found ℕ) → of_double_lem (to_double x) ≡ x
as_double_lem (got a e) = refl
as_double_lem (refused why) = refl

-- print_bool and the others like it: a value read is written as a scalar (a number by way of 64 bits, w)
module _ (s : List ℕ) (at : ℕ) (out : List ℕ) (to : ℕ) where
  module _ (r : BoolRead) (f : r ≡ truth_at s at) where
    read_bool_lem : (q : BoolRead) → r ≡ q → read_at truth s at ≡ of_bool_lem q
    unfolding truth_at
    read_bool_lem q g = sym (as_bool (read_at truth s at)) ∙ ap of_bool_lem (sym f ∙ g)

    pub bool_got : (b : Bool) (e : Place) (o : List ℕ) (q : ℕ) → r ≡ B.Got b e → (o, q) ≡ inked (line (row.scalar (S.Bool b))) (out, to) → (Went e q, o) ≡ prints (voiced truth (λ c. row.scalar (S.Bool c)) val.truth) s at (out, to)
    bool_got b e o q g h = voiced_got truth _ val.truth s at out to b e.0 o q (read_bool_lem (B.Got b e) g) h

    pub bool_no : (why : ℕ) → r ≡ B.Refused why → (Stopped why to, out) ≡ prints (voiced truth (λ c. row.scalar (S.Bool c)) val.truth) s at (out, to)
    bool_no why g = voiced_no truth _ val.truth s at out to why (read_bool_lem (B.Refused why) g)

  module _ (r : I8Read) (f : r ≡ int8_at s at) where
    read_i8_lem : (q : I8Read) → r ≡ q → read_at int8 s at ≡ of_i8_lem q
    unfolding int8_at
    read_i8_lem q g = sym (as_i8_lem (read_at int8 s at)) ∙ ap of_i8_lem (sym f ∙ g)

    pub i8_got : (z y w v : ℤ) (e : Place) (o : List ℕ) (q : ℕ) → r ≡ I8.Got z e → (o, q) ≡ inked (line (row.scalar (S.Int y))) (out, to) → y ≡ w → w ≡ v → v ≡ z → (Went e q, o) ≡ prints (voiced int8 (λ n. row.scalar (S.Int n)) val.i8) s at (out, to)
    i8_got z y w v e o q g h i j k =
        voiced_got int8 _ val.i8 s at out to z e.0 o q (read_i8_lem (I8.Got z e) g) (h ∙ ap (λ (n : ℤ). inked (line (row.scalar (S.Int n))) (out, to)) (i ∙ j ∙ k))

    pub i8_no : (why : ℕ) → r ≡ I8.Refused why → (Stopped why to, out) ≡ prints (voiced int8 (λ n. row.scalar (S.Int n)) val.i8) s at (out, to)
    i8_no why g = voiced_no int8 _ val.i8 s at out to why (read_i8_lem (I8.Refused why) g)

  module _ (r : I16Read) (f : r ≡ int16_at s at) where
    read_i16_lem : (q : I16Read) → r ≡ q → read_at int16 s at ≡ of_i16_lem q
    unfolding int16_at
    read_i16_lem q g = sym (as_i16_lem (read_at int16 s at)) ∙ ap of_i16_lem (sym f ∙ g)

    pub i16_got : (z y w v : ℤ) (e : Place) (o : List ℕ) (q : ℕ) → r ≡ I16.Got z e → (o, q) ≡ inked (line (row.scalar (S.Int y))) (out, to) → y ≡ w → w ≡ v → v ≡ z → (Went e q, o) ≡ prints (voiced int16 (λ n. row.scalar (S.Int n)) val.i16) s at (out, to)
    i16_got z y w v e o q g h i j k =
        voiced_got int16 _ val.i16 s at out to z e.0 o q (read_i16_lem (I16.Got z e) g) (h ∙ ap (λ (n : ℤ). inked (line (row.scalar (S.Int n))) (out, to)) (i ∙ j ∙ k))

    pub i16_no : (why : ℕ) → r ≡ I16.Refused why → (Stopped why to, out) ≡ prints (voiced int16 (λ n. row.scalar (S.Int n)) val.i16) s at (out, to)
    i16_no why g = voiced_no int16 _ val.i16 s at out to why (read_i16_lem (I16.Refused why) g)

  module _ (r : I32Read) (f : r ≡ int32_at s at) where
    read_i32_lem : (q : I32Read) → r ≡ q → read_at int32 s at ≡ of_i32_lem q
    unfolding int32_at
    read_i32_lem q g = sym (as_i32_lem (read_at int32 s at)) ∙ ap of_i32_lem (sym f ∙ g)

    pub i32_got : (z y w v : ℤ) (e : Place) (o : List ℕ) (q : ℕ) → r ≡ I32.Got z e → (o, q) ≡ inked (line (row.scalar (S.Int y))) (out, to) → y ≡ w → w ≡ v → v ≡ z → (Went e q, o) ≡ prints (voiced int32 (λ n. row.scalar (S.Int n)) val.i32) s at (out, to)
    i32_got z y w v e o q g h i j k =
        voiced_got int32 _ val.i32 s at out to z e.0 o q (read_i32_lem (I32.Got z e) g) (h ∙ ap (λ (n : ℤ). inked (line (row.scalar (S.Int n))) (out, to)) (i ∙ j ∙ k))

    pub i32_no : (why : ℕ) → r ≡ I32.Refused why → (Stopped why to, out) ≡ prints (voiced int32 (λ n. row.scalar (S.Int n)) val.i32) s at (out, to)
    i32_no why g = voiced_no int32 _ val.i32 s at out to why (read_i32_lem (I32.Refused why) g)

  module _ (r : I64Read) (f : r ≡ int64_at s at) where
    read_i64_lem : (q : I64Read) → r ≡ q → read_at int64 s at ≡ of_i64_lem q
    unfolding int64_at
    read_i64_lem q g = sym (as_i64_lem (read_at int64 s at)) ∙ ap of_i64_lem (sym f ∙ g)

    pub i64_got : (z y : ℤ) (e : Place) (o : List ℕ) (q : ℕ) → r ≡ I64.Got z e → (o, q) ≡ inked (line (row.scalar (S.Int y))) (out, to) → y ≡ z → (Went e q, o) ≡ prints (voiced int64 (λ n. row.scalar (S.Int n)) val.i64) s at (out, to)
    i64_got z y e o q g h i =
        voiced_got int64 _ val.i64 s at out to z e.0 o q (read_i64_lem (I64.Got z e) g) (h ∙ ap (λ (n : ℤ). inked (line (row.scalar (S.Int n))) (out, to)) i)

    pub i64_no : (why : ℕ) → r ≡ I64.Refused why → (Stopped why to, out) ≡ prints (voiced int64 (λ n. row.scalar (S.Int n)) val.i64) s at (out, to)
    i64_no why g = voiced_no int64 _ val.i64 s at out to why (read_i64_lem (I64.Refused why) g)

  module _ (r : DoubleRead) (f : r ≡ double_at s at) where
    read_double_lem : (q : DoubleRead) → r ≡ q → read_at double s at ≡ of_double_lem q
    unfolding double_at
    read_double_lem q g = sym (as_double_lem (read_at double s at)) ∙ ap of_double_lem (sym f ∙ g)

    pub double_got : (n : ℕ) (v : Scalar) (e : Place) (o : List ℕ) (q : ℕ) → r ≡ D.Got n e → (o, q) ≡ inked (line (row.scalar v)) (out, to) → v ≡ scalar_of n → (Went e q, o) ≡ prints (voiced double (λ m. row.scalar (scalar_of m)) val.double) s at (out, to)
    double_got n v e o q g h i =
        voiced_got double _ val.double s at out to n e.0 o q (read_double_lem (D.Got n e) g) (h ∙ ap (λ (w : Scalar). inked (line (row.scalar w)) (out, to)) i)

    pub double_no : (why : ℕ) → r ≡ D.Refused why → (Stopped why to, out) ≡ prints (voiced double (λ m. row.scalar (scalar_of m)) val.double) s at (out, to)
    double_no why g = voiced_no double _ val.double s at out to why (read_double_lem (D.Refused why) g)

pub ruleset scalar_cases = (bool_got, bool_no, i8_got, i8_no, i16_got, i16_no, i32_got, i32_no, i64_got, i64_no, double_got, double_no, to_z-of_z, sfits_of)

-- the part between the places that a call answered
pub record Between (s cs : List ℕ) (a e : ℕ) : Type 0 where
  pub order : a ≤ e
  pub inside : e ≤ length s
  pub are : take (e - a) (drop a s) ≡ cs

pub between : (s cs : List ℕ) (a e : ℕ) → a ≡ e - length cs → Tail s cs e → Between s cs a e
between s cs a e h t =
    let n : e - a ≡ length cs = omega (arith, t.fits) in
    record { order = omega arith; inside = t.inside; are = ap₂ (λ (m p : ℕ). take m (drop p s)) n h ∙ t.is }

module _ (p : Reader (List ℕ)) (g : List ℕ → Tree) (s : List ℕ) (at : ℕ) (tail : (cs : List ℕ) (e : ℕ) → read_at p s at ≡ got cs e → Tail s cs e) (r : PartRead) (f : r ≡ to_part (read_at p s at)) where
  module _ (a z : Place) (k : r ≡ P.Got a z) where
    the_part : (cs : List ℕ) × (read_at p s at ≡ got cs z.0) × Between s cs a.0 z.0
    the_part =
        let h = is_part (read_at p s at) a z (sym f ∙ k) in
        (h.0, h.1, between s h.0 a.0 z.0 h.2 (tail h.0 z.0 h.1))

    part_got : (out o : List ℕ) (to q : ℕ) → (o, q) ≡ inked (line (row.part (take (z.0 - a.0) (drop a.0 s)))) (out, to) → (Went z q, o) ≡ prints (voiced p row.part g) s at (out, to)
    part_got out o to q h =
        voiced_got p row.part g s at out to the_part.0 z.0 o q the_part.1 (h ∙ ap (λ (cs : List ℕ). inked (line (row.part cs)) (out, to)) the_part.2.are)

  part_no : (out : List ℕ) (to why : ℕ) → r ≡ P.Refused why → (Stopped why to, out) ≡ prints (voiced p row.part g) s at (out, to)
  part_no out to why k = voiced_no p row.part g s at out to why (no_part (read_at p s at) why (sym f ∙ k))

-- print_uuid
module _ (s : List ℕ) (at : ℕ) (r : PartRead) (f : r ≡ uuid_at s at) where
  uuid_answer : r ≡ to_part (read_at uuid s at)
  unfolding uuid_at
  uuid_answer = f

  module _ (a z : Place) (k : r ≡ P.Got a z) where
    pub uuid_order : a.0 ≤ z.0
    uuid_order = (the_part uuid val.uuid s at (uuid_tail s at) r uuid_answer a z k).2.order

    pub uuid_inside : z.0 ≤ length s
    uuid_inside = (the_part uuid val.uuid s at (uuid_tail s at) r uuid_answer a z k).2.inside

    pub uuid_got : (out o : List ℕ) (to q : ℕ) → (o, q) ≡ inked (line (row.part (take (z.0 - a.0) (drop a.0 s)))) (out, to) → (Went z q, o) ≡ prints (voiced uuid row.part val.uuid) s at (out, to)
    uuid_got out o to q h = part_got uuid val.uuid s at (uuid_tail s at) r uuid_answer a z k out o to q h

  pub uuid_no : (out : List ℕ) (to why : ℕ) → r ≡ P.Refused why → (Stopped why to, out) ≡ prints (voiced uuid row.part val.uuid) s at (out, to)
  uuid_no out to why k = part_no uuid val.uuid s at (uuid_tail s at) r uuid_answer out to why k

pub ruleset uuid_cases = (uuid_order, uuid_inside, uuid_got, uuid_no)

-- print_bytes
module _ (s : List ℕ) (lim : TConfiguration) (at : ℕ) (r : PartRead) (f : r ≡ binary_at s lim at) where
  bytes_answer : r ≡ to_part (read_at (binary lim) s at)
  unfolding binary_at
  bytes_answer = f

  module _ (a z : Place) (k : r ≡ P.Got a z) where
    pub bytes_order : a.0 ≤ z.0
    bytes_order = (the_part (binary lim) val.bytes s at (binary_tail lim s at) r bytes_answer a z k).2.order

    pub bytes_inside : z.0 ≤ length s
    bytes_inside = (the_part (binary lim) val.bytes s at (binary_tail lim s at) r bytes_answer a z k).2.inside

    pub bytes_got : (out o : List ℕ) (to q : ℕ) → (o, q) ≡ inked (line (row.part (take (z.0 - a.0) (drop a.0 s)))) (out, to) → (Went z q, o) ≡ prints (voiced (binary lim) row.part val.bytes) s at (out, to)
    bytes_got out o to q h = part_got (binary lim) val.bytes s at (binary_tail lim s at) r bytes_answer a z k out o to q h

  pub bytes_no : (out : List ℕ) (to why : ℕ) → r ≡ P.Refused why → (Stopped why to, out) ≡ prints (voiced (binary lim) row.part val.bytes) s at (out, to)
  bytes_no out to why k = part_no (binary lim) val.bytes s at (binary_tail lim s at) r bytes_answer out to why k

pub ruleset bytes_cases = (bytes_order, bytes_inside, bytes_got, bytes_no)

-- print_leaf: what was printed is the leaf's own telling; or it is refused
module _ (s : List ℕ) (lim : TConfiguration) (kind : TType) (at : ℕ) (p : Pen) where
  pub leaf_is : (t : TType) (r : Printed × List ℕ) → kind ≡ t → r ≡ prints (shaped_told lim shut_told t) s at p → r ≡ prints (value_told lim 0 kind) s at p
  unfolding value_told
  leaf_is t r k e = e ∙ rw k

module _ (s : List ℕ) (lim : TConfiguration) (kind : TType) (at : ℕ) (out : List ℕ) (to : ℕ) where
  leaf_refused : (t : TType) (why : ℕ) → shaped_told lim shut_told t ≡ quiet (refuse why) → kind ≡ t → (Stopped why to, out) ≡ prints (value_told lim 0 kind) s at (out, to)
  leaf_refused t why f k = leaf_is s lim kind at (out, to) t _ k (sym (prints_refuse Tree why s at (out, to)) ∙ ap (λ (u : Teller Tree). prints u s at (out, to)) (sym f))

  pub leaf_stop : kind ≡ T.Stop → (Stopped BAD_TYPE to, out) ≡ prints (value_told lim 0 kind) s at (out, to)
  leaf_stop k = leaf_refused T.Stop BAD_TYPE refl k

  pub leaf_list : kind ≡ T.List → (Stopped DEPTH to, out) ≡ prints (value_told lim 0 kind) s at (out, to)
  leaf_list k = leaf_refused T.List DEPTH refl k

  pub leaf_set : kind ≡ T.Set → (Stopped DEPTH to, out) ≡ prints (value_told lim 0 kind) s at (out, to)
  leaf_set k = leaf_refused T.Set DEPTH refl k

  pub leaf_map : kind ≡ T.Map → (Stopped DEPTH to, out) ≡ prints (value_told lim 0 kind) s at (out, to)
  leaf_map k = leaf_refused T.Map DEPTH refl k

  pub leaf_struct : kind ≡ T.Struct → (Stopped DEPTH to, out) ≡ prints (value_told lim 0 kind) s at (out, to)
  leaf_struct k = leaf_refused T.Struct DEPTH refl k

pub ruleset leaf_cases = (leaf_is, leaf_stop, leaf_list, leaf_set, leaf_map, leaf_struct)
