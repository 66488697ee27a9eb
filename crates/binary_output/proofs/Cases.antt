-- What the calls answer, and what they leave, at each of their returns: once for all calls, over the one definition. Assumes nothing.
use mathlib.Core.Path.{◌≡◌, sym, ap, ◌∙◌}
use mathlib.Core.Bool.{Bool}
use mathlib.Core.List.{List, [], ◌∷◌}
use Prim.Native.Nat.{ℕ, ◌+◌, ◌≤◌}
use native.Mathlib.Nat.{add-zero}
use native.Mathlib.Omega.{arith}
use borrow.Author.Rules.{sfits_of}
use borrow.Author.Tests.{eq-eqb, ne_eqb}
use lib.IntN.{ℤ}
use lib.ListN.{length}
use mir.Syntax.{w8, w16, w32, w64}
use mir.Val.{Fits, of_z}
use mir.Facts.{to_z-of_z}
use Rattle.types.specs.declared.TType.{TType}
use Rattle.types.specs.declared.TConfiguration.{TConfiguration}
use Rattle.numbers.specs.Answers.{wrote_at, put_at}
use Rattle.numbers.specs.declared.Wrote.{Wrote}
use Rattle.numbers.specs.declared.Wrote.TheVariants as W
use Rattle.numbers.proofs.Put.{wrote_to, put_in}
use Rattle.puts.specs.Bytes.{above}
use Rattle.puts.specs.Wrong.{or_else, count_wrong}
use Rattle.puts.proofs.Checks.{both_none}
use Rattle.big_endian.specs.Big.{big2, big4, big8}
use Rattle.big_endian.proofs.Big.{length_big2, length_big4, length_big8}
use Rattle.binary_puts.specs.Bytes.{int16_bytes, int32_bytes, int64_bytes, truth_byte, field_bytes, items_bytes, pairs_bytes}
use Rattle.binary_puts.proofs.Pieces.{field_long, items_long, pairs_long, string_long, message_long}
use Rattle.binary_output.specs.State.{State, unsound, begun_here, moved_to, entered, ended}
use Rattle.binary_output.specs.Calls.{call, refused_by, written, settled, size_wrong, why_not, writes, leaves, begin_wrong, end_wrong}
use Rattle.binary_output.specs.declared.BinaryWritten.{BinaryWritten}
use Rattle.binary_output.proofs.Checks.{Sound, sound, begin_fits, end_fits, unsized}

-- the state behind what was written
module _ (st next : State) (w : Wrote) where
  pub moved_to_lem : (p : ℕ) → w ≡ W.To p → written (moved_to next p) ≡ settled st next w
  unfolding settled
  moved_to_lem p e = rw e

  pub moved_not : (why : ℕ) (r : BinaryWritten) → r ≡ refused_by st why → w ≡ W.Refused why → r ≡ settled st next w
  unfolding settled
  moved_not why r f e = rw e f

pub begun_to : (st : State) (w : Wrote) (p : ℕ) → w ≡ W.To p → written (moved_to (begun_here st) p) ≡ settled st (begun_here st) w
begun_to st w p e = moved_to_lem st (begun_here st) w p e

pub ruleset moved_cases = (moved_to_lem, begun_to, moved_not)

-- a call with the refusal `wrong`, 0 for none: n is what stops it
module _ (buf : List ℕ) (st : State) (wrong n : ℕ) (bs : List ℕ) (next : State) (e : n ≡ or_else (unsound (length buf) st) (or_else wrong (size_wrong next (length bs)))) where
  pub refusing : (n ≡ 0 → ⊥) → refused_by st n ≡ writes buf st (call wrong bs next)
  unfolding writes why_not
  refusing h = rw (← e, ne_eqb n 0 h)

  pub keeping : (n ≡ 0 → ⊥) → buf ≡ leaves buf st (call wrong bs next)
  unfolding leaves why_not
  keeping h = rw (← e, ne_eqb n 0 h)

  module _ (h : n ≡ 0) where
    pub writing : settled st next (wrote_at buf st.place.0 bs) ≡ writes buf st (call wrong bs next)
    unfolding writes why_not
    writing = rw (← e, eq-eqb n 0 h)

    pub putting : put_at buf st.place.0 bs ≡ leaves buf st (call wrong bs next)
    unfolding leaves why_not
    putting = rw (← e, eq-eqb n 0 h)

    pub passed : Sound (length buf) st
    passed = sound (length buf) st (both_none (unsound (length buf) st) _ (sym e ∙ h)).0

-- a call that writes nothing
module _ (buf : List ℕ) (st : State) (wrong n : ℕ) (next : State) (e : n ≡ or_else (unsound (length buf) st) wrong) (h : n ≡ 0) where
  e' : n ≡ or_else (unsound (length buf) st) (or_else wrong (size_wrong next 0))
  e' = e ∙ ap (or_else (unsound (length buf) st)) (sym (unsized next wrong))

  pub noting : written (moved_to next st.place.0) ≡ writes buf st (call wrong [] next)
  unfolding settled
  noting =
      ap (λ (p : ℕ). written (moved_to next p)) (sym (add-zero st.place.0))
      ∙ ap (settled st next) (wrote_to buf st.place.0 [] (omega (arith, (passed buf st wrong n [] next e' h).here, add-zero st.place.0)))
      ∙ writing buf st wrong n [] next e' h

  pub untouched : buf ≡ leaves buf st (call wrong [] next)
  untouched = put_in buf st.place.0 [] (omega (arith, (passed buf st wrong n [] next e' h).here, add-zero st.place.0)) ∙ putting buf st wrong n [] next e' h

-- The same from what a call has: n comes from the refusal m, of the arguments and then of the size.
module _ (buf : List ℕ) (st : State) (n m : ℕ) (e : n ≡ or_else (unsound (length buf) st) m) (wrong : ℕ) (bs : List ℕ) (next : State) (d : m ≡ or_else wrong (size_wrong next (length bs))) where
  stops : n ≡ or_else (unsound (length buf) st) (or_else wrong (size_wrong next (length bs)))
  stops = e ∙ ap (or_else (unsound (length buf) st)) d

  pub stopped : (r : BinaryWritten) → (n ≡ 0 → ⊥) → r ≡ refused_by st n → r ≡ writes buf st (call wrong bs next)
  stopped r h f = f ∙ refusing buf st wrong n bs next stops h

  pub stopped_left : (n ≡ 0 → ⊥) → buf ≡ leaves buf st (call wrong bs next)
  stopped_left h = keeping buf st wrong n bs next stops h

  module _ (h : n ≡ 0) (cs : List ℕ) where
    pub went : (w : Wrote) (r : BinaryWritten) → r ≡ settled st next w → w ≡ wrote_at buf st.place.0 cs → cs ≡ bs → r ≡ writes buf st (call wrong bs next)
    went w r f g c = f ∙ ap (settled st next) (g ∙ ap (wrote_at buf st.place.0) c) ∙ writing buf st wrong n bs next stops h

    pub went_left : (after : List ℕ) → after ≡ put_at buf st.place.0 cs → cs ≡ bs → after ≡ leaves buf st (call wrong bs next)
    went_left after g c = g ∙ ap (put_at buf st.place.0) c ∙ putting buf st wrong n bs next stops h

-- the size that was asked for is the bytes', where w is what the arguments show
pub size_of : (st : State) (w wrong head body m : ℕ) (bs : List ℕ) → m ≡ or_else w (size_wrong st (head + body)) → w ≡ wrong → head + body ≡ length bs → m ≡ or_else wrong (size_wrong st (length bs))
size_of st w wrong head body m bs e g f = rw (g, f) at e

-- a call that writes nothing asks for no size
pub no_size : (st : State) (wrong m : ℕ) → m ≡ wrong → m ≡ or_else wrong (size_wrong st (length {A = ℕ} []))
no_size st wrong m e = e ∙ sym (unsized st wrong)

-- what the bytes written are: a signed number reaches a call through its bits, as y
module _ (n : ℕ) (y z : ℤ) where
  pub i8_is : n ≡ of_z w8 y → y ≡ z → n ∷ [] ≡ of_z w8 z ∷ []
  i8_is e f = rw (e, f)

  pub i16_is : n ≡ of_z w16 y → y ≡ z → big2 n ≡ int16_bytes z
  i16_is e f = rw (e, f)

  pub i32_is : n ≡ of_z w32 y → y ≡ z → big4 n ≡ int32_bytes z
  i32_is e f = rw (e, f)

  pub i64_is : n ≡ of_z w64 y → y ≡ z → big8 n ≡ int64_bytes z
  i64_is e f = rw (e, f)

  pub items_is : (t : TType) → n ≡ above y → y ≡ z → items_bytes t n ≡ items_bytes t (above z)
  items_is t e f = rw (e, f)

  pub pairs_is : (k v : TType) → n ≡ above y → y ≡ z → pairs_bytes k v n ≡ pairs_bytes k v (above z)
  pairs_is k v e f = rw (e, f)

pub truth_is : (b : Bool) (c : ℕ) → c ≡ truth_byte b → c ∷ [] ≡ truth_byte b ∷ []
truth_is b c e = rw e

pub field_is : (t : TType) (y z : ℤ) → y ≡ z → field_bytes t y ≡ field_bytes t z
field_is t y z e = rw e

-- and how many
pub i16_size : (z : ℤ) → 2 + 0 ≡ length (int16_bytes z)
i16_size z = sym (length_big2 (of_z w16 z))

pub i32_size : (z : ℤ) → 4 + 0 ≡ length (int32_bytes z)
i32_size z = sym (length_big4 (of_z w32 z))

pub long_size : (n : ℕ) → 8 + 0 ≡ length (big8 n)
long_size n = sym (length_big8 n)

pub bytes_over : (st : State) (m n : ℕ) → m ≡ or_else 0 (size_wrong st (0 + n)) → m ≡ or_else 0 (size_wrong st n)
bytes_over st m n e = let z : 0 + n ≡ n = omega arith in rw z at e

pub field_size : (t : TType) (z : ℤ) → 3 + 0 ≡ length (field_bytes t z)
field_size t z = field_long t z

pub items_size : (t : TType) (n : ℕ) → 5 + 0 ≡ length (items_bytes t n)
items_size t n = items_long t n

pub pairs_size : (k v : TType) (n : ℕ) → 6 + 0 ≡ length (pairs_bytes k v n)
pairs_size k v n = pairs_long k v n

-- the count reaches its test through its bits
pub count_is : (lim : TConfiguration) (t u : TType) (m : ℕ) (y z : ℤ) → m ≡ count_wrong lim t u y → y ≡ z → m ≡ count_wrong lim t u z
count_is lim t u m y z e f = rw f at e

pub ruleset plain_cases = (stopped, stopped_left, went, went_left, size_of, truth_is, long_size, string_long)

pub ruleset message_cases = (stopped, stopped_left, went, went_left, size_of, message_long, to_z-of_z, sfits_of)

pub ruleset int_cases = (stopped, stopped_left, went, went_left, size_of, i8_is, i16_is, i32_is, i64_is, i16_size, i32_size, long_size, to_z-of_z, sfits_of)

pub ruleset field_cases = (stopped, stopped_left, went, went_left, size_of, field_is, field_size, to_z-of_z, sfits_of)

pub ruleset items_cases = (stopped, stopped_left, went, went_left, size_of, count_is, items_is, items_size, to_z-of_z, sfits_of)

pub ruleset pairs_cases = (stopped, stopped_left, went, went_left, size_of, count_is, pairs_is, pairs_size, to_z-of_z, sfits_of)

-- structs
module _ (buf : List ℕ) (st : State) (n m : ℕ) (e : n ≡ or_else (unsound (length buf) st) m) (h : n ≡ 0) where
  nothing : m ≡ 0
  nothing = (both_none (unsound (length buf) st) m (sym e ∙ h)).1

  known : Sound (length buf) st
  known = sound (length buf) st (both_none (unsound (length buf) st) m (sym e ∙ h)).0

  module _ (d : m ≡ begin_wrong st) where
    pub begin_more : Fits w64 (st.depth + 1)
    begin_more = record { fits = omega (arith, begin_fits st (sym d ∙ nothing), known.limits.deep) }

    pub begin_done : written (entered st) ≡ writes buf st (call (begin_wrong st) [] (entered st))
    begin_done = noting buf st (begin_wrong st) n (entered st) (rw d at e) h

    pub begin_left : buf ≡ leaves buf st (call (begin_wrong st) [] (entered st))
    begin_left = untouched buf st (begin_wrong st) n (entered st) (rw d at e) h

  module _ (d : m ≡ end_wrong st) where
    pub end_some : 1 ≤ st.depth
    end_some = end_fits st (sym d ∙ nothing)

    pub end_done : written (ended st) ≡ writes buf st (call (end_wrong st) [] (ended st))
    end_done = noting buf st (end_wrong st) n (ended st) (rw d at e) h

    pub end_left : buf ≡ leaves buf st (call (end_wrong st) [] (ended st))
    end_left = untouched buf st (end_wrong st) n (ended st) (rw d at e) h

pub ruleset begin_cases = (stopped, stopped_left, no_size, begin_more, begin_done, begin_left)

pub ruleset end_cases = (stopped, stopped_left, no_size, end_some, end_done, end_left)
