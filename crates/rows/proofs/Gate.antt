-- The row's own test is the state's; and what a row that passes it holds, for the reader and for the writer. Assumes nothing.
use mathlib.Core.Path.{◌≡◌, refl, sym, ap, ◌∙◌}
use mathlib.Core.Bool.{Bool, true, false, cond, ◌&&◌}
use mathlib.Core.List.{List, [], ◌∷◌}
use Prim.Native.Nat.{ℕ, ◌+◌, ◌-◌, ◌*◌, ◌/◌, ◌%◌, ◌≤◌, ◌<◌}
use native.Mathlib.Nat.{mod-eq_of_lt}
use native.Mathlib.Omega.{arith}
use borrow.Author.Tests.{lt-ltb, le-ltb, eq-eqb, ne_eqb, ltb-true, ltb-false, eqb-true}
use lib.ListN.{length, get_or, set}
use lib.Dec.{eqb, leb, ltb}
use lib.IntN.{ℤ, pos}
use mir.Syntax.{w16}
use mir.Val.{of_z}
use mir.Facts.{of_z-to_z}
use Rattle.types.specs.Limits.{in_range}
use Rattle.types.specs.Refusals.{OUT_OF_TURN, BAD_STATE}
use Rattle.types.specs.declared.FieldId.{FieldId}
use Rattle.heads.specs.Answers.{place, id_of}
use Rattle.input.specs.State as I
use Rattle.input.specs.declared.Awaited.{Awaited}
use Rattle.input.specs.declared.Awaited.TheVariants as W
use Rattle.output.specs.State as O
use Rattle.output.specs.declared.AwaitedField.TheVariants as A
use Rattle.rows.specs.Row.{last_in, turn_of, limits_of, awaited_of, awaited_no, field_of, field_no, reader_top, reader_in, reader_of, writer_top, writer_in, writer_of, gate_of, refilled, reader_after, writer_after}
use Rattle.rows.specs.Structs.{last_write}
use Rattle.rows.proofs.Cases.{bits_fit}

-- what the row's own test asks beside its length
abbrev fit : ℕ → List ℕ → Bool
fit len row =
    in_range (limits_of row) && leb (get_or row 0 0) len && leb (get_or row 2 0) (limits_of row).depth && leb (get_or row 5 0) (get_or row 0 0) && leb (get_or row 0 0) (get_or row 5 0 + (limits_of row).message)

same : (c : Bool) → BAD_STATE ≡ cond c BAD_STATE BAD_STATE
same true = refl
same false = refl

-- what waits is in the number's upper part
no_waits : (t : ℕ) → t < 65536 → t / 65536 ≡ 0
no_waits t h = omega arith

some_waits : (t : ℕ) → 65536 ≤ t → t / 65536 ≡ 0 → ⊥
some_waits t h e = omega arith

-- the row's test is the reader's
module _ (len : ℕ) (row : List ℕ) where
  pub reader_gate : gate_of reader_top len row ≡ I.gate len (reader_of row)
  unfolding gate_of I.gate I.sound I.fresh in_range reader_of awaited_of
  reader_gate = go (eqb (length row) 6) (ltb (get_or row 1 0) 196608) (ltb (get_or row 1 0) 65536) refl refl refl
    where
      go : (a t e : Bool) → eqb (length row) 6 ≡ a → ltb (get_or row 1 0) 196608 ≡ t → ltb (get_or row 1 0) 65536 ≡ e → gate_of reader_top len row ≡ I.gate len (reader_of row)
      go false t e f g h = rw f
      go true false e f g h =
          rw (f, g, le-ltb (get_or row 1 0) 65536 (omega (arith, ltb-false (get_or row 1 0) 196608 g)))
          (sym (same (fit len row)))
      go true true true f g h = rw (f, g, h, no_waits (get_or row 1 0) (ltb-true (get_or row 1 0) 65536 h))
      go true true false f g h = rw (f, g, h, ne_eqb (get_or row 1 0 / 65536) 0 (some_waits (get_or row 1 0) (ltb-false (get_or row 1 0) 65536 h)))

  -- and the writer's, of a call that is not the bool call
  pub writer_gate : gate_of writer_top len row ≡ O.or_else (O.unsound len (writer_of row)) (O.turn (writer_of row).pending.0)
  unfolding gate_of O.or_else O.unsound O.begun in_range writer_of field_of
  writer_gate = go (eqb (length row) 6) (ltb (get_or row 1 0) 4295032832) (ltb (get_or row 1 0) 65536) refl refl refl
    where
      either : (c : Bool) (n : ℕ) → cond c n BAD_STATE ≡ O.or_else (cond c 0 BAD_STATE) n
      either true n = refl
      either false n = refl

      go : (a t e : Bool) → eqb (length row) 6 ≡ a → ltb (get_or row 1 0) 4295032832 ≡ t → ltb (get_or row 1 0) 65536 ≡ e → gate_of writer_top len row ≡ O.or_else (O.unsound len (writer_of row)) (O.turn (writer_of row).pending.0)
      go false t e f g h = rw f
      go true false e f g h =
          rw (f, g, le-ltb (get_or row 1 0) 65536 (omega (arith, ltb-false (get_or row 1 0) 4295032832 g)))
          (sym (same (fit len row)))
      go true true true f g h =
          rw (f, g, h, no_waits (get_or row 1 0) (ltb-true (get_or row 1 0) 65536 h))
          (either (fit len row) 0)
      go true true false f g h =
          rw (f, g, h, ne_eqb (get_or row 1 0 / 65536) 0 (some_waits (get_or row 1 0) (ltb-false (get_or row 1 0) 65536 h)))
          (either (fit len row) OUT_OF_TURN)

module _ (len : ℕ) (row : List ℕ) (n : ℕ) where
  pub by_reader : n ≡ gate_of reader_top len row → n ≡ I.gate len (reader_of row)
  by_reader e = e ∙ reader_gate len row

  pub by_writer : n ≡ gate_of writer_top len row → n ≡ O.or_else (O.unsound len (writer_of row)) (O.turn (writer_of row).pending.0)
  by_writer e = e ∙ writer_gate len row

pub ruleset passing = (by_reader, by_writer)

-- a row that passes: six numbers, and nothing waits; and one in which something waits
pub record Open (row : List ℕ) : Type 0 where
  pub six : length row ≡ 6
  pub alone : get_or row 1 0 < 65536

pub record Waiting (top : ℕ) (row : List ℕ) : Type 0 where
  pub six : length row ≡ 6
  pub some : 65536 ≤ get_or row 1 0
  pub below : get_or row 1 0 < top

abbrev tested : Bool → Bool → Bool → Bool → Bool → Bool → Bool → Bool → ℕ
tested a i l d b c e t = cond (a && i && l && d && b && c) (cond e 0 (cond t OUT_OF_TURN BAD_STATE)) BAD_STATE

passed : (a i l d b c e t : Bool) → tested a i l d b c e t ≡ 0 → (a ≡ true) × (e ≡ true)
passed true true true true true true true t h = (refl, refl)
passed true true true true true true false true h = absurd (omega arith)
passed true true true true true true false false h = absurd (omega arith)
passed true true true true true false e t h = absurd (omega arith)
passed true true true true false c e t h = absurd (omega arith)
passed true true true false b c e t h = absurd (omega arith)
passed true true false d b c e t h = absurd (omega arith)
passed true false l d b c e t h = absurd (omega arith)
passed false i l d b c e t h = absurd (omega arith)

waited : (a i l d b c e t : Bool) → tested a i l d b c e t ≡ OUT_OF_TURN → (a ≡ true) × (e ≡ false) × (t ≡ true)
waited true true true true true true true t h = absurd (omega arith)
waited true true true true true true false true h = (refl, refl, refl)
waited true true true true true true false false h = absurd (omega arith)
waited true true true true true false e t h = absurd (omega arith)
waited true true true true false c e t h = absurd (omega arith)
waited true true true false b c e t h = absurd (omega arith)
waited true true false d b c e t h = absurd (omega arith)
waited true false l d b c e t h = absurd (omega arith)
waited false i l d b c e t h = absurd (omega arith)

module _ (top len : ℕ) (row : List ℕ) where
  pub opened : gate_of top len row ≡ 0 → Open row
  unfolding gate_of
  opened h =
      let f = passed (eqb (length row) 6) (in_range (limits_of row)) (leb (get_or row 0 0) len) (leb (get_or row 2 0) (limits_of row).depth) (leb (get_or row 5 0) (get_or row 0 0)) (leb (get_or row 0 0) (get_or row 5 0 + (limits_of row).message)) (ltb (get_or row 1 0) 65536) (ltb (get_or row 1 0) top) h in
      record { six = eqb-true (length row) 6 f.0; alone = ltb-true (get_or row 1 0) 65536 f.1 }

  pub held : gate_of top len row ≡ OUT_OF_TURN → Waiting top row
  unfolding gate_of
  held h =
      let f = waited (eqb (length row) 6) (in_range (limits_of row)) (leb (get_or row 0 0) len) (leb (get_or row 2 0) (limits_of row).depth) (leb (get_or row 5 0) (get_or row 0 0)) (leb (get_or row 0 0) (get_or row 5 0 + (limits_of row).message)) (ltb (get_or row 1 0) 65536) (ltb (get_or row 1 0) top) h in
      record { six = eqb-true (length row) 6 f.0; some = ltb-false (get_or row 1 0) 65536 f.1; below = ltb-true (get_or row 1 0) top f.2 }

-- the numbers that a call puts are the whole row behind it
plain : (n : ℕ) → n + 0 * 65536 ≡ n
plain n = omega arith

last_back : (t : ℕ) → of_z w16 (last_in t) ≡ t % 65536
last_back t = of_z-to_z (bits_fit t)

keep_two : (row : List ℕ) (at n : ℕ) → set (set (set row 0 at) 1 n) 2 (get_or row 2 0) ≡ set (set row 0 at) 1 n
keep_two [] at n = refl
keep_two (a ∷ []) at n = refl
keep_two (a ∷ b ∷ []) at n = refl
keep_two (a ∷ b ∷ c ∷ r) at n = refl

keep_one : (row : List ℕ) (at : ℕ) → set (set row 0 at) 1 (get_or row 1 0) ≡ set row 0 at
keep_one [] at = refl
keep_one (a ∷ []) at = refl
keep_one (a ∷ b ∷ r) at = refl

keep_place : (row : List ℕ) → set row 0 (get_or row 0 0) ≡ row
keep_place [] = refl
keep_place (a ∷ r) = refl

keep_begin : (row : List ℕ) (at n depth : ℕ) → set (set (set (set row 0 at) 1 n) 2 depth) 5 (get_or row 5 0) ≡ set (set (set row 0 at) 1 n) 2 depth
keep_begin [] at n depth = refl
keep_begin (a ∷ []) at n depth = refl
keep_begin (a ∷ b ∷ []) at n depth = refl
keep_begin (a ∷ b ∷ c ∷ []) at n depth = refl
keep_begin (a ∷ b ∷ c ∷ d ∷ []) at n depth = refl
keep_begin (a ∷ b ∷ c ∷ d ∷ e ∷ []) at n depth = refl
keep_begin (a ∷ b ∷ c ∷ d ∷ e ∷ f ∷ r) at n depth = refl

module _ (row : List ℕ) (six : length row ≡ 6) where
  anew : (at depth waits begin : ℕ) (last : ℤ) → refilled row at last depth waits begin ≡ set (set (set (set row 0 at) 1 (of_z w16 last + waits * 65536)) 2 depth) 5 begin
  unfolding refilled
  anew at depth waits begin last = rw (eq-eqb (length row) 6 six)

  -- in a message that began where it did
  filled : (at depth waits : ℕ) (last : ℤ) → refilled row at last depth waits (get_or row 5 0) ≡ set (set (set row 0 at) 1 (of_z w16 last + waits * 65536)) 2 depth
  filled at depth waits last = anew at depth waits (get_or row 5 0) last ∙ keep_begin row at (of_z w16 last + waits * 65536) depth

-- another place, last id and what waits; a place alone; a last id and a depth; what waits alone; a message
module _ (row : List ℕ) (six : length row ≡ 6) where
  pub row_headed : (at waits : ℕ) (last : ℤ) → set (set row 0 at) 1 (of_z w16 last + waits * 65536) ≡ refilled row at last (get_or row 2 0) waits (get_or row 5 0)
  row_headed at waits last = sym (filled row six at (get_or row 2 0) waits last ∙ keep_two row at (of_z w16 last + waits * 65536))

  pub row_nested : (n depth : ℕ) (last : ℤ) → n ≡ of_z w16 last → set (set row 1 n) 2 depth ≡ refilled row (get_or row 0 0) last depth 0 (get_or row 5 0)
  row_nested n depth last e =
      let z : of_z w16 last + 0 * 65536 ≡ n = omega arith in
      sym (filled row six (get_or row 0 0) depth 0 last ∙ ap (λ (m : ℕ). set (set (set row 0 (get_or row 0 0)) 1 m) 2 depth) z ∙ ap (λ (r : List ℕ). set (set r 1 n) 2 depth) (keep_place row))

  pub row_waits : (waits : ℕ) → set row 1 (get_or row 1 0 % 65536 + waits * 65536) ≡ refilled row (get_or row 0 0) (last_in (get_or row 1 0)) (get_or row 2 0) waits (get_or row 5 0)
  row_waits waits =
      ap (λ (r : List ℕ). set r 1 (get_or row 1 0 % 65536 + waits * 65536)) (sym (keep_place row))
      ∙ ap (λ (m : ℕ). set (set row 0 (get_or row 0 0)) 1 (m + waits * 65536)) (sym (last_back (get_or row 1 0)))
      ∙ row_headed (get_or row 0 0) waits (last_in (get_or row 1 0))

  pub row_begun : (at begin : ℕ) → set (set (set row 0 at) 1 0) 5 begin ≡ refilled row at (pos 0) (get_or row 2 0) 0 begin
  row_begun at begin = ap (λ (r : List ℕ). set r 5 begin) (sym (keep_two row at 0)) ∙ sym (anew row six at (get_or row 2 0) 0 begin (pos 0))

module _ (row : List ℕ) (clear : Open row) where
  spelt : (at : ℕ) → set row 0 at ≡ set (set row 0 at) 1 (of_z w16 (last_in (get_or row 1 0)) + 0 * 65536)
  spelt at =
      let z : of_z w16 (last_in (get_or row 1 0)) + 0 * 65536 ≡ get_or row 1 0 = omega (arith, last_back (get_or row 1 0), clear.alone) in
      sym (keep_one row at) ∙ ap (set (set row 0 at) 1) (sym z)

  pub row_moved : (at : ℕ) → set row 0 at ≡ refilled row at (last_in (get_or row 1 0)) (get_or row 2 0) 0 (get_or row 5 0)
  row_moved at = spelt at ∙ row_headed row clear.six at 0 (last_in (get_or row 1 0))

  pub row_anew : (at begin : ℕ) → set (set row 0 at) 5 begin ≡ refilled row at (last_in (get_or row 1 0)) (get_or row 2 0) 0 begin
  row_anew at begin =
      ap (λ (r : List ℕ). set r 5 begin) (spelt at ∙ sym (keep_two row at (of_z w16 (last_in (get_or row 1 0)) + 0 * 65536)))
      ∙ sym (anew row clear.six at (get_or row 2 0) 0 begin (last_in (get_or row 1 0)))

  pub row_kept : row ≡ refilled row (get_or row 0 0) (last_in (get_or row 1 0)) (get_or row 2 0) 0 (get_or row 5 0)
  row_kept = sym (keep_place row) ∙ row_moved (get_or row 0 0)

  -- the reader that such a row holds: its numbers, and nothing waits
  pub reader_is : reader_of row ≡ reader_in row
  unfolding reader_of
  reader_is = rw (eq-eqb (length row) 6 clear.six, lt-ltb (get_or row 1 0) 196608 (omega (arith, clear.alone)))

  pub reader_free : (reader_in row).pending.0 ≡ W.Nothing
  unfolding awaited_of
  reader_free = rw (no_waits (get_or row 1 0) clear.alone)

  pub writer_is : writer_of row ≡ writer_in row
  unfolding writer_of
  writer_is = rw (eq-eqb (length row) 6 clear.six, lt-ltb (get_or row 1 0) 4295032832 (omega (arith, clear.alone)))

  pub writer_free : (writer_in row).pending.0 ≡ A.Nothing
  unfolding field_of
  writer_free = rw (no_waits (get_or row 1 0) clear.alone)

  -- and the row behind a call, from what it puts
  pub reader_moves : (e : ℕ) → set row 0 e ≡ reader_after row 0 (I.moved_to (reader_of row) (place e))
  unfolding reader_after awaited_no
  reader_moves e = rw (reader_is, reader_free) (row_moved e)

  pub reader_stays : (why : ℕ) → row ≡ reader_after row why (reader_of row)
  unfolding reader_after awaited_no
  reader_stays why = go (eqb why 0) refl
    where
      go : (b : Bool) → eqb why 0 ≡ b → row ≡ reader_after row why (reader_of row)
      go true e = rw (e, reader_is, reader_free) row_kept
      go false e = rw e

  pub writer_moves : (p : ℕ) → set row 0 p ≡ writer_after row 0 (O.moved_to (writer_of row) p)
  unfolding writer_after field_no
  writer_moves p = rw (writer_is, writer_free) (row_moved p)

  pub writer_heads : (p : ℕ) (id : FieldId) → set (set row 0 p) 1 (of_z w16 id.0) ≡ writer_after row 0 (O.moved_to (O.headed (writer_of row) id) p)
  unfolding writer_after field_no
  writer_heads p id = rw writer_is (ap (set (set row 0 p) 1) (sym (plain (of_z w16 id.0))) ∙ row_headed row clear.six p 0 id.0)

  pub writer_begins : (p : ℕ) → set (set row 0 p) 5 (get_or row 0 0) ≡ writer_after row 0 (O.moved_to (O.begun_here (writer_of row)) p)
  unfolding writer_after field_no
  writer_begins p = rw (writer_is, writer_free) (row_anew p (get_or row 0 0))

  pub writer_stays : (why : ℕ) → row ≡ writer_after row why (writer_of row)
  unfolding writer_after field_no
  writer_stays why = go (eqb why 0) refl
    where
      go : (b : Bool) → eqb why 0 ≡ b → row ≡ writer_after row why (writer_of row)
      go true e = rw (e, writer_is, writer_free) row_kept
      go false e = rw e

-- of three refusals the first
first : (a b c : ℕ) → O.or_else (O.or_else a b) c ≡ O.or_else a (O.or_else b c)
unfolding O.or_else
first a b c = go (eqb a 0) refl
  where
    go : (t : Bool) → eqb a 0 ≡ t → O.or_else (O.or_else a b) c ≡ O.or_else a (O.or_else b c)
    go true f = rw f
    go false f = rw (f, f)

-- what a call knows of its row, from the test that it made
module _ (len : ℕ) (row : List ℕ) (n : ℕ) where
  module _ (e : n ≡ I.gate len (reader_of row)) where
    pub reader_opens : n ≡ 0 → Open row
    reader_opens h = opened reader_top len row (reader_gate len row ∙ sym e ∙ h)

    pub reader_holds : n ≡ OUT_OF_TURN → Waiting reader_top row
    reader_holds h = held reader_top len row (reader_gate len row ∙ sym e ∙ h)

  module _ (e : n ≡ O.or_else (O.unsound len (writer_of row)) (O.turn (writer_of row).pending.0)) where
    pub writer_opens : n ≡ 0 → Open row
    writer_opens h = opened writer_top len row (writer_gate len row ∙ sym e ∙ h)

    -- "Order: 15; 12; what the arguments show"
    pub writer_order : (wrong : ℕ) → O.or_else n wrong ≡ O.or_else (O.unsound len (writer_of row)) (O.in_turn (writer_of row) wrong)
    unfolding O.in_turn
    writer_order wrong = rw e (first (O.unsound len (writer_of row)) (O.turn (writer_of row).pending.0) wrong)

-- what a call that passes leaves in the row
module _ (row : List ℕ) (clear : Open row) where
  -- behind a message's header
  pub reader_begins : (e : ℕ) → set (set (set row 0 e) 1 0) 5 (get_or row 0 0) ≡ reader_after row 0 (I.moved_to (I.with_last (I.begun_here (reader_of row)) (id_of (pos 0))) (place e))
  unfolding reader_after awaited_no
  reader_begins e = rw (reader_is row clear, reader_free row clear) (row_begun row clear.six e (get_or row 0 0))

  -- behind a field's
  pub reader_lasts : (e : ℕ) (id : FieldId) → set (set row 0 e) 1 (turn_of id.0 0) ≡ reader_after row 0 (I.moved_to (I.with_last (reader_of row) id) (place e))
  unfolding reader_after awaited_no
  reader_lasts e id = rw (reader_is row clear, reader_free row clear) (row_headed row clear.six e 0 id.0)

  pub reader_awaits : (e : ℕ) (id : FieldId) (w : Awaited) → set (set row 0 e) 1 (turn_of id.0 (awaited_no w)) ≡ reader_after row 0 (I.moved_to (I.with_pending (I.with_last (reader_of row) id) w) (place e))
  unfolding reader_after
  reader_awaits e id w = rw (reader_is row clear) (row_headed row clear.six e (awaited_no w) id.0)

  -- in a struct, and back from it with the id that was saved
  pub reader_enters : (d : ℕ) → d ≡ get_or row 2 0 → set (set row 1 0) 2 (d + 1) ≡ reader_after row 0 (I.entered (reader_of row))
  unfolding reader_after awaited_no
  reader_enters d e = rw (reader_is row clear, reader_free row clear, e) (row_nested row clear.six 0 (get_or row 2 0 + 1) (pos 0) refl)

  pub reader_leaves : (d n : ℕ) (id : FieldId) → d ≡ get_or row 2 0 → n ≡ of_z w16 id.0 → set (set row 1 n) 2 (d - 1) ≡ reader_after row 0 (I.with_last (I.left (reader_of row)) id)
  unfolding reader_after awaited_no
  reader_leaves d n id e f = rw (reader_is row clear, reader_free row clear, e) (row_nested row clear.six n (get_or row 2 0 - 1) id.0 f)

  -- the writer's: a bool field's header waits; and structs
  pub writer_awaits : (t : ℕ) (id : FieldId) → t ≡ get_or row 1 0 → set row 1 (t + (of_z w16 id.0 + 1) * 65536) ≡ writer_after row 0 (O.moved_to (O.awaiting (writer_of row) id) (writer_of row).place.0)
  unfolding writer_after field_no
  writer_awaits t id e =
      rw (writer_is row clear, e)
      (ap (λ (m : ℕ). set row 1 (m + (of_z w16 id.0 + 1) * 65536)) (sym (mod-eq_of_lt clear.alone)) ∙ row_waits row clear.six (of_z w16 id.0 + 1))

  pub writer_enters : (d : ℕ) → d ≡ get_or row 2 0 → set (set row 1 0) 2 (d + 1) ≡ writer_after row 0 (O.entered (writer_of row))
  unfolding writer_after field_no
  writer_enters d e = rw (writer_is row clear, writer_free row clear, e) (row_nested row clear.six 0 (get_or row 2 0 + 1) (pos 0) refl)

  pub writer_leaves : (d n : ℕ) (z : ℤ) → d ≡ get_or row 2 0 → n ≡ of_z w16 z → set (set row 1 n) 2 (d - 1) ≡ writer_after row 0 (last_write (O.ended (writer_of row)) z)
  unfolding writer_after field_no
  writer_leaves d n z e f = rw (writer_is row clear, writer_free row clear, e) (row_nested row clear.six n (get_or row 2 0 - 1) z f)

-- a bool that waits is taken: the last id stays
module _ (row : List ℕ) (held : Waiting reader_top row) where
  pub reader_waits : reader_of row ≡ reader_in row
  unfolding reader_of
  reader_waits = rw (eq-eqb (length row) 6 held.six, lt-ltb (get_or row 1 0) 196608 held.below)

  pub reader_truth : (reader_of row).pending.0 ≡ W.Truth (eqb (get_or row 1 0 / 65536) 1)
  unfolding awaited_of
  reader_truth = rw (reader_waits, ne_eqb (get_or row 1 0 / 65536) 0 (some_waits (get_or row 1 0) held.some))

  pub reader_takes : (t : ℕ) → t ≡ get_or row 1 0 → set row 1 (t % 65536) ≡ reader_after row 0 (I.with_pending (reader_of row) W.Nothing)
  unfolding reader_after awaited_no
  reader_takes t e = rw (reader_waits, e) (ap (set row 1) (sym (plain (get_or row 1 0 % 65536))) ∙ row_waits row held.six 0)
