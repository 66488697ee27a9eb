-- Skip and the struct calls, at each of their returns. Assumes nothing.
use mathlib.Core.Path.{◌≡◌, refl, sym, ap, ◌∙◌}
use mathlib.Core.Bool.{Bool, true, false, cond}
use mathlib.Core.List.{List, []}
use Prim.Native.Nat.{ℕ, ◌+◌, ◌-◌, ◌≤◌, ◌<◌}
use native.Mathlib.Omega.{arith}
use borrow.Author.Rules.{sfits_of}
use borrow.Author.Tests.{eq-eqb, ne_eqb}
use lib.Dec.{eqb, ltb}
use lib.IntN.{ℤ, pos}
use lib.ListN.{length, get_or, set}
use mir.Syntax.{w16}
use mir.Val.{of_z}
use mir.Facts.{to_z-of_z}
use Rattle.types.specs.Limits.{in_range}
use Rattle.types.specs.Refusals.{DEPTH, OUT_OF_TURN, BAD_STATE}
use Rattle.numbers.specs.Answers.{put_at}
use Rattle.heads.specs.Answers.{id_of}
use Rattle.input.specs.State as I
use Rattle.input.specs.Outcome.{declines}
use Rattle.input.specs.Answers.{as_done}
use Rattle.input.specs.Calls.{struct_begin, struct_end}
use Rattle.input.specs.declared.ReadDone.{ReadDone}
use Rattle.output.specs.State as O
use Rattle.output.specs.Calls.{call, size_wrong, why_not, leaves, begin_wrong, end_wrong}
use Rattle.output.proofs.Checks as W
use Rattle.output.proofs.Checks.{unsized}
use Rattle.output.proofs.Cases.{refusing, noting}
use Rattle.input.proofs.Cases.{begin_stopped, begin_deep, begin_well, end_stopped, end_top, end_well}
use Rattle.rows.specs.Row.{last_in, limits_of, no_limits, reader_of, reader_after, writer_of}
use Rattle.rows.specs.Structs.{skip_by, struct_reader, struct_writer, begin_writes, begin_leaves, end_writes, end_leaves, BegunRead, EndedRead, BegunWrite, EndedWrite}
use Rattle.rows.proofs.Cases.{reader_left, writer_left}
use Rattle.rows.proofs.Gate.{Open, reader_opens, reader_is, reader_stays, reader_enters, reader_leaves, writer_opens, writer_is, writer_enters, writer_leaves}
use Rattle.tagrumzil.proofs.Through.{done_through}
use Rattle.tagrumzil.proofs.Making.{before, behind}

pub skip_row : (s row : List ℕ) (n : ℕ) (st : I.State) (read : ReadDone) → read ≡ skip_by s n st → st ≡ reader_of row → read ≡ skip_by s n (reader_of row)
skip_row s row n st read e d = rw d at e

pub ruleset skip_through = (skip_row, done_through)

-- a struct begun or ended: the ids' row, the row's own test, the depth
no_ids : (row : List ℕ) (ids : List ℤ) → (length ids ≡ 64 → ⊥) → struct_reader row ids ≡ I.fresh no_limits
unfolding struct_reader
no_ids row ids h = rw (ne_eqb (length ids) 64 h)

with_ids_lem : (row : List ℕ) (ids : List ℤ) → length ids ≡ 64 → struct_reader row ids ≡ reader_of row
unfolding struct_reader
with_ids_lem row ids h = rw (eq-eqb (length ids) 64 h)

none : (len : ℕ) → BAD_STATE ≡ I.gate len (I.fresh no_limits)
unfolding I.gate I.sound I.fresh in_range
none len = refl

module _ (s row : List ℕ) (ids : List ℤ) where
  module _ (st : I.State) (e : struct_reader row ids ≡ st) (n : ℕ) (k : row ≡ reader_after row n st) where
    begin_kept : as_done (declines n st) ≡ struct_begin s st → BegunRead row row ids ids n (struct_reader row ids) (struct_begin s (struct_reader row ids))
    begin_kept f = rw (e, ← f) (record { done = record { number = refl; the_row = k }; the_ids = refl })

    end_kept : as_done (declines n st) ≡ struct_end s st → EndedRead row row ids n (struct_end s (struct_reader row ids))
    end_kept f = rw (e, ← f) (record { number = refl; the_row = k })

  module _ (h : length ids ≡ 64 → ⊥) where
    pub begin_no_ids : BegunRead row row ids ids BAD_STATE (struct_reader row ids) (struct_begin s (struct_reader row ids))
    begin_no_ids = begin_kept (I.fresh no_limits) (no_ids row ids h) BAD_STATE (reader_left row BAD_STATE (I.fresh no_limits) some) (begin_stopped s (I.fresh no_limits) BAD_STATE (none (length s)) some)
      where
        some : BAD_STATE ≡ 0 → ⊥
        some z = omega arith

    pub end_no_ids : EndedRead row row ids BAD_STATE (struct_end s (struct_reader row ids))
    end_no_ids = end_kept (I.fresh no_limits) (no_ids row ids h) BAD_STATE (reader_left row BAD_STATE (I.fresh no_limits) some) (end_stopped s (I.fresh no_limits) BAD_STATE (none (length s)) some)
      where
        some : BAD_STATE ≡ 0 → ⊥
        some z = omega arith

  module _ (l : length ids ≡ 64) (num : ℕ) (e : num ≡ I.gate (length s) (reader_of row)) where
    pub begin_gated : (num ≡ 0 → ⊥) → BegunRead row row ids ids num (struct_reader row ids) (struct_begin s (struct_reader row ids))
    begin_gated h = begin_kept (reader_of row) (with_ids_lem row ids l) num (reader_left row num (reader_of row) h) (begin_stopped s (reader_of row) num e h)

    pub end_gated : (num ≡ 0 → ⊥) → EndedRead row row ids num (struct_end s (struct_reader row ids))
    end_gated h = end_kept (reader_of row) (with_ids_lem row ids l) num (reader_left row num (reader_of row) h) (end_stopped s (reader_of row) num e h)

    module _ (h : num ≡ 0) (d : ℕ) (f : d ≡ get_or row 2 0) where
      clear : Open row
      clear = reader_opens (length s) row num e h

      depth_is : (reader_of row).depth ≡ d
      depth_is = rw (reader_is row clear) (sym f)

      module _ (m : ℕ) (g : m ≡ (limits_of row).depth) where
        most_is : (reader_of row).limits.depth ≡ m
        most_is = rw (reader_is row clear) (sym g)

        pub begin_at_limit : m ≤ d → BegunRead row row ids ids DEPTH (struct_reader row ids) (struct_begin s (struct_reader row ids))
        begin_at_limit k = begin_kept (reader_of row) (with_ids_lem row ids l) DEPTH (reader_stays row clear DEPTH) (begin_deep s (reader_of row) num e h (rw (depth_is, most_is) k))

        pub begin_inner : d < m → (y z : ℤ) (row' row'' : List ℕ) (ids' : List ℤ) → z ≡ last_in (get_or row 1 0) → y ≡ z → ids' ≡ set ids d y → row' ≡ set row 1 0 → row'' ≡ set row' 2 (d + 1) → BegunRead row row'' ids ids' 0 (struct_reader row ids) (struct_begin s (struct_reader row ids))
        begin_inner k y z row' row'' ids' a b c p q =
            let last-is : y ≡ (reader_of row).last.0 = rw (reader_is row clear) (b ∙ a) in
            rw (with_ids_lem row ids l, ← (begin_well s (reader_of row) num e h (rw (depth_is, most_is) k)))
            (record {
              done = record { number = refl; the_row = (rw p at q) ∙ reader_enters row clear d f };
              the_ids = rw (depth_is, ← last-is) c;
            })

      pub end_at_top : d ≡ 0 → EndedRead row row ids OUT_OF_TURN (struct_end s (struct_reader row ids))
      end_at_top k = end_kept (reader_of row) (with_ids_lem row ids l) OUT_OF_TURN (reader_stays row clear OUT_OF_TURN) (end_top s (reader_of row) num e h (depth_is ∙ k))

      pub end_inner : (d ≡ 0 → ⊥) → (y z : ℤ) (n : ℕ) (row' row'' : List ℕ) → z ≡ get_or ids (d - 1) (pos 0) → n ≡ of_z w16 y → y ≡ z → row' ≡ set row 1 n → row'' ≡ set row' 2 (d - 1) → EndedRead row row'' ids 0 (struct_end s (struct_reader row ids))
      end_inner k y z n row' row'' a b c p q =
          let id-is : y ≡ get_or ids ((reader_of row).depth - 1) (pos 0) = rw depth_is (c ∙ a) in
          rw (with_ids_lem row ids l, ← (end_well s (reader_of row) num e h (λ (w : (reader_of row).depth ≡ 0). k (sym depth_is ∙ w))))
          (record { number = refl; the_row = (rw p at q) ∙ reader_leaves row clear d n (id_of (get_or ids ((reader_of row).depth - 1) (pos 0))) f (b ∙ ap (of_z w16) id-is) })

pub ruleset structs_read = (begin_no_ids, end_no_ids, begin_gated, end_gated, begin_at_limit, begin_inner, end_at_top, end_inner, to_z-of_z, sfits_of)

-- The writer's
none_written : (len wrong : ℕ) → BAD_STATE ≡ O.or_else (O.unsound len (O.begun no_limits)) wrong
unfolding O.or_else O.unsound O.begun in_range
none_written len wrong = refl

module _ (buf row : List ℕ) (ids : List ℤ) where
  module _ (st : O.State) (e : struct_writer row ids ≡ st) (n : ℕ) (h : n ≡ 0 → ⊥) where
    -- no byte is no size
    unasked : (m wrong : ℕ) (next : O.State) → m ≡ O.or_else (O.unsound (length buf) st) wrong → m ≡ O.or_else (O.unsound (length buf) st) (O.or_else wrong (size_wrong next (length {A = ℕ} [])))
    unasked m wrong next f = f ∙ ap (O.or_else (O.unsound (length buf) st)) (sym (unsized next wrong))

    module _ (f : n ≡ O.or_else (O.unsound (length buf) st) (O.in_turn st (begin_wrong st))) where
      begin_stops : BegunWrite row row ids ids n (struct_writer row ids) (begin_writes buf (struct_writer row ids))
      unfolding begin_writes
      begin_stops =
          rw (e, ← (refusing buf st (O.in_turn st (begin_wrong st)) n [] (O.entered st) (unasked n (O.in_turn st (begin_wrong st)) (O.entered st) f) h))
          (record { kept = record { number = refl; the_row = writer_left row n st h }; the_ids = refl })

    module _ (f : n ≡ O.or_else (O.unsound (length buf) st) (O.in_turn st (end_wrong st))) where
      end_stops : EndedWrite row row ids n (end_writes buf (struct_writer row ids))
      unfolding end_writes
      end_stops =
          rw (e, ← (refusing buf st (O.in_turn st (end_wrong st)) n [] (O.ended st) (unasked n (O.in_turn st (end_wrong st)) (O.ended st) f) h))
          (record { number = refl; the_row = writer_left row n st h })

  module _ (h : length ids ≡ 64 → ⊥) where
    without : struct_writer row ids ≡ O.begun no_limits
    unfolding struct_writer
    without = rw (ne_eqb (length ids) 64 h)

    refused : BAD_STATE ≡ 0 → ⊥
    refused z = omega arith

    pub unbegun_no_ids : BegunWrite row row ids ids BAD_STATE (struct_writer row ids) (begin_writes buf (struct_writer row ids))
    unbegun_no_ids = begin_stops (O.begun no_limits) without BAD_STATE refused (none_written (length buf) _)

    pub unended_no_ids : EndedWrite row row ids BAD_STATE (end_writes buf (struct_writer row ids))
    unended_no_ids = end_stops (O.begun no_limits) without BAD_STATE refused (none_written (length buf) _)

  module _ (l : length ids ≡ 64) (num : ℕ) (e : num ≡ O.or_else (O.unsound (length buf) (writer_of row)) (O.turn (writer_of row).pending.0)) where
    within : struct_writer row ids ≡ writer_of row
    unfolding struct_writer
    within = rw (eq-eqb (length ids) 64 l)

    pub unbegun_gated : (num ≡ 0 → ⊥) → BegunWrite row row ids ids num (struct_writer row ids) (begin_writes buf (struct_writer row ids))
    unbegun_gated h = begin_stops (writer_of row) within num h (before buf row num e (begin_wrong (writer_of row)) h)

    pub unended_gated : (num ≡ 0 → ⊥) → EndedWrite row row ids num (end_writes buf (struct_writer row ids))
    unended_gated h = end_stops (writer_of row) within num h (before buf row num e (end_wrong (writer_of row)) h)

    module _ (h : num ≡ 0) (d : ℕ) (f : d ≡ get_or row 2 0) where
      open_row : Open row
      open_row = writer_opens (length buf) row num e h

      deep_is : (writer_of row).depth ≡ d
      deep_is = rw (writer_is row open_row) (sym f)

      module _ (m : ℕ) (g : m ≡ (limits_of row).depth) where
        limit_is : (writer_of row).limits.depth ≡ m
        limit_is = rw (writer_is row open_row) (sym g)

        module _ (k : m ≤ d) where
          too_deep : DEPTH ≡ O.or_else (O.unsound (length buf) (writer_of row)) (O.in_turn (writer_of row) (begin_wrong (writer_of row)))
          too_deep = W.begin_deep (writer_of row) (rw (deep_is, limit_is) k) ∙ behind buf row num e h (begin_wrong (writer_of row))

          deeper : DEPTH ≡ 0 → ⊥
          deeper z = omega arith

          pub unbegun_deep : BegunWrite row row ids ids DEPTH (struct_writer row ids) (begin_writes buf (struct_writer row ids))
          unbegun_deep = begin_stops (writer_of row) within DEPTH deeper too_deep

        module _ (k : d < m) where
          begins : 0 ≡ O.or_else (O.unsound (length buf) (writer_of row)) (O.in_turn (writer_of row) (begin_wrong (writer_of row)))
          begins = W.begin_well (writer_of row) (rw (deep_is, limit_is) k) ∙ behind buf row num e h (begin_wrong (writer_of row))

          pub begun_inner : (y z : ℤ) (row' row'' : List ℕ) (ids' : List ℤ) → z ≡ last_in (get_or row 1 0) → y ≡ z → ids' ≡ set ids d y → row' ≡ set row 1 0 → row'' ≡ set row' 2 (d + 1) → BegunWrite row row'' ids ids' 0 (struct_writer row ids) (begin_writes buf (struct_writer row ids))
          unfolding begin_writes
          begun_inner y z row' row'' ids' a b c p q =
              let last-is : y ≡ (writer_of row).last.0 = rw (writer_is row open_row) (b ∙ a) in
              rw (within, ← (noting buf (writer_of row) (O.in_turn (writer_of row) (begin_wrong (writer_of row))) 0 (O.entered (writer_of row)) begins refl))
              (record {
                kept = record { number = refl; the_row = (rw p at q) ∙ writer_enters row open_row d f };
                the_ids = rw (deep_is, ← last-is) c;
              })

      module _ (k : d ≡ 0) where
        at_top : OUT_OF_TURN ≡ O.or_else (O.unsound (length buf) (writer_of row)) (O.in_turn (writer_of row) (end_wrong (writer_of row)))
        at_top = W.end_out (writer_of row) (deep_is ∙ k) ∙ behind buf row num e h (end_wrong (writer_of row))

        out : OUT_OF_TURN ≡ 0 → ⊥
        out z = omega arith

        pub unended_top : EndedWrite row row ids OUT_OF_TURN (end_writes buf (struct_writer row ids))
        unended_top = end_stops (writer_of row) within OUT_OF_TURN out at_top

      module _ (k : d ≡ 0 → ⊥) where
        ends : 0 ≡ O.or_else (O.unsound (length buf) (writer_of row)) (O.in_turn (writer_of row) (end_wrong (writer_of row)))
        ends = W.end_well (writer_of row) (λ (w : (writer_of row).depth ≡ 0). k (sym deep_is ∙ w)) ∙ behind buf row num e h (end_wrong (writer_of row))

        pub ended_inner : (y z : ℤ) (n : ℕ) (row' row'' : List ℕ) → z ≡ get_or ids (d - 1) (pos 0) → n ≡ of_z w16 y → y ≡ z → row' ≡ set row 1 n → row'' ≡ set row' 2 (d - 1) → EndedWrite row row'' ids 0 (end_writes buf (struct_writer row ids))
        unfolding end_writes
        ended_inner y z n row' row'' a b c p q =
            let id-is : y ≡ get_or ids ((writer_of row).depth - 1) (pos 0) = rw deep_is (c ∙ a) in
            rw (within, ← (noting buf (writer_of row) (O.in_turn (writer_of row) (end_wrong (writer_of row))) 0 (O.ended (writer_of row)) ends refl))
            (record { number = refl; the_row = (rw p at q) ∙ writer_leaves row open_row d n (get_or ids ((writer_of row).depth - 1) (pos 0)) f (b ∙ ap (of_z w16) id-is) })

pub ruleset structs_begun = (unbegun_no_ids, unbegun_gated, unbegun_deep, begun_inner, to_z-of_z, sfits_of)

pub ruleset structs_ended = (unended_no_ids, unended_gated, unended_top, ended_inner, to_z-of_z, sfits_of)

-- neither writes a byte: whatever comes of them, the buffer is as it was
module _ (buf : List ℕ) (st : O.State) where
  unwritten : (wrong : ℕ) (next : O.State) → buf ≡ leaves buf st (call wrong [] next)
  unfolding leaves put_at
  unwritten wrong next = go (eqb (why_not buf st (call wrong [] next)) 0) (ltb (length buf) (st.place.0 + length {A = ℕ} []))
    where
      go : (b c : Bool) → buf ≡ cond b (cond c buf buf) buf
      go true true = refl
      go true false = refl
      go false c = refl

  pub begin_leaves_lem : buf ≡ begin_leaves buf st
  unfolding begin_leaves
  begin_leaves_lem = unwritten (O.in_turn st (begin_wrong st)) (O.entered st)

  pub end_leaves_lem : buf ≡ end_leaves buf st
  unfolding end_leaves
  end_leaves_lem = unwritten (O.in_turn st (end_wrong st)) (O.ended st)

pub ruleset structs_left = (begin_leaves_lem, end_leaves_lem)
