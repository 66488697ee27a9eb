-- What the row's functions answer at each of their returns. Assumes nothing.
use mathlib.Core.Path.{◌≡◌, refl, sym, ◌∙◌}
use mathlib.Core.Bool.{Bool, true, false, cond}
use mathlib.Core.List.{List, [], ◌∷◌}
use Prim.Native.Nat.{ℕ, zero, suc, ◌+◌, ◌-◌, ◌*◌, ◌/◌, ◌%◌, ◌≤◌, ◌<◌}
use native.Mathlib.Omega.{arith}
use borrow.Author.Rules.{sfits_of}
use borrow.Author.Tests.{lt-ltb, le-ltb, le-leb, lt-leb, leb-true, leb-false, eq-eqb, ne_eqb}
use lib.ListN.{length, get_or, set, replicate}
use lib.Seq.{set_out}
use lib.Dec.{leb, ltb}
use lib.IntN.{ℤ, pos}
use mir.Syntax.{w16}
use mir.Val.{Fits, SFits, of_z}
use mir.Facts.{to_z-of_z, Fits-of_z}
use Rattle.types.specs.Codes.{truth_code}
use Rattle.types.specs.Limits.{in_range}
use Rattle.types.specs.Refusals.{OUT_OF_TURN, BAD_STATE}
use Rattle.types.specs.declared.TConfiguration.{TConfiguration}
use Rattle.numbers.specs.declared.Wrote.{Wrote}
use Rattle.numbers.specs.declared.Wrote.TheVariants as P
use Rattle.heads.specs.Answers.{place, id_of}
use Rattle.input.specs.State as I
use Rattle.output.specs.State as O
use Rattle.input.specs.declared.Awaited.{Awaited}
use Rattle.input.specs.declared.Awaited.TheVariants as W
use Rattle.rows.specs.Row.{last_in, waits_in, turn_of, limits_of, no_limits, awaited_of, awaited_no, reader_of, gate_of, refilled, reader_after, writer_after, wrote_row, headed_row, begun_row}

pub ruleset tests = (le-leb, lt-leb, lt-ltb, le-ltb, eq-eqb, ne_eqb)

-- a number past the row's end is 0, and there is none to put
none_there : (row : List ℕ) (i : ℕ) → length row ≤ i → get_or row i 0 ≡ 0
none_there [] i h = refl
none_there (x ∷ xs) zero h = absurd (omega arith)
none_there (x ∷ xs) (suc i) h = none_there xs i (omega arith)

pub no_number : (row : List ℕ) (i : ℕ) → length row ≤ i → 0 ≡ get_or row i 0
no_number row i h = sym (none_there row i h)

pub put_past : (row : List ℕ) (i n : ℕ) → length row ≤ i → row ≡ set row i n
put_past row i n h = sym (set_out row i n h)

pub ruleset numbers = (no_number, put_past)

-- an id from its bits, and back
pub bits_fit : (n : ℕ) → Fits w16 (n % 65536)
bits_fit n = record { fits = omega arith }

pub no_is : (n : ℕ) (y z : ℤ) → n ≡ of_z w16 y → y ≡ z → n ≡ of_z w16 z
no_is n y z e f = rw f at e

pub no_small : (n : ℕ) (y z : ℤ) → SFits w16 z → n ≡ of_z w16 y → y ≡ z → n < 65536
no_small n y z h e f = rw (e, f) (Fits-of_z h).fits

pub last_from : (row : List ℕ) (n : ℕ) (y z : ℤ) → n ≡ get_or row 1 0 → z ≡ last_in n → y ≡ z → y ≡ last_in (get_or row 1 0)
last_from row n y z e f g = rw (← e) (g ∙ f)

pub ruleset ids = (bits_fit, no_is, no_small, last_from, to_z-of_z, sfits_of)

pub limits_are : (row : List ℕ) (n m : ℕ) → n ≡ get_or row 3 0 → m ≡ get_or row 4 0 → record { depth = n % 4294967296; string = m % 4294967296; container = m / 4294967296; message = n / 4294967296 } ≡ limits_of row
limits_are row n m e f = rw (e, f)

pub ruleset limiting = (limits_are)

-- what waits
module _ (w : Awaited) where
  pub awaited_none : w ≡ W.Nothing → 0 ≡ awaited_no w
  unfolding awaited_no
  awaited_none e = rw e

  pub awaited_truth : (b : Bool) (n : ℕ) → w ≡ W.Truth b → n ≡ truth_code b → n ≡ awaited_no w
  unfolding awaited_no
  awaited_truth b n e f = rw e f

truth_small : (b : Bool) → truth_code b < 65537
unfolding truth_code
truth_small true = omega arith
truth_small false = omega arith

pub truth_below : (b : Bool) (n : ℕ) → n ≡ truth_code b → n < 65537
truth_below b n e = rw e (truth_small b)

pub ruleset awaits = (awaited_none, awaited_truth, truth_below, arith)

-- what the last two tests come to
abbrev rest : ℕ → ℕ → ℕ → ℕ → ℕ
rest used message turn top = cond (leb used message) (cond (ltb turn 65536) 0 (cond (ltb turn top) OUT_OF_TURN BAD_STATE)) BAD_STATE

module _ (used message turn top : ℕ) where
  pub waits_over : message < used → BAD_STATE ≡ rest used message turn top
  waits_over h = rw (lt-leb used message h)

  module _ (h : used ≤ message) where
    pub waits_none : turn < 65536 → 0 ≡ rest used message turn top
    waits_none k = rw (le-leb used message h, lt-ltb turn 65536 k)

    module _ (k : 65536 ≤ turn) where
      pub waits_turn : turn < top → OUT_OF_TURN ≡ rest used message turn top
      waits_turn l = rw (le-leb used message h, le-ltb turn 65536 k, lt-ltb turn top l)

      pub waits_top : top ≤ turn → BAD_STATE ≡ rest used message turn top
      waits_top l = rw (le-leb used message h, le-ltb turn 65536 k, le-ltb turn top l)

pub ruleset waitings = (waits_over, waits_none, waits_turn, waits_top)

same_test : (at begin message : ℕ) → begin ≤ at → leb (at - begin) message ≡ leb at (begin + message)
same_test at begin message h = go (leb (at - begin) message) refl
  where
    go : (b : Bool) → leb (at - begin) message ≡ b → leb (at - begin) message ≡ leb at (begin + message)
    go true e = let k = leb-true (at - begin) message e in e ∙ sym (le-leb at (begin + message) (omega arith))
    go false e = let k = leb-false (at - begin) message e in e ∙ sym (lt-leb at (begin + message) (omega arith))

-- what is refused first
module _ (top len : ℕ) (row : List ℕ) where
  pub gate_length : (length row ≡ 6 → ⊥) → BAD_STATE ≡ gate_of top len row
  unfolding gate_of
  gate_length h = rw (ne_eqb (length row) 6 h)

  module _ (six : length row ≡ 6) where
    pub gate_most : 64 < get_or row 3 0 % 4294967296 → BAD_STATE ≡ gate_of top len row
    unfolding gate_of in_range
    gate_most h = rw (eq-eqb (length row) 6 six, lt-leb (get_or row 3 0 % 4294967296) 64 h)

    module _ (m : get_or row 3 0 % 4294967296 ≤ 64) where
      pub gate_string : 2147483647 < get_or row 4 0 % 4294967296 → BAD_STATE ≡ gate_of top len row
      unfolding gate_of in_range
      gate_string h = rw (eq-eqb (length row) 6 six, le-leb (get_or row 3 0 % 4294967296) 64 m, lt-leb (get_or row 4 0 % 4294967296) 2147483647 h)

      module _ (s : get_or row 4 0 % 4294967296 ≤ 2147483647) where
        pub gate_container : 2147483647 < get_or row 4 0 / 4294967296 → BAD_STATE ≡ gate_of top len row
        unfolding gate_of in_range
        gate_container h =
            rw (eq-eqb (length row) 6 six, le-leb (get_or row 3 0 % 4294967296) 64 m, le-leb (get_or row 4 0 % 4294967296) 2147483647 s, lt-leb (get_or row 4 0 / 4294967296) 2147483647 h)

        module _ (k : get_or row 4 0 / 4294967296 ≤ 2147483647) where
          pub gate_ceiling : 2147483647 < get_or row 3 0 / 4294967296 → BAD_STATE ≡ gate_of top len row
          unfolding gate_of in_range
          gate_ceiling h =
              rw (eq-eqb (length row) 6 six, le-leb (get_or row 3 0 % 4294967296) 64 m, le-leb (get_or row 4 0 % 4294967296) 2147483647 s, le-leb (get_or row 4 0 / 4294967296) 2147483647 k, lt-leb (get_or row 3 0 / 4294967296) 2147483647 h)

          module _ (c : get_or row 3 0 / 4294967296 ≤ 2147483647) where
            ranged : in_range (limits_of row) ≡ true
            unfolding in_range
            ranged =
                rw (le-leb (get_or row 3 0 % 4294967296) 64 m, le-leb (get_or row 4 0 % 4294967296) 2147483647 s, le-leb (get_or row 4 0 / 4294967296) 2147483647 k, le-leb (get_or row 3 0 / 4294967296) 2147483647 c)

            pub gate_place : len < get_or row 0 0 → BAD_STATE ≡ gate_of top len row
            unfolding gate_of
            gate_place h = rw (eq-eqb (length row) 6 six, ranged, lt-leb (get_or row 0 0) len h)

            module _ (p : get_or row 0 0 ≤ len) where
              pub gate_depth : get_or row 3 0 % 4294967296 < get_or row 2 0 → BAD_STATE ≡ gate_of top len row
              unfolding gate_of
              gate_depth h = rw (eq-eqb (length row) 6 six, ranged, le-leb (get_or row 0 0) len p, lt-leb (get_or row 2 0) (get_or row 3 0 % 4294967296) h)

              module _ (d : get_or row 2 0 ≤ get_or row 3 0 % 4294967296) where
                pub gate_early : get_or row 0 0 < get_or row 5 0 → BAD_STATE ≡ gate_of top len row
                unfolding gate_of
                gate_early h =
                    rw (eq-eqb (length row) 6 six, ranged, le-leb (get_or row 0 0) len p, le-leb (get_or row 2 0) (get_or row 3 0 % 4294967296) d, lt-leb (get_or row 5 0) (get_or row 0 0) h)

                -- the rest, from what the code asked last
                pub gate_rest : (n : ℕ) → get_or row 5 0 ≤ get_or row 0 0 → n ≡ rest (get_or row 0 0 - get_or row 5 0) (get_or row 3 0 / 4294967296) (get_or row 1 0) top → n ≡ gate_of top len row
                unfolding gate_of
                gate_rest n b e =
                    rw (eq-eqb (length row) 6 six, ranged, le-leb (get_or row 0 0) len p, le-leb (get_or row 2 0) (get_or row 3 0 % 4294967296) d, le-leb (get_or row 5 0) (get_or row 0 0) b, ← (same_test (get_or row 0 0) (get_or row 5 0) (get_or row 3 0 / 4294967296) b)) e

pub ruleset gates = (gate_length, gate_most, gate_string, gate_container, gate_ceiling, gate_place, gate_depth, gate_early, gate_rest)

pub head_put : (row row' row'' : List ℕ) (at n w : ℕ) (y z : ℤ) → row' ≡ set row 0 at → row'' ≡ set row' 1 (n + w * 65536) → n ≡ of_z w16 y → y ≡ z → row'' ≡ set (set row 0 at) 1 (turn_of z w)
head_put row row' row'' at n w y z e f g h = rw (← h, ← g, ← e) f

pub begun_put : (row row₁ row₂ row₃ : List ℕ) (at from : ℕ) → row₁ ≡ set row 0 at → row₂ ≡ set row₁ 1 0 → row₃ ≡ set row₂ 5 from → row₃ ≡ set (set (set row 0 at) 1 0) 5 from
begun_put row row₁ row₂ row₃ at from e f g = rw (← e, ← f) g

pub ruleset heading = (head_put, to_z-of_z, sfits_of)

-- what was written: the place behind it, and the header's id, as its bits
pub wrote_moved : (row row' : List ℕ) (w : Wrote) (p : ℕ) → w ≡ P.To p → row' ≡ set row 0 p → row' ≡ wrote_row row w
wrote_moved row row' w p e f = rw e f

pub wrote_headed : (row row' row'' : List ℕ) (w : Wrote) (p n : ℕ) (y z : ℤ) → w ≡ P.To p → row' ≡ set row 0 p → row'' ≡ set row' 1 n → n ≡ of_z w16 y → y ≡ z → row'' ≡ headed_row row z w
wrote_headed row row' row'' w p n y z e f g h k = rw (e, ← k, ← h, ← f) g

pub wrote_begun : (row row' row'' : List ℕ) (w : Wrote) (p from : ℕ) → w ≡ P.To p → row' ≡ set row 0 p → row'' ≡ set row' 5 from → row'' ≡ begun_row row from w
wrote_begun row row' row'' w p from e f g = rw (e, ← f) g

pub ruleset writings = (wrote_moved, wrote_headed, wrote_begun, to_z-of_z, sfits_of)

-- a state from its numbers
module _ (row : List ℕ) where
  module _ (r : I.State) (lim : TConfiguration) (e : r ≡ I.fresh lim) (f : lim ≡ no_limits) where
    pub reader_short : (length row ≡ 6 → ⊥) → r ≡ reader_of row
    unfolding reader_of
    reader_short h = rw (ne_eqb (length row) 6 h, e, f)

    pub reader_over : length row ≡ 6 → 196608 ≤ get_or row 1 0 → r ≡ reader_of row
    unfolding reader_of
    reader_over a h = rw (eq-eqb (length row) 6 a, le-ltb (get_or row 1 0) 196608 h, e, f)

  pub reader_made : (y z : ℤ) (w : Awaited) (lim : TConfiguration) → length row ≡ 6 → get_or row 1 0 < 196608 → z ≡ last_in (get_or row 1 0) → y ≡ z → w ≡ awaited_of (waits_in (get_or row 1 0)) → lim ≡ limits_of row → record { place = place (get_or row 0 0); last = id_of y; depth = get_or row 2 0; ids = replicate 64 (pos 0); pending = I.awaiting w; limits = lim; begin = place (get_or row 5 0) } ≡ reader_of row
  unfolding reader_of
  reader_made y z w lim a b e k f g = rw (eq-eqb (length row) 6 a, lt-ltb (get_or row 1 0) 196608 b, k, e, f, g)

pub ruleset readers = (reader_short, reader_over, reader_made, to_z-of_z, sfits_of)

-- the row behind a call
module _ (row : List ℕ) where
  pub refilled_in : (at n depth waits begin : ℕ) (y z : ℤ) → length row ≡ 6 → n ≡ of_z w16 y → y ≡ z → set (set (set (set row 0 at) 1 (n + waits * 65536)) 2 depth) 5 begin ≡ refilled row at z depth waits begin
  unfolding refilled
  refilled_in at n depth waits begin y z h e f = rw (eq-eqb (length row) 6 h, e, f)

  pub refilled_not : (at depth waits begin : ℕ) (z : ℤ) → (length row ≡ 6 → ⊥) → row ≡ refilled row at z depth waits begin
  unfolding refilled
  refilled_not at depth waits begin z h = rw (ne_eqb (length row) 6 h)

pub ruleset refills = (refilled_in, refilled_not, to_z-of_z, sfits_of)

module _ (row : List ℕ) (why : ℕ) where
  module _ (st : I.State) where
    pub reader_kept : (after : List ℕ) (n : ℕ) (y : ℤ) → why ≡ 0 → n ≡ awaited_no st.pending.0 → after ≡ refilled row st.place.0 y st.depth n st.begin.0 → y ≡ st.last.0 → after ≡ reader_after row why st
    unfolding reader_after
    reader_kept after n y h e f g = rw (eq-eqb why 0 h, ← e, ← g) f

    pub reader_left : (why ≡ 0 → ⊥) → row ≡ reader_after row why st
    unfolding reader_after
    reader_left h = rw (ne_eqb why 0 h)

  pub writer_left : (st : O.State) → (why ≡ 0 → ⊥) → row ≡ writer_after row why st
  unfolding writer_after
  writer_left st h = rw (ne_eqb why 0 h)

pub ruleset keeps = (reader_kept, reader_left, to_z-of_z, sfits_of)
