-- The picker over the reader's state: what the call knows at each return. Assumes nothing.
use mathlib.Core.Path.{◌≡◌, sym, ap, ◌∙◌}
use mathlib.Core.Bool.{Bool, true, false, ◌&&◌}
use mathlib.Core.List.{List}
use Prim.Native.Nat.{ℕ, suc, ◌-◌, ◌*◌, ◌≤◌, ◌<◌, min}
use native.Mathlib.Omega.{arith}
use borrow.Author.Tests.{eq-eqb, ne_eqb, lt-ltb, le-ltb, le-leb, lt-leb, leb-true, eqb-true}
use lib.Dec.{eqb, leb, ltb}
use lib.IntN.{ℤ, pos}
use lib.ListN.{length, take}
use Rattle.types.proofs.Limits.{both}
use Rattle.types.specs.Refusals.{DEPTH, NO_ROOM, BAD_LIST}
use Rattle.types.specs.declared.Place.{Place}
use Rattle.types.specs.declared.TType.TheVariants as T
use Rattle.types.specs.Value as val
use Rattle.types.specs.Value.{Tree}
use Rattle.numbers.specs.Varint.{got}
use Rattle.heads.specs.Reader.{read_at, missing, missed}
use Rattle.heads.proofs.Cut.{cut_is}
use Rattle.input.proofs.Cases.{cut_inside, cut_counts}
use Rattle.input.specs.State.{State, cut_of, gate, moved_to}
use Rattle.input.specs.Outcome.{Outcome, answers, declines, from, stays}
use Rattle.input.specs.Answers.{as_done}
use Rattle.input.specs.declared.ReadDone.{ReadDone}
use Rattle.skip.specs.Walk.{Entry, fields}
use Rattle.skip.specs.Value.{value_of}
use Rattle.skip.specs.Skip.{skip_of, past, room_of}
use Rattle.skip.specs.declared.Skipped.{Skipped}
use Rattle.skip.specs.declared.Skipped.TheVariants.{Done, Refused}
use Rattle.skip.proofs.Past.{read_past, refused_past}
use Rattle.skip.proofs.Cycle.{struct_in}
use Rattle.wanted.specs.Wanted.{distinct, wantables, listed}
use Rattle.picker.specs.Pick.{on_struct, picks, forgets, pick_call, written, picked_rows}
use Rattle.picker.specs.Notes.{note_all, clear}
use Rattle.picker.proofs.Rows.{noted}

-- pick_on
module _ (s : List ℕ) (st : State) (d : st.depth < st.limits.depth) where
  -- skip of the struct walks over the same fields
  pub as_skip_lem : skip_of s st.limits (room_of st) T.Struct st.place.0 ≡ past (fields val.truth (value_of st.limits (room_of st - 1)) (pos 0)) s st.place.0
  as_skip_lem =
      let e : room_of st ≡ suc (room_of st - 1) = omega arith in
      ap (λ (n : ℕ). skip_of s st.limits n T.Struct st.place.0) e ∙ sym (struct_in s st.limits (room_of st - 1) st.place.0)

-- up to the state's cut
module _ (s : List ℕ) (st : State) (d : st.depth < st.limits.depth) (end : ℕ) (o : end ≡ min (cut_of st) (length s)) (r : Skipped) (f : r ≡ skip_of (take end s) st.limits (room_of st) T.Struct st.place.0) where
  pub struct_no : (why n : ℕ) → r ≡ Refused why → n ≡ missing (ltb end (length s)) why → on_struct s st ≡ declines n st
  unfolding on_struct
  struct_no why n g k =
      ap (from stays st) (cut_is (fields val.truth (value_of st.limits (room_of st - 1)) (pos 0)) s (cut_of st) st.place.0 end o ∙ ap (missed (ltb end (length s))) (refused_past _ (take end s) st.place.0 why (sym (as_skip_lem (take end s) st d) ∙ sym f ∙ g)))
      ∙ ap (λ (i : ℕ). declines i st) (sym k)

  pub struct_yes : (q : Place) → r ≡ Done q → (fs : List (Entry Tree)) × (read_at (fields val.truth (value_of st.limits (room_of st - 1)) (pos 0)) (take end s) st.place.0 ≡ got fs q.0) × (on_struct s st ≡ answers fs (moved_to st q))
  unfolding on_struct
  struct_yes q g =
      let x = read_past _ (take end s) st.place.0 q (sym (as_skip_lem (take end s) st d) ∙ sym f ∙ g) in
      (x.0, x.1, ap (from stays st) (cut_is (fields val.truth (value_of st.limits (room_of st - 1)) (pos 0)) s (cut_of st) st.place.0 end o ∙ ap (missed (ltb end (length s))) x.1))

  module _ (ids : List ℤ) (kinds rows : List ℕ) where
    pub no_answer : (why n : ℕ) → r ≡ Refused why → n ≡ missing (ltb end (length s)) why → as_done (declines n st) ≡ as_done (forgets (on_struct s st))
    no_answer why n g k = sym (ap (λ (o : Outcome (List (Entry Tree))). as_done (forgets o)) (struct_no why n g k))

    pub no_rows : (why n : ℕ) → r ≡ Refused why → n ≡ missing (ltb end (length s)) why → rows ≡ written ids kinds st.place.0 (on_struct s st).said rows
    no_rows why n g k = sym (ap (λ (o : Outcome (List (Entry Tree))). written ids kinds st.place.0 o.said rows) (struct_no why n g k))

    pub yes_answer : (q : Place) → r ≡ Done q → as_done (answers tt (moved_to st q)) ≡ as_done (forgets (on_struct s st))
    yes_answer q g = sym (ap (λ (o : Outcome (List (Entry Tree))). as_done (forgets o)) (struct_yes q g).2)

    pub yes_rows : (q : Place) (rows₁ rows₂ : List ℕ) → r ≡ Done q → length kinds ≡ length ids → 3 * length ids ≤ length rows → rows₁ ≡ clear (length ids) 0 rows → ((fs : List (Entry Tree)) (e : ℕ) → read_at (fields val.truth (value_of st.limits (room_of st - 1)) (pos 0)) (take end s) st.place.0 ≡ got fs e → rows₂ ≡ note_all ids kinds fs st.place.0 rows₁) → rows₂ ≡ written ids kinds st.place.0 (on_struct s st).said rows
    yes_rows q rows₁ rows₂ g l h c n =
        let y = struct_yes q g in
        n y.0 q.0 y.1
        ∙ ap (note_all ids kinds y.0 st.place.0) c
        ∙ noted y.0 st.place.0 ids kinds rows l h
        ∙ sym (ap (λ (o : Outcome (List (Entry Tree))). written ids kinds st.place.0 o.said rows) y.2)

pub ruleset on_cases = (cut_inside, cut_counts, no_answer, no_rows, yes_answer, yes_rows)

-- pick
-- a list that passes: as many types as ids, and no more than 64
pub record Passed (ids : List ℤ) (kinds : List ℕ) : Type 0 where
  pub paired : length kinds ≡ length ids
  pub few : length ids ≤ 64

pub passed : (ids : List ℤ) (kinds : List ℕ) → listed ids kinds ≡ true → Passed ids kinds
unfolding listed
passed ids kinds e =
    let a = both (eqb (length ids) (length kinds) && leb (length ids) 64 && distinct ids) (wantables kinds) e in
    let b = both (eqb (length ids) (length kinds) && leb (length ids) 64) (distinct ids) a.0 in
    let c = both (eqb (length ids) (length kinds)) (leb (length ids) 64) b.0 in
    record { paired = sym (eqb-true (length ids) (length kinds) c.0); few = leb-true (length ids) 64 c.1 }

module _ (ids : List ℤ) (kinds rows : List ℕ) (s : List ℕ) (st : State) (num : ℕ) (f : num ≡ gate (length s) st) where
  -- a refusal before the input
  module _ (why : ℕ) (g : picks ids kinds (length rows) s st ≡ declines why st) where
    refused_answer : as_done (declines why st) ≡ pick_call ids kinds (length rows) s st
    unfolding pick_call
    refused_answer = sym (ap (λ (o : Outcome (List (Entry Tree))). as_done (forgets o)) g)

    refused_rows : rows ≡ picked_rows ids kinds s st rows
    unfolding picked_rows
    refused_rows = sym (ap (λ (o : Outcome (List (Entry Tree))). written ids kinds st.place.0 o.said rows) g)

  module _ (n : num ≡ 0 → ⊥) where
    gated : picks ids kinds (length rows) s st ≡ declines num st
    unfolding picks
    gated = rw (← f, ne_eqb num 0 n)

    pub gate_answer : (r : ReadDone) → r ≡ as_done (declines num st) → r ≡ pick_call ids kinds (length rows) s st
    gate_answer r e = e ∙ refused_answer num gated

    pub gate_rows : rows ≡ picked_rows ids kinds s st rows
    gate_rows = refused_rows num gated

  module _ (z : num ≡ 0) (b : Bool) (l : b ≡ listed ids kinds) where
    module _ (x : b ≡ false) where
      unlisted : picks ids kinds (length rows) s st ≡ declines BAD_LIST st
      unfolding picks
      unlisted = rw (← f, eq-eqb num 0 z, ← l, x)

      pub list_answer : (r : ReadDone) → r ≡ as_done (declines BAD_LIST st) → r ≡ pick_call ids kinds (length rows) s st
      list_answer r e = e ∙ refused_answer BAD_LIST unlisted

      pub list_rows : rows ≡ picked_rows ids kinds s st rows
      list_rows = refused_rows BAD_LIST unlisted

    module _ (x : b ≡ true) where
      pub list_short : length ids ≤ 64
      list_short = (passed ids kinds (sym l ∙ x)).few

      pub list_paired : length kinds ≡ length ids
      list_paired = (passed ids kinds (sym l ∙ x)).paired

      module _ (d : st.limits.depth ≤ st.depth) where
        too_deep : picks ids kinds (length rows) s st ≡ declines DEPTH st
        unfolding picks
        too_deep = rw (← f, eq-eqb num 0 z, ← l, x, le-ltb st.depth st.limits.depth d)

        pub deep_answer : (r : ReadDone) → r ≡ as_done (declines DEPTH st) → r ≡ pick_call ids kinds (length rows) s st
        deep_answer r e = e ∙ refused_answer DEPTH too_deep

        pub deep_rows : rows ≡ picked_rows ids kinds s st rows
        deep_rows = refused_rows DEPTH too_deep

      module _ (d : st.depth < st.limits.depth) where
        module _ (h : length rows < 3 * length ids) where
          roomless : picks ids kinds (length rows) s st ≡ declines NO_ROOM st
          unfolding picks
          roomless = rw (← f, eq-eqb num 0 z, ← l, x, lt-ltb st.depth st.limits.depth d, lt-leb (3 * length ids) (length rows) h)

          pub room_answer : (r : ReadDone) → r ≡ as_done (declines NO_ROOM st) → r ≡ pick_call ids kinds (length rows) s st
          room_answer r e = e ∙ refused_answer NO_ROOM roomless

          pub room_rows : rows ≡ picked_rows ids kinds s st rows
          room_rows = refused_rows NO_ROOM roomless

        module _ (h : 3 * length ids ≤ length rows) where
          pub goes_on : picks ids kinds (length rows) s st ≡ on_struct s st
          unfolding picks
          goes_on = rw (← f, eq-eqb num 0 z, ← l, x, lt-ltb st.depth st.limits.depth d, le-leb (3 * length ids) (length rows) h)

          pub on_answer : (r : ReadDone) → r ≡ as_done (forgets (on_struct s st)) → r ≡ pick_call ids kinds (length rows) s st
          unfolding pick_call
          on_answer r e = e ∙ sym (ap (λ (o : Outcome (List (Entry Tree))). as_done (forgets o)) goes_on)

          pub on_rows : (rows' : List ℕ) → rows' ≡ written ids kinds st.place.0 (on_struct s st).said rows → rows' ≡ picked_rows ids kinds s st rows
          unfolding picked_rows
          on_rows rows' e = e ∙ sym (ap (λ (o : Outcome (List (Entry Tree))). written ids kinds st.place.0 o.said rows) goes_on)

pub ruleset pick_cases = (gate_answer, gate_rows, list_answer, list_rows, list_short, list_paired, deep_answer, deep_rows, room_answer, room_rows, on_answer, on_rows)
