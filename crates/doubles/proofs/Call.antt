-- The calls, at each return. Assumes nothing.
use Rattle.std.proofs.Common.{◌≡◌, ℕ, ◌-◌, ◌<◌, ◌≤◌, min, Bool, true, false, cond, ltb, List, [], ◌∷◌, ◌++◌, length, take, sym, refl, ap, ◌∙◌, ap₂, arith, to_z-of_z, eq-eqb, ne_eqb}
use borrow.Author.Rules.{sfits_of}
use Rattle.types.specs.declared.Place.{Place}
use Rattle.types.specs.declared.TType.TheVariants as T
use Rattle.types.specs.Value.{Tree}
use Rattle.numbers.specs.Varint.{Found, got, refused}
use Rattle.heads.specs.Reader.{missing, missed, read_at}
use Rattle.heads.proofs.Cut.{cut_is}
use Rattle.input.specs.State.{State, cut_of, moved_to, gate}
use Rattle.input.specs.Outcome.{answers, declines, from, stays}
use Rattle.input.proofs.Cases.{cut_inside, cut_counts}
use Rattle.input.proofs.Gate.{is_sound, Gated, bad, turn, through, gated}
use Rattle.skip.specs.Value.{value_of}
use Rattle.skip.specs.Skip.{room_of}
use Rattle.single.specs.Counts.{counted_all}
use Rattle.single.specs.declared.Counts.{Counts}
use Rattle.doubles.specs.Doubles.{doubles_of}
use Rattle.doubles.specs.Walked.{Sheet, jotted, jot_all, Walks}
use Rattle.doubles.specs.Calls.{ahead, on_struct, none, counts_of, as_counts, counts_call}
use Rattle.doubles.specs.declared.Walked.{Walked}
use Rattle.doubles.specs.declared.Walked.TheVariants.{Done, Refused}
use Rattle.doubles.specs.declared.CountsAnswer.TheVariants as C
use Rattle.doubles.specs.declared.ReadCounts.{ReadCounts}
use Rattle.doubles.proofs.Sheets.{was_got, was_lost}

-- the counts of a sheet do not ask for its row
pub jot_counts : (ns : List ℕ) (x : Sheet) → (jot_all ns x).0 ≡ counted_all x.0 ns
unfolding jot_all jotted
jot_counts [] x = refl
jot_counts (n ∷ ns) x = jot_counts ns (jotted x n)

-- counts_on
module _ (s : List ℕ) (st : State) (end : ℕ) (o : end ≡ min (cut_of st) (length s)) (x : Sheet) (r : Walked) (row : List ℕ) (w : Walks doubles_of (read_at (value_of st.limits (room_of st) T.Struct) (take end s) st.place.0) x r row) where
  ahead_cut : (y : Found Tree) → read_at (value_of st.limits (room_of st) T.Struct) (take end s) st.place.0 ≡ y → ahead s st ≡ from stays st (missed (ltb end (length s)) y)
  unfolding ahead
  ahead_cut y f = ap (from stays st) (cut_is (value_of st.limits (room_of st) T.Struct) s (cut_of st) st.place.0 end o ∙ ap (missed (ltb end (length s))) f)

  pub on_tree_lem : (q : Place) (c : Counts) → r ≡ Done q c → (t : Tree) × (ahead s st ≡ answers t (moved_to st q)) × ((c, row) ≡ jot_all (doubles_of t) x)
  on_tree_lem q c g = let v = was_got doubles_of _ x r row w q c g in (v.0, ahead_cut (got v.0 q.0) v.1, v.2)

  pub on_no : (why n : ℕ) → r ≡ Refused why → n ≡ missing (ltb end (length s)) why → ahead s st ≡ declines n st
  on_no why n g k = ahead_cut (refused why) (was_lost doubles_of _ x r row w why g) ∙ ap (λ (i : ℕ). declines i st) (sym k)

  pub counts_no : (why n : ℕ) (a : ReadCounts) → r ≡ Refused why → n ≡ missing (ltb end (length s)) why → a ≡ as_counts (declines n st) → a ≡ as_counts (ahead s st)
  counts_no why n a g k e = e ∙ sym (ap as_counts (on_no why n g k))

  pub counts_got : x.0 ≡ none → (q : Place) (c : Counts) → r ≡ Done q c → ◌≡◌ {A = ReadCounts} (record { answer = C.Got c; state = moved_to st q }) (as_counts (ahead s st))
  unfolding counts_of
  counts_got z q c g =
      let v = on_tree_lem q c g in
      let h : c ≡ counted_all none (doubles_of v.0) = ap (λ (y : Sheet). y.0) v.2 ∙ jot_counts (doubles_of v.0) x ∙ ap (λ (d : Counts). counted_all d (doubles_of v.0)) z in
      ap (λ (d : Counts). record { answer = C.Got d; state = moved_to st q }) h ∙ sym (ap as_counts v.1)

pub ruleset on_cases = (cut_inside, cut_counts, counts_no, counts_got, to_z-of_z, sfits_of)

-- f32_counts
module _ (s : List ℕ) (st : State) (num : ℕ) (f : num ≡ gate (length s) st) where
  pub gate_answer : (r : ReadCounts) → (num ≡ 0 → ⊥) → r ≡ as_counts (declines num st) → r ≡ counts_call s st
  unfolding counts_call on_struct
  gate_answer r n e = e ∙ rw (← f, ne_eqb num 0 n)

  pub on_answer : (r : ReadCounts) → num ≡ 0 → r ≡ as_counts (ahead s st) → r ≡ counts_call s st
  unfolding counts_call on_struct
  on_answer r z e = e ∙ rw (← f, eq-eqb num 0 z)

  pub deep_enough : num ≡ 0 → st.depth ≤ st.limits.depth
  deep_enough z = go (gated (length s) st)
    where
      go : Gated (length s) st → st.depth ≤ st.limits.depth
      go (bad g e) = absurd (omega (arith, sym f ∙ z, e))
      go (turn g w e) = absurd (omega (arith, sym f ∙ z, e))
      go (through g w e) = (is_sound (length s) st g).deep

pub ruleset call_cases = (gate_answer, on_answer, deep_enough)
