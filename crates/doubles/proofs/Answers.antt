-- The answers in the lent row: as many as there are doubles, one behind the other. Assumes nothing.
use Rattle.std.proofs.Common.{◌≡◌, ℕ, suc, ◌+◌, ◌%◌, ◌^◌, ◌<◌, ◌≤◌, min, Bool, true, false, cond, ltb, leb, List, [], ◌∷◌, length, take, drop, set, sym, refl, ap, ◌∙◌, subst, ap₂, mod-eq_of_lt, add-one, arith, length-drop, length-take, to_z-of_z, le-leb}
use borrow.Author.Rules.{sfits_of}
use borrow.Author.Tests.{lt-leb}
use lib.Seq.{sets}
use Rattle.types.specs.Refusals.{NO_ROOM}
use Rattle.types.specs.declared.TConfiguration.{TConfiguration}
use Rattle.types.specs.declared.TType.TheVariants as T
use Rattle.types.specs.Value.{Tree}
use Rattle.numbers.specs.Varint.{Found, got, refused}
use Rattle.numbers.proofs.Put.{put_in, put_not}
use Rattle.heads.specs.Reader.{missed, read_at, read_to}
use Rattle.heads.proofs.Steps.{found_at}
use Rattle.input.specs.State.{State, cut_of}
use Rattle.input.specs.Outcome.{Said, says, refuses, Outcome, from, stays}
use Rattle.input.proofs.Cases.{cut_inside, cut_counts}
use Rattle.input.proofs.Gate.{is_sound, Gated, bad, turn, through, gated}
use Rattle.skip.specs.Value.{value_of}
use Rattle.skip.specs.Skip.{room_of}
use Rattle.skip.proofs.Lawfuls.{value_lawful}
use Rattle.single.specs.Held.{held}
use Rattle.single.specs.Counts.{counted, counted_all}
use Rattle.single.specs.declared.Counts.{Counts}
use Rattle.single.proofs.Counting.{plain, together}
use Rattle.doubles.specs.Doubles.{doubles_of}
use Rattle.doubles.specs.Walked.{code, total, Sheet, jotted, jot_all, Walks}
use Rattle.doubles.specs.Calls.{ahead, on_struct, none, counts_of, to_counts, counts_call, codes_of, declines_row, to_row, row_call, in_row, answered_row}
use Rattle.doubles.specs.declared.Walked.{Walked}
use Rattle.doubles.specs.declared.Walked.TheVariants.{Done, Refused}
use Rattle.doubles.specs.declared.CountsAnswer.TheVariants as C
use Rattle.doubles.specs.declared.ReadCounts.{ReadCounts}
use Rattle.doubles.specs.declared.RowAnswer.TheVariants as R
use Rattle.doubles.specs.declared.ReadRow.{ReadRow}
use Rattle.doubles.proofs.Call.{on_tree_lem, on_no}
use Rattle.doubles.proofs.Few.{few}

pub codes_length : (ns : List ℕ) → length (codes_of ns) ≡ length ns
unfolding codes_of
codes_length [] = refl
codes_length (n ∷ ns) = ap suc (codes_length ns)

-- how many were counted, where nothing wraps
abbrev sum : Counts → ℕ
sum c = c.yes + c.no + c.nan

total_sum : (c : Counts) → sum c < 2 ^ 64 → total c ≡ sum c
total_sum c h =
    let a : (c.yes + c.no) % 2 ^ 64 ≡ c.yes + c.no = mod-eq_of_lt (omega arith) in
    ap (λ (n : ℕ). (n + c.nan) % 2 ^ 64) a ∙ mod-eq_of_lt h

one_more : (c : Counts) (n : ℕ) → sum c + 1 < 2 ^ 64 → sum (counted c n) ≡ sum c + 1
one_more c n h =
    let p = plain c (n ∷ []) (omega arith) in
    let t = together (n ∷ []) in
    ap sum p ∙ omega (arith, t)

-- the answers one behind the other
pub jot_row : (ns : List ℕ) (c : Counts) (row : List ℕ) → sum c + length ns < 2 ^ 64 → (jot_all ns (c, row)).1 ≡ sets row (sum c) (codes_of ns)
unfolding jot_all jotted codes_of
jot_row [] c row h = refl
jot_row (n ∷ ns) c row h =
    let one = one_more c n (omega arith) in
    let t = total_sum c (omega arith) in
    jot_row ns (counted c n) (set row (total c) (code (held n))) (omega (arith, one))
    ∙ ap₂ (λ (k : ℕ) (j : ℕ). sets (set row k (code (held n))) j (codes_of ns)) t (one ∙ add-one (sum c))

-- all of them
pub counted_all_lem : (ns : List ℕ) → length ns < 2 ^ 64 → total (counted_all none ns) ≡ length ns
counted_all_lem ns h =
    let p = plain none ns (omega arith) in
    let t = together ns in
    let q : sum (counted_all none ns) ≡ length ns = ap sum p ∙ omega (arith, t) in
    total_sum (counted_all none ns) (omega (arith, q)) ∙ q

not_said : {A X : Type 0} {a : A} {why : ℕ} → refuses why ≡ says a → X
not_said e = let z : ◌≡◌ {A = ℕ} 0 1 = cc in absurd (omega arith)

-- a struct that is accepted has no more doubles than the input has bytes
few_read : (lim : TConfiguration) (room : ℕ) (s : List ℕ) (at : ℕ) (t : Tree) (e : ℕ) → read_at (value_of lim room T.Struct) s at ≡ got t e → length (doubles_of t) ≤ length s
unfolding read_at
few_read lim room s at t e f =
    let i = few lim room T.Struct s at t e f in
    let g = found_at at (value_of lim room T.Struct (drop at s)) t e f in
    let j = (value_lawful lim room T.Struct).ends (drop at s) t g.0 g.1 in
    omega (arith, i, j, g.2, length-drop at s)

few_said : (s : List ℕ) (st : State) (t : Tree) (x : Found Tree) → read_at (value_of st.limits (room_of st) T.Struct) (take (cut_of st) s) st.place.0 ≡ x → (from stays st (missed (ltb (cut_of st) (length s)) x)).said ≡ says t → length (doubles_of t) ≤ length s
few_said s st t (got v e) g f =
    let q : v ≡ t = cc in
    let i = few_read st.limits (room_of st) (take (cut_of st) s) st.place.0 v e g in
    let o : length (doubles_of v) ≡ length (doubles_of t) = ap (λ (u : Tree). length (doubles_of u)) q in
    omega (arith, i, o, length-take (cut_of st) s)
few_said s st t (refused why) g f = not_said f

pub few_ahead : (s : List ℕ) (st : State) (t : Tree) → (ahead s st).said ≡ says t → length (doubles_of t) ≤ length s
unfolding ahead read_to
few_ahead s st t f = few_said s st t (read_at (value_of st.limits (room_of st) T.Struct) (take (cut_of st) s) st.place.0) refl f

-- put_answers
module _ (s : List ℕ) (st : State) (end : ℕ) (o : end ≡ min (cut_of st) (length s)) (row : List ℕ) (r : Walked) (row' : List ℕ) (w : Walks doubles_of (read_at (value_of st.limits (room_of st) T.Struct) (take end s) st.place.0) (none, row) r row') where
  pub answers_put : (t : Tree) → (ahead s st).said ≡ says t → row' ≡ (jot_all (doubles_of t) (none, row)).1
  answers_put t f = go r refl
    where
      go : (q : Walked) → r ≡ q → row' ≡ (jot_all (doubles_of t) (none, row)).1
      go (Done p c) g =
          let v = on_tree_lem s st end o (none, row) r row' w p c g in
          let a : says v.0 ≡ says t = sym (ap (λ (x : Outcome Tree). x.said) v.1) ∙ f in
          let b : v.0 ≡ t = cc in
          ap (λ (x : Sheet). x.1) v.2 ∙ ap (λ (u : Tree). (jot_all (doubles_of u) (none, row)).1) b
      go (Refused why) g = not_said (sym (ap (λ (x : Outcome Tree). x.said) (on_no s st end o (none, row) r row' w why _ g refl)) ∙ f)

pub ruleset put_cases = (cut_inside, cut_counts, answers_put, to_z-of_z, sfits_of)

-- f32_answers
not_counts : {X : Type 0} {c : Counts} {why : ℕ} → C.Got c ≡ C.Refused why → X
not_counts e = let z : ◌≡◌ {A = ℕ} 0 1 = cc in absurd (omega arith)

pub got_tree : (x : Said Tree) (c : Counts) → to_counts x ≡ C.Got c → (t : Tree) × (x ≡ says t) × (c ≡ counts_of t)
got_tree (says t) c f = let q : counts_of t ≡ c = cc in (t, refl, sym q)
got_tree (refuses why) c f = not_counts (sym f)

got_none : (x : Said Tree) (why : ℕ) → to_counts x ≡ C.Refused why → x ≡ refuses why
got_none (says t) why f = not_counts f
got_none (refuses y) why f = let q : y ≡ why = cc in ap refuses q

-- behind the gate
pub record Behind (s : List ℕ) (st : State) : Type 0 where
  pub same : on_struct s st ≡ ahead s st
  pub deep : st.depth ≤ st.limits.depth

pub behind_gate : (s : List ℕ) (st : State) (t : Tree) → (on_struct s st).said ≡ says t → Behind s st
unfolding on_struct
behind_gate s st t f = go (gated (length s) st)
  where
    go : Gated (length s) st → Behind s st
    go (bad g e) = not_said (rw e at f)
    go (turn g w e) = not_said (rw e at f)
    go (through g w e) = record { same = rw e; deep = (is_sound (length s) st g).deep }

module _ (s : List ℕ) (st : State) (row : List ℕ) (first : ReadCounts) (f : first ≡ counts_call s st) where
  answer_is : first.answer ≡ to_counts (on_struct s st).said
  unfolding counts_call
  answer_is = ap (λ (x : ReadCounts). x.answer) f

  state_is : first.state ≡ (on_struct s st).state
  unfolding counts_call
  state_is = ap (λ (x : ReadCounts). x.state) f

  module _ (why : ℕ) (g : first.answer ≡ C.Refused why) where
    lost_said : (on_struct s st).said ≡ refuses why
    lost_said = got_none (on_struct s st).said why (sym answer_is ∙ g)

    pub no_answer : (a : ReadRow) → a ≡ declines_row why st → a ≡ row_call (length row) s st
    unfolding row_call
    no_answer a e = e ∙ sym (ap (to_row (length row) st (on_struct s st).state) lost_said)

    pub no_row : row ≡ answered_row s st row
    unfolding answered_row
    no_row = sym (ap (in_row row) lost_said)

  module _ (c : Counts) (g : first.answer ≡ C.Got c) where
    the_tree : (t : Tree) × ((on_struct s st).said ≡ says t) × (c ≡ counts_of t)
    the_tree = got_tree (on_struct s st).said c (sym answer_is ∙ g)

    abbrev doubles : List ℕ
    doubles = doubles_of the_tree.0

    there : Behind s st
    there = behind_gate s st the_tree.0 the_tree.1

    said_ahead : (ahead s st).said ≡ says the_tree.0
    said_ahead = ap (λ (x : Outcome Tree). x.said) (sym there.same) ∙ the_tree.1

    pub deep_there : st.depth ≤ st.limits.depth
    deep_there = there.deep

    module _ (h : length s < 2 ^ 64) (n : ℕ) (k : n ≡ total c) where
      few_there : length doubles < 2 ^ 64
      few_there = omega (arith, h, few_ahead s st the_tree.0 said_ahead)

      as_many : n ≡ length doubles
      unfolding counts_of
      as_many = k ∙ ap total the_tree.2 ∙ counted_all_lem doubles few_there

      pub short_answer : (a : ReadRow) → length row < n → a ≡ declines_row NO_ROOM st → a ≡ row_call (length row) s st
      unfolding row_call
      short_answer a l e =
          e ∙ sym (ap (to_row (length row) st (on_struct s st).state) the_tree.1 ∙ ap (λ (b : Bool). cond b (record { answer = R.Got (length doubles); state = (on_struct s st).state }) (declines_row NO_ROOM st)) (lt-leb (length doubles) (length row) (omega (arith, l, as_many))))

      pub short_row : length row < n → row ≡ answered_row s st row
      unfolding answered_row
      short_row l = put_not row 0 (codes_of doubles) (omega (arith, l, as_many, codes_length doubles)) ∙ sym (ap (in_row row) the_tree.1)

      pub whole_answer : n ≤ length row → ◌≡◌ {A = ReadRow} (record { answer = R.Got n; state = first.state }) (row_call (length row) s st)
      unfolding row_call
      whole_answer l =
          ap₂ (λ (m : ℕ) (y : State). record { answer = R.Got m; state = y }) as_many state_is
          ∙ sym (ap (to_row (length row) st (on_struct s st).state) the_tree.1 ∙ ap (λ (b : Bool). cond b (record { answer = R.Got (length doubles); state = (on_struct s st).state }) (declines_row NO_ROOM st)) (le-leb (length doubles) (length row) (omega (arith, l, as_many))))

      pub whole_row : (row' : List ℕ) → n ≤ length row → ((t : Tree) → (ahead s st).said ≡ says t → row' ≡ (jot_all (doubles_of t) (none, row)).1) → row' ≡ answered_row s st row
      unfolding answered_row
      whole_row row' l q =
          q the_tree.0 said_ahead
          ∙ jot_row doubles none row (omega (arith, few_there))
          ∙ put_in row 0 (codes_of doubles) (omega (arith, l, as_many, codes_length doubles))
          ∙ sym (ap (in_row row) the_tree.1)

pub ruleset answers_cases = (no_answer, no_row, deep_there, short_answer, short_row, whole_answer, whole_row)
