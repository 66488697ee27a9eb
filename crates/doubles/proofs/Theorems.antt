-- What the calls mean: they accept, refuse and move the reader as skip does; the three counts together are the doubles of the tree. Assumes nothing.
use Rattle.std.proofs.Common.{◌≡◌, ℕ, ◌+◌, ◌^◌, ◌<◌, true, List, length, sym, refl, ap, ◌∙◌, arith}
use Rattle.types.specs.Codes.{type_code}
use Rattle.types.specs.declared.TType.TheVariants as T
use Rattle.types.specs.Value.{Tree}
use Rattle.numbers.specs.Varint.{Found, got, refused}
use Rattle.heads.specs.Reader.{read_to}
use Rattle.input.specs.State.{State, cut_of, waits}
use Rattle.input.specs.Outcome.{says, refuses, Outcome, from, stays}
use Rattle.input.specs.Answers.{as_done}
use Rattle.input.specs.declared.Awaited.{Awaited}
use Rattle.input.specs.declared.Awaited.TheVariants as W
use Rattle.input.specs.declared.DoneAnswer.{DoneAnswer}
use Rattle.input.specs.declared.DoneAnswer.TheVariants as N
use Rattle.input.specs.declared.ReadDone.{ReadDone}
use Rattle.input.proofs.Gate.{Gated, bad, turn, through, gated}
use Rattle.skip.specs.Value.{value_of}
use Rattle.skip.specs.Skip.{passed, skip_to, over, room_of, awaited, skips, skip_call}
use Rattle.skip.proofs.Call.{nothing_waits}
use Rattle.single.specs.Counts.{how_many}
use Rattle.single.specs.declared.Single.TheVariants.{Yes, No, NotANumber}
use Rattle.single.specs.declared.Counts.{Counts}
use Rattle.single.proofs.Counting.{plain, together}
use Rattle.doubles.specs.Doubles.{doubles_of}
use Rattle.doubles.specs.Calls.{ahead, on_struct, none, counts_of, to_counts, counts_call}
use Rattle.doubles.specs.declared.CountsAnswer.{CountsAnswer}
use Rattle.doubles.specs.declared.CountsAnswer.TheVariants as C
use Rattle.doubles.proofs.Answers.{few_ahead, got_tree, behind_gate}

-- the call without its counts
abbrev pub without : CountsAnswer → DoneAnswer
without (C.Got c) = N.Done
without (C.Refused why) = N.Refused why

abbrev pub bare_read : List ℕ → State → ReadDone
bare_read s st = record { answer = without (counts_call s st).answer; state = (counts_call s st).state }

over_found : (st : State) (x : Found Tree) → record { answer = without (to_counts (from stays st x).said); state = (from stays st x).state } ≡ as_done (over st (passed x))
over_found st (got t e) = refl
over_found st (refused why) = refl

some_waits : (s : List ℕ) (st : State) (w : Awaited) → waits w ≡ true → awaited s st T.Struct w ≡ record { said = refuses 12; state = st }
unfolding type_code
some_waits s st W.Nothing e = let z : ◌≡◌ {A = ℕ} 0 1 = cc in absurd (omega arith)
some_waits s st (W.Truth b) e = refl

-- "A struct that skip refuses gives that refusal": the number, the reader's next state, and where both succeed, are those of a skip of the struct
pub as_skip_lem : (s : List ℕ) (st : State) → bare_read s st ≡ skip_call s st T.Struct
unfolding counts_call on_struct ahead skip_call skips skip_to
as_skip_lem s st = go (gated (length s) st)
  where
    go : Gated (length s) st → bare_read s st ≡ skip_call s st T.Struct
    go (bad o g) = rw (g, o)
    go (turn o w g) = rw (g, o, some_waits s st st.pending.0 w)
    go (through o w g) =
        rw (g, o)
        (over_found st (read_to (value_of st.limits (room_of st) T.Struct) s (cut_of st) st.place.0)
        ∙ ap (λ (y : Awaited). as_done (awaited s st T.Struct y)) (sym (nothing_waits st.pending.0 w)))

-- "The three counts together are the doubles found by walking the value tree", and each is how many have that answer: nothing wraps
pub record Counted (t : Tree) (c : Counts) : Type 0 where
  pub the_yes : c.yes ≡ how_many Yes (doubles_of t)
  pub the_no : c.no ≡ how_many No (doubles_of t)
  pub the_nan : c.nan ≡ how_many NotANumber (doubles_of t)
  pub all : c.yes + c.no + c.nan ≡ length (doubles_of t)

pub counted_whole : (s : List ℕ) (st : State) (c : Counts) → length s < 2 ^ 64 → (counts_call s st).answer ≡ C.Got c → (t : Tree) × ((on_struct s st).said ≡ says t) × Counted t c
unfolding counts_call counts_of
counted_whole s st c h f =
    let x = got_tree (on_struct s st).said c f in
    let t = x.0 in
    let b = behind_gate s st t x.1 in
    let i = few_ahead s st t (ap (λ (o : Outcome Tree). o.said) (sym b.same) ∙ x.1) in
    let p = x.2 ∙ plain none (doubles_of t) (omega (arith, h, i)) in (
      t,
      x.1,
      record {
        the_yes = ap (λ (d : Counts). d.yes) p ∙ omega arith;
        the_no = ap (λ (d : Counts). d.no) p ∙ omega arith;
        the_nan = ap (λ (d : Counts). d.nan) p ∙ omega arith;
        all = ap (λ (d : Counts). d.yes + d.no + d.nan) p ∙ omega (arith, together (doubles_of t));
      },
    )
