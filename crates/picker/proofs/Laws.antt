-- The laws of every call, for the picker; that it accepts, refuses and moves as skip of Struct does; that a refusal leaves the rows; and that
-- the bytes behind the struct have no say in them. Assumes nothing.
use mathlib.Core.Path.{◌≡◌, refl, sym, ap, ◌∙◌}
use mathlib.Core.Bool.{Bool, true, false, cond}
use mathlib.Core.List.{List}
use Prim.Native.Nat.{ℕ, suc, ◌*◌, ◌≤◌, ◌<◌, min}
use native.Mathlib.Omega.{arith}
use borrow.Author.Tests.{ne_eqb, ltb-true, ltb-false}
use lib.Dec.{eqb, leb, ltb}
use lib.IntN.{ℤ}
use lib.ListN.{length, take}
use Rattle.types.specs.Refusals.{DEPTH, OUT_OF_TURN, NO_ROOM, BAD_STATE, BAD_LIST}
use Rattle.types.specs.Codes.{type_code}
use Rattle.types.specs.declared.TType.TheVariants as T
use Rattle.types.specs.Value.{Tree}
use Rattle.heads.specs.Reader.{missing}
use Rattle.input.specs.State.{State, cut_of, sound, waits, gate}
use Rattle.input.specs.Outcome.{Said, says, refuses, Outcome, declines, guarded}
use Rattle.input.specs.Answers.{as_done, number_done}
use Rattle.input.specs.declared.Awaited.{Awaited}
use Rattle.input.specs.declared.Awaited.TheVariants as W
use Rattle.input.specs.declared.ReadDone.{ReadDone}
use Rattle.input.proofs.Refusals.{Shown, shown, can_give, plain_given}
use Rattle.input.proofs.Gate.{Gated, bad, turn, through, gated}
use Rattle.input.proofs.Laws.{any, CallLaws, not_true}
use Rattle.skip.specs.Walk.{Entry}
use Rattle.skip.specs.Value.{value_of}
use Rattle.skip.specs.Skip.{skip_of, skip_to, over, room_of, awaited, skips, skip_call}
use Rattle.skip.specs.declared.Skipped.{Skipped}
use Rattle.skip.specs.declared.Skipped.TheVariants.{Done, Refused}
use Rattle.skip.proofs.Past.{past_refuse}
use Rattle.skip.proofs.Laws.{late, skip_laws}
use Rattle.wanted.specs.Wanted.{listed}
use Rattle.picker.specs.Pick.{on_struct, picks, forgets, pick_call, written, picked_rows}
use Rattle.picker.proofs.Call.{struct_no, struct_yes}
use Rattle.skip.proofs.Call.{nothing_waits}
use Rattle.skip.proofs.Cut.{of_cut, skip_cut}

-- the gate of a sound state with no bool pending, and what skip does there
module _ (s : List ℕ) (st : State) where
  -- skip of Struct, by the gate
  skip_bad : sound (length s) st ≡ false → skips T.Struct s st ≡ declines BAD_STATE st
  unfolding skips
  skip_bad e = rw e

  skip_turn : sound (length s) st ≡ true → waits st.pending.0 ≡ true → skips T.Struct s st ≡ declines OUT_OF_TURN st
  unfolding skips type_code
  skip_turn e w = rw e (go st.pending.0 w)
    where
      go : (a : Awaited) → waits a ≡ true → awaited s st T.Struct a ≡ declines OUT_OF_TURN st
      go W.Nothing x = let z : ◌≡◌ {A = ℕ} 0 1 = cc in absurd (omega arith)
      go (W.Truth b) x = refl

  skip_through : sound (length s) st ≡ true → waits st.pending.0 ≡ false → skips T.Struct s st ≡ over st (skip_to s (cut_of st) st.limits (room_of st) T.Struct st.place.0)
  unfolding skips
  skip_through e w = rw (e, nothing_waits st.pending.0 w)

  -- the skip that the code makes, up to the state's cut
  the_end : ℕ
  the_end = min (cut_of st) (length s)

  cut_skip : (x : Skipped) → skip_of (take the_end s) st.limits (room_of st) T.Struct st.place.0 ≡ x → of_cut (ltb the_end (length s)) x ≡ skip_to s (cut_of st) st.limits (room_of st) T.Struct st.place.0
  unfolding the_end
  cut_skip x f = skip_cut s (cut_of st) st.limits (room_of st) T.Struct st.place.0 (min (cut_of st) (length s)) refl x x (sym f) refl

  -- no room: DEPTH, before the first byte
  shut_in : (t : List ℕ) → st.limits.depth ≤ st.depth → skip_of t st.limits (room_of st) T.Struct st.place.0 ≡ Refused DEPTH
  unfolding skip_of value_of
  shut_in t d = let e : room_of st ≡ 0 = omega arith in rw e (past_refuse Tree DEPTH t st.place.0)

  not_missed : (b : Bool) → missing b DEPTH ≡ DEPTH
  not_missed true = refl
  not_missed false = refl

  shut_out : st.limits.depth ≤ st.depth → skip_to s (cut_of st) st.limits (room_of st) T.Struct st.place.0 ≡ Refused DEPTH
  shut_out d = sym (cut_skip (Refused DEPTH) (shut_in (take the_end s) d)) ∙ ap Refused (not_missed (ltb the_end (length s)))

  -- what the struct's own walk says, skip says
  on_skip : st.depth < st.limits.depth → as_done (forgets (on_struct s st)) ≡ as_done (over st (skip_to s (cut_of st) st.limits (room_of st) T.Struct st.place.0))
  unfolding the_end
  on_skip d = go (skip_of (take the_end s) st.limits (room_of st) T.Struct st.place.0) refl
    where
      go : (x : Skipped) → skip_of (take the_end s) st.limits (room_of st) T.Struct st.place.0 ≡ x → as_done (forgets (on_struct s st)) ≡ as_done (over st (skip_to s (cut_of st) st.limits (room_of st) T.Struct st.place.0))
      go (Done q) f = ap (λ (o : Outcome (List (Entry Tree))). as_done (forgets o)) (struct_yes s st d the_end refl (Done q) (sym f) q refl).2 ∙ ap (λ (x : Skipped). as_done (over st x)) (cut_skip (Done q) f)
      go (Refused why) f = ap (λ (o : Outcome (List (Entry Tree))). as_done (forgets o)) (struct_no s st d the_end refl (Refused why) (sym f) why _ refl refl) ∙ ap (λ (x : Skipped). as_done (over st x)) (cut_skip (Refused why) f)

  module _ (ids : List ℤ) (kinds : List ℕ) (n : ℕ) (l : listed ids kinds ≡ true) (h : leb (3 * length ids) n ≡ true) where
    by_depth : (b : Bool) → ltb st.depth st.limits.depth ≡ b → gate (length s) st ≡ 0 → sound (length s) st ≡ true → waits st.pending.0 ≡ false → pick_call ids kinds n s st ≡ skip_call s st T.Struct
    unfolding pick_call picks skip_call
    by_depth true d g e w =
        rw (g, l, d, h) (on_skip (ltb-true _ _ d) ∙ sym (ap as_done (skip_through e w)))
    by_depth false d g e w =
        rw (g, l, d) (sym (ap as_done (skip_through e w ∙ ap (over st) (shut_out (ltb-false _ _ d)))))

    refusing : (why : ℕ) → gate (length s) st ≡ suc why → skips T.Struct s st ≡ declines (suc why) st → pick_call ids kinds n s st ≡ skip_call s st T.Struct
    unfolding pick_call picks skip_call
    refusing why g e = rw (g, ne_eqb (suc why) 0 (λ z. omega arith)) (sym (ap as_done e))

    -- "Once 16 and 14 are past, it accepts, refuses and moves the state as a skip of Struct there does"
    pub as_skip_call : pick_call ids kinds n s st ≡ skip_call s st T.Struct
    as_skip_call = go (gated (length s) st)
      where
        go : Gated (length s) st → pick_call ids kinds n s st ≡ skip_call s st T.Struct
        go (bad f g) = refusing 14 g (skip_bad f)
        go (turn f w g) = refusing 11 g (skip_turn f w)
        go (through f w g) = by_depth _ refl g f w

-- a call that does as another keeps the same laws
module _ {R : Type 0} (c d : List ℕ → State → R) (number : R → ℕ) (state : R → State) (late : State → Bool) (same : (s : List ℕ) (st : State) → c s st ≡ d s st) (l : CallLaws any d number state late) where
  carried : CallLaws any c number state late
  carried =
      record {
        kept = λ s st h. ap state (same s st) ∙ l.kept s st (λ z. h (ap number (same s st) ∙ z));
        behind = λ s t st h q u. same t st ∙ l.behind s t st (sym (ap number (same s st)) ∙ h) (rw (same s st) at q) u ∙ sym (same s st);
        onward = λ s st h. rw (same s st) (l.onward s st (sym (ap number (same s st)) ∙ h));
        inside = λ s st h. rw (same s st) (l.inside s st (sym (ap number (same s st)) ∙ h));
        still_sound = λ s st h. rw (same s st) (l.still_sound s st h);
        bad_state_lem = λ s st h. l.bad_state_lem s st (sym (ap number (same s st)) ∙ h);
        state_bad = λ s st h. ap number (same s st) ∙ l.state_bad s st h;
        out_of_turn = λ s st h. l.out_of_turn s st (sym (ap number (same s st)) ∙ h);
        turn_out = λ s st h w. ap number (same s st) ∙ l.turn_out s st h w;
        which = λ s st. ap (λ (r : R). can_give (number r)) (same s st) ∙ l.which s st;
      }

-- a call that is refused whatever the input shows
module _ (why : State → ℕ) (fl : (st : State) → Shown (why st)) where
  abbrev flatly : List ℕ → State → ReadDone
  flatly s st = as_done (guarded s st (declines (why st) st))

  data Ends (s : List ℕ) (st : State) : Type 0 where
    badly : sound (length s) st ≡ false → flatly s st ≡ as_done (declines BAD_STATE st) → Ends s st
    early : sound (length s) st ≡ true → late T.Struct st ≡ true → flatly s st ≡ as_done (declines OUT_OF_TURN st) → Ends s st
    plain : sound (length s) st ≡ true → late T.Struct st ≡ false → flatly s st ≡ as_done (declines (why st) st) → Ends s st

  ends : (s : List ℕ) (st : State) → Ends s st
  unfolding type_code
  ends s st = go (gated (length s) st)
    where
      go : Gated (length s) st → Ends s st
      go (bad f g) = badly f (rw g)
      go (turn f w g) = early f (rw w) (rw g)
      go (through f w g) = plain f (rw w) (rw g)

  module _ (s : List ℕ) (st : State) where
    abbrev number : ℕ
    number = number_done (flatly s st).answer

    num : (w : ℕ) → flatly s st ≡ as_done (declines w st) → number ≡ w
    num w e = ap (λ (r : ReadDone). number_done r.answer) e

    state_same : (flatly s st).state ≡ st
    state_same = go (ends s st)
      where
        go : Ends s st → (flatly s st).state ≡ st
        go (badly f e) = ap (λ (r : ReadDone). r.state) e
        go (early f w e) = ap (λ (r : ReadDone). r.state) e
        go (plain f w e) = ap (λ (r : ReadDone). r.state) e

    never : {X : Type 0} → number ≡ 0 → X
    never {X} z = go (ends s st)
      where
        go : Ends s st → X
        go (badly f e) = let n = num BAD_STATE e in absurd (omega arith)
        go (early f w e) = let n = num OUT_OF_TURN e in absurd (omega arith)
        go (plain f w e) = let n = num (why st) e in absurd (omega (arith, (fl st).some))

    by_state : number ≡ BAD_STATE → sound (length s) st ≡ false
    by_state z = go (ends s st)
      where
        go : Ends s st → sound (length s) st ≡ false
        go (badly f e) = f
        go (early f w e) = let n = num OUT_OF_TURN e in absurd (omega arith)
        go (plain f w e) = absurd ((fl st).stateless (sym (num (why st) e) ∙ z))

    to_state : sound (length s) st ≡ false → number ≡ BAD_STATE
    to_state z = go (ends s st)
      where
        go : Ends s st → number ≡ BAD_STATE
        go (badly f e) = num BAD_STATE e
        go (early f w e) = not_true z f
        go (plain f w e) = not_true z f

    by_turn : number ≡ OUT_OF_TURN → (sound (length s) st ≡ true) × (late T.Struct st ≡ true)
    by_turn z = go (ends s st)
      where
        go : Ends s st → (sound (length s) st ≡ true) × (late T.Struct st ≡ true)
        go (badly f e) = let n = num BAD_STATE e in absurd (omega arith)
        go (early f w e) = (f, w)
        go (plain f w e) = absurd ((fl st).turnless (sym (num (why st) e) ∙ z))

    to_turn : sound (length s) st ≡ true → late T.Struct st ≡ true → number ≡ OUT_OF_TURN
    to_turn x y = go (ends s st)
      where
        go : Ends s st → number ≡ OUT_OF_TURN
        go (badly f e) = not_true f x
        go (early f w e) = num OUT_OF_TURN e
        go (plain f w e) = not_true w y

    by_number : can_give number ≡ true
    by_number = go (ends s st)
      where
        go : Ends s st → can_give number ≡ true
        go (badly f e) = ap can_give (num BAD_STATE e)
        go (early f w e) = ap can_give (num OUT_OF_TURN e)
        go (plain f w e) = ap can_give (num (why st) e) ∙ plain_given (why st) (fl st).one

  flat_laws : CallLaws any flatly (λ r. number_done r.answer) (λ r. r.state) (late T.Struct)
  flat_laws =
      record {
        kept = λ s st h. state_same s st;
        behind = λ s t st h q u. never s st h;
        onward = λ s st h. never s st h;
        inside = λ s st h. never s st h;
        still_sound = λ s st h. ap (sound (length s)) (state_same s st) ∙ h;
        bad_state_lem = by_state;
        state_bad = to_state;
        out_of_turn = by_turn;
        turn_out = to_turn;
        which = by_number;
      }

-- what the list and the room show
abbrev short_of : State → ℕ
short_of st = cond (ltb st.depth st.limits.depth) NO_ROOM DEPTH

short_flat : (st : State) → Shown (short_of st)
short_flat st = go (ltb st.depth st.limits.depth)
  where
    go : (b : Bool) → Shown (cond b NO_ROOM DEPTH)
    go true = shown NO_ROOM refl
    go false = shown DEPTH refl

module _ (ids : List ℤ) (kinds : List ℕ) (n : ℕ) where
  unlisted : listed ids kinds ≡ false → (s : List ℕ) (st : State) → pick_call ids kinds n s st ≡ as_done (guarded s st (declines BAD_LIST st))
  unfolding pick_call picks
  unlisted l s st = rw l (go (eqb (gate (length s) st) 0))
    where
      go : (b : Bool) → as_done (forgets {A = List (Entry Tree)} (cond b (declines BAD_LIST st) (declines (gate (length s) st) st))) ≡ as_done (cond b (declines BAD_LIST st) (declines (gate (length s) st) st))
      go true = refl
      go false = refl

  roomless : listed ids kinds ≡ true → leb (3 * length ids) n ≡ false → (s : List ℕ) (st : State) → pick_call ids kinds n s st ≡ as_done (guarded s st (declines (short_of st) st))
  unfolding pick_call picks
  roomless l h s st = rw (l, h) (go (eqb (gate (length s) st) 0) (ltb st.depth st.limits.depth))
    where
      go : (b c : Bool) → as_done (forgets {A = List (Entry Tree)} (cond b (cond c (declines NO_ROOM st) (declines DEPTH st)) (declines (gate (length s) st) st))) ≡ as_done (cond b (declines (cond c NO_ROOM DEPTH) st) (declines (gate (length s) st) st))
      go true true = refl
      go true false = refl
      go false c = refl

  pub pick_laws : CallLaws any (pick_call ids kinds n) (λ r. number_done r.answer) (λ r. r.state) (late T.Struct)
  pick_laws = go (listed ids kinds) refl (leb (3 * length ids) n) refl
    where
      go : (a : Bool) → listed ids kinds ≡ a → (b : Bool) → leb (3 * length ids) n ≡ b → CallLaws any (pick_call ids kinds n) (λ r. number_done r.answer) (λ r. r.state) (late T.Struct)
      go true l true h = carried _ (λ s st. skip_call s st T.Struct) _ _ _ (λ s st. as_skip_call s st ids kinds n l h) (skip_laws T.Struct)
      go true l false h = carried _ _ _ _ _ (roomless l h) (flat_laws short_of short_flat)
      go false l b h =
          carried _ _ _ _ _ (unlisted l) (flat_laws (λ st. BAD_LIST) (λ st. shown BAD_LIST refl))

-- A refusal leaves the rows as they were, and the bytes behind the struct have no say in them.

abbrev said_of : {A : Type 0} → Outcome A → ℕ
said_of o = number_done (as_done (forgets o)).answer

module _ (ids : List ℤ) (kinds : List ℕ) (s : List ℕ) (st : State) (rows : List ℕ) where
  pub rows_kept : (number_done (pick_call ids kinds (length rows) s st).answer ≡ 0 → ⊥) → picked_rows ids kinds s st rows ≡ rows
  unfolding pick_call picked_rows
  rows_kept h = go (picks ids kinds (length rows) s st).said refl
    where
      go : (x : Said (List (Entry Tree))) → (picks ids kinds (length rows) s st).said ≡ x → written ids kinds st.place.0 (picks ids kinds (length rows) s st).said rows ≡ rows
      go (says fs) e = absurd (h (rw e))
      go (refuses why) e = rw e
