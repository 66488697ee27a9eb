-- Skip over the state: the call's returns, and that it succeeds exactly on a well-formed value. Assumes nothing.
use mathlib.Core.Path.{◌≡◌, refl, sym, ap, ◌∙◌}
use mathlib.Core.Logic.{◌↔◌}
use mathlib.Core.Bool.{Bool, true}
use mathlib.Core.List.{List}
use Prim.Native.Nat.{ℕ, ◌≤◌, min}
use native.Mathlib.Omega.{arith}
use borrow.Author.Rules.{sfits_of}
use borrow.Author.Tests.{eq-eqb, ne_eqb}
use lib.Dec.{ltb}
use lib.ListN.{length, take}
use mir.Facts.{to_z-of_z}
use Rattle.types.specs.declared.TType.{TType}
use Rattle.types.specs.declared.TConfiguration.{TConfiguration}
use Rattle.types.specs.declared.Place.{Place}
use Rattle.numbers.specs.Varint.{Found, got, refused}
use Rattle.heads.specs.Reader.{read_at, missing, missed, read_to}
use Rattle.heads.specs.Answers.{place}
use Rattle.heads.proofs.Ahead.{lawful_fair}
use Rattle.heads.proofs.Cut.{cut_is, was_cut, cut_whole, whole_cut}
use Rattle.input.specs.declared.DoneAnswer.TheVariants as N
use Rattle.input.proofs.Cases.{cut_inside, cut_counts}
use Rattle.skip.specs.Skip.{passed, past}
use Rattle.skip.specs.declared.Skipped.{Skipped}
use Rattle.skip.specs.declared.Skipped.TheVariants.{Done, Refused}
use Rattle.skip.proofs.Past.{was_read, past_got, read_past}
use Rattle.skip.proofs.Cut.{of_cut}
use Rattle.protocols.specs.Value.{value_by}
use Rattle.protocols.specs.Spells.{FormedBy}
use Rattle.protocols.specs.Answers.{skip_by, skip_to_by}
use Rattle.protocols.proofs.Lawfuls.{value_lawful}
use Rattle.protocols.proofs.Theorems.{skip_formed, formed_skip}
use Rattle.binary_heads.specs.Words.{binary}
use Rattle.binary_heads.proofs.Owes.{binary_owes}
use Rattle.binary_input.specs.State.{State, sound, gate, cut_of, moved_to, room_of}
use Rattle.binary_input.specs.Outcome.{answers, declines}
use Rattle.binary_input.specs.Answers.{as_done}
use Rattle.binary_input.specs.Calls.{over, skip_call, skipped_to}
use Rattle.binary_input.specs.declared.ReadDone.{ReadDone}
use Rattle.binary_input.proofs.Gate.{is_sound, gate_free}
use Rattle.binary_input.proofs.Cases.{within_depth}

as_cut : {A : Type 0} (m : Bool) (x : Found A) → of_cut m (passed x) ≡ passed (missed m x)
as_cut m (got a e) = refl
as_cut m (refused why) = refl

-- up to a cut
module _ (s : List ℕ) (c : ℕ) (lim : TConfiguration) (room : ℕ) (ty : TType) (at : ℕ) where
  skip_cut : (end : ℕ) → end ≡ min c (length s) → (r x : Skipped) → r ≡ skip_by binary (take end s) lim room ty at → r ≡ x → of_cut (ltb end (length s)) x ≡ skip_to_by binary s c lim room ty at
  unfolding skip_to_by skip_by past
  skip_cut end o r x f g =
      ap (of_cut (ltb end (length s))) (sym g ∙ f)
      ∙ as_cut (ltb end (length s)) (read_at (value_by binary lim room ty) (take end s) at)
      ∙ ap passed (sym (cut_is (value_by binary lim room ty) s c at end o))

  module _ (h : at ≤ c) (k : at ≤ length s) where
    -- what is skipped up to the cut is skipped, and ends there
    to_whole : (e : ℕ) → skip_to_by binary s c lim room ty at ≡ Done (place e) → (skip_by binary s lim room ty at ≡ Done (place e)) × (e ≤ c)
    unfolding skip_to_by skip_by
    to_whole e f =
        let r = was_read (read_to (value_by binary lim room ty) s c at) (place e) f in
        let l = lawful_fair (value_by binary lim room ty) (value_lawful binary binary_owes lim room ty) in
        let q = was_cut (value_by binary lim room ty) s c at r.0 e l h k r.1 in
        (past_got (value_by binary lim room ty) s at r.0 e (cut_whole (value_by binary lim room ty) s c at r.0 e l q), q.before)

    from_whole : (e : ℕ) → skip_by binary s lim room ty at ≡ Done (place e) → e ≤ c → skip_to_by binary s c lim room ty at ≡ Done (place e)
    unfolding skip_to_by skip_by
    from_whole e f i =
        let r = read_past (value_by binary lim room ty) s at (place e) f in
        ap passed (whole_cut (value_by binary lim room ty) s c at r.0 e (value_lawful binary binary_owes lim room ty) i r.1)

    pub cut_exact : (e : ℕ) → (skip_to_by binary s c lim room ty at ≡ Done (place e)) ↔ (FormedBy binary s lim room ty at e × (e ≤ c))
    cut_exact e =
        ((λ f. let w = to_whole e f in (skip_formed binary binary_owes s lim room ty at e w.0, w.1)), λ g. from_whole e (formed_skip binary binary_owes s lim room ty at e g.0) g.1)

-- the call's returns
module _ (s : List ℕ) (st : State) (kind : TType) (num : ℕ) (e : num ≡ gate (length s) st) where
  pub skip_stopped : (num ≡ 0 → ⊥) → as_done (declines num st) ≡ skip_call s st kind
  unfolding skip_call
  skip_stopped h = rw (← e, ne_eqb num 0 h)

  pub skip_through : num ≡ 0 → as_done (over st (skip_to_by binary s (cut_of st) st.limits (room_of st) kind st.place.0)) ≡ skip_call s st kind
  unfolding skip_call
  skip_through h = rw (← e, eq-eqb num 0 h)

  module _ (h : num ≡ 0) (end : ℕ) (o : end ≡ min (cut_of st) (length s)) (r : Skipped) (f : r ≡ skip_by binary (take end s) st.limits (room_of st) kind st.place.0) where
    pub skip_done : (q : Place) → r ≡ Done q → as_done (answers tt (moved_to st q)) ≡ skip_call s st kind
    skip_done q g = ap (λ (x : Skipped). as_done (over st x)) (skip_cut s (cut_of st) st.limits (room_of st) kind st.place.0 end o r (Done q) f g) ∙ skip_through h

    pub skip_no : (why n : ℕ) → r ≡ Refused why → n ≡ missing (ltb end (length s)) why → as_done (declines n st) ≡ skip_call s st kind
    skip_no why n g k =
        ap (λ (i : ℕ). as_done (declines i st)) k
        ∙ ap (λ (x : Skipped). as_done (over st x)) (skip_cut s (cut_of st) st.limits (room_of st) kind st.place.0 end o r (Refused why) f g)
        ∙ skip_through h

-- the call succeeds with the end e exactly where the bytes up to e are a well-formed value
to_end : (st : State) (x : Skipped) (e : ℕ) → as_done (over st x) ≡ skipped_to st e → x ≡ Done (place e)
to_end st (Done q) e f = let p : q ≡ place e = ap (λ (r : ReadDone). r.state.place) f in ap Done p
to_end st (Refused why) e f = let a : N.Refused why ≡ N.Done = ap (λ (r : ReadDone). r.answer) f in let z : ◌≡◌ {A = ℕ} 0 1 = cc in absurd (omega arith)

pub call_exact : (s : List ℕ) (st : State) (kind : TType) (r : ReadDone) → r ≡ skip_call s st kind → sound (length s) st ≡ true → (e : ℕ) → (r ≡ skipped_to st e) ↔ (FormedBy binary s st.limits (room_of st) kind st.place.0 e × (e ≤ cut_of st))
call_exact s st kind r f o e =
    let b = is_sound (length s) st o in
    let c = skip_through s st kind (gate (length s) st) refl (gate_free (length s) st o) in
    let x = cut_exact s (cut_of st) st.limits (room_of st) kind st.place.0 b.before b.here e in
    ((λ q. x.0 (to_end st _ e (c ∙ sym f ∙ q))), λ g. f ∙ sym c ∙ ap (λ (y : Skipped). as_done (over st y)) (x.1 g))

pub ruleset skip_cases = (skip_stopped, skip_done, skip_no, within_depth, cut_inside, cut_counts, to_z-of_z, sfits_of)
