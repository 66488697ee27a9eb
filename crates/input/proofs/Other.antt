-- The calls whose answer asks for bytes ahead, list, set and map, on another input that still holds the header: the same, or what a missed byte is there,
-- END or MESSAGE SIZE, with the state as given. (`behind` of their laws: on one that is no shorter, the same.) Assumes nothing.
use mathlib.Core.Path.{◌≡◌, sym, ap, ◌∙◌}
use mathlib.Core.Bool.{true}
use mathlib.Core.Logic.{◌⊎◌, inl, inr, ⊎_elim}
use mathlib.Core.List.{List}
use Prim.Native.Nat.{ℕ}
use native.Mathlib.Omega.{arith}
use lib.Dec.{ltb}
use lib.ListN.{length, take, drop}
use lib.Seq.{take-take}
use Rattle.types.specs.Refusals.{END}
use Rattle.numbers.specs.Varint.{Found, got, refused, placed}
use Rattle.numbers.proofs.Found.{same_part}
use Rattle.heads.specs.Reader.{Reader, read_at, read_to, missing, missed}
use Rattle.heads.specs.Heads.{items_head, pairs_head}
use Rattle.heads.proofs.Ahead.{Fair, items_head_fair, pairs_head_fair}
use Rattle.heads.proofs.Cut.{Cut, was_cut}
use Rattle.input.specs.State.{State, cut_of, sound}
use Rattle.input.specs.Outcome.{Outcome, declines, calls, stays}
use Rattle.input.specs.Answers.{as_list, as_map, number_list, number_map}
use Rattle.input.specs.Calls.{read_list, read_set, read_map}
use Rattle.input.proofs.Gate.{is_sound}
use Rattle.input.proofs.Refusals.{Told, items_head_told, pairs_head_told}
use Rattle.input.proofs.Laws.{number_of, agree, read_well, read_lost, Landed, landed}
use Rattle.input.proofs.Each.{num_list, num_map}

-- what a missed byte is in an input that a state reads
abbrev pub lacking : List ℕ → State → ℕ
lacking t st = missing (ltb (cut_of st) (length t)) END

-- a call by a fair reader
module _ {A : Type 0} (p : State → Reader A) (move : State → A → State) (fair : (st : State) → Fair (p st)) (told : (st : State) → Told (p st)) (s t : List ℕ) (st : State) where
  module _ (l : Landed cut_of p move s st) (agrees : take l.end t ≡ take l.end s) where
    abbrev at : ℕ
    at = st.place.0

    abbrev cut : ℕ
    cut = cut_of st

    -- what was found up to the cut
    was : Cut (p st) s cut at l.value l.end
    was = let q = is_sound (length s) st l.is_sound in was_cut (p st) s cut at l.value l.end (fair st) q.before q.here l.stood

    other_found : (read_to (p st) t cut at ≡ got l.value l.end) ⊎ (read_to (p st) t cut at ≡ refused (lacking t st))
    unfolding read_to read_at
    other_found =
        let same-near : take l.end (take cut t) ≡ take l.end (take cut s) = take-take l.end cut t was.before ∙ agrees ∙ sym (take-take l.end cut s was.before) in
        let told_here : Found A → Found A = λ x. missed (ltb cut (length t)) (placed at x) in
        ⊎_elim (λ e. inl (ap told_here e ∙ ap (got l.value) was.all)) (λ e. inr (ap told_here e))
        ((fair st).other (drop at (take cut s)) (drop at (take cut t)) l.value was.used was.read (same_part at was.used l.end (take cut s) (take cut t) was.all same-near))

    sound_too : sound (length t) st ≡ true
    sound_too = agree s t st l.end l.is_sound (omega (arith, was.all)) was.inside agrees

    landed_other : (calls p move t st ≡ calls p move s st) ⊎ (calls p move t st ≡ declines (lacking t st) st)
    landed_other =
        ⊎_elim (λ e. inl (read_well cut_of p move t st sound_too l.free l.value l.end e ∙ sym l.is)) (λ e. inr (read_lost cut_of p move t st sound_too l.free (lacking t st) e)) other_found

  or_end : number_of (calls p move s st).said ≡ 0 → take (calls p move s st).state.place.0 t ≡ take (calls p move s st).state.place.0 s → (calls p move t st ≡ calls p move s st) ⊎ (calls p move t st ≡ declines (lacking t st) st)
  or_end z agrees =
      let l = landed cut_of p move s st (told st) z in
      let e : (calls p move s st).state.place.0 ≡ l.end = ap (λ (o : Outcome A). o.state.place.0) l.is in
      landed_other l (rw e at agrees)

-- in the words of each call
told_by : {A B : Type 0} (out : A → B) (x y z : A) → (x ≡ y) ⊎ (x ≡ z) → (out x ≡ out y) ⊎ (out x ≡ out z)
told_by out x y z s = ⊎_elim (λ e. inl (ap out e)) (λ e. inr (ap out e)) s

module _ (s t : List ℕ) (st : State) where
  pub list_or_end : number_list (read_list s st).answer ≡ 0 → take (read_list s st).state.place.0 t ≡ take (read_list s st).state.place.0 s → (read_list t st ≡ read_list s st) ⊎ (read_list t st ≡ as_list (declines (lacking t st) st))
  unfolding read_list
  list_or_end z agrees =
      told_by as_list _ _ _ (or_end (λ st. items_head st.limits) stays (λ st. items_head_fair st.limits) (λ st. items_head_told st.limits) s t st (sym (num_list (calls (λ st. items_head st.limits) stays s st).said) ∙ z) agrees)

  pub set_or_end : number_list (read_set s st).answer ≡ 0 → take (read_set s st).state.place.0 t ≡ take (read_set s st).state.place.0 s → (read_set t st ≡ read_set s st) ⊎ (read_set t st ≡ as_list (declines (lacking t st) st))
  unfolding read_set
  set_or_end z agrees =
      told_by as_list _ _ _ (or_end (λ st. items_head st.limits) stays (λ st. items_head_fair st.limits) (λ st. items_head_told st.limits) s t st (sym (num_list (calls (λ st. items_head st.limits) stays s st).said) ∙ z) agrees)

  pub map_or_end : number_map (read_map s st).answer ≡ 0 → take (read_map s st).state.place.0 t ≡ take (read_map s st).state.place.0 s → (read_map t st ≡ read_map s st) ⊎ (read_map t st ≡ as_map (declines (lacking t st) st))
  unfolding read_map
  map_or_end z agrees =
      told_by as_map _ _ _ (or_end (λ st. pairs_head st.limits) stays (λ st. pairs_head_fair st.limits) (λ st. pairs_head_told st.limits) s t st (sym (num_map (calls (λ st. pairs_head st.limits) stays s st).said) ∙ z) agrees)
