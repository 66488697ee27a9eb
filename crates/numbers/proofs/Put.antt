-- What a writer answers and leaves, with room and without; a loop that stores bytes one by one. Assumes nothing.
use Rattle.std.proofs.Common.{◌≡◌, ℕ, suc, ◌+◌, ◌<◌, ◌≤◌, Bool, true, false, ltb, List, [], ◌∷◌, ◌++◌, length, take, drop, set, sym, refl, ap, ◌∙◌, append_assoc, add-zero, add-suc, suc-add, add-one, arith, length-append, length-set, length-take-le, take_at, drop_at, ltb-false, ltb-true, le-ltb, lt-ltb}
use lib.Seq.{sets, sets-eq, length-sets}
use Rattle.types.specs.Refusals.{NO_ROOM}
use Rattle.numbers.specs.Answers.{put_at, wrote_at}
use Rattle.numbers.specs.declared.Wrote.TheVariants as W
use Rattle.numbers.proofs.Found.{by_lt, zero_one}

module _ (buf : List ℕ) (at : ℕ) (bs : List ℕ) where
  module _ (h : at + length bs ≤ length buf) where
    pub wrote_to : W.To (at + length bs) ≡ wrote_at buf at bs
    unfolding wrote_at
    wrote_to = rw (le-ltb _ _ h)

    pub put_in : sets buf at bs ≡ put_at buf at bs
    unfolding put_at
    put_in = rw (le-ltb _ _ h)

    -- the bytes stand at their place
    pub put_drop : drop at (put_at buf at bs) ≡ bs ++ drop (at + length bs) buf
    put_drop =
        rw (← put_in, sets-eq bs buf at h, append_assoc, drop_at (take at buf) (bs ++ drop (at + length bs) buf) at (length-take-le at buf (omega arith)))

  module _ (h : length buf < at + length bs) where
    pub wrote_not : W.Refused NO_ROOM ≡ wrote_at buf at bs
    unfolding wrote_at
    wrote_not = rw (lt-ltb _ _ h)

    pub put_not : buf ≡ put_at buf at bs
    unfolding put_at
    put_not = rw (lt-ltb _ _ h)

-- what the test for room tells
module _ (short : Bool) (have at need : ℕ) (e : short ≡ ltb have (at + need)) where
  pub roomy : short ≡ false → at + need ≤ have
  roomy f = ltb-false have (at + need) (sym e ∙ f)

  pub scant : short ≡ true → have < at + need
  scant f = ltb-true have (at + need) (sym e ∙ f)

-- bs go into buf₀ at a place; those before p are in buf, and left are the others
pub record Storing (buf₀ : List ℕ) (at : ℕ) (bs buf : List ℕ) (p : ℕ) (left : List ℕ) : Type 0 where
  pub room : at + length bs ≤ length buf₀
  pub same : length buf ≡ length buf₀
  pub ends : p + length left ≡ at + length bs
  pub puts : sets buf p left ≡ sets buf₀ at bs

pub storing : (buf : List ℕ) (at : ℕ) (bs : List ℕ) → at + length bs ≤ length buf → Storing buf at bs buf at bs
storing buf at bs h = record { room = h; same = refl; ends = refl; puts = refl }

module _ {buf₀ : List ℕ} {at : ℕ} {bs buf : List ℕ} {p : ℕ} {left : List ℕ} (st : Storing buf₀ at bs buf p left) where
  -- one store
  module _ (b : ℕ) (rest : List ℕ) (e : left ≡ b ∷ rest) where
    pub next_in : p < length buf
    next_in = omega (arith, ap length e, st.room, st.same, st.ends)

    pub stored : Storing buf₀ at bs (set buf p b) (p + 1) rest
    stored =
        record {
          room = st.room;
          same = simp length-set st.same;
          ends = omega (arith, ap length e, st.ends);
          puts = rw add-one (rw e at st.puts);
        }

  -- none is left
  module _ (e : left ≡ []) where
    pub all_to : W.To p ≡ wrote_at buf₀ at bs
    all_to = let q : p ≡ at + length bs = omega (arith, ap length e, st.ends) in rw q (wrote_to buf₀ at bs st.room)

    pub all_in : buf ≡ put_at buf₀ at bs
    all_in = (rw e at st.puts) ∙ put_in buf₀ at bs st.room

pub sets_append : (buf : List ℕ) (at : ℕ) (bs cs : List ℕ) → sets buf at (bs ++ cs) ≡ sets (sets buf at bs) (at + length bs) cs
sets_append buf at [] cs = rw add-zero
sets_append buf at (b ∷ bs) cs = sets_append (set buf at b) (suc at) bs cs ∙ rw (suc-add, add-suc)

not_to : {X : Type 0} {why p : ℕ} → W.Refused why ≡ W.To p → X
not_to e = zero_one (cc)

same_to : {p q : ℕ} → W.To p ≡ W.To q → q ≡ p
same_to e = cc

same_why : {p q : ℕ} → W.Refused p ≡ W.Refused q → q ≡ p
same_why e = cc

-- what an answer tells of the buffer: the bytes had room and are in it, or it is as it was
module _ (buf : List ℕ) (at : ℕ) (bs : List ℕ) where
  by_room_lem : {X : Type 0} → (length buf < at + length bs → X) → (at + length bs ≤ length buf → X) → X
  by_room_lem f g = by_lt (length buf) (at + length bs) f g

  pub length_put : length (put_at buf at bs) ≡ length buf
  length_put = by_room_lem (λ h. ap length (sym (put_not buf at bs h))) (λ h. ap length (sym (put_in buf at bs h)) ∙ length-sets buf at bs)

  pub to_end : (p : ℕ) → wrote_at buf at bs ≡ W.To p → p ≡ at + length bs
  to_end p e = by_room_lem (λ h. not_to (wrote_not buf at bs h ∙ e)) (λ h. same_to (wrote_to buf at bs h ∙ e))

  pub to_room : (p : ℕ) → wrote_at buf at bs ≡ W.To p → at + length bs ≤ length buf
  to_room p e = by_room_lem (λ h. not_to (wrote_not buf at bs h ∙ e)) (λ h. h)

  pub refused_kept : (why : ℕ) → wrote_at buf at bs ≡ W.Refused why → put_at buf at bs ≡ buf
  refused_kept why e = by_room_lem (λ h. sym (put_not buf at bs h)) (λ h. not_to (sym (wrote_to buf at bs h ∙ e)))

  pub refused_why : (why : ℕ) → wrote_at buf at bs ≡ W.Refused why → why ≡ NO_ROOM
  refused_why why e = by_room_lem (λ h. same_why (wrote_not buf at bs h ∙ e)) (λ h. not_to (sym (wrote_to buf at bs h ∙ e)))

  -- what stands before them stays
  pub put_take : at + length bs ≤ length buf → take at (put_at buf at bs) ≡ take at buf
  put_take h =
      rw (← put_in buf at bs h, sets-eq bs buf at h, append_assoc, take_at (take at buf) (bs ++ drop (at + length bs) buf) at (length-take-le at buf (omega arith)))

  -- some bytes and then others, behind them, are both at once
  pub put_put : (cs : List ℕ) → at + length (bs ++ cs) ≤ length buf → put_at (put_at buf at bs) (at + length bs) cs ≡ put_at buf at (bs ++ cs)
  put_put cs h =
      let l = length-append bs cs in
      let one : at + length bs ≤ length buf = omega arith in
      let two : at + length bs + length cs ≤ length (put_at buf at bs) = omega (arith, length_put) in
      sym (put_in (put_at buf at bs) (at + length bs) cs two)
      ∙ ap (λ (b : List ℕ). sets b (at + length bs) cs) (sym (put_in buf at bs one))
      ∙ sym (sets_append buf at bs cs)
      ∙ put_in buf at (bs ++ cs) h
