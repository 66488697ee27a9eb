-- What the customer asks of the calls, whatever bursts a frame's bytes come in. Assumes nothing.
use mathlib.Core.Path.{◌≡◌, refl, sym, ap, subst, ◌∙◌}
use mathlib.Core.Bool.{Bool, true, false}
use mathlib.Core.List.{List, [], ◌∷◌, ◌++◌, append_assoc, append-nil}
use Prim.Native.Nat.{ℕ, ◌+◌, ◌-◌, ◌≤◌}
use native.Mathlib.Omega.{arith}
use lib.Dec.{ltb}
use lib.ListN.{length}
use Rattle.types.specs.Refusals.{END}
use Rattle.types.specs.Limits.{in_range}
use Rattle.types.specs.declared.TType.TheVariants as T
use Rattle.types.specs.declared.TConfiguration.{TConfiguration}
use Rattle.skip.specs.Skip.{skip_to}
use Rattle.skip.specs.declared.Skipped.{Skipped}
use Rattle.skip.specs.declared.Skipped.TheVariants.{Done, Refused}
use Rattle.frame.specs.declared.Nest.{Nest}
use Rattle.frame.specs.declared.Now.{Now}
use Rattle.frame.specs.declared.Now.TheVariants as N
use Rattle.frame.specs.declared.FrameSkip.{FrameSkip}
use Rattle.frame.specs.declared.FrameAnswer.{FrameAnswer}
use Rattle.frame.specs.declared.FrameAnswer.TheVariants as A
use Rattle.frame.specs.declared.Taken.{Taken}
use Rattle.frame.specs.Ask.{Told, ends, refuses, waits}
use Rattle.frame.specs.Plans.{Passed}
use Rattle.frame.specs.Frame.{cut_of, missed, frame}
use Rattle.frame.specs.Machine.{Run, ran, tells, start}
use Rattle.frame.specs.State.{held, rest_now, rest_of, run_of, sound_of, answer_now, answer_of, bad_state, closed_now, close_of, shut_of, Begins, Took, Standing}
use Rattle.frame.proofs.Runs.{ran_cut, machine_frame}
use Rattle.frame.proofs.Sounds.{Counted, say_counts, in_counts, in_range_lem, stands_sound}
use Rattle.frame.proofs.Calls.{cut_most, cut_behind, more_behind}
use Rattle.frame.proofs.Asks.{Stays}
use Rattle.frame.proofs.Theorems.{skip_told, whole, final}

-- what a frame tells, as a call's answer; and skip's
abbrev pub as_answer : Told Passed → FrameAnswer
as_answer waits = A.More
as_answer (ends u n) = A.Done n
as_answer (refuses why) = A.Refused why

abbrev pub skip_answer : Skipped → FrameAnswer
skip_answer (Done e) = A.Done e.0
skip_answer (Refused why) = A.Refused why

skip_as : (x : Skipped) → as_answer (skip_told x) ≡ skip_answer x
skip_as (Done e) = refl
skip_as (Refused why) = refl

-- what is final stays
same_answer : (x y : Told Passed) → Stays x y → (as_answer x ≡ A.More → ⊥) → y ≡ x
same_answer (ends u n) y e m = e
same_answer (refuses why) y e m = e
same_answer waits y e m = absurd (m refl)

-- what closing makes of an answer
abbrev pub closed_answer : FrameAnswer → FrameAnswer
closed_answer A.More = A.Refused END
closed_answer (A.Done n) = A.Done n
closed_answer (A.Refused why) = A.Refused why

closed_is : (f : FrameSkip) (a : FrameAnswer) → (closed_now f a).answer ≡ closed_answer a
closed_is f A.More = refl
closed_is f (A.Done n) = refl
closed_is f (A.Refused why) = refl

told_answer : (more : Bool) (taken : ℕ) (ls : List Nest) (body : ℕ) (n : Now) → answer_now more taken n ≡ as_answer (missed more (tells taken (rest_now ls body n)))
told_answer more taken ls body (N.Asks w) = refl
told_answer more taken ls body (N.Done n) = refl
told_answer more taken ls body (N.Refused why) = refl

-- a sound state stays sound
pub stays_sound : (f : FrameSkip) (cs : List ℕ) (r : Taken) → sound_of f ≡ true → Took f cs r → sound_of r.state ≡ true
stays_sound f cs r s t =
    let w = t.well s in
    let c = in_counts f s in
    let z = w.stands.sum in
    stands_sound r.state (f.taken + f.left) (ap in_range w.limits ∙ in_range_lem f s)
    (subst (λ (x : TConfiguration). Counted x.message r.state.left r.state.taken r.state.behind) (sym w.limits)
    (subst (λ (n : ℕ). Counted f.limits.message r.state.left r.state.taken n) (sym w.behind)
    record { sum = let y = c.sum in omega arith; cut = λ n. let y = c.cut n in omega arith }))
    (subst (λ (x : TConfiguration). Standing x (f.taken + f.left) r.state.left r.state.taken r.state.stand) (sym w.limits) w.stands)

module _ (lim : TConfiguration) (announced : ℕ) where
  -- a frame of the announced length that has been handed these bytes, in whatever bursts
  pub record Has (bs : List ℕ) (f : FrameSkip) : Type 0 where
    pub limits : f.limits ≡ lim
    pub behind : f.behind ≡ announced - cut_of lim announced
    pub run : run_of f ≡ ran lim (cut_of lim announced) 0 (start lim (cut_of lim announced)) bs
    pub sound : sound_of f ≡ true

  -- it answers what the frame tells
  pub answers_frame : (bs : List ℕ) (f : FrameSkip) → Has bs f → answer_of f ≡ as_answer (frame lim announced bs)
  unfolding answer_of run_of rest_of
  answers_frame bs f h =
      told_answer (ltb 0 f.behind) f.taken (held f.stand.levels f.stand.depth) f.stand.body f.stand.rest.0
      ∙ ap (λ (n : ℕ). as_answer (missed (ltb 0 n) (tells (run_of f).taken (run_of f).rest))) h.behind
      ∙ ap (λ (b : Bool). as_answer (missed b (tells (run_of f).taken (run_of f).rest))) (more_behind lim announced)
      ∙ ap (λ (r : Run). as_answer (missed (ltb lim.message announced) (tells r.taken r.rest))) h.run
      ∙ ap as_answer (sym (machine_frame lim announced bs))

  -- nothing has come at first
  pub has_none : (f : FrameSkip) → in_range lim ≡ true → Begins lim announced f → Has [] f
  unfolding ran run_of
  has_none f i b =
      record {
        limits = b.limits;
        behind = b.behind i;
        run = b.run i;
        sound =
            let l : f.left ≡ cut_of lim announced = ap (λ (r : Run). r.left) (b.run i) in
            let t : f.taken ≡ 0 = ap (λ (r : Run). r.taken) (b.run i) in
            let m = cut_most lim announced in
            stands_sound f (cut_of lim announced) (ap in_range b.limits ∙ i)
            (subst (λ (x : TConfiguration). Counted x.message f.left f.taken f.behind) (sym b.limits)
            record { sum = omega arith; cut = λ z. let q = cut_behind lim announced (λ y. z (b.behind i ∙ y)) in omega arith })
            (subst (λ (x : TConfiguration). Standing x (cut_of lim announced) f.left f.taken f.stand) (sym b.limits) (b.stands i));
      }

  -- and each burst adds its bytes
  pub has_more : (bs cs : List ℕ) (f : FrameSkip) (r : Taken) → Has bs f → Took f cs r → Has (bs ++ cs) r.state
  unfolding run_of
  has_more bs cs f r h t =
      let w = t.well h.sound in
      record {
        limits = w.limits ∙ h.limits;
        behind = w.behind ∙ h.behind;
        run =
            w.run
            ∙ ap (λ (x : TConfiguration). ran x f.left f.taken (rest_of f.stand) cs) h.limits
            ∙ ap (λ (x : Run). ran lim x.left x.taken x.rest cs) h.run
            ∙ sym (ran_cut lim bs cs (cut_of lim announced) 0 (start lim (cut_of lim announced)));
        sound = stays_sound f cs r h.sound t;
      }

  -- so a call answers what skip, knowing the announced length, tells over all that has come
  pub take_answers : (bs cs : List ℕ) (f : FrameSkip) (r : Taken) → Has bs f → Took f cs r → r.answer ≡ as_answer (frame lim announced (bs ++ cs))
  take_answers bs cs f r h t = (t.well h.sound).answer ∙ answers_frame (bs ++ cs) r.state (has_more bs cs f r h t)

-- bursts, one after the other: where they lead from one state
abbrev pub joined : List (List ℕ) → List ℕ
joined [] = []
joined (bs ∷ bss) = bs ++ joined bss

abbrev pub Fed : FrameSkip → List (List ℕ) → FrameSkip → Type 0
Fed f [] g = f ≡ g
Fed f (bs ∷ bss) g = (r : Taken) × Took f bs r × Fed r.state bss g

module _ (lim : TConfiguration) (announced : ℕ) where
  fed : (bss : List (List ℕ)) (bs : List ℕ) (f g : FrameSkip) → Has lim announced bs f → Fed f bss g → Has lim announced (bs ++ joined bss) g
  fed [] bs f g h e = subst (λ (x : List ℕ). Has lim announced x g) (sym (append-nil bs)) (subst (Has lim announced bs) e h)
  fed (cs ∷ bss) bs f g h (r, t, e) =
      subst (λ (x : List ℕ). Has lim announced x g) (append_assoc bs cs (joined bss)) (fed bss (bs ++ cs) r.state g (has_more lim announced bs cs f r h t) e)

  module _ (i : in_range lim ≡ true) (f : FrameSkip) (b : Begins lim announced f) (bss : List (List ℕ)) (g : FrameSkip) (e : Fed f bss g) where
    pub has_all : Has lim announced (joined bss) g
    has_all = fed bss [] f g (has_none lim announced f i b) e

    -- whatever the bursts, the answer is the frame's over the bytes that have come
    pub however_cut : (cs : List ℕ) (r : Taken) → Took g cs r → r.answer ≡ as_answer (frame lim announced (joined bss ++ cs))
    however_cut cs r t = take_answers lim announced (joined bss) cs g r has_all t

    -- "However a frame of the announced length is cut, the final answer and bytes used are those of skip over the whole frame"
    pub whole_cut : (cs : List ℕ) (r : Taken) → Took g cs r → length (joined bss ++ cs) ≡ announced → r.answer ≡ skip_answer (skip_to (joined bss ++ cs) lim.message lim lim.depth T.Struct 0)
    whole_cut cs r t n =
        however_cut cs r t
        ∙ ap (λ (l : ℕ). as_answer (frame lim l (joined bss ++ cs))) (sym n)
        ∙ ap as_answer (whole lim (joined bss ++ cs))
        ∙ skip_as (skip_to (joined bss ++ cs) lim.message lim lim.depth T.Struct 0)

    -- an answer that comes early is skip's on every completion to the announced length
    pub early : (cs ds : List ℕ) (r : Taken) → Took g cs r → (r.answer ≡ A.More → ⊥) → length ((joined bss ++ cs) ++ ds) ≡ announced → skip_answer (skip_to ((joined bss ++ cs) ++ ds) lim.message lim lim.depth T.Struct 0) ≡ r.answer
    early cs ds r t m n =
        let a = however_cut cs r t in
        let bs : List ℕ = joined bss ++ cs in
        sym (ap (λ (l : ℕ). as_answer (frame lim l (bs ++ ds))) (sym n) ∙ ap as_answer (whole lim (bs ++ ds)) ∙ skip_as (skip_to (bs ++ ds) lim.message lim lim.depth T.Struct 0))
        ∙ ap as_answer (same_answer (frame lim announced bs) (frame lim announced (bs ++ ds)) (final lim announced bs ds) (λ z. m (a ∙ z)))
        ∙ sym a

    -- "Closing early gives END unless a refusal came before"
    pub closes : (close_of g).answer ≡ closed_answer (as_answer (frame lim announced (joined bss)))
    unfolding close_of
    closes = rw has_all.sound (closed_is g (answer_of g) ∙ ap closed_answer (answers_frame lim announced (joined bss) g has_all))

-- "Bytes past that length are not taken": never more than the announced length, nor than the ceiling
pub takes_most : (f : FrameSkip) (cs : List ℕ) (r : Taken) → sound_of f ≡ true → Took f cs r → r.state.taken ≤ f.taken + f.left
takes_most f cs r s t = let z = (t.well s).stands.sum in omega arith

-- "after a final answer further bursts change nothing"
pub final_stays : (f : FrameSkip) (cs : List ℕ) (r : Taken) → sound_of f ≡ true → (answer_of f ≡ A.More → ⊥) → Took f cs r → r ≡ record { answer = answer_of f; state = f }
final_stays f cs r s n t = t.kept s n

-- "BAD STATE hands the state back as given"
pub bad_stays : (f : FrameSkip) (cs : List ℕ) (r : Taken) → sound_of f ≡ false → Took f cs r → r ≡ bad_state f
bad_stays f cs r s t = t.bad s

pub bad_closes : (f : FrameSkip) → sound_of f ≡ false → close_of f ≡ bad_state f
unfolding close_of
bad_closes f s = rw s

-- limits out of range make a state that every call refuses
pub bad_limits : (lim : TConfiguration) (announced : ℕ) (f : FrameSkip) → in_range lim ≡ false → Begins lim announced f → sound_of f ≡ false
unfolding sound_of
bad_limits lim announced f i b = rw (b.limits, i)

-- a closed frame is sound, and its answer is final: it stays what closing answered
module _ (f : FrameSkip) (s : sound_of f ≡ true) where
  shut_sound : sound_of (shut_of f) ≡ true
  unfolding sound_of
  shut_sound =
      let c = in_counts f s in
      rw (in_range_lem f s, say_counts f.limits.message f.left f.taken 0 record { sum = c.sum; cut = λ n. absurd (n refl) })

  after : (a : FrameAnswer) → answer_of f ≡ a → (sound_of (closed_now f a).state ≡ true) × (answer_of (closed_now f a).state ≡ (closed_now f a).answer)
  unfolding answer_of
  after A.More e = (shut_sound, refl)
  after (A.Done n) e = (s, e)
  after (A.Refused why) e = (s, e)

  pub closed_sound : sound_of (close_of f).state ≡ true
  unfolding close_of
  closed_sound = rw s (after (answer_of f) refl).0

  pub closed_final : answer_of (close_of f).state ≡ (close_of f).answer
  unfolding close_of
  closed_final = rw s (after (answer_of f) refl).1
