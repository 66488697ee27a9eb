-- The tests of a state: what each answers at its returns, and what a state that passes has. Assumes nothing.
use mathlib.Core.Path.{◌≡◌, ap, subst, ◌∙◌}
use mathlib.Core.Bool.{Bool, true, false}
use mathlib.Core.List.{List}
use Prim.Native.Nat.{ℕ, ◌+◌, ◌-◌, ◌≤◌, ◌<◌}
use native.Mathlib.Omega.{arith}
use borrow.Author.Tests.{eq-eqb, ne_eqb, lt-ltb, le-ltb, le-leb, lt-leb}
use lib.Dec.{leb, ltb, eqb}
use Rattle.types.specs.declared.TConfiguration.{TConfiguration}
use Rattle.types.specs.declared.TType.{TType}
use Rattle.types.specs.declared.FieldId.{FieldId}
use Rattle.frame.specs.declared.Nest.{Nest}
use Rattle.frame.specs.declared.Nest.TheVariants.{Fields, Items, Keys, Values}
use Rattle.frame.specs.declared.Level.{Level}
use Rattle.frame.specs.declared.Part.{Part}
use Rattle.frame.specs.declared.Goal.{Goal}
use Rattle.frame.specs.declared.Goal.TheVariants as O
use Rattle.frame.specs.declared.Wait.{Wait}
use Rattle.frame.specs.declared.Wait.TheVariants as W
use Rattle.frame.specs.declared.Now.TheVariants as N
use Rattle.frame.specs.declared.FrameSkip.{FrameSkip}
use Rattle.frame.specs.declared.FrameAnswer.TheVariants as A
use Rattle.types.specs.Limits.{in_range}
use Rattle.types.specs.Refusals.{END, BAD_TYPE, DEPTH, RANGE}
use Rattle.heads.specs.Reader.{missing}
use mir.Syntax.{w64}
use mir.Val.{Fits}
use Rattle.frame.specs.State.{nest_at, held, rest_now, rest_of, goal_need, need, ready_by, waits_well, counts_well, is_refusal, sound_of, answer_of, Sound, Standing}

-- needs and ready
module _ (w : Wait) where
  pub need_head : w ≡ W.Head → 0 ≡ need w
  need_head e = rw e

  pub need_truth : w ≡ W.Truth → 0 ≡ need w
  need_truth e = rw e

  pub need_list : w ≡ W.List → 1 ≡ need w
  need_list e = rw e

  pub need_types : (n : ℕ) → w ≡ W.Types n → 1 ≡ need w
  need_types n e = rw e

  pub need_part : (g : Goal) (p : Part) (m : ℕ) → w ≡ W.Varint g p → m ≡ goal_need g → m ≡ need w
  need_part g p m e h = rw e h

  pub need_number : (k : ℕ) → w ≡ W.Number k → 0 ≡ need w
  need_number k e = rw e

pub ruleset need_cases = (need_head, need_truth, need_list, need_types, need_part, need_number)

-- goal_needs
module _ (g : Goal) where
  pub goal_flag : g ≡ O.Flag → 0 ≡ goal_need g
  goal_flag e = rw e

  pub goal_id : (t : TType) → g ≡ O.Id t → 0 ≡ goal_need g
  goal_id t e = rw e

  pub goal_count : (t : TType) → g ≡ O.Count t → 1 ≡ goal_need g
  goal_count t e = rw e

  pub goal_pairs : g ≡ O.Pairs → 1 ≡ goal_need g
  goal_pairs e = rw e

  pub goal_length : g ≡ O.Length → 0 ≡ goal_need g
  goal_length e = rw e

  pub goal_short : g ≡ O.Short → 0 ≡ goal_need g
  goal_short e = rw e

pub ruleset goal_cases = (goal_flag, goal_id, goal_count, goal_pairs, goal_length, goal_short)

module _ (top : Nest) (w : Wait) where
  pub ready_fields : (id : FieldId) → w ≡ W.Head → top ≡ Fields id → true ≡ ready_by top w
  unfolding ready_by
  ready_fields id e g = rw (e, g)

  pub ready_items : (t : TType) (n : ℕ) → w ≡ W.Head → top ≡ Items t n → false ≡ ready_by top w
  unfolding ready_by
  ready_items t n e g = rw (e, g)

  pub ready_keys : (k v : TType) (n : ℕ) → w ≡ W.Head → top ≡ Keys k v n → false ≡ ready_by top w
  unfolding ready_by
  ready_keys k v n e g = rw (e, g)

  pub ready_values : (k v : TType) (n : ℕ) → w ≡ W.Head → top ≡ Values k v n → false ≡ ready_by top w
  unfolding ready_by
  ready_values k v n e g = rw (e, g)

  pub ready_truth : w ≡ W.Truth → true ≡ ready_by top w
  unfolding ready_by
  ready_truth e = rw e

  pub ready_list : w ≡ W.List → true ≡ ready_by top w
  unfolding ready_by
  ready_list e = rw e

  pub ready_types : (n : ℕ) → w ≡ W.Types n → true ≡ ready_by top w
  unfolding ready_by
  ready_types n e = rw e

  pub ready_part : (g : Goal) (p : Part) → w ≡ W.Varint g p → leb p.groups 4 ≡ ready_by top w
  unfolding ready_by
  ready_part g p e = rw e

  pub ready_number : (k : ℕ) → w ≡ W.Number k → leb 1 k ≡ ready_by top w
  unfolding ready_by
  ready_number k e = rw e

pub ruleset ready_cases = (ready_fields, ready_items, ready_keys, ready_values, ready_truth, ready_list, ready_types, ready_part, ready_number)

-- waits_well
module _ (lim : TConfiguration) (left : ℕ) (rows : List Level) (d body : ℕ) (w : Wait) where
  pub well_none : d ≡ 0 → false ≡ waits_well lim left rows d body w
  unfolding waits_well
  well_none h = rw (eq-eqb d 0 h)

  module _ (h : d ≡ 0 → ⊥) where
    pub well_limit : 64 < lim.depth → false ≡ waits_well lim left rows d body w
    unfolding waits_well
    well_limit g = rw (ne_eqb d 0 h, lt-ltb 64 lim.depth g)

    module _ (g : lim.depth ≤ 64) where
      pub well_deep : lim.depth < d → false ≡ waits_well lim left rows d body w
      unfolding waits_well
      well_deep i = rw (ne_eqb d 0 h, le-ltb 64 lim.depth g, lt-ltb lim.depth d i)

      module _ (i : d ≤ lim.depth) (n : ℕ) (e : n ≡ need w) where
        pub well_room : lim.depth - d < n → false ≡ waits_well lim left rows d body w
        unfolding waits_well
        well_room j = rw (ne_eqb d 0 h, le-ltb 64 lim.depth g, le-ltb lim.depth d i, lt-ltb (lim.depth - d) (need w) (subst (λ (x : ℕ). lim.depth - d < x) e j))

        module _ (j : n ≤ lim.depth - d) where
          pub well_left : left ≤ body → false ≡ waits_well lim left rows d body w
          unfolding waits_well
          well_left k = rw (ne_eqb d 0 h, le-ltb 64 lim.depth g, le-ltb lim.depth d i, le-ltb (lim.depth - d) (need w) (subst (λ (x : ℕ). x ≤ lim.depth - d) e j), le-leb left body k)

          pub well_ready : (r : Bool) → body < left → r ≡ ready_by (nest_at rows (d - 1)) w → r ≡ waits_well lim left rows d body w
          unfolding waits_well
          well_ready r k f = rw (ne_eqb d 0 h, le-ltb 64 lim.depth g, le-ltb lim.depth d i, le-ltb (lim.depth - d) (need w) (subst (λ (x : ℕ). x ≤ lim.depth - d) e j), lt-leb left body k) f

pub ruleset well_cases = (well_none, well_limit, well_deep, well_room, well_left, well_ready)

-- counts_well
module _ (most left taken behind : ℕ) where
  pub counts_left : most < left → false ≡ counts_well most left taken behind
  unfolding counts_well
  counts_left h = rw (lt-leb left most h)

  module _ (h : left ≤ most) where
    pub counts_taken : most - left < taken → false ≡ counts_well most left taken behind
    unfolding counts_well
    counts_taken g = rw (le-leb left most h, lt-leb taken (most - left) g)

    module _ (g : taken ≤ most - left) where
      pub counts_last : behind ≡ 0 → true ≡ counts_well most left taken behind
      unfolding counts_well
      counts_last e = rw (le-leb left most h, le-leb taken (most - left) g, eq-eqb behind 0 e)

      pub counts_cut : (behind ≡ 0 → ⊥) → eqb taken (most - left) ≡ counts_well most left taken behind
      unfolding counts_well
      counts_cut e = rw (le-leb left most h, le-leb taken (most - left) g, ne_eqb behind 0 e)

pub ruleset counts_cases = (counts_left, counts_taken, counts_last, counts_cut)

-- is_refusal
module _ (why : ℕ) where
  pub refusal_end : why ≡ END → true ≡ is_refusal why
  refusal_end e = rw (eq-eqb why END e)

  module _ (h : why ≡ END → ⊥) where
    pub refusal_range : why ≡ RANGE → true ≡ is_refusal why
    refusal_range e = rw (ne_eqb why END h, eq-eqb why RANGE e)

    module _ (g : why ≡ RANGE → ⊥) where
      pub refusal_most : BAD_TYPE ≤ why → leb why DEPTH ≡ is_refusal why
      refusal_most i = rw (ne_eqb why END h, ne_eqb why RANGE g, le-leb BAD_TYPE why i)

      pub refusal_least : why < BAD_TYPE → false ≡ is_refusal why
      refusal_least i = rw (ne_eqb why END h, ne_eqb why RANGE g, lt-leb BAD_TYPE why i)

pub ruleset refusal_cases = (refusal_end, refusal_range, refusal_most, refusal_least)

-- is_sound
module _ (f : FrameSkip) where
  pub sound_limits : (ok : Bool) → ok ≡ in_range f.limits → ok ≡ false → false ≡ sound_of f
  unfolding sound_of
  sound_limits ok e g = rw (← e, g)

  module _ (ok : Bool) (e : ok ≡ in_range f.limits) (g : ok ≡ true) (well : Bool) (h : well ≡ counts_well f.limits.message f.left f.taken f.behind) where
    pub sound_sum : well ≡ false → false ≡ sound_of f
    unfolding sound_of
    sound_sum i = rw (← e, g, ← h, i)

    module _ (i : well ≡ true) where
      pub sound_asks : (w : Wait) (r : Bool) → f.stand.rest.0 ≡ N.Asks w → r ≡ waits_well f.limits f.left f.stand.levels f.stand.depth f.stand.body w → r ≡ sound_of f
      unfolding sound_of
      sound_asks w r k j = j ∙ rw (← e, g, ← h, i, k)

      pub sound_done : (n : ℕ) → f.stand.rest.0 ≡ N.Done n → leb n f.left ≡ sound_of f
      unfolding sound_of
      sound_done n k = rw (← e, g, ← h, i, k)

      pub sound_refused : (why : ℕ) (r : Bool) → f.stand.rest.0 ≡ N.Refused why → r ≡ is_refusal why → r ≡ sound_of f
      unfolding sound_of
      sound_refused why r k j = j ∙ rw (← e, g, ← h, i, k)

pub ruleset sound_cases = (sound_limits, sound_sum, sound_asks, sound_done, sound_refused)

-- answer
module _ (f : FrameSkip) where
  pub answer_more : (w : Wait) → f.stand.rest.0 ≡ N.Asks w → A.More ≡ answer_of f
  unfolding answer_of
  answer_more w e = rw e

  pub answer_done : (n : ℕ) → f.stand.rest.0 ≡ N.Done n → A.Done (f.taken + n) ≡ answer_of f
  unfolding answer_of
  answer_done n e = rw e

  pub answer_refused : (why n : ℕ) → f.stand.rest.0 ≡ N.Refused why → n ≡ missing (ltb 0 f.behind) why → A.Refused n ≡ answer_of f
  unfolding answer_of
  answer_refused why n e g = rw e (ap (λ (i : ℕ). A.Refused i) g)

  pub answer_fits : (n : ℕ) → f.stand.rest.0 ≡ N.Done n → Standing f.limits (f.taken + f.left) f.left f.taken f.stand → Fits w64 (f.taken + n)
  unfolding rest_of Sound
  answer_fits n e s =
      let h : n ≤ f.left = subst (Sound f.left) (ap (rest_now (held f.stand.levels f.stand.depth) f.stand.body) e) s.sound in
      record { fits = omega (arith, s.fits) }

pub ruleset answer_cases = (answer_more, answer_done, answer_refused, answer_fits)
