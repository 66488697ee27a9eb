-- A frame that comes in one burst: where skip passes over the whole of it, the machine's run comes to its end there. Assumes nothing.
use mathlib.Core.Path.{◌≡◌, refl, sym, ap, ap₂, subst, ◌∙◌}
use mathlib.Core.Bool.{Bool, true, false, cond}
use mathlib.Core.List.{List, [], ◌∷◌}
use Prim.Native.Nat.{ℕ, zero, suc, ◌+◌, ◌-◌, ◌≤◌, ◌<◌}
use native.Mathlib.Nat.{min-eq_left}
use native.Mathlib.Omega.{arith}
use native.Mathlib.Decide.{dec_lt}
use borrow.Author.Rules.{sfits_of}
use borrow.Author.Tests.{lt-ltb, le-ltb, eq-eqb, ne_eqb, eqb-true, eqb-false}
use lib.Dec.{eqb}
use lib.IntN.{ℤ, pos, negsuc}
use lib.ListN.{length, take, drop, length-take, take-append-drop}
use mir.Syntax.{w16}
use mir.Val.{SFits, to_z, of_z}
use mir.Facts.{to_z-of_z}
use Rattle.types.specs.declared.TType.TheVariants as T
use Rattle.types.specs.declared.TConfiguration.{TConfiguration}
use Rattle.types.specs.declared.Place.{Place}
use Rattle.types.specs.declared.FieldId.{FieldId}
use Rattle.types.specs.Value.{Tree}
use Rattle.numbers.specs.Varint as num
use Rattle.numbers.specs.Varint.{Found, placed}
use Rattle.heads.specs.Reader as r
use Rattle.heads.specs.Answers.{id_of}
use Rattle.skip.specs.Value.{value_of}
use Rattle.skip.specs.Skip.{passed, past, skip_of}
use Rattle.skip.specs.declared.Skipped.{Skipped}
use Rattle.skip.specs.declared.Skipped.TheVariants as K
use Rattle.frame.specs.declared.Nest.{Nest}
use Rattle.frame.specs.declared.Nest.TheVariants.{Fields, Items, Keys, Values}
use Rattle.frame.specs.declared.Wait.{Wait}
use Rattle.frame.specs.declared.Wait.TheVariants as W
use Rattle.frame.specs.declared.Now.{Now}
use Rattle.frame.specs.declared.Now.TheVariants as N
use Rattle.frame.specs.declared.Stand.{Stand}
use Rattle.frame.specs.declared.Progress.{Progress}
use Rattle.frame.specs.Ask.{Told, ends, refuses, waits, told}
use Rattle.frame.specs.Plans.{Passed, skip_plan}
use Rattle.frame.specs.Machine.{Rest, asks, ended, stopped, Run, running, ran, tells, start}
use Rattle.frame.specs.State.{nest_at, held, rest_now, rest_of, Sound, Deep, Standing, progress_of, ran_to, is_none, is_first, is_head, is_start, used_by, whole_of, ends_at}
use Rattle.frame.proofs.Tied.{as_told}
use Rattle.frame.proofs.Theorems.{skip_told, behind_none}
use Rattle.frame.proofs.Runs.{machine_tells, start_sound}
use Rattle.frame.proofs.Ground.{Ground, start_ground, ran_ground, ran_sum}

never : {A : Type 0} → false ≡ true → A
never e = let z : ◌≡◌ {A = ℕ} 0 1 = cc in absurd (omega arith)

-- the tests
-- no bits are set of no id
none_is : (z : ℤ) → is_none z ≡ true → z ≡ pos 0
none_is (pos zero) e = refl
none_is (pos (suc n)) e = never e
none_is (negsuc n) e = never e

is_none_lem : is_none (pos 0) ≡ true
is_none_lem = refl

no_bits : (z : ℤ) → SFits w16 z → of_z w16 z ≡ 0 → is_none z ≡ true
no_bits z f e = let q : z ≡ pos 0 = sym (to_z-of_z f) ∙ ap (to_z w16) e in rw q

some_bits : (z : ℤ) → (of_z w16 z ≡ 0 → ⊥) → is_none z ≡ false
some_bits (pos zero) h = absurd (h refl)
some_bits (pos (suc n)) h = refl
some_bits (negsuc n) h = refl

bits_none : (z : ℤ) → SFits w16 z → eqb (of_z w16 z) 0 ≡ is_none z
bits_none z f = go (eqb (of_z w16 z) 0) refl
  where
    go : (b : Bool) → eqb (of_z w16 z) 0 ≡ b → b ≡ is_none z
    go true e = sym (no_bits z f (eqb-true (of_z w16 z) 0 e))
    go false e = sym (some_bits z (eqb-false (of_z w16 z) 0 e))

module _ (top : Nest) where
  pub first_fields : (id : FieldId) (n : ℕ) (y : ℤ) → top ≡ Fields id → SFits w16 id.0 → n ≡ of_z w16 y → y ≡ id.0 → eqb n 0 ≡ is_first top
  unfolding is_first
  first_fields id n y e f g h = rw (e, g, h) (bits_none id.0 f)

  pub first_items : (t : _) (n : ℕ) → top ≡ Items t n → false ≡ is_first top
  unfolding is_first
  first_items t n e = rw e

  pub first_keys : (k v : _) (n : ℕ) → top ≡ Keys k v n → false ≡ is_first top
  unfolding is_first
  first_keys k v n e = rw e

  pub first_values : (k v : _) (n : ℕ) → top ≡ Values k v n → false ≡ is_first top
  unfolding is_first
  first_values k v n e = rw e

pub ruleset firsts = (first_fields, first_items, first_keys, first_values, to_z-of_z, sfits_of)

module _ (n : Now) where
  module _ (w : Wait) (e : n ≡ N.Asks w) where
    pub head_head : w ≡ W.Head → true ≡ is_head n
    unfolding is_head
    head_head f = rw (e, f)

    pub head_truth : w ≡ W.Truth → false ≡ is_head n
    unfolding is_head
    head_truth f = rw (e, f)

    pub head_list : w ≡ W.List → false ≡ is_head n
    unfolding is_head
    head_list f = rw (e, f)

    pub head_types : (k : ℕ) → w ≡ W.Types k → false ≡ is_head n
    unfolding is_head
    head_types k f = rw (e, f)

    pub head_varint : (g : _) (p : _) → w ≡ W.Varint g p → false ≡ is_head n
    unfolding is_head
    head_varint g p f = rw (e, f)

    pub head_number : (k : ℕ) → w ≡ W.Number k → false ≡ is_head n
    unfolding is_head
    head_number k f = rw (e, f)

  pub head_done : (k : ℕ) → n ≡ N.Done k → false ≡ is_head n
  unfolding is_head
  head_done k e = rw e

  pub head_refused : (why : ℕ) → n ≡ N.Refused why → false ≡ is_head n
  unfolding is_head
  head_refused why e = rw e

pub ruleset heads = (head_head, head_truth, head_list, head_types, head_varint, head_number, head_done, head_refused)

module _ (depth body : ℕ) (top : Nest) (n : Now) where
  pub start_depth : (depth ≡ 1 → ⊥) → false ≡ is_start depth body top n
  unfolding is_start
  start_depth h = rw (ne_eqb depth 1 h)

  module _ (d : depth ≡ 1) where
    pub start_body : (body ≡ 0 → ⊥) → false ≡ is_start depth body top n
    unfolding is_start
    start_body h = rw (eq-eqb depth 1 d, ne_eqb body 0 h)

    module _ (b : body ≡ 0) (ok : Bool) (e : ok ≡ is_head n) where
      pub start_first : (x : Bool) → ok ≡ true → x ≡ is_first top → x ≡ is_start depth body top n
      unfolding is_start
      start_first x h f = rw (eq-eqb depth 1 d, eq-eqb body 0 b, ← e, h) f

      pub start_other : ok ≡ false → false ≡ is_start depth body top n
      unfolding is_start
      start_other h = rw (eq-eqb depth 1 d, eq-eqb body 0 b, ← e, h)

pub ruleset starts = (start_depth, start_body, start_first, start_other)

module _ (lim : TConfiguration) (left : ℕ) (bs : List ℕ) where
  pub whole_short : length bs < left → 0 ≡ whole_of lim left bs
  unfolding whole_of
  whole_short h = rw (lt-ltb (length bs) left h)

  module _ (h : left ≤ length bs) (x : Skipped) (e : x ≡ skip_of (take left bs) lim lim.depth T.Struct 0) where
    pub whole_done : (p : Place) → x ≡ K.Done p → p.0 ≡ whole_of lim left bs
    unfolding whole_of
    whole_done p f = rw (le-ltb (length bs) left h, ← e, f)

    pub whole_refused : (why : ℕ) → x ≡ K.Refused why → 0 ≡ whole_of lim left bs
    unfolding whole_of
    whole_refused why f = rw (le-ltb (length bs) left h, ← e, f)

  pub take_counts : left ≤ length bs → left ≡ length (take left bs)
  take_counts h = sym (length-take left bs ∙ min-eq_left h)

pub ruleset wholes = (whole_short, whole_done, whole_refused, take_counts)

-- what was tested
both : (b x : Bool) → cond b x false ≡ true → (b ≡ true) × (x ≡ true)
both true x e = (refl, e)
both false x e = (e, cc)

first_is : (l : Nest) → is_first l ≡ true → l ≡ Fields (id_of (pos 0))
unfolding is_first
first_is (Fields id) e = ap (λ (z : ℤ). Fields (id_of z)) (none_is id.0 e)
first_is (Items t n) e = never e
first_is (Keys k v n) e = never e
first_is (Values k v n) e = never e

head_wait : (w : Wait) → is_head (N.Asks w) ≡ true → w ≡ W.Head
unfolding is_head
head_wait W.Head e = refl
head_wait W.Truth e = never e
head_wait W.List e = never e
head_wait (W.Types k) e = never e
head_wait (W.Varint g p) e = never e
head_wait (W.Number k) e = never e

head_is : (n : Now) → is_head n ≡ true → n ≡ N.Asks W.Head
unfolding is_head
head_is (N.Asks w) e = ap (λ (x : Wait). N.Asks x) (head_wait w e)
head_is (N.Done k) e = never e
head_is (N.Refused why) e = never e

abbrev first : Rest
first = asks (Fields (id_of (pos 0)) ∷ []) 0 W.Head

first_some : (left : ℕ) → Sound left first → 0 < left
unfolding Sound
first_some left s = s.0

first_room : (lim : TConfiguration) → Deep lim first → 0 < lim.depth
unfolding Deep
first_room lim d = let x = d.1 in omega arith

-- skip's answer over the whole, as the machine tells it
as_skip_lem : (x : Found Tree) → as_told (λ t. tt) x ≡ skip_told (passed (placed 0 x))
as_skip_lem (num.got t n) = ap (ends tt) (omega arith)
as_skip_lem (num.refused why) = refl

abbrev rank : Told Passed → ℕ
rank (ends u n) = 1
rank (refuses why) = 0
rank waits = 0

abbrev used_in : Told Passed → ℕ
used_in (ends u n) = n
used_in (refuses why) = 0
used_in waits = 0

from_tells : (used taken : ℕ) (q : Rest) → Ground q → tells taken q ≡ ends tt used → (q ≡ ended 0) × (taken ≡ used)
from_tells used taken (asks ls body w) g e = let z : ◌≡◌ {A = ℕ} 0 1 = ap rank e in absurd (omega arith)
from_tells used taken (ended body) g e = let u : taken + body ≡ used = ap used_in e in (ap ended g, omega arith)
from_tells used taken (stopped why) g e = let z : ◌≡◌ {A = ℕ} 0 1 = ap rank e in absurd (omega arith)

module _ (lim : TConfiguration) (left : ℕ) (bs : List ℕ) (h : left ≤ length bs) (p : Place) (e : skip_of (take left bs) lim lim.depth T.Struct 0 ≡ K.Done p) where
  told_all : told (skip_plan lim lim.depth T.Struct left) bs ≡ ends tt p.0
  unfolding skip_of past r.read_at
  told_all =
      let n : left ≡ length (take left bs) = take_counts lim left bs h in
      ap₂ (λ (n : ℕ) (l : List ℕ). told (skip_plan lim lim.depth T.Struct n) l) n (sym (take-append-drop left bs))
      ∙ behind_none lim (take left bs) (drop left bs)
      ∙ as_skip_lem (value_of lim lim.depth T.Struct (take left bs))
      ∙ ap skip_told e

  abbrev end : Run
  end = ran lim left 0 (start lim left) bs

  comes : (end.rest ≡ ended 0) × (end.taken ≡ p.0)
  comes = from_tells p.0 end.taken end.rest (ran_ground lim bs left 0 (start lim left) (start_ground lim left)) (sym (machine_tells lim left bs) ∙ told_all)

  sums : end.taken + end.left ≡ 0 + left
  sums = ran_sum lim bs left 0 (start lim left) (start_sound left lim)

  pub within : p.0 ≤ left
  within = let a = comes.1 in let b = sums in omega arith

  pub whole_ran : ran lim left 0 (start lim left) bs ≡ running (left - p.0) p.0 (ended 0)
  whole_ran =
      let a : end.left ≡ left - p.0 = let x = comes.1 in let y = sums in omega arith in
      ap₂ (λ (l : ℕ) (q : Rest). running l end.taken q) a comes.0 ∙ ap (λ (t : ℕ). running (left - p.0) t (ended 0)) comes.1

-- from a state that nothing has come to
module _ (lim : TConfiguration) (all left taken : ℕ) (from : Stand) (st : Standing lim all left taken from) (ok : Bool) (e : ok ≡ is_start from.depth from.body (nest_at from.levels 0) from.rest.0) (g : ok ≡ true) where
  record Fresh : Type 0 where
    depth : from.depth ≡ 1
    body : from.body ≡ 0
    now : from.rest.0 ≡ N.Asks W.Head
    top : nest_at from.levels 0 ≡ Fields (id_of (pos 0))

  is_fresh : Fresh
  unfolding is_start
  is_fresh =
      let c : Bool = cond (is_head from.rest.0) (is_first (nest_at from.levels 0)) false in
      let b : Bool = cond (eqb from.body 0) c false in
      let x = both (eqb from.depth 1) b (sym e ∙ g) in
      let y = both (eqb from.body 0) c x.1 in
      let z = both (is_head from.rest.0) (is_first (nest_at from.levels 0)) y.1 in
      record { depth = eqb-true from.depth 1 x.0; body = eqb-true from.body 0 y.0; now = head_is from.rest.0 z.0; top = first_is (nest_at from.levels 0) z.1 }

  rests : rest_of from ≡ first
  unfolding rest_of held
  rests =
      let f = is_fresh in
      ap₂ (λ (d : ℕ) (n : Now). rest_now (held from.levels d) from.body n) f.depth f.now
      ∙ ap₂ (λ (l : Nest) (b : ℕ). asks (l ∷ []) b W.Head) f.top f.body

  begins : 0 < lim.depth → 0 < left → first ≡ start lim left
  begins d s = rw (lt-ltb 0 lim.depth d, lt-ltb 0 left s)

  starts_so : rest_of from ≡ start lim left
  starts_so =
      let s : 0 < left = first_some left (subst (Sound left) rests st.sound) in
      let d : 0 < lim.depth = first_room lim (subst (Deep lim) rests st.deep) in
      rests ∙ begins d s

  module _ (t : taken ≡ 0) (bs : List ℕ) (used : ℕ) (u : used ≡ whole_of lim left bs) (some : 0 < used) where
    abbrev Passes : Type 0
    Passes = (p : Place) × (left ≤ length bs) × (skip_of (take left bs) lim lim.depth T.Struct 0 ≡ K.Done p) × (used ≡ p.0)

    by_skip : (x : Skipped) → skip_of (take left bs) lim lim.depth T.Struct 0 ≡ x → left ≤ length bs → used ≡ used_by x → Passes
    by_skip (K.Done p) f h v = (p, h, f, v)
    by_skip (K.Refused why) f h v = absurd (omega arith)

    passes : Passes
    unfolding whole_of
    passes = go (dec_lt (length bs) left)
      where
        go : Dec (length bs < left) → Passes
        go (yes h) = let z : used ≡ 0 = u ∙ sym (whole_short lim left bs h) in absurd (omega arith)
        go (no h) = by_skip (skip_of (take left bs) lim lim.depth T.Struct 0) refl (omega arith) (u ∙ rw (le-ltb (length bs) left (omega arith)) refl)

    pub whole_most : used ≤ left
    whole_most = let (p, h, f, v) = passes in let w = within lim left bs h p f in omega arith

    there : ran_to (progress_of (left - used) used (ends_at from.levels)) ≡ ran lim left taken (rest_of from) bs
    unfolding ran_to rest_of
    there = let (p, h, f, v) = passes in sym (ap₂ (λ (n : ℕ) (x : Rest). ran lim left n x bs) t starts_so ∙ whole_ran lim left bs h p f ∙ ap (λ (n : ℕ). running (left - n) n (ended 0)) (sym v))

    stands : Standing lim all (left - used) used (ends_at from.levels)
    unfolding Sound Deep rest_of
    stands = let m = whole_most in let s = st.sum in record { most = st.most; rows = st.rows; sum = omega arith; fits = st.fits; sound = omega arith; deep = tt }

    module _ (o : Stand) (i : o ≡ ends_at from.levels) (q : Progress) (j : q ≡ progress_of (left - used) used o) where
      pub whole_on : ran_to q ≡ ran lim left taken (rest_of from) bs
      whole_on = ap ran_to (j ∙ ap (progress_of (left - used) used) i) ∙ there

      pub whole_stands : Standing lim all q.left q.taken q.stand
      whole_stands = subst (λ (y : Progress). Standing lim all y.left y.taken y.stand) (sym (j ∙ ap (progress_of (left - used) used) i)) stands

pub ruleset whole_cases = (whole_most, whole_on, whole_stands)
