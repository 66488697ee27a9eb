-- A state that passes the tests stands, and what the machine leads to does. Assumes nothing.
use mathlib.Core.Path.{◌≡◌, refl, sym, ap, subst, ◌∙◌}
use mathlib.Core.Bool.{Bool, true, false, cond}
use mathlib.Core.List.{List, ◌∷◌}
use Prim.Native.Nat.{ℕ, ◌+◌, ◌-◌, ◌≤◌, ◌<◌}
use native.Mathlib.Omega.{arith}
use native.Mathlib.Decide.{dec_lt}
use borrow.Author.Tests.{leb-true, leb-false, ltb-false, eqb-true, eqb-false, eq-eqb, ne_eqb, le-ltb, le-leb, lt-leb}
use lib.Dec.{leb, ltb, eqb}
use lib.ListN.{length}
use Rattle.types.specs.Limits.{in_range}
use Rattle.types.proofs.Limits.{Ranged, ranged}
use Rattle.types.specs.declared.TConfiguration.{TConfiguration}
use Rattle.frame.specs.declared.Nest.{Nest}
use Rattle.frame.specs.declared.Nest.TheVariants.{Fields, Items, Keys, Values}
use Rattle.frame.specs.declared.Level.{Level}
use Rattle.frame.specs.declared.Wait.{Wait}
use Rattle.frame.specs.declared.Wait.TheVariants as W
use Rattle.frame.specs.declared.Now.{Now}
use Rattle.frame.specs.declared.Now.TheVariants as N
use Rattle.frame.specs.declared.Progress.{Progress}
use Rattle.frame.specs.declared.FrameSkip.{FrameSkip}
use Rattle.frame.specs.declared.FrameAnswer.{FrameAnswer}
use Rattle.frame.specs.declared.FrameAnswer.TheVariants as A
use Rattle.frame.specs.declared.Taken.{Taken}
use Rattle.frame.specs.Machine.{asks, ended, stopped, Fit, running, ran}
use Rattle.frame.specs.State.{nest_at, held, rest_now, rest_of, need, ready_by, waits_well, rest_sound, is_refusal, counts_well, sound_of, answer_now, answer_of, bad_state, Sound, Deep, Standing, ran_to, run_of, Went, Took}
use Rattle.frame.proofs.Held.{length_held, held_last}
use Rattle.frame.proofs.Looks.{final_end, final_stop}

-- both sides of a test that passed
if_so : (b x : Bool) → cond b x false ≡ true → (b ≡ true) × (x ≡ true)
if_so true x e = (refl, e)
if_so false x e = let z : ◌≡◌ {A = Bool} false true = e in (z, cc)

if_not : (b x : Bool) → cond b false x ≡ true → (b ≡ false) × (x ≡ true)
if_not true x e = (sym e, cc)
if_not false x e = (refl, e)

first_fits : (top : Nest) (ls : List Nest) (w : Wait) → ready_by top w ≡ true → Fit (top ∷ ls) w
unfolding ready_by
first_fits (Fields id) ls W.Head e = tt
first_fits (Items t n) ls W.Head e = let z : ◌≡◌ {A = ℕ} 0 1 = cc in absurd (omega arith)
first_fits (Keys k v n) ls W.Head e = let z : ◌≡◌ {A = ℕ} 0 1 = cc in absurd (omega arith)
first_fits (Values k v n) ls W.Head e = let z : ◌≡◌ {A = ℕ} 0 1 = cc in absurd (omega arith)
first_fits top ls W.Truth e = tt
first_fits top ls W.List e = tt
first_fits top ls (W.Types n) e = tt
first_fits top ls (W.Varint g p) e = leb-true p.groups 4 e
first_fits top ls (W.Number k) e = leb-true 1 k e

module _ (lim : TConfiguration) (left : ℕ) (rows : List Level) (d body : ℕ) (w : Wait) (e : waits_well lim left rows d body w ≡ true) where
  record Well : Type 0 where
    some : 0 < d
    room : d + need w ≤ lim.depth
    here : body < left
    ready : ready_by (nest_at rows (d - 1)) w ≡ true

  well : Well
  unfolding waits_well
  well =
      let r5 : Bool = ready_by (nest_at rows (d - 1)) w in
      let r4 : Bool = cond (leb left body) false r5 in
      let r3 : Bool = cond (ltb (lim.depth - d) (need w)) false r4 in
      let r2 : Bool = cond (ltb lim.depth d) false r3 in
      let r1 : Bool = cond (ltb 64 lim.depth) false r2 in
      let a = if_not (eqb d 0) r1 e in
      let b = if_not (ltb 64 lim.depth) r2 a.1 in
      let f = if_not (ltb lim.depth d) r3 b.1 in
      let g = if_not (ltb (lim.depth - d) (need w)) r4 f.1 in
      let h = if_not (leb left body) r5 g.1 in
      let n : d ≡ 0 → ⊥ = eqb-false d 0 a.0 in
      let m : d ≤ lim.depth = ltb-false lim.depth d f.0 in
      let r : need w ≤ lim.depth - d = ltb-false (lim.depth - d) (need w) g.0 in
      let s : body < left = leb-false left body h.0 in
      record { some = omega (arith, n); room = omega arith; here = s; ready = h.1 }

  pub well_sound : Sound left (asks (held rows d) body w)
  unfolding Sound
  well_sound = (well.here, subst (λ (ls : List Nest). Fit ls w) (sym (held_last rows d well.some)) (first_fits (nest_at rows (d - 1)) (held rows (d - 1)) w well.ready))

  pub well_deep : Deep lim (asks (held rows d) body w)
  unfolding Deep
  well_deep = let x = well in (omega (arith, length_held rows d, x.some), omega (arith, length_held rows d, x.room))

-- what the counts say
pub record Counted (most left taken behind : ℕ) : Type 0 where
  pub sum : taken + left ≤ most
  pub cut : (behind ≡ 0 → ⊥) → taken + left ≡ most

pub counts_say : (most left taken behind : ℕ) → counts_well most left taken behind ≡ true → Counted most left taken behind
unfolding counts_well
counts_say most left taken behind e =
    let a = if_so (leb left most) (cond (leb taken (most - left)) (cond (eqb behind 0) true (eqb taken (most - left))) false) e in
    let b = if_so (leb taken (most - left)) (cond (eqb behind 0) true (eqb taken (most - left))) a.1 in
    let l : left ≤ most = leb-true left most a.0 in
    let t : taken ≤ most - left = leb-true taken (most - left) b.0 in
    record { sum = omega arith; cut = λ n. let z : taken ≡ most - left = eqb-true taken (most - left) (last n b.1) in omega arith }
  where
    last : (behind ≡ 0 → ⊥) → cond (eqb behind 0) true (eqb taken (most - left)) ≡ true → eqb taken (most - left) ≡ true
    last n h = rw (ne_eqb behind 0 n) at h

pub say_counts : (most left taken behind : ℕ) → Counted most left taken behind → counts_well most left taken behind ≡ true
unfolding counts_well
say_counts most left taken behind c =
    let s = c.sum in
    rw (le-leb left most (omega arith), le-leb taken (most - left) (omega arith)) (go (dec_lt 0 behind))
  where
    go : Dec (0 < behind) → cond (eqb behind 0) true (eqb taken (most - left)) ≡ true
    go (no h) = rw (eq-eqb behind 0 (omega arith))
    go (yes h) = let n : behind ≡ 0 → ⊥ = λ z. omega arith in rw (ne_eqb behind 0 n) (let t = c.cut n in eq-eqb taken (most - left) (omega arith))

module _ (f : FrameSkip) (e : sound_of f ≡ true) where
  parts : (in_range f.limits ≡ true) × (counts_well f.limits.message f.left f.taken f.behind ≡ true) × (rest_sound f f.stand.rest.0 ≡ true)
  unfolding sound_of
  parts =
      let c : Bool = counts_well f.limits.message f.left f.taken f.behind in
      let r : Bool = rest_sound f f.stand.rest.0 in
      let a = if_so (in_range f.limits) (cond c r false) e in
      let b = if_so c r a.1 in
      (a.0, b.0, b.1)

  pub in_range_lem : in_range f.limits ≡ true
  in_range_lem = parts.0

  pub in_limits : Ranged f.limits
  in_limits = ranged f.limits parts.0

  pub in_counts : Counted f.limits.message f.left f.taken f.behind
  in_counts = counts_say f.limits.message f.left f.taken f.behind parts.1

  resting : (n : Now) → rest_sound f n ≡ true → Sound f.left (rest_now (held f.stand.levels f.stand.depth) f.stand.body n) × Deep f.limits (rest_now (held f.stand.levels f.stand.depth) f.stand.body n)
  unfolding Sound Deep
  resting (N.Asks w) g =
      (well_sound f.limits f.left f.stand.levels f.stand.depth f.stand.body w g, well_deep f.limits f.left f.stand.levels f.stand.depth f.stand.body w g)
  resting (N.Done n) g = (leb-true n f.left g, tt)
  resting (N.Refused why) g = (g, tt)

  pub standing : length f.stand.levels ≡ 64 → Standing f.limits (f.taken + f.left) f.left f.taken f.stand
  unfolding rest_of
  standing k =
      let r = resting f.stand.rest.0 parts.2 in
      let h = in_limits.heavy in
      let c = in_counts.sum in
      record { most = in_limits.deep; rows = k; sum = refl; fits = omega arith; sound = r.0; deep = r.1 }

-- no final answer is "more"
done_more : {n : ℕ} → A.Done n ≡ A.More → ⊥
done_more q = let z : ◌≡◌ {A = ℕ} 0 1 = ap (λ (a : FrameAnswer). rank a) q in absurd (omega arith)
  where
    rank : FrameAnswer → ℕ
    rank A.More = 1
    rank (A.Done n) = 0
    rank (A.Refused why) = 0

refused_more : {why : ℕ} → A.Refused why ≡ A.More → ⊥
refused_more q = let z : ◌≡◌ {A = ℕ} 0 1 = ap (λ (a : FrameAnswer). rank a) q in absurd (omega arith)
  where
    rank : FrameAnswer → ℕ
    rank A.More = 1
    rank (A.Done n) = 0
    rank (A.Refused why) = 0

pub stand_now : (f : FrameSkip) (ok : Bool) → ok ≡ sound_of f → ok ≡ true → length f.stand.levels ≡ 64 → Standing f.limits (f.taken + f.left) f.left f.taken f.stand
stand_now f ok e g k = standing f (sym e ∙ g) k

-- run_on, take
module _ (f : FrameSkip) (bs : List ℕ) where
  module _ (p : Progress) (s : (ran_to p ≡ ran f.limits f.left f.taken (rest_of f.stand) bs) × Standing f.limits (f.taken + f.left) p.left p.taken p.stand) where
    abbrev on : FrameSkip
    on = record { limits = f.limits; left = p.left; taken = p.taken; behind = f.behind; stand = p.stand }

    pub on_stands : Standing f.limits (p.taken + p.left) p.left p.taken p.stand
    on_stands = let h = s.1 in subst (λ (n : ℕ). Standing f.limits n p.left p.taken p.stand) (sym h.sum) h

    pub went_on : (a : FrameAnswer) → a ≡ answer_of on → Went f bs (record { answer = a; state = on })
    unfolding ran_to run_of
    went_on a h = record { run = s.0; limits = refl; behind = refl; answer = h; stands = s.1 }

  pub took_bad : (ok : Bool) → ok ≡ sound_of f → ok ≡ false → Took f bs (bad_state f)
  took_bad ok e g = record { bad = λ h. refl; kept = λ h n. let z : ◌≡◌ {A = ℕ} 0 1 = cc in absurd (omega arith); well = λ h. let z : ◌≡◌ {A = ℕ} 0 1 = cc in absurd (omega arith) }

  module _ (ok : Bool) (e : ok ≡ sound_of f) (g : ok ≡ true) where
    pub took_well : (r : Taken) (a : FrameAnswer) → a ≡ answer_of f → a ≡ A.More → Went f bs r → Took f bs r
    took_well r a h m w = record { bad = λ i. let z : ◌≡◌ {A = ℕ} 0 1 = cc in absurd (omega arith); kept = λ i n. absurd (n (sym h ∙ m)); well = λ i. w }

    -- a final answer: the machine rests for good
    rests : (n : Now) → f.stand.rest.0 ≡ n → (answer_of f ≡ A.More → ⊥) → ran f.limits f.left f.taken (rest_of f.stand) bs ≡ running f.left f.taken (rest_of f.stand)
    unfolding rest_of answer_of
    rests (N.Asks w) q m = absurd (m (ap (answer_now (ltb 0 f.behind) f.taken) q))
    rests (N.Done n) q m = rw q (final_end f.limits f.left f.taken n bs)
    rests (N.Refused why) q m = rw q (final_stop f.limits f.left f.taken why bs)

    took_kept : (a : FrameAnswer) → a ≡ answer_of f → (a ≡ A.More → ⊥) → length f.stand.levels ≡ 64 → Took f bs (record { answer = a; state = f })
    unfolding run_of
    took_kept a h m l =
        record {
          bad = λ i. let z : ◌≡◌ {A = ℕ} 0 1 = cc in absurd (omega arith);
          kept = λ i n. ap (λ (x : FrameAnswer). record { answer = x; state = f }) h;
          well = λ i. record { run = sym (rests f.stand.rest.0 refl (λ q. m (h ∙ q))); limits = refl; behind = refl; answer = h; stands = stand_now f ok e g l };
        }

    module _ (l : length f.stand.levels ≡ 64) (a : FrameAnswer) (h : a ≡ answer_of f) where
      pub took_done : (n : ℕ) → a ≡ A.Done n → Took f bs (record { answer = A.Done n; state = f })
      took_done n q = took_kept (A.Done n) (sym q ∙ h) done_more l

      pub took_refused : (why : ℕ) → a ≡ A.Refused why → Took f bs (record { answer = A.Refused why; state = f })
      took_refused why q = took_kept (A.Refused why) (sym q ∙ h) refused_more l

pub ruleset take_cases = (stand_now, took_bad, took_well, took_done, took_refused)

pub ruleset on_cases = (on_stands, went_on)

-- and back: where it stands, the tests pass
fits_first : (top : Nest) (ls : List Nest) (w : Wait) → Fit (top ∷ ls) w → ready_by top w ≡ true
unfolding ready_by
fits_first (Fields id) ls W.Head f = refl
fits_first (Items t n) ls W.Head f = absurd f
fits_first (Keys k v n) ls W.Head f = absurd f
fits_first (Values k v n) ls W.Head f = absurd f
fits_first top ls W.Truth f = refl
fits_first top ls W.List f = refl
fits_first top ls (W.Types n) f = refl
fits_first top ls (W.Varint g p) f = le-leb p.groups 4 f
fits_first top ls (W.Number k) f = le-leb 1 k f

stands_well : (lim : TConfiguration) (left : ℕ) (rows : List Level) (d body : ℕ) (w : Wait) → lim.depth ≤ 64 → Sound left (asks (held rows d) body w) → Deep lim (asks (held rows d) body w) → waits_well lim left rows d body w ≡ true
unfolding waits_well Sound Deep
stands_well lim left rows d body w m s p =
    let n = length_held rows d in
    let a = p.0 in
    let b = p.1 in
    let h : 0 < d = omega arith in
    let g : d ≤ lim.depth = omega arith in
    let r : need w ≤ lim.depth - d = omega arith in
    rw (ne_eqb d 0 (λ z. omega arith), le-ltb 64 lim.depth m, le-ltb lim.depth d g, le-ltb (lim.depth - d) (need w) r, lt-leb left body s.0)
    (fits_first (nest_at rows (d - 1)) (held rows (d - 1)) w (subst (λ (ls : List Nest). Fit ls w) (held_last rows d h) s.1))

done_well : (left n : ℕ) → Sound left (ended n) → leb n left ≡ true
unfolding Sound
done_well left n h = le-leb n left h

refused_well : (left why : ℕ) → Sound left (stopped why) → is_refusal why ≡ true
unfolding Sound
refused_well left why h = h

pub stands_sound : (f : FrameSkip) (all : ℕ) → in_range f.limits ≡ true → Counted f.limits.message f.left f.taken f.behind → Standing f.limits all f.left f.taken f.stand → sound_of f ≡ true
unfolding sound_of rest_of
stands_sound f all i c s =
    rw (i, say_counts f.limits.message f.left f.taken f.behind c) (go f.stand.rest.0 s.sound s.deep)
  where
    go : (n : Now) → Sound f.left (rest_now (held f.stand.levels f.stand.depth) f.stand.body n) → Deep f.limits (rest_now (held f.stand.levels f.stand.depth) f.stand.body n) → rest_sound f n ≡ true
    go (N.Asks w) a b = stands_well f.limits f.left f.stand.levels f.stand.depth f.stand.body w s.most a b
    go (N.Done n) a b = done_well f.left n a
    go (N.Refused why) a b = refused_well f.left why a
