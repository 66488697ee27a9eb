-- A frame whose state was put into a row is there as one that has been handed the same bytes: so what is promised of the calls holds of calls over rows. Assumes
-- nothing.
use mathlib.Core.Path.{◌≡◌, refl, sym, ap, ap₂, subst, ◌∙◌}
use mathlib.Core.Bool.{true}
use mathlib.Core.List.{List, ◌++◌}
use Prim.Native.Nat.{ℕ, ◌+◌, ◌≤◌}
use lib.ListN.{length}
use Rattle.types.specs.Limits.{in_range}
use Rattle.types.specs.declared.TConfiguration.{TConfiguration}
use Rattle.rows.specs.Row.{limits_of}
use Rattle.frame.specs.declared.FrameSkip.{FrameSkip}
use Rattle.frame.specs.Frame.{frame}
use Rattle.frame.specs.Machine.{Run}
use Rattle.frame.specs.State.{rest_of, run_of, sound_of, Sound, Deep}
use Rattle.frame.proofs.Sounds.{Counted, in_range_lem, in_counts, stand_now, stands_sound}
use Rattle.frame.proofs.Bursts.{Has, as_answer, take_answers}
use Rattle.frame_rows.specs.Row.{frame_of, framed}
use Rattle.frame_rows.specs.Tell.{TookFrame}
use Rattle.frame_rows.proofs.Back.{FitFrame, Same, read_back, read_levels_lem}

module _ (f g : FrameSkip) (s : Same g f) (e : sound_of f ≡ true) (k : length f.stand.levels ≡ 64) (m : length g.stand.levels ≡ 64) where
  lefts : g.left ≡ f.left
  unfolding run_of
  lefts = ap (λ (r : Run). r.left) s.run

  takens : g.taken ≡ f.taken
  unfolding run_of
  takens = ap (λ (r : Run). r.taken) s.run

  rests : rest_of g.stand ≡ rest_of f.stand
  unfolding run_of
  rests = ap (λ (r : Run). r.rest) s.run

  pub same_sound : sound_of g ≡ true
  same_sound =
      let st = stand_now f (sound_of f) refl e k in
      let c = in_counts f e in
      stands_sound g (f.taken + f.left)
      (ap in_range s.limits ∙ in_range_lem f e)
      (subst (λ (l : TConfiguration). Counted l.message g.left g.taken g.behind) (sym s.limits)
      (subst (λ (n : ℕ). Counted f.limits.message n g.taken g.behind) (sym lefts)
      (subst (λ (n : ℕ). Counted f.limits.message f.left n g.behind) (sym takens)
      (subst (λ (n : ℕ). Counted f.limits.message f.left f.taken n) (sym s.behind) c))))
      (record {
        most = subst (λ (l : TConfiguration). l.depth ≤ 64) (sym s.limits) st.most;
        rows = m;
        sum = ap₂ (λ (a b : ℕ). a + b) takens lefts ∙ st.sum;
        fits = st.fits;
        sound = subst (λ (n : ℕ). Sound n (rest_of g.stand)) (sym lefts) (subst (Sound f.left) (sym rests) st.sound);
        deep = subst (λ (l : TConfiguration). Deep l (rest_of g.stand)) (sym s.limits) (subst (Deep f.limits) (sym rests) st.deep);
      })

module _ (lim : TConfiguration) (announced : ℕ) (bs : List ℕ) (f : FrameSkip) (h : Has lim announced bs f) (k : length f.stand.levels ≡ 64) (row : List ℕ) (n : length row ≡ 268) (fit : FitFrame f) (l : lim ≡ limits_of row) where
  same : Same (frame_of (framed row f)) f
  same = read_back row f n fit (h.limits ∙ l)

  pub carried : Has lim announced bs (frame_of (framed row f))
  carried =
      record {
        limits = same.limits ∙ h.limits;
        behind = same.behind ∙ h.behind;
        run = same.run ∙ h.run;
        sound = same_sound f (frame_of (framed row f)) same h.sound k (read_levels_lem row f n fit);
      }

  -- the next call over that row answers what the frame tells over all that has come
  pub next_call : (cs row'' : List ℕ) (used used' m : ℕ) (t : TookFrame (framed row f) row'' cs used used' m) → t.taken.answer ≡ as_answer (frame lim announced (bs ++ cs))
  next_call cs row'' used used' m t = take_answers lim announced bs cs (frame_of (framed row f)) t.taken carried t.took
